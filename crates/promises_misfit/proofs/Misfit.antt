-- What MOD is asked is what the rules of crates/row ask, 17 and 6 are given exactly where it is broken, and rows that are passed over are asked nothing; the worked rows are computed.
-- Assumes nothing.
use mathlib.Core.Path.{◌≡◌, refl, sym, ap, subst, ◌∙◌}
use mathlib.Core.Bool.{Bool, not}
use mathlib.Core.List.{List}
use Prim.Native.Nat.{ℕ, zero, suc, ◌+◌, ◌*◌, ◌-◌, ◌/◌, ◌≤◌, ◌<◌, zero-le}
use native.Mathlib.Decide.{ℕ_discrete}
use native.Mathlib.Omega.{arith}
use borrow.Author.Tests.{eq-eqb}
use lib.Dec.{T, eqb}
use lib.IntN.{ℤ, pos, nat_abs, ◌+ℤ◌, ◌*ℤ◌}
use lib.Signed.{◌≤ℤ◌}
use Rattle.whole.specs.Nearest.{rounds_up, nearest}
use Rattle.field.specs.Text.{bytes}
use Rattle.field.specs.Form.{without, starts_minus, leading, after, all_digits, numeral, before_point, decimals, exponent, exponent_of, number_with, field_of}
use Rattle.field.specs.Units.{with_sign, exact, units, in_range, in_units, tick_of}
use Rattle.row.specs.Line.{without_return, ends, before, words, starts_letter}
use Rattle.row.specs.Heading.{heading_of}
use Rattle.row.specs.own.Values.{component_of, decimal_of, all_below, values_at, values_of}
use Rattle.row.specs.own.Rows.{is_in, same_node, is_fit, fitted, judged, entry_in, ranged_row, formed_row, words_row, row_of}
use Rattle.whole.proofs.Complex.{squares-is}
use Rattle.whole.proofs.OrderLaws.{pos-le, le-pos, nat-of-nonneg}
use Rattle.row.specs.declared.reading.Choices.{Choices}
use Rattle.row.specs.declared.reading.Entry.{Entry}
use Rattle.row.specs.Told.{Row}
use Rattle.row.specs.Layout.{wamit_layout, Column}
use Rattle.row.specs.Fit.{slack, square, both_squares, ModulusFits}
use Rattle.row.specs.LineRules.{Written, InRange, units_of, entry_of, Fitting, TwoHeadings, WellFormed, Own, Ranged, LineIs}
use Rattle.promises_worked.specs.Starred.{is_refused, every}
use Rattle.promises_misfit.specs.Misfit.{FitAsked, RowFits, SeventeenExactly, UsedFits, ValuesAsked, SixExactly, PassedUntested, row_cases, is_used, is_passed, row_in, as_worked, MisfitWorked}
use Rattle.promises_texts.proofs.Verdicts.{row_one}

-- ---- the fit

module _ (size : ℕ) (re im : ℤ) where
  abbrev both² : ℤ
  both² = re *ℤ re +ℤ im *ℤ im

  same-squares : pos (both_squares re im) ≡ both²
  same-squares = squares-is (record { re = re; im = im })

  fit-asked : ModulusFits size re im → FitAsked (pos size) re im
  fit-asked f =
      record {
        size = size;
        not_negative = refl;
        hundred-thousands = size / 100_000;
        whole = omega arith;
        rest = omega arith;
        no_less = λ d e.
            let same : d ≡ size - slack size = omega arith in
            subst (λ (z : ℤ). pos (d * d) ≤ℤ z) same-squares (pos-le (rw same f.no_less));
        no_more = subst (λ (z : ℤ). z ≤ℤ pos (square (size + slack size))) same-squares (pos-le f.no_more);
      }

  asked-fits : FitAsked (pos size) re im → ModulusFits size re im
  asked-fits a =
      let same : a.size ≡ size = ap nat_abs (sym a.not_negative) in
      let k : 2 + a.hundred-thousands ≡ slack size = omega (arith, a.whole, a.rest) in
      let low : (d : ℕ) → size ≡ slack size + d → d * d ≤ both_squares re im = λ d e.
      le-pos (subst (λ (z : ℤ). pos (d * d) ≤ℤ z) (sym same-squares) (a.no_less d (omega arith))) in
      record {
        no_less = below (size - slack size) (λ h. low (size - slack size) (omega arith));
        no_more = le-pos (at_size same k a.no_more);
      }
    where
      below : (d : ℕ) → (0 < d → d * d ≤ both_squares re im) → d * d ≤ both_squares re im
      below zero f = zero-le
      below (suc d) f = f (omega arith)

      at_size : {s k : ℕ} → s ≡ size → k ≡ slack size → both² ≤ℤ pos ((s + k) * (s + k)) → pos (both_squares re im) ≤ℤ pos (square (size + slack size))
      at_size e g h = subst (λ (z : ℤ). z ≤ℤ pos (square (size + slack size))) (sym same-squares) (subst (λ (n : ℕ). both² ≤ℤ pos (n * n)) (λ i. e i + g i) h)

-- a modulus in its range is its size
module _ {c : Choices} {first : Bool} {line : List ℕ} {w : Written} (r : Ranged c first line w) where
  is-size : units_of w Column.modulus ≡ pos (nat_abs (units_of w Column.modulus))
  is-size = let (n, e) = nat-of-nonneg (r.range Column.modulus).above in sym e ∙ ap (λ z. pos (nat_abs z)) e

  row_fits : Fitting w → RowFits w
  row_fits f =
      subst (λ (m : ℤ). FitAsked m (units_of w Column.re) (units_of w Column.im)) (sym is-size) (fit-asked (nat_abs (units_of w Column.modulus)) _ _ f)

  fits-row : RowFits w → Fitting w
  fits-row a =
      asked-fits (nat_abs (units_of w Column.modulus)) _ _
      (subst (λ (m : ℤ). FitAsked m (units_of w Column.re) (units_of w Column.im)) is-size a)

-- ---- 17 and 6

number_in : Row → ℕ
number_in (Row.Refused number) = number
number_in (Row.Used e) = 0
number_in Row.Blank = 0
number_in Row.Title = 0
number_in Row.PassedOver = 0

values-in : {w : Written} → ValuesAsked w → InRange w
values-in v Column.per1 = v.per1
values-in v Column.per2 = v.per2
values-in v Column.beta1 = v.beta1
values-in v Column.beta2 = v.beta2
values-in v Column.modulus = v.modulus
values-in v Column.re = v.re
values-in v Column.im = v.im

in-values : {w : Written} → InRange w → ValuesAsked w
in-values r =
    record {
      per1 = r Column.per1;
      per2 = r Column.per2;
      beta1 = r Column.beta1;
      beta2 = r Column.beta2;
      modulus = r Column.modulus;
      re = r Column.re;
      im = r Column.im;
    }

module _ (c : Choices) (first : Bool) (line : List ℕ) where
  abbrev Misfits : Type 0
  Misfits = (w : Written) × Ranged c first line w × (TwoHeadings c (entry_of w) → ⊥) × (RowFits w → ⊥)

  abbrev OutOfRange : Type 0
  OutOfRange = (w : Written) × Own c first line w × (ValuesAsked w → ⊥)

  -- what a line is by its number
  data ByNumber : ℕ → Type 0 where
    six : OutOfRange → ByNumber 6
    seventeen : Misfits → ByNumber 17
    another : {n : ℕ} → (n ≡ 6 → ⊥) → (n ≡ 17 → ⊥) → ByNumber n

  other : (n : ℕ) → T (not (eqb n 6)) → T (not (eqb n 17)) → ByNumber n
  other n a b = another (λ e. subst T (ap not (eq-eqb n 6 e)) a) (λ e. subst T (ap not (eq-eqb n 17 e)) b)

  by_number : {row : Row} → LineIs c first line row → ByNumber (number_in row)
  unfolding number_in
  by_number (LineIs.blank e) = other 0 tt tt
  by_number (LineIs.title f s) = other 0 tt tt
  by_number (LineIs.breaks-4 i m) = other 4 tt tt
  by_number (LineIs.breaks-5 i m x) = other 5 tt tt
  by_number (LineIs.other-component f o) = other 0 tt tt
  by_number (LineIs.breaks-6 {w = w} o m) = six (w, o, λ v. m (values-in v))
  by_number (LineIs.two-headings r t) = other 0 tt tt
  by_number (LineIs.breaks-17 {w = w} r t f) = seventeen (w, r, t, λ a. f (fits-row r a))
  by_number (LineIs.breaks-7 r t f i) = other 7 tt tt
  by_number (LineIs.used r t f i) = other 0 tt tt

  at-17 : {n : ℕ} → ByNumber n → n ≡ 17 → Misfits
  at-17 (six o) e = absurd (omega arith)
  at-17 (seventeen m) e = m
  at-17 (another a b) e = absurd (b e)

  at-6 : {n : ℕ} → ByNumber n → n ≡ 6 → OutOfRange
  at-6 (six o) e = o
  at-6 (seventeen m) e = absurd (omega arith)
  at-6 (another a b) e = absurd (a e)

  used-fits-in : {e : Entry} → LineIs c first line (Row.Used e) → (w : Written) × Ranged c first line w × RowFits w × (e ≡ entry_of w)
  used-fits-in (LineIs.used {w = w} r t f i) = (w, r, row_fits r f, refl)

pub seventeen-exactly : SeventeenExactly
unfolding number_in
seventeen-exactly c first line = ((λ l. at-17 c first line (by_number c first line l) refl), (λ m. LineIs.breaks-17 m.1 m.2 (λ f. m.3 (row_fits m.1 f))))

pub used-fits : UsedFits
used-fits c first line e l = used-fits-in c first line l

pub six-exactly : SixExactly
unfolding number_in
six-exactly c first line = ((λ l. at-6 c first line (by_number c first line l) refl), (λ o. LineIs.breaks-6 o.1 (λ r. o.2 (in-values r))))

-- ---- rows that are passed over

module _ {c : Choices} {first : Bool} {line : List ℕ} {number : ℕ} (refused : LineIs c first line (Row.Refused number)) where
  not-passed : LineIs c first line Row.PassedOver → ⊥
  not-passed l = let e = row_one refused l in let z : ◌≡◌ {A = ℕ} 0 1 = cc in omega arith

  of-component : {w : Written} → WellFormed first line w → w.component ≡ c.component
  of-component {w} f =
      elim (ℕ_discrete w.component c.component) [
        | yes e ↦ e
        | no n ↦ absurd (not-passed (LineIs.other-component f n))
      ]

  for-range : {w : Written} → WellFormed first line w → TwoHeadings c (entry_of w) → number ≡ 6
  unfolding number_in
  for-range {w} f t =
      let own : Own c first line w = record { formed = f; component = of-component f } in
      let out : InRange w → ⊥ = λ r. not-passed (LineIs.two-headings record { own = own; range = r } t) in
      ap number_in (row_one refused (LineIs.breaks-6 own out))

pub passed-untested : PassedUntested
passed-untested c first line w number f l = (of-component l f, for-range l f)

-- ---- the worked rows

pub misfit-worked : MisfitWorked
unfolding row_cases is_used is_passed row_in as_worked is_refused every rounds_up nearest bytes without starts_minus leading after all_digits numeral before_point decimals exponent exponent_of number_with field_of with_sign exact units in_range in_units tick_of without_return ends before words starts_letter heading_of wamit_layout component_of decimal_of all_below values_at values_of is_in same_node is_fit fitted judged entry_in ranged_row formed_row words_row row_of
misfit-worked = tt
