-- Every line is of exactly one of the cases of LineRules, and `row_of` says which: the tests of a row one after the other, each with what it says of the line. Assumes nothing.
use Rattle.std.specs.Prelude.{Option, Some, None, is_some, option_map}
use mathlib.Core.Path.{◌≡◌, refl, sym, ap, subst, ◌∙◌}
use mathlib.Core.Bool.{Bool, true, false, cond, not, ◌&&◌, false≢true, true≢false}
use mathlib.Core.List.{List, [], ◌∷◌}
use Prim.Native.Nat.{ℕ, zero, suc, ◌+◌, ◌-◌, ◌≤◌, ◌<◌}
use native.Mathlib.Omega.{arith}
use borrow.Author.Tests.{eq-eqb, ne_eqb, eqb-true, eqb-false, leb-true, le-leb, not-true}
use lib.Dec.{eqb, leb, lit<}
use lib.IntN.{pos, nat_abs}
use lib.ListN.{length, get_or}
use Rattle.whole.specs.Same.{same_ℤ}
use Rattle.whole.proofs.Same.{same_ℤ-true, same_ℤ-yes, same_ℤ-no}
use Rattle.field.specs.declared.decimal.Decimal.{Decimal}
use Rattle.field.specs.Form.{field_of}
use Rattle.row.specs.declared.layout.Layout.{Layout}
use Rattle.row.specs.declared.values.Values.{Values}
use Rattle.row.specs.declared.reading.Choices.{Choices}
use Rattle.row.specs.declared.reading.Entry.{Entry}
use Rattle.row.specs.Told.{Row}
use Rattle.row.specs.Line.{starts_letter}
use Rattle.row.specs.Layout.{wamit_layout, column_of, Column, column_at, quantity_of}
use Rattle.row.specs.Fit.{ModulusFits}
use Rattle.row.specs.own.Values.{component_of, decimal_of, all_below, read_at, values_at, values_of}
use Rattle.row.specs.own.Rows.{is_in_at, same_node, is_fit, fitted, judged, entry_in, ranged_row, formed_row, words_row, row_of}
use Rattle.row.specs.LineRules.{fields_of, IsRow, Written, Component, Right, Wrong, Between, units_of, InRange, entry_of, TwoHeadings, Imaginary, WellFormed, Own, Ranged, LineIs}
use Rattle.row.specs.LineRules.LineIs.{blank, title, breaks-4, breaks-5, other-component, breaks-6, two-headings, breaks-17, breaks-7, used}
use Rattle.row.specs.LineExactly.{LineExactly}
use Rattle.row.proofs.Deciding.{by-test, refuted, both}
use Rattle.row.proofs.Filling.{all-at, some-not}
use Rattle.row.proofs.Measuring.{between_is, is-between}
use Rattle.row.proofs.Fitting.{fit_is, is-fit}

-- ---- the component

-- the number of a single byte 1 to 6, and none where the field is no component
pub data Numbered (field : List ℕ) : Option ℕ → Type 0 where
  some : {n : ℕ} → Component field n → Numbered field (Some n)
  none : ((n : ℕ) → Component field n → ⊥) → Numbered field None

component-byte : {b : ℕ} {n : ℕ} → Component (b ∷ []) n → b ≡ 48 + n
component-byte h = ap (λ (l : List ℕ). get_or l 0 0) h.byte

byte-numbered : (b : ℕ) → Numbered (b ∷ []) (cond (leb 49 b && leb b 54) (Some (b - 48)) None)
byte-numbered b =
    by-test (Numbered (b ∷ [])) (leb 49 b && leb b 54) _ _
    (λ e.
    let h = both (leb 49 b) (leb b 54) e in
    let low = leb-true 49 b h.0 in
    let high = leb-true b 54 h.1 in
    let same : b ≡ 48 + (b - 48) = omega arith in
    some (record { byte = ap (λ (x : ℕ). x ∷ []) same; low = omega arith; high = omega arith }))
    (λ e.
    none
    (λ n h.
    let same = component-byte h in
    let low : 49 ≤ b = omega (arith, h.low) in
    let high : b ≤ 54 = omega (arith, h.high) in
    let yes-it-is : (leb 49 b && leb b 54) ≡ true = rw (le-leb 49 b low) (le-leb b 54 high) in
    true≢false (sym yes-it-is ∙ e)))

pub numbered : (field : List ℕ) → Numbered field (component_of field)
unfolding component_of
numbered [] = none (λ n h. let e = ap length h.byte in omega arith)
numbered (b ∷ []) = byte-numbered b
numbered (b ∷ (c ∷ s)) = none (λ n h. let e = ap length h.byte in omega arith)

-- ---- form

-- what holds of each column whose value counts
abbrev pub each :
    (P : Column → Type 0) → P Column.per1 → P Column.per2 → P Column.beta1 → P Column.beta2 → P Column.modulus → P Column.re → P Column.im → (k : Column)
    → P k
each P per1 per2 beta1 beta2 modulus re im Column.per1 = per1
each P per1 per2 beta1 beta2 modulus re im Column.per2 = per2
each P per1 per2 beta1 beta2 modulus re im Column.beta1 = beta1
each P per1 per2 beta1 beta2 modulus re im Column.beta2 = beta2
each P per1 per2 beta1 beta2 modulus re im Column.modulus = modulus
each P per1 per2 beta1 beta2 modulus re im Column.re = re
each P per1 per2 beta1 beta2 modulus re im Column.im = im

-- the values that are tested for their ranges
abbrev values_in : Written → Values
values_in w =
    record {
      component = w.component;
      per1 = w.decimal Column.per1;
      per2 = w.decimal Column.per2;
      beta1 = w.decimal Column.beta1;
      beta2 = w.decimal Column.beta2;
      modulus = w.decimal Column.modulus;
      re = w.decimal Column.re;
      im = w.decimal Column.im;
    }

data Forming (layout : Layout) (fields : List (List ℕ)) : Option Values → Type 0 where
  right : {w : Written} → Right layout fields w → Forming layout fields (Some (values_in w))
  wrong : Wrong layout fields → Forming layout fields None

-- the form of a field
is_number : (f : Option Decimal) → is_some f ≡ true → f ≡ Some (decimal_of f)
unfolding decimal_of
is_number (Some d) e = refl
is_number None e = absurd (false≢true e)

pub is-wrong : (f : Option Decimal) → is_some f ≡ false → f ≡ None
is-wrong (Some d) e = absurd (true≢false e)
is-wrong None e = refl

by-component :
    (Q : Option Values → Type 0) {field : List ℕ} (next : ℕ → Values) {n : Option ℕ} → Numbered field n → ((m : ℕ) → Component field m → Q (Some (next m)))
    → (((m : ℕ) → Component field m → ⊥) → Q None)
    → Q (option_map next n)
by-component Q next (some h) f g = f _ h
by-component Q next (none h) f g = g h

-- a field has one form, and says one number
not-both : {f : Option Decimal} {d : Decimal} → f ≡ Some d → f ≡ None → ⊥
not-both p q = let w : ◌≡◌ {A = ℕ} 0 1 = cc in omega arith

module _ (layout : Layout) (fields : List (List ℕ)) where
  abbrev F : Option Values → Type 0
  F = Forming layout fields

  abbrev at : ℕ → List ℕ
  at k = column_of fields k

  abbrev test : ℕ → Bool
  test k = is_some (read_at layout fields k)

  -- the k-th has the wrong form
  wrong-at : (k : ℕ) → k < 8 → test k ≡ false → Wrong layout fields
  wrong-at zero h e = Wrong.decimal Column.per1 (is-wrong _ e)
  wrong-at (suc zero) h e = Wrong.decimal Column.per2 (is-wrong _ e)
  wrong-at (suc (suc zero)) h e = Wrong.decimal Column.beta1 (is-wrong _ e)
  wrong-at (suc (suc (suc zero))) h e = Wrong.decimal Column.beta2 (is-wrong _ e)
  wrong-at (suc (suc (suc (suc zero)))) h e = Wrong.decimal Column.modulus (is-wrong _ e)
  wrong-at (suc (suc (suc (suc (suc zero))))) h e = Wrong.phase (is-wrong _ e)
  wrong-at (suc (suc (suc (suc (suc (suc zero)))))) h e = Wrong.decimal Column.re (is-wrong _ e)
  wrong-at (suc (suc (suc (suc (suc (suc (suc zero))))))) h e = Wrong.decimal Column.im (is-wrong _ e)
  wrong-at (suc (suc (suc (suc (suc (suc (suc (suc k)))))))) h e = absurd (omega arith)

  -- all have the right form, and the component is n
  right-at : length fields ≡ layout.columns → all_below 8 test ≡ true → (n : ℕ) → Component (at layout.component) n
      → Right layout fields (record { component = n; decimal = λ k. decimal_of (field_of (at (column_at layout k))) })
  right-at count e n h =
      let said : (k : ℕ) → k < 8 → read_at layout fields k ≡ Some (decimal_of (read_at layout fields k)) = λ k g. is_number _ (all-at test 8 e k g) in
      record {
        count = count;
        component = h;
        decimal =
            each (λ k. field_of (at (column_at layout k)) ≡ Some (decimal_of (field_of (at (column_at layout k)))))
            (said 0 (lit< tt))
            (said 1 (lit< tt))
            (said 2 (lit< tt))
            (said 3 (lit< tt))
            (said 4 (lit< tt))
            (said 6 (lit< tt))
            (said 7 (lit< tt));
        phase = not-both (said 5 (lit< tt));
      }

  forming : length fields ≡ layout.columns → F (values_of layout fields)
  unfolding values_of values_at
  forming count =
      by-test F (all_below 8 test) _ _
      (λ e. by-component F (values_at layout fields) (numbered (at layout.component)) (λ n h. right (right-at count e n h)) (λ h. wrong (Wrong.component h)))
      (λ e. wrong (some-not test 8 wrong-at e))

  right-not-wrong : {w : Written} → Right layout fields w → Wrong layout fields → ⊥
  right-not-wrong r (Wrong.component h) = h _ r.component
  right-not-wrong r (Wrong.decimal k e) = not-both (r.decimal k) e
  right-not-wrong r (Wrong.phase e) = r.phase e

  same_number : {f : Option Decimal} {c d : Decimal} → f ≡ Some c → f ≡ Some d → c ≡ d
  same_number p q = cc

  same-component : {text : List ℕ} {m n : ℕ} → Component text m → Component text n → m ≡ n
  same-component h k = let e = ap (λ (l : List ℕ). get_or l 0 0) (sym h.byte ∙ k.byte) in omega arith

  same-values : {v w : Written} → Right layout fields v → Right layout fields w → values_in v ≡ values_in w
  same-values r t =
      let component = same-component r.component t.component in
      let same : (k : Column) → _ = λ k. same_number (r.decimal k) (t.decimal k) in
      λ i.
      record {
        component = component i;
        per1 = same Column.per1 i;
        per2 = same Column.per2 i;
        beta1 = same Column.beta1 i;
        beta2 = same Column.beta2 i;
        modulus = same Column.modulus i;
        re = same Column.re i;
        im = same Column.im i;
      }

  right-gives : {f : Option Values} {w : Written} → F f → Right layout fields w → f ≡ Some (values_in w)
  right-gives (right r) t = ap Some (same-values r t)
  right-gives (wrong h) t = absurd (right-not-wrong t h)

  wrong-gives : {f : Option Values} → F f → Wrong layout fields → f ≡ None
  wrong-gives (right r) h = absurd (right-not-wrong r h)
  wrong-gives (wrong k) h = refl

-- ---- ranges

module _ (c : Choices) (w : Written) where
  -- MOD, in millionths
  abbrev M : ℕ
  M = nat_abs (units_of w Column.modulus)

  data Ranging : Row → Type 0 where
    in-range : InRange w → Ranging (judged c M (entry_of w))
    out_of_range : (InRange w → ⊥) → Ranging (Row.Refused 6)

  in_all : all_below 7 (is_in_at (values_in w)) ≡ true → InRange w
  in_all e =
      let held : (k : ℕ) → k < 7 → is_in_at (values_in w) k ≡ true = all-at (is_in_at (values_in w)) 7 e in
      each (λ k. Between (quantity_of k).least (quantity_of k).most (units_of w k))
      (between_is _ _ (held 0 (lit< tt)))
      (between_is _ _ (held 1 (lit< tt)))
      (between_is _ _ (held 2 (lit< tt)))
      (between_is _ _ (held 3 (lit< tt)))
      (between_is _ _ (held 4 (lit< tt)))
      (between_is _ _ (held 5 (lit< tt)))
      (between_is _ _ (held 6 (lit< tt)))

  all_in : InRange w → all_below 7 (is_in_at (values_in w)) ≡ true
  unfolding all_below
  all_in r =
      rw (
        is-between _ _ (r Column.per1),
        is-between _ _ (r Column.per2),
        is-between _ _ (r Column.beta1),
        is-between _ _ (r Column.beta2),
        is-between _ _ (r Column.modulus),
        is-between _ _ (r Column.re),
        is-between _ _ (r Column.im),
      )

  ranging : Ranging (ranged_row c (values_in w))
  unfolding ranged_row entry_in entry_of
  ranging =
      by-test Ranging (all_below 7 (is_in_at (values_in w))) _ _
      (λ e. in-range (in_all e))
      (λ e. out_of_range (λ r. true≢false (sym (all_in r) ∙ e)))

  range_gives : {row : Row} → Ranging row → InRange w → row ≡ judged c M (entry_of w)
  range_gives (in-range r) h = refl
  range_gives (out_of_range n) h = absurd (n h)

  no-range-gives : {row : Row} → Ranging row → (InRange w → ⊥) → row ≡ Row.Refused 6
  no-range-gives (in-range r) h = absurd (h r)
  no-range-gives (out_of_range n) h = refl

-- ---- a row in range

module _ (c : Choices) (m : ℕ) (e : Entry) where
  abbrev Fit : Type 0
  Fit = ModulusFits m e.re e.im

  data Judging : Row → Type 0 where
    over : TwoHeadings c e → Judging Row.PassedOver
    seventeen : (TwoHeadings c e → ⊥) → (Fit → ⊥) → Judging (Row.Refused 17)
    seven : (TwoHeadings c e → ⊥) → Fit → Imaginary c e → Judging (Row.Refused 7)
    taken-up : (TwoHeadings c e → ⊥) → Fit → (Imaginary c e → ⊥) → Judging (Row.Used e)

  -- the three tests, each with what it says; the second is `is_fit`

  abbrev two : Bool
  two = eqb c.coverage 0 && not (same_ℤ e.heading1 e.heading2)

  abbrev imaginary : Bool
  imaginary = eqb c.kind 0 && (same_node e && not (same_ℤ e.im (pos 0)))

  two_is : two ≡ true → TwoHeadings c e
  two_is t =
      let h = both (eqb c.coverage 0) (not (same_ℤ e.heading1 e.heading2)) t in
      record {
        single = eqb-true c.coverage 0 h.0;
        differ = λ same. true≢false (sym (same_ℤ-yes _ _ same) ∙ not-true _ h.1);
      }

  is-two : TwoHeadings c e → two ≡ true
  is-two h = rw (eq-eqb c.coverage 0 h.single, same_ℤ-no e.heading1 e.heading2 h.differ)

  imaginary-is : imaginary ≡ true → Imaginary c e
  unfolding same_node
  imaginary-is t =
      let same = eqb e.tick1 e.tick2 && same_ℤ e.heading1 e.heading2 in
      let h = both (eqb c.kind 0) (same && not (same_ℤ e.im (pos 0))) t in
      let g = both same (not (same_ℤ e.im (pos 0))) h.1 in
      let n = both (eqb e.tick1 e.tick2) (same_ℤ e.heading1 e.heading2) g.0 in
      record {
        difference = eqb-true c.kind 0 h.0;
        ticks = eqb-true e.tick1 e.tick2 n.0;
        headings = same_ℤ-true e.heading1 e.heading2 n.1;
        im = λ zero. true≢false (sym (same_ℤ-yes _ _ zero) ∙ not-true _ g.1);
      }

  is-imaginary : Imaginary c e → imaginary ≡ true
  unfolding same_node
  is-imaginary h =
      rw (
        eq-eqb c.kind 0 h.difference,
        eq-eqb e.tick1 e.tick2 h.ticks,
        same_ℤ-yes e.heading1 e.heading2 h.headings,
        same_ℤ-no e.im (pos 0) h.im,
      )

  judging : Judging (judged c m e)
  unfolding judged fitted
  judging =
      by-test Judging two _ _
      (λ t. over (two_is t))
      (λ t.
      let one : TwoHeadings c e → ⊥ = λ h. true≢false (sym (is-two h) ∙ t) in
      by-test Judging (is_fit m e.re e.im) _ _
      (λ f.
      let fit = fit_is m e.re e.im f in
      by-test Judging imaginary _ _
      (λ u. seven one fit (imaginary-is u))
      (λ u. taken-up one fit (λ h. true≢false (sym (is-imaginary h) ∙ u))))
      (λ f. seventeen one (λ h. true≢false (sym (is-fit m e.re e.im h) ∙ f))))

  -- and back

  over-gives : TwoHeadings c e → judged c m e ≡ Row.PassedOver
  unfolding judged
  over-gives h = rw (is-two h)

  module _ (n : TwoHeadings c e → ⊥) where
    -- where the headings pass, the fit decides
    fit-decides : judged c m e ≡ cond (is_fit m e.re e.im) (fitted c e) (Row.Refused 17)
    unfolding judged
    fit-decides = rw (refuted two two_is n)

    seventeen-gives : (Fit → ⊥) → judged c m e ≡ Row.Refused 17
    seventeen-gives f = fit-decides ∙ rw (refuted (is_fit m e.re e.im) (fit_is m e.re e.im) f)

    fitted-gives : Fit → judged c m e ≡ fitted c e
    fitted-gives f = fit-decides ∙ rw (is-fit m e.re e.im f)

    seven-gives : Fit → Imaginary c e → judged c m e ≡ Row.Refused 7
    unfolding fitted
    seven-gives f i = fitted-gives f ∙ rw (is-imaginary i)

    used-gives : Fit → (Imaginary c e → ⊥) → judged c m e ≡ Row.Used e
    unfolding fitted
    used-gives f i = fitted-gives f ∙ rw (refuted imaginary imaginary-is i)

-- ---- a line

module _ (c : Choices) (first : Bool) (line : List ℕ) where
  abbrev fields : List (List ℕ)
  fields = fields_of line

  abbrev L : Row → Type 0
  L = LineIs c first line

  -- what a line is, by what its tests say

  judged-line : {w : Written} → Ranged c first line w → {row : Row} → Judging c (M c w) (entry_of w) row → L row
  unfolding entry_of
  judged-line r (over t) = two-headings r t
  judged-line r (seventeen n f) = breaks-17 r n f
  judged-line r (seven n f i) = breaks-7 r n f i
  judged-line r (taken-up n f i) = used r n f i

  ranged-line : {w : Written} → Own c first line w → {row : Row} → Ranging c w row → L row
  ranged-line {w} o (in-range r) = judged-line (record { own = o; range = r }) (judging c (M c w) (entry_of w))
  ranged-line o (out_of_range n) = breaks-6 o n

  formed-line : IsRow first fields → length fields ≡ wamit_layout.columns → {f : Option Values} → Forming wamit_layout fields f → L (formed_row c f)
  unfolding formed_row
  formed-line row count (right {w = w} r) =
      let formed-row : WellFormed first line w = record { row = row; right = r } in
      by-test L (eqb w.component c.component) _ _
      (λ e. ranged-line (record { formed = formed-row; component = eqb-true _ _ e }) (ranging c w))
      (λ e. other-component formed-row (eqb-false _ _ e))
  formed-line row count (wrong h) = breaks-5 row count h

  no_fields : (l : List (List ℕ)) → length l ≡ 0 → l ≡ []
  no_fields [] e = refl
  no_fields (x ∷ l) e = absurd (omega arith)

  pub line-is : L (row_of c first line)
  unfolding row_of words_row
  line-is =
      by-test L (eqb (length fields) 0) _ _
      (λ e. blank (no_fields fields (eqb-true _ _ e)))
      (λ e.
      by-test L (first && starts_letter fields) _ _
      (λ t. let h = both first (starts_letter fields) t in title h.0 h.1)
      (λ t.
      let row : IsRow first fields =
      record {
        some = λ none. eqb-false _ _ e (ap length none);
        no-title = λ f s. let yes-it-is : (first && starts_letter fields) ≡ true = rw f s in true≢false (sym yes-it-is ∙ t);
      }
      in
      by-test L (eqb (length fields) wamit_layout.columns) _ _
      (λ n. let count = eqb-true _ _ n in formed-line row count (forming wamit_layout fields count))
      (λ n. breaks-4 row (eqb-false _ _ n))))

  -- and back

  module _ (row : IsRow first fields) where
    row-tested : words_row wamit_layout c first fields ≡ cond (eqb (length fields) wamit_layout.columns) (formed_row c (values_of wamit_layout fields)) (Row.Refused 4)
    unfolding words_row
    row-tested =
        let none : length fields ≡ 0 → ⊥ = λ e. row.some (no_fields fields e) in
        rw (ne_eqb (length fields) 0 none, not-title first (starts_letter fields) row.no-title)
      where
        not-title : (a b : Bool) → (a ≡ true → b ≡ true → ⊥) → (a && b) ≡ false
        not-title true true f = absurd (f refl refl)
        not-title true false f = refl
        not-title false b f = refl

    counted : length fields ≡ wamit_layout.columns → words_row wamit_layout c first fields ≡ formed_row c (values_of wamit_layout fields)
    counted e = row-tested ∙ rw (eq-eqb (length fields) wamit_layout.columns e)

  formed-gives : {w : Written} → WellFormed first line w → row_of c first line ≡ formed_row c (Some (values_in w))
  unfolding row_of
  formed-gives f =
      counted f.row f.right.count ∙ ap (formed_row c) (right-gives wamit_layout fields (forming wamit_layout fields f.right.count) f.right)

  own-gives : {w : Written} → Own c first line w → row_of c first line ≡ ranged_row c (values_in w)
  unfolding formed_row
  own-gives {w} o = formed-gives o.formed ∙ rw (eq-eqb w.component c.component o.component)

  ranged-gives : {w : Written} → Ranged c first line w → row_of c first line ≡ judged c (M c w) (entry_of w)
  ranged-gives {w} r = own-gives r.own ∙ range_gives c w (ranging c w) r.range

  lettered : (l : List (List ℕ)) → starts_letter l ≡ true → length l ≡ 0 → ⊥
  unfolding starts_letter
  lettered [] s e = false≢true s
  lettered (x ∷ l) s e = omega arith

  pub line_gives : {row : Row} → L row → row_of c first line ≡ row
  unfolding row_of words_row formed_row entry_of
  line_gives (blank e) = rw (eq-eqb (length fields) 0 (ap length e))
  line_gives (title f s) = rw (ne_eqb (length fields) 0 (lettered fields s), f, s)
  line_gives (breaks-4 row n) = row-tested row ∙ rw (ne_eqb (length fields) wamit_layout.columns n)
  line_gives (breaks-5 row count h) = counted row count ∙ ap (formed_row c) (wrong-gives wamit_layout fields (forming wamit_layout fields count) h)
  line_gives (other-component {w = w} f n) = formed-gives f ∙ rw (ne_eqb w.component c.component n)
  line_gives (breaks-6 {w = w} o n) = own-gives o ∙ no-range-gives c w (ranging c w) n
  line_gives (two-headings {w = w} r t) = ranged-gives r ∙ over-gives c (M c w) (entry_of w) t
  line_gives (breaks-17 {w = w} r n f) = ranged-gives r ∙ seventeen-gives c (M c w) (entry_of w) n f
  line_gives (breaks-7 {w = w} r n f i) = ranged-gives r ∙ seven-gives c (M c w) (entry_of w) n f i
  line_gives (used {w = w} r n f i) = ranged-gives r ∙ used-gives c (M c w) (entry_of w) n f i

pub line-exactly : LineExactly
line-exactly c first line row = (λ e. subst (LineIs c first line) e (line-is c first line), line_gives c first line)
