-- Lines whose fields are the same, but for headings of which the same is made: the form of a field, a value in range, and the heading that is read. They come to the same row. Assumes nothing.
use Rattle.std.specs.Prelude.{Option, Some, None, is_some, option_map}
use mathlib.Core.Path.{◌≡◌, refl, sym, ap, ◌∙◌}
use mathlib.Core.Bool.{Bool, true, false, cond, ◌&&◌}
use mathlib.Core.List.{List, [], ◌∷◌}
use Prim.Native.Nat.{ℕ, zero, suc}
use native.Mathlib.Omega.{arith}
use lib.Dec.{eqb}
use lib.IntN.{ℤ, pos, negsuc, neg_ℤ, nat_abs}
use lib.ListN.{length}
use lib.Signed.{le_z}
use Rattle.field.specs.declared.decimal.Decimal.{Decimal}
use Rattle.field.specs.Form.{field_of}
use Rattle.field.specs.Units.{units, tick_of}
use Rattle.row.specs.declared.values.Values.{Values}
use Rattle.row.specs.declared.reading.Choices.{Choices}
use Rattle.row.specs.Told.{Row}
use Rattle.row.specs.Heading.{heading_of}
use Rattle.row.specs.Ranges.{period, direction, magnitude, part}
use Rattle.row.specs.Line.{starts_letter}
use Rattle.row.specs.Layout.{wamit_layout, column_of}
use Rattle.row.specs.LineRules.{fields_of}
use Rattle.row.specs.own.Values.{component_of, decimal_of, all_below, read_at, values_at, values_of}
use Rattle.row.specs.own.Rows.{is_in, is_in_at, judged, entry_in, ranged_row, formed_row, words_row, row_of}
use Rattle.row.proofs.Headings.{heading-of-size}

-- ---- what is made of a field in a heading's column

abbrev inside : ℤ → Bool
inside z = le_z direction.least z && le_z z direction.most

-- either end of the range is in it
end-inside : (z : ℤ) → nat_abs z ≡ 180_000 → inside z ≡ true
end-inside (pos n) e = ap (λ (k : ℕ). inside (pos k)) e
end-inside (negsuc n) e = ap (λ (k : ℕ). inside (neg_ℤ (pos k))) e

-- two fields of which the same is made
pub record AsRead (f g : Option Decimal) : Type 0 where
  pub formed : is_some f ≡ is_some g
  pub range : is_in direction (decimal_of f) ≡ is_in direction (decimal_of g)
  pub heading : heading_of (units (decimal_of f) 3) ≡ heading_of (units (decimal_of g) 3)

pub as-itself : {a b : List ℕ} → a ≡ b → AsRead (field_of a) (field_of b)
as-itself e =
    record {
      formed = ap (λ (w : List ℕ). is_some (field_of w)) e;
      range = ap (λ (w : List ℕ). is_in direction (decimal_of (field_of w))) e;
      heading = ap (λ (w : List ℕ). heading_of (units (decimal_of (field_of w)) 3)) e;
    }

pub both-numbers : (d e : Decimal) → nat_abs (units d 3) ≡ 180_000 → nat_abs (units e 3) ≡ 180_000 → AsRead (Some d) (Some e)
unfolding decimal_of is_in
both-numbers d e p q =
    record {
      formed = refl;
      range = end-inside (units d 3) p ∙ sym (end-inside (units e 3) q);
      heading = heading-of-size (units d 3) p ∙ sym (heading-of-size (units e 3) q);
    }

-- ---- a row

all_same : (n : ℕ) (f g : ℕ → Bool) → ((k : ℕ) → f k ≡ g k) → all_below n f ≡ all_below n g
unfolding all_below
all_same zero f g e = refl
all_same (suc n) f g e = λ i. e n i && all_same n f g e i

-- as many fields, the same in every column but those of the headings, and there of which the same is made
pub record AlikeFields (xs ys : List (List ℕ)) : Type 0 where
  pub count : length xs ≡ length ys
  pub others : (k : ℕ) → (k ≡ 2 → ⊥) → (k ≡ 3 → ⊥) → column_of xs k ≡ column_of ys k
  pub read-so : (k : ℕ) → AsRead (field_of (column_of xs k)) (field_of (column_of ys k))

-- the first words of two lists of the same length
starts-same : (xs ys : List (List ℕ)) → length xs ≡ length ys → column_of xs 0 ≡ column_of ys 0 → starts_letter xs ≡ starts_letter ys
unfolding starts_letter
starts-same [] [] n e = refl
starts-same [] (y ∷ ys) n e = absurd (omega arith)
starts-same (x ∷ xs) [] n e = absurd (omega arith)
starts-same (x ∷ xs) (y ∷ ys) n e = starts_by x xs ∙ ap (λ (w : List ℕ). starts_letter (w ∷ [])) e ∙ sym (starts_by y ys)
  where
    starts_by : (w : List ℕ) (ws : List (List ℕ)) → starts_letter (w ∷ ws) ≡ starts_letter (w ∷ [])
    starts_by [] ws = refl
    starts_by (b ∷ w) ws = refl

-- values of which the same is made
record SameValues (v w : Values) : Type 0 where
  pub component : v.component ≡ w.component
  pub per1 : v.per1 ≡ w.per1
  pub per2 : v.per2 ≡ w.per2
  pub range1 : is_in direction v.beta1 ≡ is_in direction w.beta1
  pub heading1 : heading_of (units v.beta1 3) ≡ heading_of (units w.beta1 3)
  pub range2 : is_in direction v.beta2 ≡ is_in direction w.beta2
  pub heading2 : heading_of (units v.beta2 3) ≡ heading_of (units w.beta2 3)
  pub modulus : v.modulus ≡ w.modulus
  pub re : v.re ≡ w.re
  pub im : v.im ≡ w.im

module _ {v w : Values} (h : SameValues v w) where
  ranges-same : all_below 7 (is_in_at v) ≡ all_below 7 (is_in_at w)
  unfolding all_below
  ranges-same i =
      is_in part (h.im i)
      && (is_in part (h.re i)
      && (is_in magnitude (h.modulus i) && (h.range2 i && (h.range1 i && (is_in period (h.per2 i) && (is_in period (h.per1 i) && true))))))

  entries-same : entry_in v ≡ entry_in w
  unfolding entry_in
  entries-same i =
      record {
        tick1 = tick_of (nat_abs (units (h.per1 i) 6));
        tick2 = tick_of (nat_abs (units (h.per2 i) 6));
        heading1 = h.heading1 i;
        heading2 = h.heading2 i;
        re = units (h.re i) 6;
        im = units (h.im i) 6;
      }

  formed-same : (c : Choices) → formed_row c (Some v) ≡ formed_row c (Some w)
  unfolding formed_row ranged_row
  formed-same c i =
      cond (eqb (h.component i) c.component)
      (cond (ranges-same i) (judged c (nat_abs (units (h.modulus i) 6)) (entries-same i)) (Row.Refused 6))
      Row.PassedOver

module _ (xs ys : List (List ℕ)) (h : AlikeFields xs ys) where
  same-decimal : (k : ℕ) → (k ≡ 2 → ⊥) → (k ≡ 3 → ⊥) → decimal_of (field_of (column_of xs k)) ≡ decimal_of (field_of (column_of ys k))
  same-decimal k m n = ap (λ (w : List ℕ). decimal_of (field_of w)) (h.others k m n)

  same-component : component_of (column_of xs 4) ≡ component_of (column_of ys 4)
  same-component = ap component_of (h.others 4 (λ e. omega arith) (λ e. omega arith))

  same-values : (n : ℕ) → SameValues (values_at wamit_layout xs n) (values_at wamit_layout ys n)
  unfolding values_at wamit_layout
  same-values n =
      record {
        component = refl;
        per1 = same-decimal 0 (λ e. omega arith) (λ e. omega arith);
        per2 = same-decimal 1 (λ e. omega arith) (λ e. omega arith);
        range1 = (h.read-so 2).range;
        heading1 = (h.read-so 2).heading;
        range2 = (h.read-so 3).range;
        heading2 = (h.read-so 3).heading;
        modulus = same-decimal 5 (λ e. omega arith) (λ e. omega arith);
        re = same-decimal 7 (λ e. omega arith) (λ e. omega arith);
        im = same-decimal 8 (λ e. omega arith) (λ e. omega arith);
      }

  abbrev formed_by : (List (List ℕ)) → Bool → Option ℕ → Option Values
  formed_by fields t n = cond t (option_map (values_at wamit_layout fields) n) None

  by_form : (c : Choices) (t : Bool) (n : Option ℕ) → formed_row c (formed_by xs t n) ≡ formed_row c (formed_by ys t n)
  by_form c true None = refl
  by_form c true (Some n) = formed-same (same-values n) c
  by_form c false n = refl

  valued : (c : Choices) → formed_row c (values_of wamit_layout xs) ≡ formed_row c (values_of wamit_layout ys)
  unfolding values_of wamit_layout
  valued c =
      let formed = all_same 8 (λ k. is_some (read_at wamit_layout xs k)) (λ k. is_some (read_at wamit_layout ys k)) (λ k. (h.read-so _).formed) in
      by_form c (all_below 8 (λ k. is_some (read_at wamit_layout xs k))) (component_of (column_of xs 4))
      ∙ (λ i. formed_row c (formed_by ys (formed i) (same-component i)))

  words_same : (c : Choices) (first : Bool) → words_row wamit_layout c first xs ≡ words_row wamit_layout c first ys
  unfolding words_row
  words_same c first =
      let letter = starts-same xs ys h.count (h.others 0 (λ e. omega arith) (λ e. omega arith)) in
      λ i.
      cond (eqb (h.count i) 0)
      Row.Blank
      (cond (first && letter i) Row.Title (cond (eqb (h.count i) wamit_layout.columns) (valued c i) (Row.Refused 4)))

pub rows_alike : (c : Choices) (first : Bool) (a b : List ℕ) → AlikeFields (fields_of a) (fields_of b) → row_of c first a ≡ row_of c first b
unfolding row_of
rows_alike c first a b h = words_same (fields_of a) (fields_of b) h c first
