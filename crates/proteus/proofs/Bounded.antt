-- No line is longer than 256 bytes, and there are at most 6,405 of them, where nothing bars the six and no part is out of bounds. Assumes nothing.
use mathlib.Core.Path.{◌≡◌, refl, sym, ap, subst, ◌∙◌}
use mathlib.Core.Bool.{Bool, true, false, cond}
use mathlib.Core.List.{List, [], ◌∷◌, ◌++◌, map, Memᴰ}
use Prim.Native.Nat.{ℕ, ◌*◌, ◌^◌, ◌≤◌, ◌<◌}
use native.Mathlib.Nat.{mul-le-mul}
use native.Mathlib.Omega.{arith}
use lib.Dec.{leb, eqb}
use lib.IntN.{ℤ, pos, nat_abs}
use lib.ListN.{length, replicate, length-map, length-take}
use lib.Signed.{le_z}
use borrow.Author.Tests.{not-false}
use Rattle.whole.specs.Any.{any_of}
use Rattle.whole.specs.Complex.{Complex}
use Rattle.whole.specs.Same.{same_ℤ}
use Rattle.whole.proofs.Any.{neither}
use Rattle.whole.proofs.OrderLaws.{<ℤ→≤ℤ}
use Rattle.whole.proofs.Magnitude.{nat_abs-le-of}
use Rattle.text.specs.Decimal.{natural, decimal}
use Rattle.text.specs.Rows.{row_text}
use Rattle.text.proofs.Apart.{Each}
use Rattle.text.proofs.Widths.{natural-few, minus-few, decimal-few}
use Rattle.text.proofs.Lengths.{Within, words-few, decimals-within, list-few}
use Rattle.text.proofs.RowsBack.{row_is}
use Rattle.row.proofs.Deciding.{both}
use Rattle.grid.specs.declared.nodes.Pair.{Pair}
use Rattle.grid.specs.Slots.{slot_of, held_ticks, held_headings}
use Rattle.grid.specs.Valid.{valid_ticks, valid_headings, valid_presence, valid_slots}
use Rattle.table.specs.Pairs.{ascending, product, nodes, at_one_heading, pairs_over}
use Rattle.table.specs.Entries.{in_bounds, is_out}
use Rattle.table.proofs.Ascending.{length-ascending, held-le, ascending-only}
use Rattle.table.proofs.Bounds.{small-part}
use Rattle.grid.proofs.Bounds.{held-range, headings-range}
use Rattle.grid.proofs.Places.{slot-within}
use Rattle.table.proofs.Products.{product-count}
use Rattle.reader.specs.declared.record.Record.{Record}
use Rattle.reader.specs.Valid.{valid_stage, valid_choices, valid_line, valid_of}
use Rattle.qtf.specs.Matrix.{billionths, frequency_text, heading_text, indexes, parts_in, matrix_line}
use Rattle.proteus.proofs.Billionths.{billionths-few}
use Rattle.qtf.proofs.Spacing.{list-is, parts-count}

-- ---- what a valid record holds

in-each : {A : Type 0} (P : A → Type 0) (xs : List A) → ((x : A) → Memᴰ x xs → P x) → Each P xs
in-each P [] f = tt
in-each P (x ∷ xs) f = (f x (Memᴰ.head refl), in-each P xs (λ y m. f y (Memᴰ.tail m)))

-- what the lines ask of the frequencies and the headings
pub record Modest (ticks : List ℕ) (hs : List ℤ) : Type 0 where
  pub few-ticks : length ticks ≤ 20
  pub few-headings : length hs ≤ 4
  pub low-ticks : Each (λ t. t ≤ 10_000) ticks
  pub low-headings : Each (λ h. nat_abs h ≤ 180_000) hs

pub modest :
    (r : Record)
    → valid_of r ≡ true
    → length r.slots.ticks ≡ 20
    → length r.slots.headings ≡ 4
    → Modest (ascending leb (held_ticks r.slots.ticks)) (ascending le_z (held_headings r.slots))
unfolding valid_of valid_slots held_headings
modest r e long wide =
    let s = r.slots in
    let (e₁, e₂) = both (valid_stage r.marks.stage) _ e in
    let (e₃, e₄) = both (leb r.marks.lines 1_000_000) _ e₂ in
    let (e₅, e₆) = both (valid_choices r.choices) _ e₄ in
    let (slots, e₇) = both _ (valid_line r.kept r.marks.count) e₆ in
    let (held, s₁) = both (leb s.held 4) _ slots in
    let (ticks, s₂) = both (valid_ticks s.ticks) _ s₁ in
    let (hs, s₃) = both (valid_headings (held_headings s)) (valid_presence r.marks.stage s) s₂ in
    record {
      few-ticks = omega (arith, length-ascending leb (held_ticks s.ticks), held-le s.ticks);
      few-headings = omega (arith, length-ascending le_z (held_headings s), length-take s.held s.headings);
      low-ticks = in-each _ _ (λ t m. (held-range s.ticks ticks t (ascending-only leb _ t m)).1);
      low-headings = in-each _ _ (λ h m. let (low, high) = headings-range (held_headings s) hs h (ascending-only le_z _ h m) in nat_abs-le-of h 180_000 (<ℤ→≤ℤ low) high);
    }

-- ---- parts in bounds

-- four digits before the point, and a sign
part-short : (z : ℤ) → in_bounds z ≡ true → length (decimal 6 z) ≤ 12
part-short z e =
    let few : nat_abs z < 10 ^ 10 = omega (arith, small-part z e) in
    omega (arith, decimal-few 6 3 z few, minus-few z)

parts-short : (zs : List Complex) → any_of is_out zs ≡ false → Each (λ z. length (decimal 6 z) ≤ 12) (parts_in zs)
unfolding parts_in any_of
parts-short [] e = tt
parts-short (z ∷ zs) e =
    let (here, rest) = neither (is_out z) (any_of is_out zs) e in
    let (re, im) = both (in_bounds z.re) (in_bounds z.im) (not-false _ here) in
    (part-short z.re re, (part-short z.im im, parts-short zs rest))

-- ---- the lines

module _ (ticks : List ℕ) (hs : List ℤ) (m : Modest ticks hs) where
  -- twenty frequencies of one digit before the point
  pub frequencies-short : length (frequency_text ticks) ≤ 239
  unfolding frequency_text
  frequencies-short =
      let numbers = map (λ t. pos (billionths t)) ticks in
      omega (
        arith,
        m.few-ticks,
        ap length (list-is 9 numbers),
        list-few 9 11 numbers (each-few ticks m.low-ticks),
        length-map ticks (λ t. pos (billionths t)),
      )
    where
      each-few : (ts : List ℕ) → Each (λ t. t ≤ 10_000) ts → Each (λ z. length (decimal 9 z) ≤ 11) (map (λ t. pos (billionths t)) ts)
      each-few [] h = tt
      each-few (t ∷ ts) h =
          let small : billionths t < 10 ^ 10 = omega (arith, billionths-few t h.0) in
          (omega (arith, decimal-few 9 0 (pos (billionths t)) small), each-few ts h.1)

  -- four headings of three
  pub headings-short : length (heading_text hs) ≤ 35
  unfolding heading_text
  headings-short = omega (arith, m.few-headings, ap length (list-is 3 hs), list-few 3 8 hs (each-few hs m.low-headings))
    where
      each-few : (zs : List ℤ) → Each (λ z. nat_abs z ≤ 180_000) zs → Each (λ z. length (decimal 3 z) ≤ 8) zs
      each-few [] h = tt
      each-few (z ∷ zs) h =
          let small : nat_abs z < 10 ^ 6 = omega (arith, h.0) in
          (omega (arith, decimal-few 3 2 z small, minus-few z), each-few zs h.1)

  -- two indexes of two digits, two of one, and twelve parts of four and a sign
  pub row-short : (p : Pair) (zs : List Complex) → length zs ≡ 6 → any_of is_out zs ≡ false → length (matrix_line ticks hs p zs) ≤ 165
  unfolding matrix_line indexes
  row-short p zs six whole =
      let i = slot_of eqb ticks p.first.tick in
      let j = slot_of eqb ticks p.second.tick in
      let a = slot_of same_ℤ hs p.first.heading in
      let b = slot_of same_ℤ hs p.second.heading in
      let hi : i < 10 ^ 2 = omega (arith, m.few-ticks, slot-within eqb p.first.tick ticks) in
      let hj : j < 10 ^ 2 = omega (arith, m.few-ticks, slot-within eqb p.second.tick ticks) in
      let ha : a < 10 ^ 1 = omega (arith, m.few-headings, slot-within same_ℤ p.first.heading hs) in
      let hb : b < 10 ^ 1 = omega (arith, m.few-headings, slot-within same_ℤ p.second.heading hs) in
      let parts = parts_in zs in
      let twelve : length parts ≡ 12 = omega (arith, parts-count zs) in
      let within = subst (λ n. Within (replicate n 12) (map (decimal 6) parts)) twelve (decimals-within 6 12 parts (parts-short zs whole)) in
      let short =
      words-few (2 ∷ 2 ∷ 1 ∷ 1 ∷ replicate 12 12)
      (natural i ∷ natural j ∷ natural a ∷ natural b ∷ map (decimal 6) parts)
      (natural-few 1 i hi, (natural-few 1 j hj, (natural-few 0 a ha, (natural-few 0 b hb, within))))
      in
      let line = ap (λ (n : ℕ). row_text (replicate 4 0 ++ replicate n 6) (map pos (i ∷ j ∷ a ∷ b ∷ []) ++ parts)) (sym twelve) ∙ row_is 6 (i ∷ j ∷ a ∷ b ∷ []) parts in
      subst (λ (l : List ℕ). length l ≤ 165) (sym line) short

-- ---- how many pairs there are

times-few : {A B : Type 0} (xs : List A) (ys : List B) (m n : ℕ) → length xs ≤ m → length ys ≤ n → length (product xs ys) ≤ m * n
times-few xs ys m n h k = omega (arith, product-count xs ys (length xs) (length ys) refl refl, mul-le-mul h k)

pub pairs-few : (coverage : ℕ) (ticks : List ℕ) (hs : List ℤ) → length ticks ≤ 20 → length hs ≤ 4 → length (pairs_over coverage ticks hs) ≤ 6_400
unfolding pairs_over
pairs-few coverage ticks hs few some = go (eqb coverage 0)
  where
    go :
        (t : Bool)
        → length
        (cond t
        (map at_one_heading (product hs (product ticks ticks)))
        (map nodes (product (product hs ticks) (product hs ticks))))
        ≤ 6_400
    go true =
        omega (
          arith,
          length-map (product hs (product ticks ticks)) at_one_heading,
          times-few hs (product ticks ticks) 4 400 some (times-few ticks ticks 20 20 few few),
        )
    go false =
        omega (
          arith,
          length-map (product (product hs ticks) (product hs ticks)) nodes,
          times-few (product hs ticks) (product hs ticks) 80 80 (times-few hs ticks 4 20 some few) (times-few hs ticks 4 20 some few),
        )
