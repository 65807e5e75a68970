-- A coefficient from the four corners: the corners of two points are those of their brackets; a corner of weight 0 may be tested like the others, since its cell
-- has weight elsewhere; the sum by both weights goes along the one bracket and then the other, and stays within the bounds of the corners. Assumes nothing.
use mathlib.Core.Path.{◌≡◌, refl, sym, ap, ◌∙◌}
use mathlib.Core.Bool.{Bool, true, false, not, ◌&&◌, ◌||◌}
use mathlib.Core.List.{List, [], ◌∷◌}
use Prim.Native.Nat.{ℕ, zero, suc, ◌+◌, ◌*◌, ◌-◌, ◌≤◌, ◌<◌}
use native.Mathlib.Nat.{mul_comm, mul-le-mul, mul-le-mul_left, mul-pos}
use native.Mathlib.Omega.{arith}
use lib.Dec.{eqb}
use lib.IntN.{ℤ, pos, negsuc, nat_abs, ◌+ℤ◌, ◌-ℤ◌, ◌*ℤ◌, +ℤ-neg_ℤ_cancel}
use mir.Syntax.{w32}
use mir.Val.{SFits}
use borrow.Author.Tests.{eqb-true, eq-eqb, ne_eqb, not-false}
use Rattle.whole.specs.Nearest.{nearest, nearest_ℤ}
use Rattle.whole.specs.Sum.{sum_by}
use Rattle.whole.specs.Any.{any_of}
use Rattle.whole.proofs.Ring.{v, num, ◌⊕◌, ◌⊗◌, ring}
use Rattle.whole.proofs.Magnitude.{triangle, nat_abs-*}
use Rattle.whole.proofs.Words.{◌within◌, fits}
use Rattle.whole.proofs.Nearest.{nearest-within, nearest-shift}
use Rattle.whole.proofs.OrderLaws.{subℕ-ind}
use Rattle.whole.proofs.Any.{neither}
use Rattle.row.proofs.Deciding.{both}
use Rattle.grid.specs.declared.nodes.Slots.{Slots}
use Rattle.table.specs.declared.entries.Parts.{Parts}
use Rattle.table.specs.Pairs.{each_with, product}
use Rattle.table.specs.Entries.{entry_of, entry_at, complex_of, in_bounds, is_out}
use Rattle.table.specs.View.{view_of}
use Rattle.table.proofs.Bounds.{small-part}
use Rattle.load.specs.Corners.{Point, ends, corner_of, corners, is_bad, any_bad, weighed_sum, coefficient}
use Rattle.load.specs.own.Brackets.{bracket_of, bracket_corners, bracket_coefficient, ProperBracket}
use Rattle.load.specs.own.Square.{square_of, stands_at, any_out, along_of, part_of, interpolated_of, CornersInBounds}
use Rattle.load.specs.declared.locating.Bracket.{Bracket}

-- ---- points and their brackets

module _ (s : Slots) (cells : List ℤ) (p q : Point) where
  pub bracket-corners : corners (view_of s cells) p q ≡ bracket_corners cells (bracket_of s p) (bracket_of s q)
  unfolding corners product each_with ends corner_of entry_at bracket_corners bracket_of
  bracket-corners = refl

  pub bracket-coefficient : coefficient (view_of s cells) p q ≡ bracket_coefficient cells (bracket_of s p) (bracket_of s q)
  unfolding coefficient corners product each_with ends corner_of entry_at bracket_coefficient bracket_corners bracket_of
  bracket-coefficient = refl

-- ---- one corner

-- parts in bounds
small-parts : (c : Parts) → is_out (complex_of c) ≡ false → (nat_abs c.re ≤ 1_000_000_000) × (nat_abs c.im ≤ 1_000_000_000)
small-parts c e =
    let (re, im) = both (in_bounds c.re) (in_bounds c.im) (not-false (in_bounds c.re && in_bounds c.im) e) in
    (small-part c.re re, small-part c.im im)

-- a sum of two parts in bounds is a word, and so is one of them
pub two-word : (z : ℤ) → nat_abs z ≤ 2_000_000_000 → SFits w32 z
two-word z h =
    let near : z within 2_000_000_001 = record { small = omega arith } in
    fits tt near

pub small_word : (z : ℤ) → nat_abs z ≤ 1_000_000_000 → SFits w32 z
small_word z h = two-word z (omega arith)

-- ---- along a bracket

module _ (p : Bracket) (proper : ProperBracket p) where
  pub low-few : p.to_low ≤ 9_900
  low-few = omega arith

  pub high-few : p.to_high ≤ 9_900
  high-few = omega arith

  -- a sum by the weights is no further than the width times the bound
  pub along-small : (low high : ℤ) (b : ℕ) → nat_abs low ≤ b → nat_abs high ≤ b → nat_abs (along_of p low high) ≤ p.width * b
  unfolding along_of
  along-small low high b h k =
      rw (← proper.sum)
      (omega (
        arith,
        triangle (pos p.to_low *ℤ low) (pos p.to_high *ℤ high),
        nat_abs-* (pos p.to_low) low,
        nat_abs-* (pos p.to_high) high,
        mul-le-mul_left p.to_low h,
        mul-le-mul_left p.to_high k,
      ))

-- a number raised by at least its size has no sign
pub record Raised (z : ℤ) (m : ℕ) : Type 0 where
  pub size : ℕ
  pub same : z +ℤ pos m ≡ pos size
  pub most : size ≤ 2 * m

pub to-raised : (z : ℤ) (m : ℕ) → nat_abs z ≤ m → Raised z m
to-raised (pos n) m h = record { size = n + m; same = refl; most = omega arith }
to-raised (negsuc n) m h =
    record {
      size = m - suc n;
      same = subℕ-ind (λ z. z ≡ pos (m - suc n)) m (suc n) (λ l. let clash : ⊥ = omega arith in absurd clash) (λ l. refl);
      most = omega arith;
    }

module _ (p q : Bracket) (proper-p : ProperBracket p) (proper-q : ProperBracket q) (a b c d : ℤ) (small : CornersInBounds a b c d) where
  abbrev top : ℤ
  top = along_of p (along_of q a b) (along_of q c d)

  abbrev over : ℕ
  over = p.width * q.width

  over-some : 0 < over
  over-some = mul-pos proper-p.some proper-q.some

  pub over-few : over ≤ 98_010_000
  over-few = mul-le-mul proper-p.most proper-q.most

  top_small : nat_abs top ≤ 1_000_000_000 * over
  top_small =
      let lows = along-small q proper-q a b 1_000_000_000 small.low-low small.low-high in
      let highs = along-small q proper-q c d 1_000_000_000 small.high-low small.high-high in
      omega (arith, along-small p proper-p (along_of q a b) (along_of q c d) (q.width * 1_000_000_000) lows highs)

  pub part_small : nat_abs (part_of p q a b c d) ≤ 1_000_000_000
  unfolding part_of
  part_small = nearest-within top over 1_000_000_000 over-some top_small

  -- raised by 10^9 of what it is over, the sum has no sign, and its rounded quotient is 10^9 more
  pub top-raised : Raised top (1_000_000_000 * over)
  top-raised = to-raised top (1_000_000_000 * over) top_small

  pub part-raised : (n : ℕ) → top +ℤ pos (1_000_000_000 * over) ≡ pos n → pos (nearest n over) -ℤ pos 1_000_000_000 ≡ part_of p q a b c d
  unfolding part_of
  part-raised n e =
      ap (λ z. z -ℤ pos 1_000_000_000) (sym (ap (λ z. nearest_ℤ z over) e) ∙ nearest-shift top over 1_000_000_000 over-some refl)
      ∙ +ℤ-neg_ℤ_cancel (nearest_ℤ top over) (pos 1_000_000_000)

-- ---- the four

-- along the one bracket and then the other is by the products of their weights
module _ (p q : Bracket) where
  abbrev by_weights : ℤ → ℤ → ℤ → ℤ → ℤ
  by_weights a b c d =
      pos (p.to_low * q.to_low) *ℤ a
      +ℤ (pos (p.to_low * q.to_high) *ℤ b +ℤ (pos (p.to_high * q.to_low) *ℤ c +ℤ (pos (p.to_high * q.to_high) *ℤ d +ℤ pos 0)))

  weighed : (a b c d : ℤ) → along_of p (along_of q a b) (along_of q c d) ≡ by_weights a b c d
  unfolding along_of
  weighed a b c d =
      ring (pos p.to_low ∷ pos p.to_high ∷ pos q.to_low ∷ pos q.to_high ∷ a ∷ b ∷ c ∷ d ∷ [])
      (v 0 ⊗ (v 2 ⊗ v 4 ⊕ v 3 ⊗ v 5) ⊕ v 1 ⊗ (v 2 ⊗ v 6 ⊕ v 3 ⊗ v 7))
      (v 0 ⊗ v 2 ⊗ v 4 ⊕ (v 0 ⊗ v 3 ⊗ v 5 ⊕ (v 1 ⊗ v 2 ⊗ v 6 ⊕ (v 1 ⊗ v 3 ⊗ v 7 ⊕ num 0))))
      tt

-- ---- a corner of weight 0 is the same cell as one that has weight, so that it may be tested with the others

-- a product is 0 where a factor is
zero_right : (m n : ℕ) → 0 < m → eqb (m * n) 0 ≡ eqb n 0
zero_right m zero h = eq-eqb (m * 0) 0 (omega arith)
zero_right m (suc n) h =
    let some : 0 < m * suc n = mul-pos h (omega arith) in
    ne_eqb (m * suc n) 0 (λ z. omega arith) ∙ sym (ne_eqb (suc n) 0 (λ z. omega arith))

zero-either : (m n : ℕ) → eqb (m * n) 0 ≡ (eqb m 0 || eqb n 0)
zero-either zero n = eq-eqb (0 * n) 0 (omega arith)
zero-either (suc m) n = zero_right (suc m) n (omega arith) ∙ sym (ap (λ (b : Bool). b || eqb n 0) (ne_eqb (suc m) 0 (λ z. omega arith)))

-- four tests x, y, z, w, of which y and w do not count where the column is single, and z and w where the row is
four-ways :
    (row column x y z w : Bool)
    → (column ≡ true → (y ≡ x) × (w ≡ z))
    → (row ≡ true → (z ≡ x) × (w ≡ y))
    → (x || ((not column && y) || ((not row && z) || ((not (row || column) && w) || false)))) ≡ (x || (y || (z || w)))
four-ways row column true y z w f g = refl
four-ways true true false y z w f g = rw ((f refl).1, (f refl).0, (g refl).0) refl
four-ways true false false y z w f g = rw ((g refl).1, (g refl).0) (same y)
  where
    same : (y : Bool) → (y || (false || (false || false))) ≡ (y || (false || y))
    same true = refl
    same false = refl
four-ways false true false y z w f g = rw ((f refl).1, (f refl).0) (same z)
  where
    same : (z : Bool) → (false || (z || (false || false))) ≡ (false || (z || z))
    same true = refl
    same false = refl
four-ways false false false true z w f g = refl
four-ways false false false false true w f g = refl
four-ways false false false false false true f g = refl
four-ways false false false false false false f g = refl

module _ (cells : List ℤ) (p q : Bracket) (proper-p : ProperBracket p) (proper-q : ProperBracket q) where
  abbrev out_at : ℕ → ℕ → Bool
  out_at r c = is_out (entry_of cells r c)

  column-single : eqb q.to_high 0 ≡ true → (out_at p.low q.high ≡ out_at p.low q.low) × (out_at p.high q.high ≡ out_at p.high q.low)
  column-single e =
      let same = proper-q.single (eqb-true _ _ e) in
      (ap (out_at p.low) same, ap (out_at p.high) same)

  row-single : eqb p.to_high 0 ≡ true → (out_at p.high q.low ≡ out_at p.low q.low) × (out_at p.high q.high ≡ out_at p.low q.high)
  row-single e =
      let same = proper-p.single (eqb-true _ _ e) in
      (ap (λ (r : ℕ). out_at r q.low) same, ap (λ (r : ℕ). out_at r q.high) same)

  first_weighs : eqb (p.to_low * q.to_low) 0 ≡ false
  first_weighs =
      let some : 0 < p.to_low * q.to_low = mul-pos proper-p.weighted proper-q.weighted in
      ne_eqb (p.to_low * q.to_low) 0 (λ z. omega (arith, some, z))

  -- one of the corners is bad where one of the four is out of bounds
  pub any-bad : (s : List (List Parts)) → s ≡ square_of cells p q → any_bad (bracket_corners cells p q) ≡ any_out s
  unfolding any_bad any_of is_bad bracket_corners square_of
  any-bad s e =
      (λ i. (not (first_weighs i) && out_at p.low q.low)
      || ((not (zero_right p.to_low q.to_high proper-p.weighted i) && out_at p.low q.high)
      || ((not (left i) && out_at p.high q.low)
      || ((not (zero-either p.to_high q.to_high i) && out_at p.high q.high) || false))))
      ∙ four-ways (eqb p.to_high 0) (eqb q.to_high 0) _ _ _ _ column-single row-single
      ∙ sym (ap any_out e)
    where
      left : eqb (p.to_high * q.to_low) 0 ≡ eqb p.to_high 0
      left = ap (λ (n : ℕ). eqb n 0) (mul_comm p.to_high q.to_low) ∙ zero_right q.to_low p.to_high proper-q.weighted

-- the coefficient is worked from the four
pub interpolated-is : (cells : List ℤ) (p q : Bracket) (s : List (List Parts)) → s ≡ square_of cells p q → interpolated_of p q s ≡ bracket_coefficient cells p q
unfolding part_of bracket_coefficient weighed_sum bracket_corners sum_by square_of
interpolated-is cells p q s e =
    let a = entry_of cells p.low q.low in
    let b = entry_of cells p.low q.high in
    let c = entry_of cells p.high q.low in
    let d = entry_of cells p.high q.high in
    let over = p.width * q.width in
    ap (interpolated_of p q) e
    ∙ (λ i. record { re = nearest_ℤ (weighed p q a.re b.re c.re d.re i) over; im = nearest_ℤ (weighed p q a.im b.im c.im d.im i) over })

-- where none is out of bounds both parts of all four are small
pub all_small :
    (s : List (List Parts))
    → any_out s ≡ false
    → CornersInBounds (stands_at s 0 0).re (stands_at s 0 1).re (stands_at s 1 0).re (stands_at s 1 1).re
    × CornersInBounds (stands_at s 0 0).im (stands_at s 0 1).im (stands_at s 1 0).im (stands_at s 1 1).im
all_small s h =
    let (out₁, rest₁) = neither _ _ h in
    let (out₂, rest₂) = neither _ _ rest₁ in
    let (out₃, out₄) = neither _ _ rest₂ in
    let (re₁, im₁) = small-parts _ out₁ in
    let (re₂, im₂) = small-parts _ out₂ in
    let (re₃, im₃) = small-parts _ out₃ in
    let (re₄, im₄) = small-parts _ out₄ in
    (record { low-low = re₁; low-high = re₂; high-low = re₃; high-high = re₄ }, record { low-low = im₁; low-high = im₂; high-low = im₃; high-high = im₄ })
