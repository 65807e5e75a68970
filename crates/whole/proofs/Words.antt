-- Signed words: what a signed local's bits stand for, what fits, and what a test for `< 0` tells. `z within n`, |z| < n, goes through sums, differences and
-- products with nothing written but the operations, and `fits tt` compares the last bound with the width's half. Assumes nothing.
use mathlib.Core.Path.{◌≡◌, refl, sym, ◌∙◌, ap, subst}
use mathlib.Core.Bool.{Bool, true, false, not}
use mathlib.Core.List.{[], ◌∷◌}
use Prim.Native.Nat.{ℕ, zero, suc, ◌+◌, ◌*◌, ◌-◌, ◌^◌, ◌≤◌, ◌<◌, zero-le}
use native.Mathlib.Nat.{le_refl, le-suc, lt_of_le_of_lt, lt_of_lt_of_le, mul-le-mul}
use native.Mathlib.Omega.{arith}
use borrow.Author.Tests.{le-ltb}
use lib.Dec.{T, leb, leb→le}
use lib.IntN.{ℤ, pos, negsuc, neg_ℤ, nat_abs, ◌+ℤ◌, ◌-ℤ◌, ◌*ℤ◌}
use lib.Signed.{mag, non_neg, lt_z}
use mir.Syntax.{Width, w32, w64}
use mir.Val.{SFits, hbits, to_z, of_z}
use mir.Facts.{to_z-of_z, sfits_to_z, Fits-of_z, sfits_widen}
use Rattle.whole.proofs.Ring.{v, num, con, ◌⊕◌, ◌⊖◌, ⊝◌, ring}
use Rattle.whole.proofs.OrderLaws.{pos-sub}
use Rattle.whole.proofs.Magnitude.{triangle, triangle-sub, nat_abs-neg, nat_abs-*}

-- ---- `mag`, by which a width's range is stated, is the size, or one less of a negative number

pub mag-le : (z : ℤ) → mag z ≤ nat_abs z
mag-le (pos n) = le_refl n
mag-le (negsuc n) = le-suc n

pub nat_abs-le-mag : (z : ℤ) → nat_abs z ≤ suc (mag z)
nat_abs-le-mag (pos n) = le-suc n
nat_abs-le-mag (negsuc n) = le_refl (suc n)

-- ---- within

infix 5 ◌within◌
pub record ◌within◌ (z : ℤ) (n : ℕ) : Type 0 where
  pub small : nat_abs z < n

-- what is within the width's half fits: `fits tt h` where the bound is a numeral
pub fits : {w : Width} {z : ℤ} {n : ℕ} → T (leb n (2 ^ hbits w)) → z within n → SFits w z
fits {w} {z} {n} t h = record { sfits = lt_of_lt_of_le (lt_of_le_of_lt (mag-le z) h.small) (leb→le n (2 ^ hbits w) t) }

-- and what fits is within one more, for the width's least number
pub within-fits : {w : Width} {z : ℤ} → SFits w z → z within suc (2 ^ hbits w)
within-fits {w} {z} f = record { small = omega (arith, nat_abs-le-mag z, f.sfits) }

pub within-pos : {n m : ℕ} → n < m → pos n within m
within-pos h = record { small = h }

pub within-mono : {z : ℤ} {m n : ℕ} → m ≤ n → z within m → z within n
within-mono l h = record { small = lt_of_lt_of_le h.small l }

pub within-+ : {a b : ℤ} {m n : ℕ} → a within m → b within n → a +ℤ b within m + n
within-+ {a} {b} h k = record { small = omega (arith, triangle a b) }

pub within-- : {a b : ℤ} {m n : ℕ} → a within m → b within n → a -ℤ b within m + n
within-- {a} {b} h k = record { small = omega (arith, triangle-sub a b) }

pub within-neg : {a : ℤ} {m : ℕ} → a within m → neg_ℤ a within m
within-neg {a} h = record { small = omega (arith, nat_abs-neg a) }

pub within-* : {a b : ℤ} {m n : ℕ} → a within m → b within n → a *ℤ b within m * n
within-* {a} {b} {m} {n} h k = record { small = omega (arith, nat_abs-* a b, mul-le-mul h.small k.small) }

-- ---- a word of 32 bits, read back from its bits and made one of 64, and what is read back from those

pub wide_fits : {z : ℤ} → SFits w32 z → SFits w64 (to_z w32 (of_z w32 z))
wide_fits f = sfits_widen tt (sfits_to_z (Fits-of_z f))

pub wide_is : {z : ℤ} → SFits w32 z → to_z w64 (of_z w64 (to_z w32 (of_z w32 z))) ≡ z
wide_is f = to_z-of_z (wide_fits f) ∙ to_z-of_z f

-- ---- signs

-- what a test `z < 0` of a word tells
pub below-zero : (z : ℤ) → non_neg z ≡ not (lt_z z (pos 0))
below-zero (pos n) = sym (ap not (le-ltb n 0 zero-le))
below-zero (negsuc n) = refl

pub tested : (w : Width) (z : ℤ) (b : Bool) → SFits w z → lt_z (to_z w (of_z w z)) (pos 0) ≡ b → non_neg z ≡ not b
tested w z b f e = below-zero z ∙ ap not (subst (λ (v : ℤ). lt_z v (pos 0) ≡ b) (to_z-of_z f) e)

-- a number by its sign and its size
pub is_pos : (z : ℤ) → non_neg z ≡ true → z ≡ pos (nat_abs z)
is_pos (pos n) e = refl
is_pos (negsuc n) e = absurd (subst T (sym e) tt)

pub is-neg : (z : ℤ) → non_neg z ≡ false → z ≡ neg_ℤ (pos (nat_abs z))
is-neg (pos n) e = absurd (subst T e tt)
is-neg (negsuc n) e = refl

-- -1 - z of a negative z, which fits wherever z does, is its size less one
pub one_less : (z : ℤ) → non_neg z ≡ false → negsuc 0 -ℤ z ≡ pos (mag z)
one_less (pos n) e = absurd (subst T e tt)
one_less (negsuc n) e =
    let f : suc n - 1 ≡ n = omega arith in
    ring (pos (suc n) ∷ []) (con (negsuc 0) ⊖ ⊝ v 0) (v 0 ⊖ num 1) tt ∙ sym (pos-sub (omega arith)) ∙ ap pos f

pub mag-positive : (z : ℤ) → non_neg z ≡ true → mag z ≡ nat_abs z
mag-positive (pos n) e = refl
mag-positive (negsuc n) e = absurd (subst T (sym e) tt)

pub mag-negative : (z : ℤ) → non_neg z ≡ false → mag z + 1 ≡ nat_abs z
mag-negative (pos n) e = absurd (subst T e tt)
mag-negative (negsuc n) e = omega arith

-- and back: -1 - k is -(k + 1)
pub one_more : (k : ℕ) → negsuc 0 -ℤ pos k ≡ neg_ℤ (pos (k + 1))
one_more k = ring (pos k ∷ []) (con (negsuc 0) ⊖ v 0) (⊝ (v 0 ⊕ num 1)) tt

-- -n fits up to the width's least number
pub neg-fits : {w : Width} (n : ℕ) → n ≤ 2 ^ hbits w → 0 < 2 ^ hbits w → SFits w (neg_ℤ (pos n))
neg-fits {w} n h p = record { sfits = size n h }
  where
    size : (n : ℕ) → n ≤ 2 ^ hbits w → mag (neg_ℤ (pos n)) < 2 ^ hbits w
    size zero h = p
    size (suc n) h = h
