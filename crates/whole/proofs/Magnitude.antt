-- Magnitudes: |x| is `nat_abs x` of `lib.IntN`, a natural. The triangle inequality, |a b| = |a| |b|, what |x| ≤ n says, and squares of naturals.
-- On ℕ `omega arith` multiplies products out, so it proves any polynomial equation, and any order that is linear in the monomials: what is
-- left to a proof is to hand over the products that are not negative, or to write y as x + k. Assumes nothing.
use mathlib.Core.Path.{◌≡◌, refl, sym, ◌∙◌, ap, subst}
use mathlib.Core.List.{[], ◌∷◌}
use mathlib.Core.Logic.{◌↔◌, ◌⊎◌, inl, inr, ⊎_elim}
use Prim.Native.Nat.{ℕ, zero, suc, ◌+◌, ◌*◌, ◌≤◌, ◌<◌}
use native.Mathlib.Nat.{le_refl, le_of_lt, le_dest, mul-le-mul, lt_of_not-le}
use native.Mathlib.Decide.{dec_le}
use native.Mathlib.Omega.{arith}
use lib.IntN.{ℤ, pos, negsuc, neg_ℤ, nat_abs, sub_ℕ, ◌+ℤ◌, ◌-ℤ◌, ◌*ℤ◌}
use lib.Dec.{leb→le}
use lib.Signed.{◌≤ℤ◌, le_z_yes, ≤ℤ_refl}
use Rattle.whole.proofs.Ring.{v, ◌⊕◌, ◌⊖◌, ⊝◌, ring}
use Rattle.whole.proofs.OrderLaws.{subℕ-ind, pos-le, le-pos, nonneg_pos, neg_ℤ-anti, ≤ℤ-trans}

-- ---- the sign does not count

pub nat_abs-neg : (a : ℤ) → nat_abs (neg_ℤ a) ≡ nat_abs a
nat_abs-neg (pos zero) = refl
nat_abs-neg (pos (suc n)) = refl
nat_abs-neg (negsuc n) = refl

pub nat_abs-zero : (a : ℤ) → nat_abs a ≡ 0 → a ≡ pos 0
nat_abs-zero (pos n) e = ap pos e
nat_abs-zero (negsuc n) e = absurd (omega arith)

-- ---- the triangle inequality

-- |a - b| of two naturals is at most their sum
nat_abs-sub_ℕ : (a b : ℕ) → nat_abs (sub_ℕ a b) ≤ a + b
nat_abs-sub_ℕ a b = subℕ-ind (λ z. nat_abs z ≤ a + b) a b (λ h. omega arith) (λ h. omega arith)

pub triangle : (a b : ℤ) → nat_abs (a +ℤ b) ≤ nat_abs a + nat_abs b
triangle (pos a) (pos b) = le_refl (a + b)
triangle (pos a) (negsuc b) = nat_abs-sub_ℕ a (suc b)
triangle (negsuc a) (pos b) = omega (arith, nat_abs-sub_ℕ b (suc a))
triangle (negsuc a) (negsuc b) = omega arith

pub triangle-sub : (a b : ℤ) → nat_abs (a -ℤ b) ≤ nat_abs a + nat_abs b
triangle-sub a b = omega (arith, triangle a (neg_ℤ b), nat_abs-neg b)

-- |a - c| ≤ |a - b| + |b - c|
pub triangle-via : (a b c : ℤ) → nat_abs (a -ℤ c) ≤ nat_abs (a -ℤ b) + nat_abs (b -ℤ c)
triangle-via a b c =
    subst (λ z. nat_abs z ≤ nat_abs (a -ℤ b) + nat_abs (b -ℤ c))
    (ring (a ∷ b ∷ c ∷ []) ((v 0 ⊖ v 1) ⊕ (v 1 ⊖ v 2)) (v 0 ⊖ v 2) tt)
    (triangle (a -ℤ b) (b -ℤ c))

-- |a - b| = |b - a|
pub nat_abs-sub-comm : (a b : ℤ) → nat_abs (a -ℤ b) ≡ nat_abs (b -ℤ a)
nat_abs-sub-comm a b =
    sym (nat_abs-neg (a -ℤ b)) ∙ ap nat_abs (ring (a ∷ b ∷ []) (⊝ (v 0 ⊖ v 1)) (v 1 ⊖ v 0) tt)

-- ---- the product

pub nat_abs-* : (a b : ℤ) → nat_abs (a *ℤ b) ≡ nat_abs a * nat_abs b
nat_abs-* (pos a) (pos b) = refl
nat_abs-* (pos a) (negsuc b) = nat_abs-neg (pos (a * suc b))
nat_abs-* (negsuc a) (pos b) = nat_abs-neg (pos (suc a * b))
nat_abs-* (negsuc a) (negsuc b) = refl

-- ---- |x| ≤ n is -n ≤ x ≤ n

pub le-nat_abs : (x : ℤ) → x ≤ℤ pos (nat_abs x)
le-nat_abs (pos n) = pos-le (le_refl n)
le-nat_abs (negsuc n) = le_z_yes tt

pub neg-nat_abs-le : (x : ℤ) → neg_ℤ (pos (nat_abs x)) ≤ℤ x
neg-nat_abs-le (pos zero) = nonneg_pos 0
neg-nat_abs-le (pos (suc n)) = le_z_yes tt
neg-nat_abs-le (negsuc n) = ≤ℤ_refl (negsuc n)

pub nat_abs-le-of : (x : ℤ) (n : ℕ) → neg_ℤ (pos n) ≤ℤ x → x ≤ℤ pos n → nat_abs x ≤ n
nat_abs-le-of (pos m) n h k = le-pos k
nat_abs-le-of (negsuc m) n h k = go n h
  where
    go : (n : ℕ) → neg_ℤ (pos n) ≤ℤ negsuc m → suc m ≤ n
    go zero h = absurd h.le
    go (suc n) h = omega (arith, leb→le m n h.le)

pub nat_abs-le-iff : (x : ℤ) (n : ℕ) → (nat_abs x ≤ n) ↔ ((neg_ℤ (pos n) ≤ℤ x) × (x ≤ℤ pos n))
nat_abs-le-iff x n =
    ((λ h. (≤ℤ-trans (neg_ℤ-anti (pos-le h)) (neg-nat_abs-le x), ≤ℤ-trans (le-nat_abs x) (pos-le h))), (λ b. nat_abs-le-of x n b.0 b.1))

-- ---- squares of naturals

-- two naturals, one of which is the other and something more
pub le-or-ge : (x y : ℕ) → ((k : ℕ) × (x + k ≡ y)) ⊎ ((k : ℕ) × (y + k ≡ x))
le-or-ge x y = go (dec_le x y)
  where
    go : Dec (x ≤ y) → ((k : ℕ) × (x + k ≡ y)) ⊎ ((k : ℕ) × (y + k ≡ x))
    go (yes h) = inl (le_dest h)
    go (no f) = inr (le_dest (le_of_lt (lt_of_not-le f)))

-- (x + y)² ≤ 2 (x² + y²): with y = x + k the rest is k², which `omega` knows to be at least 0
pub sum-square-le : (x y : ℕ) → (x + y) * (x + y) ≤ 2 * (x * x + y * y)
sum-square-le x y =
    ⊎_elim
    (λ (d : (k : ℕ) × (x + k ≡ y)). subst (λ (z : ℕ). (x + z) * (x + z) ≤ 2 * (x * x + z * z)) d.1 (up x d.0))
    (λ (d : (k : ℕ) × (y + k ≡ x)). subst (λ (z : ℕ). (z + y) * (z + y) ≤ 2 * (z * z + y * y)) d.1 (down y d.0))
    (le-or-ge x y)
  where
    up : (x k : ℕ) → (x + (x + k)) * (x + (x + k)) ≤ 2 * (x * x + (x + k) * (x + k))
    up x k = omega arith

    down : (y k : ℕ) → (y + k + y) * (y + k + y) ≤ 2 * ((y + k) * (y + k) + y * y)
    down y k = omega arith

-- squares are ordered as the numbers are
pub square-mono : {x y : ℕ} → x ≤ y → x * x ≤ y * y
square-mono h = mul-le-mul h h

pub square-mono-lt : {x y : ℕ} → x < y → x * x < y * y
square-mono-lt {x} {y} h = omega (arith, mul-le-mul h h)

pub le-of-square-le : {x y : ℕ} → x * x ≤ y * y → x ≤ y
le-of-square-le {x} {y} h = go (dec_le x y)
  where
    go : Dec (x ≤ y) → x ≤ y
    go (yes k) = k
    go (no f) = absurd (omega (arith, square-mono-lt (lt_of_not-le f)))
