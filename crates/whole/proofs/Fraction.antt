-- Fractions, compared by cross-multiplying: the order, the size of a sum, and distances. Each is an equation for `ring` and an order of ℤ. Assumes nothing.
use mathlib.Core.Path.{sym, ◌∙◌, ap, subst}
use mathlib.Core.List.{[], ◌∷◌}
use Prim.Native.Nat.{ℕ, suc, ◌+◌, ◌*◌, ◌≤◌, ◌<◌}
use native.Mathlib.Nat.{le_dest, mul-pos, mul-le-mul_right}
use native.Mathlib.Numerals.{one-add}
use native.Mathlib.Omega.{arith}
use lib.IntN.{ℤ, pos, negsuc, neg_ℤ, nat_abs, ◌+ℤ◌, ◌-ℤ◌, ◌*ℤ◌}
use lib.Signed.{◌≤ℤ◌, ≤ℤ_refl, le_z_yes}
use Rattle.whole.specs.Fraction.{Fraction, ◌≤ᶠ◌, ◌≡ᶠ◌, as_fraction, ◌+ᶠ◌, ◌-ᶠ◌, size, distance}
use Rattle.whole.proofs.Ring.{v, ◌⊕◌, ◌⊖◌, ◌⊗◌, ring}
use Rattle.whole.proofs.OrderLaws.{pos-le, le_of_eq, nonneg_pos, nonneg-+, nonneg-*, nonneg-of-le, le-of-nonneg, by-rest}
use Rattle.whole.proofs.Magnitude.{triangle, nat_abs-*}

-- ---- the order

-- a positive factor can be taken out of a number that is not negative
nonneg-out : (z : ℤ) (d : ℕ) → 0 < d → pos 0 ≤ℤ (z *ℤ pos d) → pos 0 ≤ℤ z
nonneg-out (pos n) d h k = nonneg_pos n
nonneg-out (negsuc n) d h k =
    let (m, e) = le_dest (mul-pos {m = suc n} (omega arith) h) in
    absurd (subst (λ (j : ℕ). pos 0 ≤ℤ neg_ℤ (pos j)) (sym e ∙ one-add m) k).le

≤ℤ-cancel : {a b : ℤ} (d : ℕ) → 0 < d → (a *ℤ pos d) ≤ℤ (b *ℤ pos d) → a ≤ℤ b
≤ℤ-cancel {a} {b} d h k =
    le-of-nonneg
    (nonneg-out (b -ℤ a) d h
    (subst (λ z. pos 0 ≤ℤ z) (ring (a ∷ b ∷ pos d ∷ []) (v 1 ⊗ v 2 ⊖ v 0 ⊗ v 2) ((v 1 ⊖ v 0) ⊗ v 2) tt) (nonneg-of-le k)))

pub ≤ᶠ-refl : (x : Fraction) → x ≤ᶠ x
≤ᶠ-refl x = record { crossed = ≤ℤ_refl (x.num *ℤ pos x.den) }

pub ≤ᶠ-of-≡ : {x y : Fraction} → x ≡ᶠ y → x ≤ᶠ y
≤ᶠ-of-≡ e = record { crossed = le_of_eq e.crossed }

pub ≤ᶠ-trans : {x y z : Fraction} → x ≤ᶠ y → y ≤ᶠ z → x ≤ᶠ z
≤ᶠ-trans {x} {y} {z} h k =
    record {
      crossed = ≤ℤ-cancel y.den y.above
          (by-rest (x.num ∷ pos x.den ∷ y.num ∷ pos y.den ∷ z.num ∷ pos z.den ∷ [])
          (v 0 ⊗ v 5 ⊗ v 3)
          (v 4 ⊗ v 1 ⊗ v 3)
          ((v 2 ⊗ v 1 ⊖ v 0 ⊗ v 3) ⊗ v 5 ⊕ (v 4 ⊗ v 3 ⊖ v 2 ⊗ v 5) ⊗ v 1)
          tt
          (nonneg-+ (nonneg-* (nonneg-of-le h.crossed) (nonneg_pos z.den)) (nonneg-* (nonneg-of-le k.crossed) (nonneg_pos x.den))));
    }

pub +ᶠ-mono : {x y z w : Fraction} → x ≤ᶠ y → z ≤ᶠ w → x +ᶠ z ≤ᶠ y +ᶠ w
+ᶠ-mono {x} {y} {z} {w} h k =
    record {
      crossed = by-rest (x.num ∷ pos x.den ∷ y.num ∷ pos y.den ∷ z.num ∷ pos z.den ∷ w.num ∷ pos w.den ∷ [])
          ((v 0 ⊗ v 5 ⊕ v 4 ⊗ v 1) ⊗ (v 3 ⊗ v 7))
          ((v 2 ⊗ v 7 ⊕ v 6 ⊗ v 3) ⊗ (v 1 ⊗ v 5))
          ((v 2 ⊗ v 1 ⊖ v 0 ⊗ v 3) ⊗ (v 5 ⊗ v 7) ⊕ (v 6 ⊗ v 5 ⊖ v 4 ⊗ v 7) ⊗ (v 1 ⊗ v 3))
          tt
          (nonneg-+ (nonneg-* (nonneg-of-le h.crossed) (nonneg_pos (z.den * w.den))) (nonneg-* (nonneg-of-le k.crossed) (nonneg_pos (x.den * y.den))));
    }

-- ---- sizes

-- |a m + b n| ≤ |a| m + |b| n, for naturals m, n
pub weighted : (a b : ℤ) (m n : ℕ) → nat_abs (a *ℤ pos m +ℤ b *ℤ pos n) ≤ nat_abs a * m + nat_abs b * n
weighted a b m n = omega (arith, triangle (a *ℤ pos m) (b *ℤ pos n), nat_abs-* a (pos m), nat_abs-* b (pos n))

-- |x + y| ≤ |x| + |y|
pub size-+ : (x y : Fraction) → size (x +ᶠ y) ≤ᶠ size x +ᶠ size y
size-+ x y = record { crossed = pos-le (mul-le-mul_right (x.den * y.den) (weighted x.num y.num y.den x.den)) }

-- equal fractions have equal sizes
pub size_same : {x y : Fraction} → x ≡ᶠ y → size x ≡ᶠ size y
size_same {x} {y} e =
    record { crossed = ap pos (sym (nat_abs-* x.num (pos y.den)) ∙ ap nat_abs e.crossed ∙ nat_abs-* y.num (pos x.den)) }

-- ---- distances

pub distance-zero : distance (as_fraction (pos 0)) (as_fraction (pos 0)) ≤ᶠ as_fraction (pos 0)
distance-zero = record { crossed = le_z_yes tt }

-- the size of what is, as a fraction, a sum of two
size-of-sum : (x y z : Fraction) → x ≡ᶠ y +ᶠ z → size x ≤ᶠ size y +ᶠ size z
size-of-sum x y z e = ≤ᶠ-trans (≤ᶠ-of-≡ (size_same e)) (size-+ y z)

-- it is no nearer by way of y
pub distance-via : (x y z : Fraction) → distance x z ≤ᶠ distance x y +ᶠ distance y z
distance-via x y z =
    size-of-sum (x -ᶠ z) (x -ᶠ y) (y -ᶠ z)
    record {
      crossed = ring (x.num ∷ pos x.den ∷ y.num ∷ pos y.den ∷ z.num ∷ pos z.den ∷ [])
          ((v 0 ⊗ v 5 ⊖ v 4 ⊗ v 1) ⊗ (v 1 ⊗ v 3 ⊗ (v 3 ⊗ v 5)))
          (((v 0 ⊗ v 3 ⊖ v 2 ⊗ v 1) ⊗ (v 3 ⊗ v 5) ⊕ (v 2 ⊗ v 5 ⊖ v 4 ⊗ v 3) ⊗ (v 1 ⊗ v 3)) ⊗ (v 1 ⊗ v 5))
          tt;
    }

-- the distance of two sums is at most the sum of the distances
pub distance-+ : (x y z w : Fraction) → distance (x +ᶠ y) (z +ᶠ w) ≤ᶠ distance x z +ᶠ distance y w
distance-+ x y z w =
    size-of-sum ((x +ᶠ y) -ᶠ (z +ᶠ w)) (x -ᶠ z) (y -ᶠ w)
    record {
      crossed = ring (x.num ∷ pos x.den ∷ y.num ∷ pos y.den ∷ z.num ∷ pos z.den ∷ w.num ∷ pos w.den ∷ [])
          (((v 0 ⊗ v 3 ⊕ v 2 ⊗ v 1) ⊗ (v 5 ⊗ v 7) ⊖ (v 4 ⊗ v 7 ⊕ v 6 ⊗ v 5) ⊗ (v 1 ⊗ v 3)) ⊗ (v 1 ⊗ v 5 ⊗ (v 3 ⊗ v 7)))
          (((v 0 ⊗ v 5 ⊖ v 4 ⊗ v 1) ⊗ (v 3 ⊗ v 7) ⊕ (v 2 ⊗ v 7 ⊖ v 6 ⊗ v 3) ⊗ (v 1 ⊗ v 5)) ⊗ (v 1 ⊗ v 3 ⊗ (v 5 ⊗ v 7)))
          tt;
    }
