-- A fraction x is near k / P: |x - k / P| ≤ b / 4. What is near adds up, term by term; and a whole number that is k / P rounded is near x. No common denominator and no
-- division is needed anywhere. Assumes nothing.
use mathlib.Core.Path.{◌≡◌, sym, ◌∙◌, ap, subst}
use mathlib.Core.List.{List, [], ◌∷◌, Memᴰ}
use mathlib.Core.Path.{refl}
use Prim.Native.Nat.{ℕ, zero, suc, ◌+◌, ◌*◌, ◌≤◌, ◌<◌}
use native.Mathlib.Nat.{mul-le-mul_right, le_of_mul-le-mul_right}
use native.Mathlib.Omega.{arith}
use lib.IntN.{ℤ, pos, neg_ℤ, nat_abs, ◌+ℤ◌, ◌-ℤ◌, ◌*ℤ◌}
use Rattle.whole.specs.Fraction.{Fraction, ◌≤ᶠ◌, ◌≡ᶠ◌, as_fraction, ◌+ᶠ◌, distance}
use Rattle.whole.specs.Sum.{sum_by, sum_ℤ, sum_ℕ, sumᶠ}
use Rattle.whole.proofs.Laws.{*ℤ-1ʳ}
use Rattle.whole.proofs.OrderLaws.{pos-le}
use Rattle.whole.proofs.Ring.{v, num, ◌⊕◌, ◌⊖◌, ◌⊗◌, ⊝◌, ring, times, ring-from}
use Rattle.whole.proofs.Magnitude.{nat_abs-neg, nat_abs-*}
use Rattle.whole.proofs.Fraction.{weighted}
use Rattle.promises_forces.specs.Demand.{ratio, half, quarters}

pub record Near (P : ℕ) (x : Fraction) (k : ℤ) (b : ℕ) : Type 0 where
  pub near : 4 * nat_abs (x.num *ℤ pos P -ℤ k *ℤ pos x.den) ≤ b * (x.den * P)

-- a numerator over a denominator that is not 0
pub near-over : (P : ℕ) (z : ℤ) (d : ℕ) (k : ℤ) (b : ℕ) → 0 < d → 4 * nat_abs (z *ℤ pos P -ℤ k *ℤ pos d) ≤ b * (d * P) → Near P (ratio z d) k b
near-over P z zero k b h n = absurd (omega arith)
near-over P z (suc d) k b h n = record { near = n }

-- ---- sums

-- (s and t are by how much x and y are off, times what is common)
sum_of : (P s t d e b c : ℕ) → 4 * s ≤ b * (d * P) → 4 * t ≤ c * (e * P) → 4 * (s * e + t * d) ≤ (b + c) * (d * e * P)
sum_of P s t d e b c h k = omega (arith, mul-le-mul_right e h, mul-le-mul_right d k)

near-+ : {P : ℕ} {x y : Fraction} {k l : ℤ} {b c : ℕ} → Near P x k b → Near P y l c → Near P (x +ᶠ y) (k +ℤ l) (b + c)
near-+ {P} {x} {y} {k} {l} {b} {c} h g =
    let s = x.num *ℤ pos P -ℤ k *ℤ pos x.den in
    let t = y.num *ℤ pos P -ℤ l *ℤ pos y.den in
    let e : s *ℤ pos y.den +ℤ t *ℤ pos x.den ≡ (x +ᶠ y).num *ℤ pos P -ℤ (k +ℤ l) *ℤ pos (x.den * y.den) =
    ring (x.num ∷ pos x.den ∷ y.num ∷ pos y.den ∷ k ∷ l ∷ pos P ∷ [])
    ((v 0 ⊗ v 6 ⊖ v 4 ⊗ v 1) ⊗ v 3 ⊕ (v 2 ⊗ v 6 ⊖ v 5 ⊗ v 3) ⊗ v 1)
    ((v 0 ⊗ v 3 ⊕ v 2 ⊗ v 1) ⊗ v 6 ⊖ (v 4 ⊕ v 5) ⊗ (v 1 ⊗ v 3))
    tt in
    record {
      near = subst (λ z. 4 * nat_abs z ≤ (b + c) * (x.den * y.den * P)) e
          (omega (arith, weighted s t y.den x.den, sum_of P (nat_abs s) (nat_abs t) x.den y.den b c h.near g.near));
    }

-- sums over a list, one of fractions and one of whole numbers, whose terms are near
pub near-sum : {A : Type 0} (P : ℕ) (xs : List A) (f : A → Fraction) (g : A → ℤ) (b : A → ℕ)
    → ((x : A) → Memᴰ x xs → Near P (f x) (g x) (b x))
    → Near P (sumᶠ xs f) (sum_ℤ xs g) (sum_ℕ xs b)
unfolding sum_by
near-sum P [] f g b h = record { near = omega arith }
near-sum P (x ∷ xs) f g b h =
    near-+ (h x (Memᴰ.head refl)) (near-sum P xs f g b (λ y m. h y (Memᴰ.tail m)))

-- ---- the rounded sum

-- |q - x| ≤ 1/2 + b/4, with the denominators multiplied away
abbrev pub Apart : ℤ → Fraction → ℕ → Type 0
Apart q x b = 4 * nat_abs (q *ℤ pos x.den -ℤ x.num) ≤ (2 + b) * x.den

-- q is k / P rounded, 2 |k - q P| ≤ P, and x is near k / P: 4 |q - x| ≤ 2 + b, cross-multiplied
rounding : (P s t u d b : ℕ) → 0 < P → u * P ≤ s * d + t → 2 * s ≤ P → 4 * t ≤ b * (d * P) → 4 * u ≤ (2 + b) * d
rounding P s t u d b p h k l =
    let m : 4 * u * P ≤ (2 + b) * d * P = omega (arith, mul-le-mul_right d k) in
    le_of_mul-le-mul_right m p

pub near-rounded : {P : ℕ} {x : Fraction} {k : ℤ} {b : ℕ} (q : ℤ) → 0 < P → 2 * nat_abs (k -ℤ q *ℤ pos P) ≤ P → Near P x k b → Apart q x b
near-rounded {P} {x} {k} {b} q p r h =
    let s = k -ℤ q *ℤ pos P in
    let t = x.num *ℤ pos P -ℤ k *ℤ pos x.den in
    let u = q *ℤ pos x.den -ℤ x.num in
    let e : s *ℤ pos x.den +ℤ t *ℤ pos 1 ≡ neg_ℤ u *ℤ pos P =
    ring (x.num ∷ pos x.den ∷ k ∷ q ∷ pos P ∷ [])
    ((v 2 ⊖ v 3 ⊗ v 4) ⊗ v 1 ⊕ (v 0 ⊗ v 4 ⊖ v 2 ⊗ v 1) ⊗ num 1)
    (⊝ (v 3 ⊗ v 1 ⊖ v 0) ⊗ v 4)
    tt in
    let f : nat_abs (neg_ℤ u *ℤ pos P) ≡ nat_abs u * P = nat_abs-* (neg_ℤ u) (pos P) ∙ ap (λ (n : ℕ). n * P) (nat_abs-neg u) in
    let g : nat_abs (neg_ℤ u *ℤ pos P) ≤ nat_abs s * x.den + nat_abs t * 1 =
    subst (λ z. nat_abs z ≤ nat_abs s * x.den + nat_abs t * 1) e (weighted s t x.den 1) in
    rounding P (nat_abs s) (nat_abs t) (nat_abs u) x.den b p (omega (arith, f, g)) r h.near

-- ---- as fractions

pub apart-allowed : (q : ℤ) (x : Fraction) (b : ℕ) → Apart q x b → distance (as_fraction q) x ≤ᶠ half +ᶠ quarters b
apart-allowed q x b h = record { crossed = pos-le (subst (λ z. Times z) (sym (*ℤ-1ʳ x.num)) (omega (arith, h))) }
  where
    Times : ℤ → Type 0
    Times z = nat_abs (q *ℤ pos x.den -ℤ z) * 8 ≤ (4 + b * 2) * (1 * x.den)

pub apart-half : (q : ℤ) (x : Fraction) → Apart q x 0 → distance (as_fraction q) x ≤ᶠ half
apart-half q x h = record { crossed = pos-le (subst (λ z. Times z) (sym (*ℤ-1ʳ x.num)) (omega (arith, h))) }
  where
    Times : ℤ → Type 0
    Times z = nat_abs (q *ℤ pos x.den -ℤ z) * 2 ≤ 1 * (1 * x.den)

-- the same of an equal fraction
pub apart-same : (q : ℤ) (x y : Fraction) (b : ℕ) → x ≡ᶠ y → Apart q x b → Apart q y b
apart-same q x y b e h =
    let s = q *ℤ pos x.den -ℤ x.num in
    let t = q *ℤ pos y.den -ℤ y.num in
    let f : t *ℤ pos x.den ≡ s *ℤ pos y.den =
    ring-from (q ∷ x.num ∷ pos x.den ∷ y.num ∷ pos y.den ∷ [])
    (times (num 1) (v 1 ⊗ v 4) (v 3 ⊗ v 2) e.crossed ∷ [])
    ((v 0 ⊗ v 4 ⊖ v 3) ⊗ v 2)
    ((v 0 ⊗ v 2 ⊖ v 1) ⊗ v 4)
    tt in
    let n : nat_abs t * x.den ≡ nat_abs s * y.den = sym (nat_abs-* t (pos x.den)) ∙ ap nat_abs f ∙ nat_abs-* s (pos y.den) in
    let m : 4 * nat_abs t * x.den ≤ (2 + b) * y.den * x.den = omega (arith, n, mul-le-mul_right y.den h) in
    le_of_mul-le-mul_right m x.above
