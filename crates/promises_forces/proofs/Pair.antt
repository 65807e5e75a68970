-- One pair of lines: by how much the term over the rounded coefficient is off. With w the product of the amplitudes, z the numerators of the phase over P, u = w z, and d
-- the coefficient's rounding error, the term is off by Re (u d), and that is at most (|Re u| + |Im u|) / 2. Assumes nothing.
use mathlib.Core.Path.{◌≡◌, ◌∙◌, ap, subst}
use mathlib.Core.Bool.{Bool, true, false, cond}
use mathlib.Core.List.{[], ◌∷◌}
use Prim.Native.Nat.{ℕ, ◌+◌, ◌*◌, ◌^◌, ◌≤◌, ◌<◌}
use native.Mathlib.Nat.{mul-le-mul, mul-le-mul_left, mul-le-mul_right, mul-pos}
use native.Mathlib.Omega.{arith}
use lib.Dec.{eqb, lit<}
use lib.IntN.{ℤ, pos, nat_abs, ◌-ℤ◌, ◌*ℤ◌}
use Rattle.whole.specs.Complex.{Complex, ◌*ᶜ◌, conj, sizes, squares}
use Rattle.whole.proofs.Ring.{v, ◌⊖◌, ◌⊗◌, ring}
use Rattle.whole.proofs.Magnitude.{nat_abs-*, le-of-square-le}
use Rattle.whole.proofs.Complex.{ComplexExpr, ◌⊙◌, parts, squares-*, squares-conj, squares-le, sizes-square-le}
use Rattle.phase.specs.Turn.{Quarter, phase_ℤ}
use Rattle.phase.specs.Rule.{Rule, limits}
use Rattle.phase.proofs.Bounds.{circle-le}
use Rattle.table.specs.View.{View}
use Rattle.load.specs.Corners.{coefficient}
use Rattle.load.specs.Force.{LocatedLine, amplitudes, step_of, term_of, term}
use Rattle.load.proofs.Ranges.{re-le, sizes_of}
use Rattle.promises_forces.specs.Demand.{ratio, linear_top, linear_over, amplitudes_of, turned, exact_term}
use Rattle.promises_forces.proofs.Near.{Near, near-over}

-- ---- the size of u = w z

-- the square of twice the size s, in naturals: (2 s)² ≤ 8 W Z ≤ (3 P b)²
root : (s n W Z P b : ℕ) → s * s ≤ 2 * n → n ≡ W * Z → W ≤ b * b → 8 * Z ≤ 9 * (P * P) → 2 * s ≤ 3 * (P * b)
root s n W Z P b h e k l = le-of-square-le (omega (arith, mul-le-mul k l))

rotated : (P b : ℕ) (w z : Complex) → squares w ≤ b * b → 8 * squares z ≤ 9 * (P * P) → 2 * sizes (w *ᶜ z) ≤ 3 * (P * b)
rotated P b w z h k =
    root (sizes (w *ᶜ z)) (squares (w *ᶜ z)) (squares w) (squares z) P b (sizes-square-le (w *ᶜ z)) (squares-* w z) h k

-- the product of two amplitudes: |w|² = |a(m)|² |a(n)|² ≤ (A(m) A(n))²
product : (s a b x y : ℕ) → s ≡ a * b → a ≤ x * x → b ≤ y * y → s ≤ x * y * (x * y)
product s a b x y e h k = omega (arith, mul-le-mul h k)

amplitudes-squares : (kind : ℕ) (a b : Complex) → squares (amplitudes kind a b) ≤ sizes a * sizes b * (sizes a * sizes b)
unfolding amplitudes
amplitudes-squares kind a b = go (eqb kind 0)
  where
    go : (t : Bool) → squares (cond t (a *ᶜ conj b) (a *ᶜ b)) ≤ sizes a * sizes b * (sizes a * sizes b)
    go true =
        product (squares (a *ᶜ conj b)) (squares a) (squares b) (sizes a) (sizes b)
        (squares-* a (conj b) ∙ ap (λ (k : ℕ). squares a * k) (squares-conj b))
        (squares-le a)
        (squares-le b)
    go false = product (squares (a *ᶜ b)) (squares a) (squares b) (sizes a) (sizes b) (squares-* a b) (squares-le a) (squares-le b)

-- cosine squared plus sine squared is close to 2^60: eight times the one is at most nine times the other
circle : {clock : Quarter} → Rule limits clock → (k : ℤ) → 8 * squares (phase_ℤ clock k) ≤ 9 * (2 ^ 30 * 2 ^ 30)
circle keeps k = omega (arith, circle-le keeps k)

-- ---- Re (u d)

-- (x, y are the sizes of u's parts, and r, i those of d's)
parts-le : (c e s x y r i : ℕ) → s ≤ x * r + y * i → c * r ≤ e → c * i ≤ e → c * s ≤ (x + y) * e
parts-le c e s x y r i h k l = omega (arith, mul-le-mul_left c h, mul-le-mul_left x k, mul-le-mul_left y l)

-- |Re (u d)| ≤ (|Re u| + |Im u|) e / c, where both parts of d are at most e / c
real-part : (c e : ℕ) (u d : Complex) → c * nat_abs d.re ≤ e → c * nat_abs d.im ≤ e → c * nat_abs (u *ᶜ d).re ≤ sizes u * e
real-part c e u d h k =
    parts-le c e (nat_abs (u *ᶜ d).re) (nat_abs u.re) (nat_abs u.im) (nat_abs d.re) (nat_abs d.im)
    (re-le u d)
    h
    k

-- ---- the term

-- what rounding to q leaves of the numerators t over D
abbrev pub left_over : Complex → Complex → ℕ → Complex
left_over t q D = record { re = t.re -ℤ q.re *ℤ pos D; im = t.im -ℤ q.im *ℤ pos D }

-- w t z / (D P) and w q z / P differ by w z d / (D P): here times D P P, real parts
term-off : (w t q z : Complex) (D P : ℕ) →
    ((w *ᶜ z) *ᶜ left_over t q D).re *ℤ pos P
    ≡ (w *ᶜ t *ᶜ z).re *ℤ pos P -ℤ (w *ᶜ q *ᶜ z).re *ℤ pos (D * P)
term-off w t q z D P =
    let W = parts 0 1 in
    let T = parts 2 3 in
    let Q = parts 4 5 in
    let Z = parts 6 7 in
    let E : ComplexExpr = record { re = v 2 ⊖ v 4 ⊗ v 8; im = v 3 ⊖ v 5 ⊗ v 8 } in
    ring (w.re ∷ w.im ∷ t.re ∷ t.im ∷ q.re ∷ q.im ∷ z.re ∷ z.im ∷ pos D ∷ pos P ∷ [])
    ((W ⊙ Z ⊙ E).re ⊗ v 9)
    ((W ⊙ T ⊙ Z).re ⊗ v 9 ⊖ (W ⊙ Q ⊙ Z).re ⊗ (v 8 ⊗ v 9))
    tt

-- (r is |Re (u d)|, c / 2 of D bounds d's parts: c is 1, or 0 where the coefficient is exact)
scaled : (r s c D P b : ℕ) → 2 * r ≤ s * (c * D) → 2 * s ≤ 3 * (P * b) → 4 * (r * P) ≤ 3 * c * b * (D * P * P)
scaled r s c D P b h k = omega (arith, mul-le-mul_right (2 * P) h, mul-le-mul_right (c * D * P) k)

-- w q z / P is near w t z / (D P)
module _ (P c b D : ℕ) (w z t q : Complex) (above : 0 < D * P) where
  near-term : 2 * nat_abs (left_over t q D).re ≤ c * D → 2 * nat_abs (left_over t q D).im ≤ c * D → 2 * sizes (w *ᶜ z) ≤ 3 * (P * b)
      → Near P (ratio (w *ᶜ t *ᶜ z).re (D * P)) (w *ᶜ q *ᶜ z).re (3 * c * b)
  near-term h k l =
      let u = w *ᶜ z in
      let r = nat_abs (u *ᶜ left_over t q D).re in
      let e : nat_abs ((u *ᶜ left_over t q D).re *ℤ pos P) ≡ r * P = nat_abs-* (u *ᶜ left_over t q D).re (pos P) in
      let n : 4 * nat_abs ((u *ᶜ left_over t q D).re *ℤ pos P) ≤ 3 * c * b * (D * P * P) =
      rw e (scaled r (sizes u) c D P b (real-part 2 (c * D) u (left_over t q D) h k) l) in
      near-over P (w *ᶜ t *ᶜ z).re (D * P) (w *ᶜ q *ᶜ z).re (3 * c * b) above
      (subst (λ x. 4 * nat_abs x ≤ 3 * c * b * (D * P * P)) (term-off w t q z D P) n)

-- ---- two lines

module _ {clock : Quarter} (keeps : Rule limits clock) (kind : ℕ) (table : View) (t : ℕ) (m n : LocatedLine) where
  -- (|Re u| + |Im u|) / 2^30 ≤ 3/2 A(m) A(n)
  pair-turned : 2 * sizes (amplitudes_of kind m n *ᶜ turned clock kind t m n) ≤ 3 * (2 ^ 30 * (sizes_of m * sizes_of n))
  pair-turned =
      let k = step_of kind t m.line.tick n.line.tick in
      rotated (2 ^ 30) (sizes_of m * sizes_of n) (amplitudes_of kind m n) (phase_ℤ clock k)
      (amplitudes-squares kind m.line.amplitude n.line.amplitude)
      (circle keeps k)

  -- what rounding leaves of the coefficient's numerators
  abbrev pub left : Complex
  left = left_over (linear_top table m n) (coefficient table m.point n.point) (linear_over m n)

  -- the term is near the exact term: off by at most 3/4 A(m) A(n), and by c times that where c D bounds twice what rounding leaves
  pub pair-near : (c : ℕ) → 0 < linear_over m n → 2 * nat_abs left.re ≤ c * linear_over m n → 2 * nat_abs left.im ≤ c * linear_over m n
      → Near (2 ^ 30) (exact_term clock kind table t m n) (term clock kind table t m n) (3 * c * (sizes_of m * sizes_of n))
  unfolding term term_of exact_term
  pair-near c above h k =
      near-term (2 ^ 30) c (sizes_of m * sizes_of n) (linear_over m n) (amplitudes_of kind m n) (turned clock kind t m n) (linear_top table m n)
      (coefficient table m.point n.point)
      (mul-pos above (lit< tt))
      h
      k
      pair-turned
