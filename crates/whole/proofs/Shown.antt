-- The solver `ring` at work, on identities of the kind that the force and its bound ask for. In each, the list names the numbers that v 0, v 1, .. stand
-- for, and the two sides are written once more with ⊕ ⊖ ⊗. Assumes nothing.
use mathlib.Core.Path.{◌≡◌}
use mathlib.Core.List.{[], ◌∷◌}
use lib.IntN.{ℤ, pos, ◌+ℤ◌, ◌-ℤ◌, ◌*ℤ◌}
use Rattle.whole.specs.Complex.{Complex, ◌*ᶜ◌, conj}
use Rattle.whole.proofs.Ring.{v, num, ◌⊕◌, ◌⊖◌, ◌⊗◌, ⊝◌, ring, ring-from, times}
use Rattle.whole.proofs.Complex.{ComplexExpr, ◌⊙◌, parts}

-- (a + b)² = a² + 2ab + b²
pub square-of-sum : (a b : ℤ) → (a +ℤ b) *ℤ (a +ℤ b) ≡ a *ℤ a +ℤ pos 2 *ℤ a *ℤ b +ℤ b *ℤ b
square-of-sum a b =
    ring (a ∷ b ∷ []) ((v 0 ⊕ v 1) ⊗ (v 0 ⊕ v 1)) (v 0 ⊗ v 0 ⊕ num 2 ⊗ v 0 ⊗ v 1 ⊕ v 1 ⊗ v 1) tt

-- two squares: |w|² |z|² = |w z|²
pub two-squares : (w z : Complex) → (w.re *ℤ w.re +ℤ w.im *ℤ w.im) *ℤ (z.re *ℤ z.re +ℤ z.im *ℤ z.im) ≡ (w *ᶜ z).re *ℤ (w *ᶜ z).re +ℤ (w *ᶜ z).im *ℤ (w *ᶜ z).im
two-squares w z =
    let P = parts 0 1 ⊙ parts 2 3 in
    ring (w.re ∷ w.im ∷ z.re ∷ z.im ∷ [])
    ((v 0 ⊗ v 0 ⊕ v 1 ⊗ v 1) ⊗ (v 2 ⊗ v 2 ⊕ v 3 ⊗ v 3))
    (P.re ⊗ P.re ⊕ P.im ⊗ P.im)
    tt

-- a term of the force: the amplitudes, the coefficient and the phase may be multiplied in any order
pub term-in-any-order : (w q z : Complex) → (w *ᶜ q *ᶜ z).re ≡ (w *ᶜ z *ᶜ q).re
term-in-any-order w q z =
    let W = parts 0 1 in
    let Q = parts 2 3 in
    let Z = parts 4 5 in
    ring (w.re ∷ w.im ∷ q.re ∷ q.im ∷ z.re ∷ z.im ∷ []) (W ⊙ Q ⊙ Z).re (W ⊙ Z ⊙ Q).re tt

-- a difference table: the pair (n, m) adds what the pair (m, n) does, since amplitudes, coefficient and phase are all conjugates
pub conjugate-pair : (a b q z : Complex) → (a *ᶜ conj b *ᶜ q *ᶜ z).re ≡ (b *ᶜ conj a *ᶜ conj q *ᶜ conj z).re
conjugate-pair a b q z =
    let A = parts 0 1 in
    let B = parts 2 3 in
    let Q = parts 4 5 in
    let Z = parts 6 7 in
    let A' : ComplexExpr = record { re = v 0; im = ⊝ v 1 } in
    let B' : ComplexExpr = record { re = v 2; im = ⊝ v 3 } in
    let Q' : ComplexExpr = record { re = v 4; im = ⊝ v 5 } in
    let Z' : ComplexExpr = record { re = v 6; im = ⊝ v 7 } in
    ring (a.re ∷ a.im ∷ b.re ∷ b.im ∷ q.re ∷ q.im ∷ z.re ∷ z.im ∷ []) (A ⊙ B' ⊙ Q ⊙ Z).re (B ⊙ A' ⊙ Q' ⊙ Z').re tt

-- from equations: where x is q d + r and y is p d + r, their difference is a multiple of d
pub same-remainder : (x y q p d r : ℤ) → x ≡ q *ℤ d +ℤ r → y ≡ p *ℤ d +ℤ r → x -ℤ y ≡ (q -ℤ p) *ℤ d
same-remainder x y q p d r h k =
    ring-from (x ∷ y ∷ q ∷ p ∷ d ∷ r ∷ [])
    (times (num 1) (v 0) (v 2 ⊗ v 4 ⊕ v 5) h ∷ times (⊝ num 1) (v 1) (v 3 ⊗ v 4 ⊕ v 5) k ∷ [])
    (v 0 ⊖ v 1)
    ((v 2 ⊖ v 3) ⊗ v 4)
    tt
