-- Whole complex numbers: the two-squares identity |w|² |z|² = |w z|², and squares beside sizes. Assumes nothing.
use mathlib.Core.Path.{◌≡◌, sym, ◌∙◌, ap, ap₂}
use mathlib.Core.List.{[], ◌∷◌}
use Prim.Native.Nat.{ℕ, ◌+◌, ◌*◌, ◌≤◌}
use native.Mathlib.Omega.{arith}
use lib.IntN.{pos, nat_abs, ◌+ℤ◌, ◌*ℤ◌}
use Rattle.whole.specs.Complex.{Complex, ◌*ᶜ◌, conj, sizes, squares}
use Rattle.whole.proofs.Ring.{Expr, v, ◌⊕◌, ◌⊖◌, ◌⊗◌, ring}
use Rattle.whole.proofs.OrderLaws.{square-is}
use Rattle.whole.proofs.Magnitude.{nat_abs-neg, sum-square-le}

-- ---- expressions of complex numbers, for `ring`: `eval` of their product is the product of the numbers, by computation

infixl 7 ◌⊙◌
pub record ComplexExpr : Type 0 where
  pub re : Expr
  pub im : Expr

abbrev pub ◌⊙◌ : ComplexExpr → ComplexExpr → ComplexExpr
w ⊙ z = record { re = w.re ⊗ z.re ⊖ w.im ⊗ z.im; im = w.re ⊗ z.im ⊕ w.im ⊗ z.re }

-- the complex number whose parts are the variables i and j
abbrev pub parts : ℕ → ℕ → ComplexExpr
parts i j = record { re = v i; im = v j }

-- ---- squares

pub squares-is : (z : Complex) → pos (squares z) ≡ z.re *ℤ z.re +ℤ z.im *ℤ z.im
squares-is z = sym (ap₂ ◌+ℤ◌ (square-is z.re) (square-is z.im))

-- the two-squares identity
pub squares-* : (w z : Complex) → squares (w *ᶜ z) ≡ squares w * squares z
squares-* w z =
    let W = parts 0 1 in
    let Z = parts 2 3 in
    ap nat_abs
    (squares-is (w *ᶜ z)
    ∙ ring (w.re ∷ w.im ∷ z.re ∷ z.im ∷ [])
    ((W ⊙ Z).re ⊗ (W ⊙ Z).re ⊕ (W ⊙ Z).im ⊗ (W ⊙ Z).im)
    ((v 0 ⊗ v 0 ⊕ v 1 ⊗ v 1) ⊗ (v 2 ⊗ v 2 ⊕ v 3 ⊗ v 3))
    tt
    ∙ sym (ap₂ ◌*ℤ◌ (squares-is w) (squares-is z)))

pub squares-conj : (z : Complex) → squares (conj z) ≡ squares z
squares-conj z = ap (λ (n : ℕ). nat_abs z.re * nat_abs z.re + n * n) (nat_abs-neg z.im)

-- x² + y² ≤ (|x| + |y|)² ≤ 2 (x² + y²)
pub squares-le : (z : Complex) → squares z ≤ sizes z * sizes z
squares-le z = omega arith

pub sizes-square-le : (z : Complex) → sizes z * sizes z ≤ 2 * squares z
sizes-square-le z = sum-square-le (nat_abs z.re) (nat_abs z.im)
