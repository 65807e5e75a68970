-- A pair's term multiplied out: of two amplitudes, a coefficient and a phase, whatever they are. Assumes nothing.
use mathlib.Core.List.{[], ◌∷◌}
use mathlib.Core.Path.{◌≡◌, refl, ap}
use Prim.Native.Nat.{◌*◌, ◌^◌}
use lib.IntN.{ℤ}
use Rattle.whole.specs.Complex.{Complex, ◌*ᶜ◌, conj}
use Rattle.whole.proofs.Ring.{ring, v, ◌⊕◌, ◌⊖◌, ◌⊗◌, ⊝◌}
use Rattle.load.specs.Corners.{coefficient}
use Rattle.load.specs.Force.{amplitudes, step_of, term_of, term}
use Rattle.promises_forces.specs.Demand.{ratio, linear_top, linear_over, exact_term}
use Rattle.promises_forces.specs.Terms.{difference_part, apart, TermsMultiplied}

module _ (a b q z : Complex) where
  difference-is : (a *ᶜ conj b *ᶜ q *ᶜ z).re ≡ difference_part a b q z
  difference-is =
      let x = v 0 ⊗ v 2 ⊖ v 1 ⊗ ⊝ v 3 in
      let y = v 0 ⊗ ⊝ v 3 ⊕ v 1 ⊗ v 2 in
      let x' = v 0 ⊗ v 2 ⊕ v 1 ⊗ v 3 in
      let y' = v 1 ⊗ v 2 ⊖ v 0 ⊗ v 3 in
      ring (a.re ∷ a.im ∷ b.re ∷ b.im ∷ q.re ∷ q.im ∷ z.re ∷ z.im ∷ [])
      ((x ⊗ v 4 ⊖ y ⊗ v 5) ⊗ v 6 ⊖ (x ⊗ v 5 ⊕ y ⊗ v 4) ⊗ v 7)
      ((x' ⊗ v 4 ⊖ y' ⊗ v 5) ⊗ v 6 ⊖ (x' ⊗ v 5 ⊕ y' ⊗ v 4) ⊗ v 7)
      tt

pub terms-multiplied : TermsMultiplied
unfolding exact_term term term_of amplitudes step_of
terms-multiplied clock w t m n =
    let a = m.line.amplitude in
    let b = n.line.amplitude in
    let z = apart clock t m n in
    record {
      difference-exact = ap (λ (x : ℤ). ratio x (linear_over m n * 2 ^ 30)) (difference-is a b (linear_top w m n) z);
      difference-total = difference-is a b (coefficient w m.point n.point) z;
      sum-exact = refl;
      sum-total = refl;
    }
