-- "Phase steps are taken modulo" the turn: the phase at a whole step, (f(m) - f(n)) t or (f(m) + f(n)) t of any sign and size, is the phase at a step in
-- naturals that code computes. Once over the number of steps to the quarter turn. Assumes nothing.
use mathlib.Core.Path.{◌≡◌, refl, sym, ◌∙◌, ap}
use mathlib.Core.List.{[], ◌∷◌}
use Prim.Native.Nat.{ℕ, zero, suc, ◌+◌, ◌*◌, ◌-◌, ◌/◌, ◌%◌, ◌≤◌}
use native.Mathlib.Nat.{div-add-mod'}
use native.Mathlib.Omega.{arith}
use lib.IntN.{ℤ, pos, negsuc, neg_ℤ, nat_abs, ◌+ℤ◌, ◌-ℤ◌, ◌*ℤ◌, neg_ℤ-neg_ℤ}
use Rattle.whole.specs.Complex.{conj}
use Rattle.whole.proofs.Ring.{v, num, ◌⊕◌, ◌⊖◌, ◌⊗◌, ⊝◌, times, ring-from}
use Rattle.whole.proofs.OrderLaws.{subℕ-ind}
use Rattle.phase.specs.Turn.{Quarter, turn, cosine, sine, phase, phase_ℤ}
use Rattle.phase.proofs.Turns.{phase-turns}
use Rattle.phase.proofs.Quarters.{Closes}
use Rattle.phase.proofs.Symmetry.{phase-mirror}

module _ (q : Quarter) where
  -- a step j that is m turns past k
  phase-past : (k j m : ℕ) → j ≡ k + m * turn q → phase q j ≡ phase q k
  phase-past k j m e = ap (phase q) e ∙ phase-turns q k m

  -- a factor of a step may be taken modulo the turn
  pub phase-mod-right : (x t : ℕ) → phase q (x * (t % turn q)) ≡ phase q (x * t)
  phase-mod-right x t =
      let u = t / turn q in
      let s = t % turn q in
      let e : x * t ≡ x * (u * turn q + s) = ap (λ (k : ℕ). x * k) (sym (div-add-mod' t (turn q))) in
      sym (phase-past (x * s) (x * t) (x * u) (omega (arith, e)))

  -- the step of a sum
  pub sum_step : (a b t : ℕ) → phase_ℤ q (pos ((a + b) * t)) ≡ phase q ((a + b) * (t % turn q))
  sum_step a b t = sym (phase-mod-right (a + b) t)

module _ (q : Quarter) (c : Closes q) where
  -- a whole step z that is, but for whole turns, k
  pub phase_ℤ-is : (z : ℤ) (k u w : ℕ) → z +ℤ pos (u * turn q) ≡ pos (k + w * turn q) → phase_ℤ q z ≡ phase q k
  phase_ℤ-is (pos m) k u w e =
      sym (phase-turns q m u) ∙ ap (λ z. phase q (nat_abs z)) e ∙ phase-turns q k w
  phase_ℤ-is (negsuc m) k u w e =
      let f : u * turn q ≡ k + w * turn q + suc m =
      ap nat_abs
      (ring-from (pos (u * turn q) ∷ pos (k + w * turn q) ∷ pos (suc m) ∷ []) (times (num 1) (⊝ v 2 ⊕ v 0) (v 1) e ∷ []) (v 0) (v 1 ⊕ v 2) tt) in
      sym (phase-mirror q c u (suc m) (omega arith)) ∙ phase-past q k (turn q * u - suc m) w (omega arith)

  -- a whole turn on, at any whole step
  pub phase_ℤ-round : (z : ℤ) → phase_ℤ q (z +ℤ pos (turn q)) ≡ phase_ℤ q z
  phase_ℤ-round (pos k) = phase-past q k (k + turn q) 1 (omega arith)
  phase_ℤ-round (negsuc k) =
      subℕ-ind (λ z. phase_ℤ q z ≡ conj (phase q (suc k))) (turn q) (suc k)
      (λ h. sym (ap conj (phase-past q (suc (suc k - suc (turn q))) (suc k) 1 (omega arith))))
      (λ h. phase-past q (turn q * 1 - suc k) (turn q - suc k) 0 (omega arith) ∙ phase-mirror q c 1 (suc k) (omega arith))

  -- a step back is the conjugate of the step on
  pub phase_ℤ-back : (z : ℤ) → phase_ℤ q (neg_ℤ z) ≡ conj (phase_ℤ q z)
  phase_ℤ-back (pos zero) = phase-past q (turn q * 0 - 0) 0 0 (omega arith) ∙ phase-mirror q c 0 0 (omega arith)
  phase_ℤ-back (pos (suc k)) = refl
  phase_ℤ-back (negsuc k) = λ i. record { re = cosine q (suc k); im = sym (neg_ℤ-neg_ℤ (sine q (suc k))) i }

  -- the step of a difference, a - b: it is N, but for w turns
  difference-is : (a b t N w : ℕ) → N + b ≡ a + w * turn q → phase_ℤ q ((pos a -ℤ pos b) *ℤ pos t) ≡ phase q (N * t)
  difference-is a b t N w e =
      phase_ℤ-is ((pos a -ℤ pos b) *ℤ pos t) (N * t) (w * t) 0
      (ring-from (pos a ∷ pos b ∷ pos t ∷ pos N ∷ pos w ∷ pos (turn q) ∷ [])
      (times (⊝ v 2) (v 3 ⊕ v 1) (v 0 ⊕ v 4 ⊗ v 5) (ap pos e) ∷ [])
      ((v 0 ⊖ v 1) ⊗ v 2 ⊕ v 4 ⊗ v 2 ⊗ v 5)
      (v 3 ⊗ v 2 ⊕ num 0 ⊗ v 5)
      tt)

  -- with m turns more, so that it does not go below 0
  pub difference-step : (m a b t : ℕ) → b ≤ a + m * turn q → phase_ℤ q ((pos a -ℤ pos b) *ℤ pos t) ≡ phase q ((a + m * turn q - b) * (t % turn q))
  difference-step m a b t h = difference-is a b t (a + m * turn q - b) m (omega arith) ∙ sym (phase-mod-right q (a + m * turn q - b) t)
