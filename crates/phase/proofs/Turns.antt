-- Whole turns do not count: cosine, sine and phase come round, and only a step's place in the turn matters. This holds of any table. Assumes nothing.
use mathlib.Core.Path.{◌≡◌, ◌∙◌, ap}
use Prim.Native.Nat.{ℕ, ◌+◌, ◌*◌, ◌%◌}
use native.Mathlib.Nat.{mod-mod, mod-add-mod, add-mul-mod_self_right}
use native.Mathlib.Omega.{arith}
use Rattle.phase.specs.Turn.{Quarter, turn, in_turn, cosine, sine, phase}

module _ (q : Quarter) where
  pub cosine-turns : (k m : ℕ) → cosine q (k + m * turn q) ≡ cosine q k
  unfolding cosine
  cosine-turns k m = ap (in_turn q) (add-mul-mod_self_right k m (turn q))

  -- of a step j that is m turns past k: the form in which `omega` shows the equation
  pub cosine-past : (k j m : ℕ) → j ≡ k + m * turn q → cosine q j ≡ cosine q k
  cosine-past k j m e = ap (cosine q) e ∙ cosine-turns k m

  pub cosine-rest : (k : ℕ) → cosine q (k % turn q) ≡ cosine q k
  unfolding cosine
  cosine-rest k = ap (in_turn q) (mod-mod k (turn q))

  -- the first of two steps may be taken modulo the turn
  pub cosine-shift : (k j : ℕ) → cosine q (k % turn q + j) ≡ cosine q (k + j)
  unfolding cosine
  cosine-shift k j = ap (in_turn q) (mod-add-mod k (turn q) j)

  pub sine-turns : (k m : ℕ) → sine q (k + m * turn q) ≡ sine q k
  unfolding sine
  sine-turns k m = cosine-past _ _ m (omega arith)

  pub sine-rest : (k : ℕ) → sine q (k % turn q) ≡ sine q k
  unfolding sine
  sine-rest k = cosine-shift k _

  pub phase-turns : (k m : ℕ) → phase q (k + m * turn q) ≡ phase q k
  phase-turns k m = λ i. record { re = cosine-turns k m i; im = sine-turns k m i }
