-- z(k) (document 01, "Coefficients and forces"): "cosine plus i sine at step k of 10,000 to the turn", "Sine and the other quarters follow by symmetry", "Phase steps are taken modulo
-- 10,000". Said of every clock that keeps the rule over the table, in its entries e alone, so that a wrong sine or a wrong quarter in the model's definitions is found.
use Rattle.std.specs.Prelude.{◌≡◌, ℕ, ◌+◌, ◌*◌, ◌-◌, ◌≤◌, ℤ, pos, neg_ℤ, ◌+ℤ◌, get_or}
use Rattle.whole.specs.Complex.{Complex}
use Rattle.phase.specs.Turn.{Quarter, phase_ℤ}
use Rattle.phase.specs.Rule.{Rule, limits}
use Rattle.phase.specs.Seconds.{seconds}

-- z at this step has these two parts
pub record Parts (z : Complex) (cosine sine : ℤ) : Type 0 where
  pub re : z.re ≡ cosine
  pub im : z.im ≡ sine

-- with n steps to the quarter turn and e its entries, i from 0 to n: z(i) = (e i, e(n-i)), z(2n-i) = (-e i, e(n-i)), z(2n+i) = (-e i, -e(n-i)), z(4n-i) = (e i, -e(n-i))
pub record InQuarters (clock : Quarter) (i : ℕ) : Type 0 where
  pub first : Parts (phase_ℤ clock (pos i)) (pos (get_or clock.entries i 0)) (pos (get_or clock.entries (clock.steps - i) 0))
  pub second : Parts (phase_ℤ clock (pos (2 * clock.steps - i))) (neg_ℤ (pos (get_or clock.entries i 0))) (pos (get_or clock.entries (clock.steps - i) 0))
  pub third : Parts (phase_ℤ clock (pos (2 * clock.steps + i))) (neg_ℤ (pos (get_or clock.entries i 0))) (neg_ℤ (pos (get_or clock.entries (clock.steps - i) 0)))
  pub fourth : Parts (phase_ℤ clock (pos (4 * clock.steps - i))) (pos (get_or clock.entries i 0)) (neg_ℤ (pos (get_or clock.entries (clock.steps - i) 0)))

abbrev pub PhaseParts : Type 0
PhaseParts = (clock : Quarter) → Rule limits clock → (i : ℕ) → i ≤ clock.steps → InQuarters clock i

-- a whole turn more changes nothing, at a step below 0 too; so with the four quarters z is said at every whole step
abbrev pub PhaseTurns : Type 0
PhaseTurns = (clock : Quarter) → Rule limits clock → (k : ℤ) → phase_ℤ clock (k +ℤ pos (4 * clock.steps)) ≡ phase_ℤ clock k

-- by whole seconds there are 10,000 steps to the turn, and that clock keeps the rule
abbrev pub SecondsTurn : Type 0
SecondsTurn = (4 * seconds.steps ≡ 10_000) × Rule limits seconds
