-- `pairs::step` meets its contract: the phase at a step with the second taken modulo the turn, and with whole turns more, is the phase at the step. Assumes nothing.
use Rattle.std.proofs.Common.{ℕ, ◌+◌, ◌*◌, ◌≤◌, sym, eq-eqb, ne_eqb, arith}
use Rattle.phase.specs.Turn.{turn}
use Rattle.phase.specs.Seconds.{seconds}
use Rattle.phase.proofs.Bounds.{closes}
use Rattle.phase.proofs.Seconds.{rule}
use Rattle.phase.proofs.Steps.{sum_step, difference-step}
use Rattle.load.specs.Force.{step_of}
use Rattle.load.proofs.pairs.step.Goals as goal

-- the turns that are past any tick
abbrev turns : ℕ
turns = 429_497

pub returns-then-kind-eq0 : goal.returns-then-kind-eq0
unfolding step_of seconds
returns-then-kind-eq0 c =
    let a = c.args in
    let low-enough : a.g ≤ a.f + turns * turn seconds = let g = c.ranges.g in omega arith in
    rw (c.from.ensures, c.from-then-kind-eq0.ensures, eq-eqb a.kind 0 c.if-kind-eq0.true) (sym (difference-step seconds (closes rule) turns a.f a.g a.t low-enough))

pub returns-else-kind-eq0 : goal.returns-else-kind-eq0
unfolding step_of seconds
returns-else-kind-eq0 c =
    let a = c.args in
    rw (c.from-else-kind-eq0.ensures, c.from-else-kind-eq0-2.ensures, ne_eqb a.kind 0 c.if-kind-eq0.false) (sym (sum_step seconds a.f a.g a.t))
