-- `field::units::scaled` meets its contract: the tens that stand on both sides fall away. Assumes nothing.
use mathlib.Core.Path.{sym, ◌∙◌, ap}
use Rattle.field.specs.Units.{within_word}
use Rattle.field.proofs.Scales.{nearest-raised, nearest-lowered}
use Rattle.field.proofs.units.scaled.Goals as goal

pub returns-then-down-up : goal.returns-then-down-up
returns-then-down-up c =
    let a = c.args in
    c.raised.ensures ∙ sym (ap within_word (nearest-raised a.digits a.up a.down c.if-down-up.true))

pub returns-else-down-up : goal.returns-else-down-up
returns-else-down-up c =
    let a = c.args in
    c.lowered.ensures ∙ sym (ap within_word (nearest-lowered a.digits a.up a.down c.if-down-up.false))
