-- `field::units::tick` meets its contract: it is the rounded quotient that `tick_of` names. Assumes nothing.
use Rattle.std.proofs.Common.{ap, ◌∙◌}
use Rattle.whole.specs.Nearest.{nearest}
use Rattle.field.specs.Units.{tick_of}
use Rattle.field.proofs.units.tick.Goals as goal

pub returns : goal.returns
unfolding tick_of
returns c = c.nearest.ensures ∙ ap (nearest 10_000_000_000) c.from.ensures
