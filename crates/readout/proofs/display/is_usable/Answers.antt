-- `display::is_usable` meets its contract. Assumes nothing.
use Rattle.std.proofs.Common.{◌∙◌}
use Rattle.readout.proofs.Shown.{above, not-above}
use Rattle.readout.proofs.display.is_usable.Goals as goal

pub returns-then-scale : goal.returns-then-scale
returns-then-scale c = above _ c.if-scale.true

pub returns-else-scale : goal.returns-else-scale
returns-else-scale c = c.if-scale.false ∙ not-above _ c.if-scale.false
