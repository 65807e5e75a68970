-- `layout::wamit` meets its contract: it is the layout that the specification writes. Assumes nothing.
use mathlib.Core.Path.{refl}
use Rattle.row.specs.Layout.{wamit_layout}
use Rattle.row.proofs.layout.wamit.Goals as goal

pub returns : goal.returns
unfolding wamit_layout
returns c = refl
