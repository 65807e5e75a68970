-- `placing::clash` meets its contract: std's test of two values is the rule's. Assumes nothing.
use Rattle.std.proofs.Common.{◌∙◌, sym, not, ◌&&◌}
use Rattle.grid.proofs.Places.{int-same}
use Rattle.grid.proofs.Checking.{holds}
use Rattle.table.specs.Cells.{same_value}
use Rattle.table.proofs.placing.clash.Goals as goal

pub returns-then-is_set : goal.returns-then-is_set
unfolding same_value
returns-then-is_set c =
    let v = c.args.v in
    let there = c.cell_at.ensures in
    holds (sym c.is_set.ensures ∙ c.if-is_set.true)
    (c.ne.ensures ∙ λ i. not (int-same (there i).re v.re i && int-same (there i).im v.im i))
