-- `reading::read` meets its contract: a line is what stands before its carriage return, and its words are read by the layout that WAMIT writes.
-- Assumes nothing.
use Rattle.std.proofs.Common.{arith}
use Rattle.row.specs.Layout.{wamit_layout}
use Rattle.row.specs.own.Rows.{row_of}
use Rattle.row.proofs.reading.read.Goals as goal

pub bare_row-requires : goal.bare_row-requires
unfolding wamit_layout
bare_row-requires c = rw c.wamit.ensures (omega arith)

pub returns : goal.returns
unfolding row_of
returns c = rw (← c.bare.ensures, ← c.wamit.ensures) c.bare_row.ensures
