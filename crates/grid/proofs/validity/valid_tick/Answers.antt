-- `validity::valid_tick` meets its contract: the last test asks whether a later slot holds the tick. Assumes nothing.
use Rattle.std.proofs.Common.{◌+◌, eqb, get_or}
use borrow.Author.Tests.{ne_eqb, le-leb}
use Rattle.grid.proofs.Checking.{holds, other, alone}
use Rattle.grid.proofs.validity.valid_tick.Goals as goal

pub returns-then-t-le-TICK_MOST : goal.returns-then-t-le-TICK_MOST
returns-then-t-le-TICK_MOST c =
    let ticks = c.args.ticks.now in
    let i = c.args.i in
    let range = c.if-t-le-TICK_MOST.true in
    other (ne_eqb _ _ c.if-t-eq0.false)
    (holds (le-leb _ _ range.0) (holds (le-leb _ _ range.1) (alone eqb ticks (i + 1) (get_or ticks i 0) c.contains.ensures.value)))
