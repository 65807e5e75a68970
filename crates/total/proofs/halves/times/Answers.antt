-- `total::halves::times` meets its contract: it is the row of k's two halves, and has room, since it is x k. Assumes nothing.
use Rattle.std.proofs.Common.{◌^◌, arith}
use Rattle.total.proofs.Rows.{row_is, row_room}
use Rattle.total.proofs.halves.times.Goals as goal

pub returns : goal.returns
returns c =
    let x = c.args.x in
    let k = c.args.k in
    omega (arith, c.row-first.ensures, c.row-second.ensures, row_is (2 ^ 16) k x, row_room (2 ^ 32) x k (omega arith) (omega arith))
