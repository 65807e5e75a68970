-- `total::halves::row` meets its contract: it is the row of x's two halves. Assumes nothing.
use Rattle.std.proofs.Common.{◌^◌, arith}
use Rattle.total.proofs.Rows.{row_is}
use Rattle.total.proofs.halves.row.Goals as goal

pub returns : goal.returns
returns c =
    omega (arith, c.part.ensures, c.from-lower.ensures, c.part-2.ensures, c.from-upper.ensures, row_is (2 ^ 16) c.args.x c.args.h)
