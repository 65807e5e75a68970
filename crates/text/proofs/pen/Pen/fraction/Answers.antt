-- `pen::Pen::fraction` meets its contract: nothing, or the point and the digits behind it. Assumes nothing.
use Rattle.std.proofs.Common.{sym, arith}
use Rattle.text.proofs.Widths.{fraction-none, fraction-some}
use Rattle.text.proofs.Pens.{◌then◌, puts-none, puts-as}
use Rattle.text.proofs.pen.Pen.fraction.Goals as goal

pub returns-then-places-gt0 : goal.returns-then-places-gt0
returns-then-places-gt0 c =
    puts-as (c.byte.ensures then (rw c.from.ensures at c.digits.ensures)) (sym (fraction-some c.args.places c.args.n (omega arith)))

pub returns-else-places-gt0 : goal.returns-else-places-gt0
returns-else-places-gt0 c = puts-none _ (fraction-none c.args.places c.args.n (omega arith))
