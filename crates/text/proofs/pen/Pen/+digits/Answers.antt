-- `pen::Pen::digits` meets its contract: the last digit stands behind the others. Assumes nothing.
use Rattle.std.proofs.Common.{sym, arith}
use Rattle.text.proofs.Widths.{digits-none, digits_more}
use Rattle.text.proofs.Pens.{◌then◌, puts-none, puts-as}
use Rattle.text.proofs.pen.Pen.+digits.Goals as goal

pub returns-then-count-gt0 : goal.returns-then-count-gt0
returns-then-count-gt0 t c = puts-as (c.digits.ensures then c.byte.ensures) (sym (digits_more c.args.count c.args.n (omega arith)))

pub returns-else-count-gt0 : goal.returns-else-count-gt0
returns-else-count-gt0 t c = puts-none _ (digits-none c.args.count c.args.n (omega arith))
