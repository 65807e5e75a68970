-- `pen::Pen::minus` meets its contract, by its test. Assumes nothing.
use mathlib.Core.Bool.{false}
use mir.Syntax.{w64}
use Rattle.whole.proofs.Words.{tested}
use Rattle.text.proofs.Widths.{minus-none}
use Rattle.text.proofs.Pens.{puts-none}
use Rattle.text.proofs.pen.Pen.minus.Goals as goal

pub returns-else-z-lt0 : goal.returns-else-z-lt0
returns-else-z-lt0 c = puts-none _ (minus-none c.args.z (tested w64 c.args.z false c.ranges.z c.if-z-lt0.false))
