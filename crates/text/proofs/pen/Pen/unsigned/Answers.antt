-- `pen::Pen::unsigned` meets its contract: the whole part, and the decimals behind it. Assumes nothing.
use Rattle.text.specs.Decimal.{unsigned}
use Rattle.text.proofs.Pens.{◌then◌}
use Rattle.text.proofs.pen.Pen.unsigned.Goals as goal

pub returns : goal.returns
unfolding unsigned
returns c = (rw c.whole_part.ensures at c.natural.ensures) then c.fraction.ensures
