-- `pen::Pen::next_natural` meets its contract: a space, and what is asked behind it. Assumes nothing.
use Rattle.text.proofs.Pens.{◌then◌}
use Rattle.text.proofs.pen.Pen.next_natural.Goals as goal

pub returns : goal.returns
returns c = c.byte.ensures then c.natural.ensures
