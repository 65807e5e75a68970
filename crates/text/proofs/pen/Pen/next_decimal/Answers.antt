-- `pen::Pen::next_decimal` meets its contract: a space, and what is asked behind it. Assumes nothing.
use mir.Facts.{to_z-of_z}
use Rattle.text.proofs.Pens.{◌then◌}
use Rattle.text.proofs.pen.Pen.next_decimal.Goals as goal

pub returns : goal.returns
returns c = let back = to_z-of_z c.ranges.z in c.byte.ensures then (rw back at c.decimal.ensures)
