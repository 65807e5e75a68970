-- `pen::Pen::decimal` meets its contract: its minus, and its size behind it. Assumes nothing.
use mir.Facts.{to_z-of_z}
use Rattle.text.specs.Decimal.{decimal}
use Rattle.text.proofs.Pens.{◌then◌}
use Rattle.text.proofs.pen.Pen.decimal.Goals as goal

pub returns : goal.returns
unfolding decimal
returns c =
    let back = to_z-of_z c.ranges.z in
    (rw back at c.minus.ensures) then (rw (rw back at c.unsigned_abs.ensures.value) at c.unsigned.ensures)
