-- `pen::Pen::signed` meets its contract: its minus, and its size behind it. Assumes nothing.
use mir.Facts.{to_z-of_z}
use Rattle.text.specs.Decimal.{signed}
use Rattle.text.proofs.Pens.{◌then◌}
use Rattle.text.proofs.pen.Pen.signed.Goals as goal

pub returns : goal.returns
unfolding signed
returns c =
    let back = to_z-of_z c.ranges.z in
    (rw back at c.minus.ensures) then (rw (rw back at c.unsigned_abs.ensures.value) at c.natural.ensures)
