-- `filling::put_degrees` meets its contract, by its test. Assumes nothing.
use mir.Facts.{to_z-of_z}
use Rattle.text.proofs.Pens.{◌then◌, puts-as}
use Rattle.template.proofs.Fills.{degrees-whole, degrees-part}
use Rattle.template.proofs.filling.put_degrees.Goals as goal

pub returns-then-size-ne0 : goal.returns-then-size-ne0
returns-then-size-ne0 c =
    let back = to_z-of_z c.ranges.z in
    let size = rw back at c.unsigned_abs-size.ensures.value in
    puts-as (rw back at c.decimal.ensures) (degrees-part c.args.z size c.if-size-ne0.true)

pub returns-else-size-ne0 : goal.returns-else-size-ne0
returns-else-size-ne0 c =
    let back = to_z-of_z c.ranges.z in
    let size = rw back at c.unsigned_abs-size.ensures.value in
    puts-as ((rw back at c.minus.ensures) then c.natural.ensures) (degrees-whole c.args.z size c.if-size-ne0.false)
