-- `filling::put_shown` meets its contract: an arm for each mark. Assumes nothing.
use mir.Facts.{to_z-of_z}
use Rattle.template.specs.Filling.{shown}
use Rattle.template.proofs.filling.put_shown.Goals as goal

pub returns-in-35 : goal.returns-in-35
unfolding shown
returns-in-35 c = rw c.in-35.is (rw (to_z-of_z c.ranges.z) at c.signed.ensures)

pub returns-in-37 : goal.returns-in-37
unfolding shown
returns-in-37 c = rw c.in-37.is (rw (to_z-of_z c.ranges.z) at c.decimal.ensures)

pub returns-in-64 : goal.returns-in-64
unfolding shown
returns-in-64 c = rw c.in-64.is (rw (to_z-of_z c.ranges.z) at c.put_degrees.ensures)
