-- `corners::corner` meets its contract: both parts are those of the entry, and lie within the cells. Assumes nothing.
use Prim.Native.Nat.{◌+◌, ◌*◌}
use lib.IntN.{pos}
use lib.ListN.{get_or}
use mir.Syntax.{w32}
use mir.Facts.{to_z-of_z}
use Rattle.table.specs.Cells.{cell_at, place_of}
use Rattle.load.proofs.corners.corner.Goals as goal

pub returns : goal.returns
unfolding cell_at place_of
returns c =
    let a = c.args in
    let at = 2 * (80 * a.row + a.column) in
    let re = to_z-of_z {w = w32} {z = get_or a.cells.now at (pos 0)} record { sfits = c.result-1.given } in
    let im = to_z-of_z {w = w32} {z = get_or a.cells.now (at + 1) (pos 0)} record { sfits = c.result-2-1.given } in
    λ i. record { re = re i; im = im i }
