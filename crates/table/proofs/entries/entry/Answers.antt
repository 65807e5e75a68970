-- `entries::entry` meets its contract: a node past the cells is met before any product could overflow, and both parts of an entry past the end are 0. Assumes nothing.
use mathlib.Core.Path.{◌≡◌, sym}
use mathlib.Core.List.{List}
use Prim.Native.Nat.{ℕ, ◌+◌, ◌*◌, ◌≤◌}
use native.Mathlib.Omega.{arith}
use lib.IntN.{ℤ, pos}
use lib.ListN.{length, get_or-eq_default}
use Rattle.table.specs.declared.entries.Parts.{Parts}
use Rattle.table.specs.Cells.{place_of, cell_at}
use Rattle.table.specs.Entries.{entry_of, parts_of}
use Rattle.table.proofs.entries.entry.Goals as goal
use Rattle.table.proofs.entries.entry.Goals.{then-last-row-via-then-last-row, then-last-row-via-else-last-row+then-last-row-2}

past :
    (cells : List ℤ) (row column : ℕ)
    → length cells ≤ 2 * (80 * row + column)
    → ◌≡◌ {A = Parts} (record { re = pos 0; im = pos 0 }) (parts_of (entry_of cells row column))
unfolding cell_at place_of
past cells row column h =
    let beside : length cells ≤ 2 * (80 * row + column) + 1 = omega arith in
    let re = sym (get_or-eq_default cells (pos 0) h) in
    let im = sym (get_or-eq_default cells (pos 0) beside) in
    λ i. record { re = re i; im = im i }

pub returns-then-last-row : goal.returns-then-last-row
returns-then-last-row c =
    let a = c.args in
    past a.cells.now a.row a.column
    (elim c.then-last-row.branch [ then-last-row-via-then-last-row w ↦ omega (arith, w.if-last-row.true) | then-last-row-via-else-last-row+then-last-row-2 w ↦ omega (arith, w.if-last-row.false, w.if-last-row-2.true) ])

pub returns : goal.returns
unfolding place_of
returns c = c.cell_at.ensures
