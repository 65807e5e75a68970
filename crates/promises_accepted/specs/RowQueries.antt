-- Demand 2, what queries promise of a table that rows made: its coefficients swap as the rows' entries do; and two tables whose rows say the same, in whatever order they arrived
-- and however often, give the same coefficients, forces and displays.
use Rattle.std.specs.Prelude.{true, List, ◌≡◌, ℕ, ◌≤◌, ℤ, length}
use Rattle.row.specs.declared.reading.Entry.{Entry}
use Rattle.reader.specs.declared.record.Record.{Record}
use Rattle.table.specs.Placing.{table_of}
use Rattle.reader.specs.Valid.{valid_of}
use Rattle.promises_tables.specs.Holds.{Holds}
use Rattle.promises_tables.specs.Lookup.{SameSaid}
use Rattle.promises_queries.specs.Coefficients.{EntriesSwap}
use Rattle.promises_queries.specs.Alike.{SameQueries}
use Rattle.table.specs.Cells.{cells_lent}

-- the record and cells of a valid table that rows made
pub record MadeOf (rows : List Entry) (r : Record) (cells : List ℤ) : Type 0 where
  pub valid : valid_of r ≡ true
  pub long : cells_lent ≤ length cells
  pub flags : List ℕ
  pub holds : Holds r.choices.kind rows (table_of r.slots cells flags)

-- so that `CoefficientSwaps` holds of it
abbrev pub RowsSwap : Type 0
RowsSwap = (rows : List Entry) (r : Record) (cells : List ℤ) → MadeOf rows r cells → EntriesSwap r cells

abbrev pub RowsQueries : Type 0
RowsQueries =
    (rows more : List Entry) (r : Record) (cells : List ℤ) (q : Record) (others : List ℤ)
    → MadeOf rows r cells
    → MadeOf more q others
    → r.marks.stage ≡ q.marks.stage
    → r.choices ≡ q.choices
    → SameSaid r.choices.kind rows more
    → SameQueries r cells q others
