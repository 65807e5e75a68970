-- Demands 1 and 2, what closing answers of rows, in the words of the rules (document 01, "The table" and numbers 10 and 11): 10 with no row used, 11 with the first missing pair,
-- else accepted with the numbers of distinct frequencies and headings.
use Rattle.std.specs.Prelude.{List, [], ◌↔◌, ◌≡◌, ℕ, length}
use Rattle.row.specs.declared.reading.Entry.{Entry}
use Rattle.grid.specs.declared.nodes.Pair.{Pair}
use Rattle.table.specs.declared.closing.Closed.{Closed}
use Rattle.table.specs.Placing.{Table}
use Rattle.table.specs.Closing.{closed_of}
use Rattle.promises_rows.specs.Said.{ticks_of, headings_of}
use Rattle.promises_tables.specs.Rules.{Complete, Missing}
use Rattle.promises_tables.specs.Holds.{Holds}

pub data Closes (kind coverage : ℕ) (rows : List Entry) : Closed → Type 0 where
  no_row : rows ≡ [] → Closes kind coverage rows Closed.Empty
  lacks : {p : Pair} → Missing kind coverage rows p → Closes kind coverage rows (Closed.Missing p)
  every-pair : (rows ≡ [] → ⊥) → Complete kind coverage rows → Closes kind coverage rows (Closed.Complete (length (ticks_of rows)) (length (headings_of rows)))

-- the answer over a table that holds the rows is that of the rules; the rules leave one answer; so it is given exactly when they say
abbrev pub ClosedIs : Type 0
ClosedIs = (kind coverage : ℕ) (rows : List Entry) (t : Table) → Holds kind rows t → Closes kind coverage rows (closed_of coverage t.slots t.flags)

abbrev pub ClosesOne : Type 0
ClosesOne = (kind coverage : ℕ) (rows : List Entry) (c d : Closed) → Closes kind coverage rows c → Closes kind coverage rows d → c ≡ d

abbrev pub ClosedExactly : Type 0
ClosedExactly =
    (kind coverage : ℕ) (rows : List Entry) (t : Table) → Holds kind rows t → (c : Closed)
    → (closed_of coverage t.slots t.flags ≡ c) ↔ Closes kind coverage rows c
