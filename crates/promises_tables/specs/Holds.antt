-- Demand 2, "the table is what the rows say": the relation between a table and the rows that it holds. Its slots hold the distinct frequencies and headings of the rows, in whichever
-- slots they stand; what a row says stands in the cell of its two nodes and its mirror in that of the two swapped, with both flags 1, and every other cell and flag is 0.
use mathlib.Core.List.{List, [], ◌∷◌, ◌++◌, Memᴰ}
use Rattle.std.specs.Prelude.{◌⊎◌, ◌↔◌, ◌≡◌, ℕ, ◌≤◌, ◌<◌, eqb, ℤ, pos, length, get_or, take, replicate}
use Rattle.whole.specs.Complex.{Complex}
use Rattle.row.specs.declared.reading.Entry.{Entry}
use Rattle.grid.specs.declared.nodes.Node.{Node}
use Rattle.grid.specs.declared.nodes.Slots.{Slots}
use Rattle.grid.specs.Slots.{slot_of, held_ticks}
use Rattle.table.specs.Cells.{place_of, cell_at, cells_lent, flags_lent}
use Rattle.table.specs.Placing.{Table, table_of, Placed, placed}
use Rattle.table.specs.Closing.{node_of}
use Rattle.reader.specs.Model.{free_slots}
use Rattle.promises_rows.specs.Said.{Proper, Said, EachOnce, ticks_said, headings_said}
use Rattle.promises_tables.specs.Rules.{RowNumber}
use Rattle.promises_rows.specs.Said.{Over}

-- ---- slots

-- 20 slots hold the frequencies that are said, each in one slot; any other slot is free, which is 0
pub record TickSlots (l said : List ℕ) : Type 0 where
  pub long : length l ≡ 20
  pub each : EachOnce (held_ticks l) said

-- of 4 slots the first so many hold the headings that are said, each in one slot; a slot behind them is 0
pub record HeadingSlots (l : List ℤ) (held : ℕ) (said : List ℤ) : Type 0 where
  pub long : length l ≡ 4
  pub few : held ≤ 4
  pub each : EachOnce (take held l) said
  pub behind : (slot : ℕ) → held ≤ slot → get_or l slot (pos 0) ≡ pos 0

-- ---- cells and flags

-- what the caller lends
pub record Grid : Type 0 where
  pub cells : List ℤ
  pub flags : List ℕ

abbrev pub grid_of : Table → Grid
grid_of t = record { cells = t.cells; flags = t.flags }

-- at least 12,800 cells and 6,400 flags; a caller may lend more
pub record Enough (g : Grid) : Type 0 where
  pub cells : cells_lent ≤ length g.cells
  pub flags : flags_lent ≤ length g.flags

-- a flag with the cell that it stands for
pub record FlaggedCell : Type 0 where
  pub flag : ℕ
  pub value : Complex

unfoldable pub flagged_at : Grid → ℕ → FlaggedCell
flagged_at g p = record { flag = get_or g.flags p 0; value = cell_at g.cells p }

abbrev pub marked : Complex → FlaggedCell
marked v = record { flag = 1; value = v }

abbrev pub blank : FlaggedCell
blank = record { flag = 0; value = record { re = pos 0; im = pos 0 } }

-- some row says something of the two nodes with the numbers n, m
pub record SaidAt (kind : ℕ) (rows : List Entry) (s : Slots) (n m : ℕ) : Type 0 where
  pub a : Node
  pub b : Node
  pub v : Complex
  pub said : Said kind rows a b v
  pub first : node_of s a ≡ n
  pub second : node_of s b ≡ m

-- ---- the table

-- the table holds what the rows say, in the slots as they stand
pub record Holds (kind : ℕ) (rows : List Entry) (t : Table) : Type 0 where
  pub ticks : TickSlots t.slots.ticks (ticks_said rows)
  pub headings : HeadingSlots t.slots.headings t.slots.held (headings_said rows)
  pub enough : Enough (grid_of t)
  -- what a row says, directly or mirrored, stands in the cell of its two nodes, and the flag is 1
  pub in_cells : (a b : Node) (v : Complex) → Said kind rows a b v → flagged_at (grid_of t) (place_of (node_of t.slots a) (node_of t.slots b)) ≡ marked v
  -- every other cell and flag, of any two of the 80 nodes, is 0
  pub rest : (n m : ℕ) → n < 80 → m < 80 → (flagged_at (grid_of t) (place_of n m) ≡ blank) ⊎ SaidAt kind rows t.slots n m
  -- the rows that it holds had passed 4 to 7
  pub proper : (e : Entry) → Memᴰ e rows → Proper kind e

-- ---- opening, and one row more

-- the table as opening leaves it, whatever stands beyond what is lent
abbrev pub OpenHolds : Type 0
OpenHolds =
    (kind : ℕ) (cells : List ℤ) (flags : List ℕ)
    → Holds kind [] (table_of free_slots (replicate cells_lent (pos 0) ++ cells) (replicate flags_lent 0 ++ flags))

-- What comes of a row: refused 8 or 9 by the rules, with the table as it was; or taken, and then the table holds one row more.
pub data Outcome (kind : ℕ) (rows : List Entry) (e : Entry) (t : Table) : Placed → Type 0 where
  refused : {number : ℕ} → 0 < number → RowNumber kind rows e number → Outcome kind rows e t (record { number = number; table = t })
  taken : {after : Table} → RowNumber kind rows e 0 → Holds kind (rows ++ (e ∷ [])) after → Outcome kind rows e t (record { number = 0; table = after })

abbrev pub RowPlaced : Type 0
RowPlaced = (kind : ℕ) (rows : List Entry) (t : Table) (e : Entry) → Holds kind rows t → Proper kind e → Outcome kind rows e t (placed kind e t)

-- so a row gets each number exactly when the rules give it
abbrev pub RowExactly : Type 0
RowExactly =
    (kind : ℕ) (rows : List Entry) (t : Table) (e : Entry) → Holds kind rows t → Proper kind e
    → (number : ℕ) → ((placed kind e t).number ≡ number) ↔ RowNumber kind rows e number

-- A row that is taken moves nothing: each node over the rows before it keeps its number.
abbrev pub RowKeeps : Type 0
RowKeeps =
    (kind : ℕ) (rows : List Entry) (t : Table) (e : Entry) → Holds kind rows t → Proper kind e → (placed kind e t).number ≡ 0
    → (a : Node) → Over rows a → node_of (placed kind e t).table.slots a ≡ node_of t.slots a

-- And a new frequency takes the lowest free slot, wherever that is.
abbrev pub LowestFree : Type 0
LowestFree =
    (kind : ℕ) (rows : List Entry) (t : Table) (e : Entry) → Holds kind rows t → Proper kind e → (placed kind e t).number ≡ 0
    → (Memᴰ e.tick1 (ticks_said rows) → ⊥)
    → slot_of eqb (placed kind e t).table.slots.ticks e.tick1 ≡ slot_of eqb t.slots.ticks 0
