-- Demand 2, a table by values is what its rows say: the ticks and headings that it holds are those of the rows, an entry is what rows say of its two nodes, and (0, 0) where
-- none does; swapping both nodes gives the mirror; and rows that say the same, in any order and with any repeats, make tables that are alike.
use Rattle.std.specs.Prelude.{true, ◌↔◌, ◌≡◌, ℕ, ℤ, pos}
use mathlib.Core.List.{List, Memᴰ}
use Rattle.whole.specs.Complex.{Complex}
use Rattle.row.specs.declared.reading.Entry.{Entry}
use Rattle.grid.specs.declared.nodes.Node.{Node}
use Rattle.table.specs.Placing.{Table}
use Rattle.table.specs.Entries.{entry_at}
use Rattle.table.specs.View.{has_tick, has_heading, has_node, view_of}
use Rattle.promises_rows.specs.Said.{mirror_of, Said, ticks_said, headings_said}
use Rattle.promises_tables.specs.Holds.{Holds}
use Rattle.promises_rows.specs.ByValue.{Alike}

-- ---- ticks and headings

abbrev pub TicksHeld : Type 0
TicksHeld = (kind : ℕ) (rows : List Entry) (t : Table) → Holds kind rows t → (f : ℕ) → (has_tick t.slots f ≡ true) ↔ Memᴰ f (ticks_said rows)

abbrev pub HeadingsHeld : Type 0
HeadingsHeld = (kind : ℕ) (rows : List Entry) (t : Table) → Holds kind rows t → (h : ℤ) → (has_heading t.slots h ≡ true) ↔ Memᴰ h (headings_said rows)

-- ---- entries

-- what rows say of two nodes; nothing of them is (0, 0)
pub data Looked (kind : ℕ) (rows : List Entry) (a b : Node) : Complex → Type 0 where
  said : {v : Complex} → Said kind rows a b v → Looked kind rows a b v
  unsaid : ((v : Complex) → Said kind rows a b v → ⊥) → Looked kind rows a b (record { re = pos 0; im = pos 0 })

abbrev pub EntryLooked : Type 0
EntryLooked =
    (kind : ℕ) (rows : List Entry) (t : Table) → Holds kind rows t → (a b : Node) → has_node t.slots a ≡ true → has_node t.slots b ≡ true
    → Looked kind rows a b (entry_at t.slots t.cells a b)

-- "Swapping both frequency and heading conjugates a difference entry and keeps a sum entry"
abbrev pub EntrySwapped : Type 0
EntrySwapped =
    (kind : ℕ) (rows : List Entry) (t : Table) → Holds kind rows t → (a b : Node) → has_node t.slots a ≡ true → has_node t.slots b ≡ true
    → entry_at t.slots t.cells b a ≡ mirror_of kind (entry_at t.slots t.cells a b)

-- ---- two lists of rows

-- they say the same of the same nodes
abbrev pub SameSaid : ℕ → List Entry → List Entry → Type 0
SameSaid kind rows more = (a b : Node) (v : Complex) → Said kind rows a b v ↔ Said kind more a b v

abbrev pub TablesAlike : Type 0
TablesAlike =
    (kind : ℕ) (rows more : List Entry) (t u : Table) → Holds kind rows t → Holds kind more u → SameSaid kind rows more
    → Alike (view_of t.slots t.cells) (view_of u.slots u.cells)

-- "order and repeats make no difference": the same rows, in whatever order and however often
abbrev pub SameRows : List Entry → List Entry → Type 0
SameRows rows more = (e : Entry) → Memᴰ e rows ↔ Memᴰ e more

abbrev pub OrderAlike : Type 0
OrderAlike =
    (kind : ℕ) (rows more : List Entry) (t u : Table) → Holds kind rows t → Holds kind more u → SameRows rows more
    → Alike (view_of t.slots t.cells) (view_of u.slots u.cells)
