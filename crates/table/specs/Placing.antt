-- A used row put into the table (document 01, "The table" and "The sixteen numbers"): it takes its slots, "PER1 before PER2 and BETA1 before BETA2"; it is refused
-- 8 where there is no slot left, and 9 where its cell or the mirror's is already set to another value; else it "sets cell (x, y) and its mirror (y, x) and both
-- flags to 1".
use Rattle.std.specs.Prelude.{Bool, cond, not, ◌&&◌, ◌||◌, List, ℕ, ltb, ℤ, Result, Ok, Err}
use Rattle.whole.specs.Complex.{Complex}
use Rattle.row.specs.declared.reading.Entry.{Entry}
use Rattle.grid.specs.declared.nodes.Slots.{Slots}
use Rattle.refusals.specs.declared.refusal.Refusal.{Refusal}
use Rattle.refusals.specs.Numbered.{number_of}
use Rattle.grid.specs.Slots.{tick_slot, with_tick, heading_slot, with_heading, held_with}
use Rattle.table.specs.Cells.{node_at, place_of, cell_at, is_set, with_cell, with_flag, same_value, mirror}

-- the slots with both frequencies and both headings of the row
unfoldable pub grown : Slots → Entry → Slots
grown s e =
    let headings = with_heading s.headings s.held e.heading1 in
    let held = held_with s.headings s.held e.heading1 in
    record {
      ticks = with_tick (with_tick s.ticks e.tick1) e.tick2;
      headings = with_heading headings held e.heading2;
      held = held_with headings held e.heading2;
    }

-- the slots that the row takes
unfoldable pub tick₁ : Slots → Entry → ℕ
tick₁ s e = tick_slot s.ticks e.tick1

unfoldable pub tick₂ : Slots → Entry → ℕ
tick₂ s e = tick_slot (with_tick s.ticks e.tick1) e.tick2

unfoldable pub heading₁ : Slots → Entry → ℕ
heading₁ s e = heading_slot s.headings s.held e.heading1

unfoldable pub heading₂ : Slots → Entry → ℕ
heading₂ s e =
    heading_slot (with_heading s.headings s.held e.heading1) (held_with s.headings s.held e.heading1) e.heading2

-- 8 where this fails: "a 21st frequency or 5th heading"
unfoldable pub fits : Slots → Entry → Bool
fits s e = ltb (tick₁ s e) 20 && (ltb (tick₂ s e) 20 && (ltb (heading₁ s e) 4 && ltb (heading₂ s e) 4))

-- the row's two nodes, and the places of its cell and of the mirror's
unfoldable pub node₁ : Slots → Entry → ℕ
node₁ s e = node_at (heading₁ s e) (tick₁ s e)

unfoldable pub node₂ : Slots → Entry → ℕ
node₂ s e = node_at (heading₂ s e) (tick₂ s e)

unfoldable pub here : Slots → Entry → ℕ
here s e = place_of (node₁ s e) (node₂ s e)

unfoldable pub there : Slots → Entry → ℕ
there s e = place_of (node₂ s e) (node₁ s e)

abbrev pub value_of : Entry → Complex
value_of e = record { re = e.re; im = e.im }

-- a table: its slots, cells and flags
pub record Table : Type 0 where
  pub slots : Slots
  pub cells : List ℤ
  pub flags : List ℕ

abbrev pub table_of : Slots → List ℤ → List ℕ → Table
table_of s cells flags = record { slots = s; cells = cells; flags = flags }

-- "already set to another value"
unfoldable pub clashes : Table → ℕ → Complex → Bool
clashes t p v = is_set t.flags p && not (same_value (cell_at t.cells p) v)

unfoldable pub written : ℕ → Entry → Table → Table
written kind e t =
    let p = here t.slots e in
    let q = there t.slots e in
    record {
      slots = grown t.slots e;
      cells = with_cell (with_cell t.cells p (value_of e)) q (mirror kind (value_of e));
      flags = with_flag (with_flag t.flags p) q;
    }

-- what comes of a row: the number of its refusal, 0 where it has none, and the table after it
pub record Placed : Type 0 where
  pub number : ℕ
  pub table : Table

unfoldable pub placed : ℕ → Entry → Table → Placed
placed kind e t =
    cond (fits t.slots e)
    (cond (clashes t (here t.slots e) (value_of e) || clashes t (there t.slots e) (mirror kind (value_of e)))
    (record { number = 9; table = t })
    (record { number = 0; table = written kind e t }))
    (record { number = 8; table = t })

-- what the code returns, with the cells and flags that it leaves; a row that is refused leaves the slots as they were
abbrev pub placed_by : Slots → Result Slots Refusal → List ℤ → List ℕ → Placed
placed_by s (Ok slots) cells flags = record { number = 0; table = table_of slots cells flags }
placed_by s (Err refusal) cells flags = record { number = number_of refusal; table = table_of s cells flags }
