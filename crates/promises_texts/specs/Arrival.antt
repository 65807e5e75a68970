-- Demand 2, slots in order of arrival (document 01, "The table": "given in order of arrival"): where a table was opened and has taken rows since, with none dropped, its frequencies and
-- headings stand from the first slot on, each where it first came. What a table holds does not rest on it (specs/Holds).
use Rattle.std.specs.Prelude.{List, [], ◌∷◌, ◌++◌, ◌≡◌, ℕ, ◌+◌, ℤ, pos, length, replicate}
use Rattle.row.specs.declared.reading.Choices.{Choices}
use Rattle.row.specs.declared.reading.Entry.{Entry}
use Rattle.grid.specs.declared.nodes.Slots.{Slots}
use Rattle.table.specs.Placing.{Table, placed}
use Rattle.reader.specs.Model.{free_slots, State}
use Rattle.promises_rows.specs.Said.{Proper, ticks_of, headings_of}
use Rattle.promises_tables.specs.Holds.{Holds}
use Rattle.promises_chains.specs.Chain.{Call, calls_of, Opens, chain, chain_text}
use Rattle.promises_texts.specs.Start.{Start, StartsAt}
use Rattle.promises_texts.specs.Along.{TableFrom, TableIs}

-- so many slots, which hold the values xs in turn, and z in those behind them
pub record Filled {A : Type 0} (slots : ℕ) (z : A) (l xs : List A) : Type 0 where
  pub free : ℕ
  pub room : length xs + free ≡ slots
  pub all : l ≡ xs ++ replicate free z

-- the distinct frequencies and headings of the rows, "PER1 before PER2 and BETA1 before BETA2", and then free slots
pub record InArrival (rows : List Entry) (s : Slots) : Type 0 where
  pub ticks : Filled 20 0 s.ticks (ticks_of rows)
  pub headings : Filled 4 (pos 0) s.headings (headings_of rows)
  pub held : s.held ≡ length (headings_of rows)

abbrev pub OpenArrival : Type 0
OpenArrival = InArrival [] free_slots

-- a row that is taken keeps them so; one that is refused changes no slot (`RowPlaced`)
abbrev pub RowArrival : Type 0
RowArrival =
    (kind : ℕ) (rows : List Entry) (t : Table) (e : Entry) → Holds kind rows t → Proper kind e → InArrival rows t.slots → (placed kind e t).number ≡ 0
    → InArrival (rows ++ (e ∷ [])) (placed kind e t).table.slots

-- so calls from a start whose slots are filled so leave them so, with the rows that the table then holds (`CallsTable`)
abbrev pub CallsArrival : Type 0
CallsArrival =
    (g : Start) (s : State) (calls : List Call) (rows : List Entry) → StartsAt g s → InArrival g.rows s.reader.slots
    → TableFrom g (chain_text calls) (calls_of calls s) rows
    → InArrival (g.rows ++ rows) (calls_of calls s).reader.slots

-- and at every point of a chain
abbrev pub ChainArrival : Type 0
ChainArrival =
    (c : Choices) (cells : List ℤ) (flags : List ℕ) (calls : List Call) (rows : List Entry) → Opens c cells flags
    → TableIs c (chain_text calls) (chain c cells flags calls) rows
    → InArrival rows (chain c cells flags calls).reader.slots

-- ---- a free slot in front of one that is held

-- a row of one frequency, at 30 degrees
abbrev pub row_at : ℕ → Entry
row_at f = record { tick1 = f; tick2 = f; heading1 = pos 30_000; heading2 = pos 30_000; re = pos 7; im = pos 0 }

-- worked: a table that holds a row of 500 in the second slot, with the first one free, takes a row of 600 into the first, and holds both
pub record TakesFree (t : Table) : Type 0 where
  pub second : t.slots.ticks ≡ 0 ∷ (500 ∷ replicate 18 0)
  pub holds : Holds 0 (row_at 500 ∷ []) t
  pub taken : (placed 0 (row_at 600) t).number ≡ 0
  pub first : (placed 0 (row_at 600) t).table.slots.ticks ≡ 600 ∷ (500 ∷ replicate 18 0)
  pub holds-both : Holds 0 (row_at 500 ∷ (row_at 600 ∷ [])) (placed 0 (row_at 600) t).table

abbrev pub FreeSlotTaken : Type 0
FreeSlotTaken = (t : Table) × TakesFree t
