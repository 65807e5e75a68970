-- Demand 1, refusals 8, 9, 10 and 11 said of slots, cells and flags as they stand, whoever wrote them (document 01, "The table" and "The sixteen numbers"): "any byte but 0 is
-- set"; 9 is "cell or its mirror already set to another value", 11 "a needed pair is missing (either flag not set)". How they came about is left open.
use Rattle.std.specs.Prelude.{List, [], ◌⊎◌, ◌↔◌, ◌≡◌, ℕ, ◌+◌, ◌≤◌, ◌<◌, eqb, length, get_or}
use Rattle.whole.specs.Complex.{Complex}
use Rattle.row.specs.declared.reading.Entry.{Entry}
use Rattle.row.specs.Told.{Row}
use Rattle.row.specs.LineRules.{LineIs}
use Rattle.grid.specs.declared.nodes.Pair.{Pair}
use Rattle.grid.specs.declared.nodes.Slots.{Slots}
use Rattle.grid.specs.Slots.{held_ticks}
use Rattle.table.specs.Cells.{place_of, cell_at}
use Rattle.table.specs.Placing.{tick₁, tick₂, heading₁, heading₂, here, there, value_of, Table, placed}
use Rattle.table.specs.Closing.{node_of}
use Rattle.reader.specs.declared.record.Record.{Record}
use Rattle.reader.specs.declared.reader.Place.TheVariants as Place
use Rattle.reader.specs.declared.reader.Answer.{Answer}
use Rattle.reader.specs.Model.{State, table_at, finished, close_of}
use Rattle.promises_calls.specs.Kept.{Shaped}
use Rattle.promises_calls.specs.Answers.{Short, Open}
use Rattle.promises_calls.specs.Lines.{line_read}
use Rattle.promises_calls.specs.Refusals.{IsOpen}
use Rattle.promises_texts.specs.Accepted.{Limits}
use Rattle.promises_rows.specs.Said.{Proper, mirror_of}
use Rattle.promises_tables.specs.Rules.{NodeBelow, PairBelow}
use Rattle.promises_listings.specs.Listings.{NeededPair}

-- "any byte but 0 is set"
abbrev pub IsSet : List ℕ → ℕ → Type 0
IsSet flags place = get_or flags place 0 ≡ 0 → ⊥

-- ---- a row

-- 8 where this fails: the slots that the row's frequencies and headings have, or would take, are among the 20 and the 4
pub record HasRoom (s : Slots) (e : Entry) : Type 0 where
  pub first-tick : tick₁ s e < 20
  pub second-tick : tick₂ s e < 20
  pub first-heading : heading₁ s e < 4
  pub second-heading : heading₂ s e < 4

-- the flag of a place is set, and its cell holds something else
pub record SetToOther (t : Table) (place : ℕ) (v : Complex) : Type 0 where
  pub set : IsSet t.flags place
  pub other : cell_at t.cells place ≡ v → ⊥

-- 9: "cell or its mirror already set to another value"
abbrev pub Contradicts : ℕ → Entry → Table → Type 0
Contradicts kind e t = SetToOther t (here t.slots e) (value_of e) ⊎ SetToOther t (there t.slots e) (mirror_of kind (value_of e))

pub data PlacedAs (kind : ℕ) (e : Entry) (t : Table) : ℕ → Type 0 where
  eight : (HasRoom t.slots e → ⊥) → PlacedAs kind e t 8
  nine : HasRoom t.slots e → Contradicts kind e t → PlacedAs kind e t 9
  none : HasRoom t.slots e → (Contradicts kind e t → ⊥) → PlacedAs kind e t 0

-- a row that passed 4 to 7, over any slots, cells and flags
abbrev pub PlacedExactly : Type 0
PlacedExactly = (kind : ℕ) (e : Entry) (t : Table) → Proper kind e → (number : ℕ) → ((placed kind e t).number ≡ number) ↔ PlacedAs kind e t number

-- a line that is such a row, read by an open reader
pub record UsedLine (line : List ℕ) (s : State) (e : Entry) : Type 0 where
  pub still : IsOpen s
  pub limits : Limits s.reader.marks.lines line
  pub is : LineIs s.reader.choices (eqb s.reader.marks.lines 0) line (Row.Used e)

-- is refused 8 or 9 so, and the reader is stuck with the line's own number for a place
pub record StuckWith (number line : ℕ) (s : State) : Type 0 where
  pub stage : s.reader.marks.stage ≡ number
  pub place : s.reader.marks.line ≡ line

abbrev pub UsedLineExactly : Type 0
UsedLineExactly =
    (line : List ℕ) (s : State) (e : Entry) → UsedLine line s e → (number : ℕ) → 3 ≤ number
    → StuckWith number (s.reader.marks.lines + 1) (line_read line s) ↔ PlacedAs s.reader.choices.kind e (table_at s) number

-- ---- closing

-- the flag of the pair, and that of the pair swapped
abbrev pub flag_place : Record → Pair → ℕ
flag_place r p = place_of (node_of r.slots p.first) (node_of r.slots p.second)

abbrev pub mirror_place : Record → Pair → ℕ
mirror_place r p = place_of (node_of r.slots p.second) (node_of r.slots p.first)

-- "a needed pair is missing (either flag not set)"
pub record Lacks (r : Record) (flags : List ℕ) (p : Pair) : Type 0 where
  pub needed : NeededPair r p
  pub either : (get_or flags (flag_place r p) 0 ≡ 0) ⊎ (get_or flags (mirror_place r p) 0 ≡ 0)

-- "the first missing pair .. first node not above the second"
pub record FirstLacking (r : Record) (flags : List ℕ) (p : Pair) : Type 0 where
  pub lacks : Lacks r flags p
  pub order : (p.first ≡ p.second) ⊎ NodeBelow p.first p.second
  pub least : (q : Pair) → Lacks r flags q → (q ≡ p) ⊎ PairBelow p q

pub data ClosedAs (r : Record) (flags : List ℕ) : Answer → Type 0 where
  ten : held_ticks r.slots.ticks ≡ [] → ClosedAs r flags (Answer.Refused 10 Place.Nowhere)
  eleven : {p : Pair} → FirstLacking r flags p → ClosedAs r flags (Answer.Refused 11 (Place.Pair p))
  accepted :
      (held_ticks r.slots.ticks ≡ [] → ⊥) → ((p : Pair) → Lacks r flags p → ⊥)
      → ClosedAs r flags (Answer.Accepted (length (held_ticks r.slots.ticks)) r.slots.held)

-- closing an open record, once its unfinished line is read and not refused, over any cells and flags that are long enough
abbrev pub ClosedAsExactly : Type 0
ClosedAsExactly =
    (s : State) → Shaped s.reader → Open s.reader → (Short s → ⊥) → IsOpen (finished s) → (a : Answer)
    → ((close_of s).answer ≡ a) ↔ ClosedAs (finished s).reader (finished s).flags a
