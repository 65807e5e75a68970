-- Demand 2, where things stand and what a used row writes (document 01, "The table"), in the paper's own numbers: "node = 20 times heading slot plus frequency slot. The cell of nodes
-- r, c is at 2(80r + c): real, then imaginary .. The flag of r, c is byte 80r + c". It is said by index, of any slots, cells and flags, whoever wrote them, so that a wrong place in the
-- definitions of crates/table is found.
use Rattle.std.specs.Prelude.{List, ◌↔◌, ◌≡◌, ℕ, ◌+◌, ◌*◌, ◌≤◌, ◌<◌, ℤ, pos, neg_ℤ, length, get_or, set}
use Rattle.whole.specs.Complex.{Complex}
use Rattle.row.specs.declared.reading.Entry.{Entry}
use Rattle.grid.specs.declared.nodes.Node.{Node}
use Rattle.grid.specs.declared.nodes.Slots.{Slots}
use Rattle.table.specs.Cells.{place_of}
use Rattle.table.specs.Placing.{Table, placed}
use Rattle.table.specs.Closing.{node_of}
use Rattle.table.specs.View.{view_of}
use Rattle.promises_rows.specs.Said.{Proper}

-- ---- slots

-- there are 20 for frequencies and 4 for headings
pub record Wide (s : Slots) : Type 0 where
  pub ticks : length s.ticks ≡ 20
  pub headings : length s.headings ≡ 4

-- a value stands in slot i, and in no slot before it
pub record StandsIn {A : Type 0} (slots : List A) (free : A) (i : ℕ) (value : A) : Type 0 where
  pub there : get_or slots i free ≡ value
  pub first : (j : ℕ) → j < i → get_or slots j free ≡ value → ⊥

-- "A node is a frequency with a heading": this one has frequency slot f and heading slot h, which is among those held
pub record NodeIn (s : Slots) (tick : ℕ) (heading : ℤ) (f h : ℕ) : Type 0 where
  pub one-of-twenty : f < 20
  pub one-of-four : h < 4
  pub among-held : h < s.held
  pub tick-stands : StandsIn s.ticks 0 f tick
  pub heading-stands : StandsIn s.headings (pos 0) h heading

-- ---- the slots that a row takes

-- a frequency that has a slot takes that one, and a new one the lowest that is free, which is 0
pub data TickTakes (ticks : List ℕ) (tick f : ℕ) : Type 0 where
  stood : f < 20 → StandsIn ticks 0 f tick → TickTakes ticks tick f
  lowest-free : ((i : ℕ) → i < 20 → get_or ticks i 0 ≡ tick → ⊥) → f < 20 → StandsIn ticks 0 f 0 → TickTakes ticks tick f

-- of the headings so many are held: one of those takes its own slot, and a new one the next, of 4
pub data HeadingTakes (headings : List ℤ) (held : ℕ) (heading : ℤ) (h more : ℕ) : Type 0 where
  stood : h < 4 → h < held → StandsIn headings (pos 0) h heading → more ≡ held → HeadingTakes headings held heading h more
  next : ((i : ℕ) → i < held → get_or headings i (pos 0) ≡ heading → ⊥) → held < 4 → h ≡ held → more ≡ held + 1 → HeadingTakes headings held heading h more

-- "in order of arrival, PER1 before PER2 and BETA1 before BETA2": the second finds the first in its slot
pub record RowTakes (s : Slots) (e : Entry) (f1 h1 f2 h2 : ℕ) : Type 0 where
  pub per1 : TickTakes s.ticks e.tick1 f1
  pub per2 : TickTakes (set s.ticks f1 e.tick1) e.tick2 f2
  pub held_first : ℕ
  pub held-second : ℕ
  pub beta1 : HeadingTakes s.headings s.held e.heading1 h1 held_first
  pub beta2 : HeadingTakes (set s.headings h1 e.heading1) held_first e.heading2 h2 held-second

-- ---- 8 and 9

-- the flag of nodes r, c is set, "any byte but 0", and their cell holds another value
pub record SetToOther (t : Table) (r c : ℕ) (re im : ℤ) : Type 0 where
  pub set : get_or t.flags (80 * r + c) 0 ≡ 0 → ⊥
  pub other : get_or t.cells (2 * (80 * r + c)) (pos 0) ≡ re → get_or t.cells (2 * (80 * r + c) + 1) (pos 0) ≡ im → ⊥

-- "cell or its mirror already set to another value": "the conjugate in a difference table, the same in a sum table". Kind 0 is difference
pub data Contradicts (kind : ℕ) (e : Entry) (t : Table) (r c : ℕ) : Type 0 where
  its-cell : SetToOther t r c e.re e.im → Contradicts kind e t r c
  mirror-of-difference : kind ≡ 0 → SetToOther t c r e.re (neg_ℤ e.im) → Contradicts kind e t r c
  mirror-of-sum : (kind ≡ 0 → ⊥) → SetToOther t c r e.re e.im → Contradicts kind e t r c

-- the number of a row that passed 4 to 7: 8 where there are no slots for it, "a 21st frequency or 5th heading"; 9; else 0
pub data NumberIs (kind : ℕ) (e : Entry) (t : Table) : ℕ → Type 0 where
  eight : ((f1 h1 f2 h2 : ℕ) → RowTakes t.slots e f1 h1 f2 h2 → ⊥) → NumberIs kind e t 8
  nine :
      (f1 h1 f2 h2 : ℕ) → RowTakes t.slots e f1 h1 f2 h2 → Contradicts kind e t (20 * h1 + f1) (20 * h2 + f2)
      → NumberIs kind e t 9
  none :
      (f1 h1 f2 h2 : ℕ) → RowTakes t.slots e f1 h1 f2 h2 → (Contradicts kind e t (20 * h1 + f1) (20 * h2 + f2) → ⊥)
      → NumberIs kind e t 0

-- over any slots, cells and flags
abbrev pub NumberExactly : Type 0
NumberExactly = (kind : ℕ) (e : Entry) (t : Table) → Proper kind e → Wide t.slots → (number : ℕ) → ((placed kind e t).number ≡ number) ↔ NumberIs kind e t number

-- ---- what a used row writes

-- any slots, and of what the caller lends "12,800 signed 32-bit numbers and 6,400 flag bytes" or more
pub record Lent (t : Table) : Type 0 where
  pub slots : Wide t.slots
  pub cells : 12_800 ≤ length t.cells
  pub flags : 6_400 ≤ length t.flags

-- cells after a row of nodes r, c: "cell (x, y) and its mirror (y, x)", "the conjugate in a difference table, the same in a sum table" (kind 0 is difference). Every other cell of all that
-- is lent is as it was
pub record CellsAfter (kind : ℕ) (e : Entry) (r c : ℕ) (before after : List ℤ) : Type 0 where
  pub re : get_or after (2 * (80 * r + c)) (pos 0) ≡ e.re
  pub im : get_or after (2 * (80 * r + c) + 1) (pos 0) ≡ e.im
  pub mirror-re : get_or after (2 * (80 * c + r)) (pos 0) ≡ e.re
  pub mirror-in-difference : kind ≡ 0 → get_or after (2 * (80 * c + r) + 1) (pos 0) ≡ neg_ℤ e.im
  pub mirror-in-sum : (kind ≡ 0 → ⊥) → get_or after (2 * (80 * c + r) + 1) (pos 0) ≡ e.im
  pub rest :
      (i : ℕ) → (i ≡ 2 * (80 * r + c) → ⊥) → (i ≡ 2 * (80 * r + c) + 1 → ⊥) → (i ≡ 2 * (80 * c + r) → ⊥) → (i ≡ 2 * (80 * c + r) + 1 → ⊥)
      → get_or after i (pos 0) ≡ get_or before i (pos 0)
  pub as_many : length after ≡ length before

-- "and both flags to 1", whatever byte stood there; every other flag is as it was
pub record FlagsAfter (r c : ℕ) (before after : List ℕ) : Type 0 where
  pub flag : get_or after (80 * r + c) 0 ≡ 1
  pub mirror-flag : get_or after (80 * c + r) 0 ≡ 1
  pub rest : (i : ℕ) → (i ≡ 80 * r + c → ⊥) → (i ≡ 80 * c + r → ⊥) → get_or after i 0 ≡ get_or before i 0
  pub as_many : length after ≡ length before

-- every slot but those two is as it was
pub record SlotsAfter {A : Type 0} (free : A) (one two : ℕ) (before after : List A) : Type 0 where
  pub rest : (i : ℕ) → (i ≡ one → ⊥) → (i ≡ two → ⊥) → get_or after i free ≡ get_or before i free
  pub as_many : length after ≡ length before

-- the row takes slots f1, h1 and f2, h2, and its two nodes stand there afterwards: they are nodes 20 h1 + f1 and 20 h2 + f2
pub record RowWrote (kind : ℕ) (e : Entry) (before after : Table) : Type 0 where
  pub f1 : ℕ
  pub h1 : ℕ
  pub f2 : ℕ
  pub h2 : ℕ
  pub takes : RowTakes before.slots e f1 h1 f2 h2
  pub first-node : NodeIn after.slots e.tick1 e.heading1 f1 h1
  pub second-node : NodeIn after.slots e.tick2 e.heading2 f2 h2
  pub ticks : SlotsAfter 0 f1 f2 before.slots.ticks after.slots.ticks
  pub headings : SlotsAfter (pos 0) h1 h2 before.slots.headings after.slots.headings
  pub held : after.slots.held ≡ takes.held-second
  pub cells : CellsAfter kind e (20 * h1 + f1) (20 * h2 + f2) before.cells after.cells
  pub flags : FlagsAfter (20 * h1 + f1) (20 * h2 + f2) before.flags after.flags

-- so of a row that passed 4 to 7 and gets no number
abbrev pub UsedRowWrites : Type 0
UsedRowWrites = (kind : ℕ) (e : Entry) (t : Table) → Proper kind e → Lent t → (placed kind e t).number ≡ 0 → RowWrote kind e t (placed kind e t).table

-- "A refused row writes no slot, cell or flag"
abbrev pub RefusedRowWrites : Type 0
RefusedRowWrites = (kind : ℕ) (e : Entry) (t : Table) → ((placed kind e t).number ≡ 0 → ⊥) → (placed kind e t).table ≡ t

-- ---- what is read

-- the entry of nodes r, c
pub record CellIs (cells : List ℤ) (r c : ℕ) (entry : Complex) : Type 0 where
  pub re : entry.re ≡ get_or cells (2 * (80 * r + c)) (pos 0)
  pub im : entry.im ≡ get_or cells (2 * (80 * r + c) + 1) (pos 0)

-- what a query reads of two nodes, over any cells
abbrev pub QueryReads : Type 0
QueryReads =
    (s : Slots) (cells : List ℤ) (a b : Node) (f1 h1 f2 h2 : ℕ) → Wide s
    → NodeIn s a.tick a.heading f1 h1
    → NodeIn s b.tick b.heading f2 h2
    → CellIs cells (20 * h1 + f1) (20 * h2 + f2) ((view_of s cells).entry a b)

-- and the flag of two nodes, which closing reads both ways (`ClosedAsExactly`, crates/promises_as_they_stand)
abbrev pub FlagPlaced : Type 0
FlagPlaced =
    (s : Slots) (a b : Node) (f1 h1 f2 h2 : ℕ) → Wide s
    → NodeIn s a.tick a.heading f1 h1
    → NodeIn s b.tick b.heading f2 h2
    → place_of (node_of s a) (node_of s b) ≡ 80 * (20 * h1 + f1) + (20 * h2 + f2)
