-- What a valid record is (document 01, below the sixteen numbers), as facts of its values: "A valid record has at most 20 distinct ticks of 100 to 10,000, at most 4 distinct headings
-- in range, at most 160 kept bytes, no line feed among them, a count of lines begun of at most 1,000,000, valid choices, ticks and headings both present or, if not accepted, both
-- absent, and a stuck number only of those that stick", with 17 among those and no heading of -180,000 (document 02, M-101 and M-102). The test of the model, `valid_of`, is exactly this. The paper's numbers stand here as numbers, so that a wrong one in the model's
-- definitions is found.
use Rattle.std.specs.Prelude.{true, ◌↔◌, ◌≡◌, ℕ, ◌≤◌, ◌<◌, ℤ, pos, neg_ℤ, length, take}
use mathlib.Core.List.{List, Memᴰ}
use Rattle.grid.specs.Slots.{held_ticks, held_headings}
use Rattle.reader.specs.declared.record.Record.{Record}
use Rattle.reader.specs.Valid.{valid_of}
use Rattle.promises_calls.specs.Choices.{ChoicesAsked}
use Rattle.promises_calls.specs.Kept.{Shaped}
use Rattle.promises_rows.specs.Said.{Within, Once}

-- never opened, open or accepted; or stuck, with one of the numbers that stick
pub data StageAsked (stage : ℕ) : Type 0 where
  never-opened : stage ≡ 0 → StageAsked stage
  still_open : stage ≡ 1 → StageAsked stage
  accepted : stage ≡ 2 → StageAsked stage
  stuck : 3 ≤ stage → stage ≤ 11 → StageAsked stage
  stuck-17 : stage ≡ 17 → StageAsked stage

-- the ticks that are held: a slot that is free has 0 (`HeldExactly`). The record's type has 20 slots (`Shaped`), so there are never more
pub record TicksAsked (ticks : List ℕ) : Type 0 where
  pub few : length ticks ≤ 20
  pub in-range : (t : ℕ) → Memᴰ t ticks → (100 ≤ t) × (t ≤ 10_000)
  pub distinct : Once ticks

-- so many headings, and those that are held. -180,000 is read as 180,000, and no valid record holds it (M-102)
pub record HeadingsAsked (held : ℕ) (headings : List ℤ) : Type 0 where
  pub few : held ≤ 4
  pub in-range : (h : ℤ) → Memᴰ h headings → Within 180_000 h
  pub not-minus : Memᴰ (neg_ℤ (pos 180_000)) headings → ⊥
  pub distinct : Once headings

-- ticks and headings are both present or, if not accepted, both absent
pub data PresenceAsked (stage ticks headings : ℕ) : Type 0 where
  both-present : 0 < ticks → 0 < headings → PresenceAsked stage ticks headings
  both-absent : (stage ≡ 2 → ⊥) → ticks ≡ 0 → headings ≡ 0 → PresenceAsked stage ticks headings

pub record ValidRecord (r : Record) : Type 0 where
  pub ticks : TicksAsked (held_ticks r.slots.ticks)
  pub headings : HeadingsAsked r.slots.held (held_headings r.slots)
  pub kept : r.marks.count ≤ 160
  pub no-line-feed : Memᴰ 10 (take r.marks.count r.kept) → ⊥
  pub lines : r.marks.lines ≤ 1_000_000
  pub choices : ChoicesAsked r.choices
  pub presence : PresenceAsked r.marks.stage (length (held_ticks r.slots.ticks)) r.slots.held
  pub stage : StageAsked r.marks.stage

-- a tick that is held stands in a slot, and is not 0
abbrev pub HeldExactly : Type 0
HeldExactly = (slots : List ℕ) (t : ℕ) → Memᴰ t (held_ticks slots) ↔ (Memᴰ t slots × (t ≡ 0 → ⊥))

-- whoever made the record
abbrev pub ValidExactly : Type 0
ValidExactly = (r : Record) → Shaped r → (valid_of r ≡ true) ↔ ValidRecord r
