-- Demand 1, what every call answers and what each refusal leaves (document 01, "The sixteen numbers"): 1 and 2 exactly when the table says, and they change nothing; a refusal
-- 3 to 11, and document 02's 17 (M-101), sticks: "each later piece or closing gives the same number and place, ahead of every other test but that of a valid record, and changes nothing".
use Rattle.std.specs.Prelude.{true, List, ◌⊎◌, ◌↔◌, ◌≡◌, ℕ, ◌≤◌, ◌<◌, ℤ, length}
use Rattle.row.specs.declared.reading.Choices.{Choices}
use Rattle.reader.specs.declared.record.Record.{Record}
use Rattle.reader.specs.Valid.{valid_of, sticks, valid_choices}
use Rattle.reader.specs.declared.reader.Place.{Place}
use Rattle.reader.specs.declared.reader.Answer.{Answer}
use Rattle.reader.specs.Model.{State, Out, state_of, out, number_of, never, open_of, piece_of, close_of}
use Rattle.promises_calls.specs.Kept.{Shaped}
use Rattle.table.specs.Cells.{cells_lent, flags_lent}

-- ---- what the numbers 1 and 2 say

-- a valid record that is stuck with a refusal
pub record Stuck (r : Record) : Type 0 where
  pub valid : valid_of r ≡ true
  pub stage : sticks r.marks.stage ≡ true

-- a lent buffer is too short
abbrev pub Short : State → Type 0
Short s = (length s.cells < cells_lent) ⊎ (length s.flags < flags_lent)

-- valid, and opened and not closed
pub record Open (r : Record) : Type 0 where
  pub valid : valid_of r ≡ true
  pub stage : r.marks.stage ≡ 1

-- of a call that goes on from an opened record
pub record ExactlyWhen (s : State) (o : Out) : Type 0 where
  pub one : (number_of o.answer ≡ 1) ↔ ((Stuck s.reader → ⊥) × Short s)
  pub two : (number_of o.answer ≡ 2) ↔ ((Stuck s.reader → ⊥) × (Short s → ⊥) × (Open s.reader → ⊥))

abbrev pub PieceNumbers : Type 0
PieceNumbers = (text : List ℕ) (s : State) → ExactlyWhen s (piece_of text s)

abbrev pub CloseNumbers : Type 0
CloseNumbers = (s : State) → ExactlyWhen s (close_of s)

-- of opening: 1, then 2 for a choice that is not valid
pub record OpenExactlyWhen (c : Choices) (cells : List ℤ) (flags : List ℕ) (o : Out) : Type 0 where
  pub one : (number_of o.answer ≡ 1) ↔ ((length cells < cells_lent) ⊎ (length flags < flags_lent))
  pub two : (number_of o.answer ≡ 2) ↔ ((cells_lent ≤ length cells) × (flags_lent ≤ length flags) × (valid_choices c ≡ true → ⊥))
  pub no_other : number_of o.answer ≤ 2

abbrev pub OpenNumbers : Type 0
OpenNumbers = (c : Choices) (cells : List ℤ) (flags : List ℕ) → OpenExactlyWhen c cells flags (open_of c cells flags)

-- the column "Place" has 0 for both: an answer with the number 1 or 2 is that refusal with no place, on every record and slices
pub record Placeless (a : Answer) : Type 0 where
  pub one : number_of a ≡ 1 → a ≡ Answer.Refused 1 Place.Nowhere
  pub two : number_of a ≡ 2 → a ≡ Answer.Refused 2 Place.Nowhere

abbrev pub OpenPlaceless : Type 0
OpenPlaceless = (c : Choices) (cells : List ℤ) (flags : List ℕ) → Placeless (open_of c cells flags).answer

abbrev pub PiecePlaceless : Type 0
PiecePlaceless = (text : List ℕ) (s : State) → Placeless (piece_of text s).answer

abbrev pub ClosePlaceless : Type 0
ClosePlaceless = (s : State) → Placeless (close_of s).answer

-- ---- what they leave

-- refusals 1 and 2 change nothing
abbrev pub PieceUnchanged : Type 0
PieceUnchanged = (text : List ℕ) (s : State) → (number_of (piece_of text s).answer ≡ 1) ⊎ (number_of (piece_of text s).answer ≡ 2) → (piece_of text s).after ≡ s

abbrev pub CloseUnchanged : Type 0
CloseUnchanged = (s : State) → (number_of (close_of s).answer ≡ 1) ⊎ (number_of (close_of s).answer ≡ 2) → (close_of s).after ≡ s

-- a refused opening writes nothing, and gives back a record that was never opened
abbrev pub OpenUnchanged : Type 0
OpenUnchanged =
    (c : Choices) (cells : List ℤ) (flags : List ℕ) → 0 < number_of (open_of c cells flags).answer →
    (open_of c cells flags).after ≡ record { reader = never; cells = cells; flags = flags }

-- ---- what sticks

-- the record gives every later piece and closing this number and place, and changes nothing, whatever slices it is lent: short ones too
pub record Repeats (r : Record) (number : ℕ) (place : Place) : Type 0 where
  pub piece : (text : List ℕ) (cells : List ℤ) (flags : List ℕ) → piece_of text (state_of r cells flags) ≡ out (state_of r cells flags) (Answer.Refused number place)
  pub close : (cells : List ℤ) (flags : List ℕ) → close_of (state_of r cells flags) ≡ out (state_of r cells flags) (Answer.Refused number place)

-- the refusals of a line: 3 to 9, and 17
pub data OfLine : ℕ → Type 0 where
  by_order : {number : ℕ} → 3 ≤ number → number ≤ 9 → OfLine number
  seventeen : OfLine 17

-- the place that a stuck record holds: a line for the refusals of a line, nothing for 10, a pair for 11
pub data HeldPlace (r : Record) : Place → Type 0 where
  line : OfLine r.marks.stage → HeldPlace r (Place.Line r.marks.line)
  nothing : r.marks.stage ≡ 10 → HeldPlace r Place.Nowhere
  pair : r.marks.stage ≡ 11 → HeldPlace r (Place.Pair r.pair)

-- "ahead of every other test but that of a valid record": a valid record that is stuck repeats its number and place, whoever made it
abbrev pub StuckRepeats : Type 0
StuckRepeats = (r : Record) (place : Place) → Stuck r → HeldPlace r place → Repeats r r.marks.stage place

-- after a refusal 3 to 11 or 17 with its place, every later piece and closing with that record gives the same
abbrev pub PieceSticks : Type 0
PieceSticks =
    (text : List ℕ) (s : State) (number : ℕ) (place : Place) → Shaped s.reader → 3 ≤ number →
    (piece_of text s).answer ≡ Answer.Refused number place → Repeats (piece_of text s).after.reader number place

abbrev pub CloseSticks : Type 0
CloseSticks =
    (s : State) (number : ℕ) (place : Place) → Shaped s.reader → 3 ≤ number →
    (close_of s).answer ≡ Answer.Refused number place → Repeats (close_of s).after.reader number place

-- no call of the three is refused by a number above 11 but 17
pub data FromText : ℕ → Type 0 where
  few : {number : ℕ} → number ≤ 11 → FromText number
  seventeen : FromText 17

abbrev pub NumbersWithin : Type 0
NumbersWithin = (text : List ℕ) (s : State) → FromText (number_of (piece_of text s).answer) × FromText (number_of (close_of s).answer)
