-- A chain of calls, which is demand 2's "while nobody else writes" (document 01, "The table": "Each call's record comes from the call before it, back to opening"): opening, then
-- pieces and closings in any order, each with the record of the call before and the same lent slices, which nobody else writes. Calls that are refused are part of it, those
-- refused 1 or 2 too. What holds of calls is stated first from any state from which lines can be read, and then from opening, which leads to one.
use Rattle.std.specs.Prelude.{Bool, true, false, cond, List, [], ◌∷◌, ◌++◌, ◌⊎◌, ◌↔◌, ◌≡◌, ℕ, ◌≤◌, ◌<◌, ℤ, pos, length, take, replicate}
use Rattle.row.specs.declared.reading.Choices.{Choices}
use Rattle.grid.specs.declared.nodes.Pair.{Pair}
use Rattle.reader.specs.Valid.{valid_of, valid_choices}
use Rattle.reader.specs.declared.reader.Place.{Place}
use Rattle.reader.specs.declared.reader.Answer.{Answer}
use Rattle.reader.specs.Model.{State, Out, state_of, number_of, open_of, bytes_of, piece_of, close_of}
use Rattle.promises_calls.specs.Kept.{Shaped}
use Rattle.promises_calls.specs.Answers.{OfLine}
use Rattle.promises_calls.specs.Lines.{AtLineStart}
use Rattle.table.specs.Cells.{cells_lent, flags_lent}

-- ---- the chain

-- The calls of a chain. A later call joins here, with a case in `called`, `chain_text` and `closes`, in each lemma of proofs/Calls, "one call", and in `called-relent` of
-- proofs/Lending; no other proof takes a call apart. A call that leads to a start (specs/Start) is different in this: the text, the table and the answers are then those of the
-- calls after it, of which all that is stated from a start holds (`CallsJoined`).
pub data Call : Type 0 where
  piece : List ℕ → Call
  close : Call

unfoldable pub called : Call → State → Out
called (Call.piece text) s = piece_of text s
called Call.close s = close_of s

-- the record, cells and flags after calls one after the other
unfoldable pub calls_of : List Call → State → State
calls_of [] s = s
calls_of (call ∷ calls) s = calls_of calls (called call s).after

-- so that calls which lead somewhere, and calls from there, are calls
abbrev pub CallsJoined : Type 0
CallsJoined = (before after : List Call) (s : State) → calls_of (before ++ after) s ≡ calls_of after (calls_of before s)

-- the slices and choices with which opening is accepted
pub record Opens (c : Choices) (cells : List ℤ) (flags : List ℕ) : Type 0 where
  pub cells-long : cells_lent ≤ length cells
  pub flags_long : flags_lent ≤ length flags
  pub choices : valid_choices c ≡ true

abbrev pub opened : Choices → List ℤ → List ℕ → State
opened c cells flags = (open_of c cells flags).after

abbrev pub chain : Choices → List ℤ → List ℕ → List Call → State
chain c cells flags calls = calls_of calls (opened c cells flags)

abbrev pub OpensExactlyWhen : Type 0
OpensExactlyWhen = (c : Choices) (cells : List ℤ) (flags : List ℕ) → (number_of (open_of c cells flags).answer ≡ 0) ↔ Opens c cells flags

-- an accepted opening sets the 12,800 cells and 6,400 flags to 0
pub record Cleared (s : State) : Type 0 where
  pub cells : take cells_lent s.cells ≡ replicate cells_lent (pos 0)
  pub flags : take flags_lent s.flags ≡ replicate flags_lent 0

abbrev pub OpenClears : Type 0
OpenClears = (c : Choices) (cells : List ℤ) (flags : List ℕ) → Opens c cells flags → Cleared (opened c cells flags)

-- a call that lends other slices, too short for a table, gives back the record as it was, refused 1 or with the number that it is stuck with: so such calls may stand anywhere
-- in a chain
abbrev pub ShortLent : Type 0
ShortLent =
    (call : Call) (s : State) (cells : List ℤ) (flags : List ℕ) → (length cells < cells_lent) ⊎ (length flags < flags_lent)
    → (called call (state_of s.reader cells flags)).after ≡ state_of s.reader cells flags

-- ---- what calls come to

-- the text of the pieces before the first closing
unfoldable pub chain_text : List Call → List ℕ
chain_text [] = []
chain_text (Call.piece text ∷ calls) = text ++ chain_text calls
chain_text (Call.close ∷ calls) = []

-- there is a closing
unfoldable pub closes : List Call → Bool
closes [] = false
closes (Call.piece text ∷ calls) = closes calls
closes (Call.close ∷ calls) = true

-- calls lead where their text, read whole, would have led, or the first closing after it: no later call changes anything
abbrev pub CallsAreText : Type 0
CallsAreText =
    (s : State) (calls : List Call) → AtLineStart s →
    let read = bytes_of (chain_text calls) s in calls_of calls s ≡ cond (closes calls) (close_of read).after read

-- and so does a chain
abbrev pub ChainIsText : Type 0
ChainIsText =
    (c : Choices) (cells : List ℤ) (flags : List ℕ) (calls : List Call) → Opens c cells flags →
    let read = bytes_of (chain_text calls) (opened c cells flags) in chain c cells flags calls ≡ cond (closes calls) (close_of read).after read

-- ---- what holds all along

pub record SoundState (c : Choices) (cells : List ℤ) (flags : List ℕ) (s : State) : Type 0 where
  pub shaped : Shaped s.reader
  pub valid : valid_of s.reader ≡ true
  pub choices : s.reader.choices ≡ c
  pub cells-long : length s.cells ≡ length cells
  pub flags_long : length s.flags ≡ length flags

abbrev pub CallsSound : Type 0
CallsSound =
    (s : State) (calls : List Call) → Shaped s.reader → valid_of s.reader ≡ true → SoundState s.reader.choices s.cells s.flags (calls_of calls s)

abbrev pub ChainSound : Type 0
ChainSound = (c : Choices) (cells : List ℤ) (flags : List ℕ) (calls : List Call) → Opens c cells flags → SoundState c cells flags (chain c cells flags calls)

-- some closing was answered with an acceptance
pub data SomeAccepted : List Call → State → Type 0 where
  now : {calls : List Call} {s : State} {frequencies headings : ℕ} → (close_of s).answer ≡ Answer.Accepted frequencies headings → SomeAccepted (Call.close ∷ calls) s
  later : {call : Call} {calls : List Call} {s : State} → SomeAccepted calls (called call s).after → SomeAccepted (call ∷ calls) s

-- so no call is refused 1, and one is refused 2 exactly when the table is accepted already
pub record Refuses (calls : List Call) (start : State) (o : Out) : Type 0 where
  pub not-one : number_of o.answer ≡ 1 → ⊥
  pub two : (number_of o.answer ≡ 2) ↔ SomeAccepted calls start

abbrev pub CallsRefuse : Type 0
CallsRefuse = (s : State) (calls : List Call) (call : Call) → AtLineStart s → Refuses calls s (called call (calls_of calls s))

abbrev pub ChainRefuses : Type 0
ChainRefuses =
    (c : Choices) (cells : List ℤ) (flags : List ℕ) (calls : List Call) (call : Call) → Opens c cells flags →
    Refuses calls (opened c cells flags) (called call (chain c cells flags calls))

-- ---- places

-- the column "Place" of the sixteen numbers: 1, 2 and 10 have none; 3 to 9, and 17, have a line, which is one of the first 1,000,000, or for 3 the one behind
-- them; 11 has its pair
pub data RightPlace : Answer → Type 0 where
  no-refusal : {a : Answer} → number_of a ≡ 0 → RightPlace a
  one : RightPlace (Answer.Refused 1 Place.Nowhere)
  two : RightPlace (Answer.Refused 2 Place.Nowhere)
  at-line : {number line : ℕ} → OfLine number → 1 ≤ line → line ≤ 1_000_000 → RightPlace (Answer.Refused number (Place.Line line))
  past-lines : RightPlace (Answer.Refused 3 (Place.Line 1_000_001))
  ten : RightPlace (Answer.Refused 10 Place.Nowhere)
  eleven : {pair : Pair} → RightPlace (Answer.Refused 11 (Place.Pair pair))

abbrev pub OpeningPlaced : Type 0
OpeningPlaced = (c : Choices) (cells : List ℤ) (flags : List ℕ) → RightPlace (open_of c cells flags).answer

abbrev pub CallsPlaced : Type 0
CallsPlaced = (s : State) (calls : List Call) (call : Call) → AtLineStart s → RightPlace (called call (calls_of calls s)).answer

abbrev pub ChainPlaced : Type 0
ChainPlaced =
    (c : Choices) (cells : List ℤ) (flags : List ℕ) (calls : List Call) (call : Call) → RightPlace (called call (chain c cells flags calls)).answer
