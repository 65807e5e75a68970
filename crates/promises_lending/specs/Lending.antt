-- Demand 2, chains in which the caller lends longer or shorter slices from call to call, and others write beyond what is lent (document 01, "The table": "anything beyond is
-- never written"): what stands beyond the first 12,800 cells and 6,400 flags is never read either, so it makes no difference to any record, cell, flag, answer, query or listing.
use Rattle.std.specs.Prelude.{List, [], ◌∷◌, ◌++◌, ◌⊎◌, ◌≡◌, ℕ, ◌≤◌, ◌<◌, ℤ, length, take}
use Rattle.row.specs.declared.reading.Choices.{Choices}
use Rattle.reader.specs.declared.record.Record.{Record}
use Rattle.reader.specs.Model.{State, Out, state_of, out, piece_of, close_of}
use Rattle.lines.specs.Listing.{listed}
use Rattle.promises_calls.specs.Kept.{Shaped}
use Rattle.promises_chains.specs.Chain.{Call, called, calls_of, Opens, opened, chain}
use Rattle.promises_queries.specs.Alike.{SameQueries}
use Rattle.table.specs.Cells.{cells_lent, flags_lent}

-- ---- one call

-- the first 12,800 cells, and the first 6,400 flags, with others beyond
abbrev pub cells_with : List ℤ → List ℤ → List ℤ
cells_with x cells = take 12_800 cells ++ x

abbrev pub flags_with : List ℕ → List ℕ → List ℕ
flags_with y flags = take 6_400 flags ++ y

-- the same record over slices whose first 12,800 cells and 6,400 flags are the same, with these cells and flags beyond
abbrev pub relent : List ℤ → List ℕ → State → State
relent x y s = state_of s.reader (take cells_lent s.cells ++ x) (take flags_lent s.flags ++ y)

abbrev pub relent_out : List ℤ → List ℕ → Out → Out
relent_out x y o = out (relent x y o.after) o.answer

-- both slices are long enough
pub record Lends (s : State) : Type 0 where
  pub cells : cells_lent ≤ length s.cells
  pub flags : flags_lent ≤ length s.flags

-- whoever made the record and wrote the slices: the answer, the record and the first 12,800 cells and 6,400 flags are the same, and beyond them stands what stood there
abbrev pub PieceRelent : Type 0
PieceRelent = (text : List ℕ) (s : State) (x : List ℤ) (y : List ℕ) → Lends s → piece_of text (relent x y s) ≡ relent_out x y (piece_of text s)

abbrev pub CloseRelent : Type 0
CloseRelent = (s : State) (x : List ℤ) (y : List ℕ) → Shaped s.reader → Lends s → close_of (relent x y s) ≡ relent_out x y (close_of s)

-- every query, and every line of the listing
pub record SameReading (r : Record) (cells : List ℤ) (q : Record) (others : List ℤ) : Type 0 where
  pub queries : SameQueries r cells q others
  pub listing : (k : ℕ) → listed r cells k ≡ listed q others k

abbrev pub ReadingRelent : Type 0
ReadingRelent = (r : Record) (cells x : List ℤ) → Shaped r → cells_lent ≤ length cells → SameReading r (take cells_lent cells ++ x) r cells

-- ---- a chain

-- a call that is lent the table with these cells and flags beyond it, or a call that is lent other slices, too short for a table
pub data Lending : Type 0 where
  lent : Call → List ℤ → List ℕ → Lending
  short : Call → (cells : List ℤ) (flags : List ℕ) → (length cells < cells_lent) ⊎ (length flags < flags_lent) → Lending

-- each call with the record of the call before, a short one too, and with the first 12,800 cells and 6,400 flags as the last call that was lent them left them: a short one
-- writes nothing, wherever its slices lie (`ShortLent` of specs/Chain)
unfoldable pub lending_of : List Lending → State → State
lending_of [] s = s
lending_of (lent call x y ∷ steps) s = lending_of steps (called call (relent x y s)).after
lending_of (short call cells flags few ∷ steps) s =
    lending_of steps (state_of (called call (state_of s.reader cells flags)).after.reader s.cells s.flags)

-- the calls that are lent the table
unfoldable pub calls_lent : List Lending → List Call
calls_lent [] = []
calls_lent (lent call x y ∷ steps) = call ∷ calls_lent steps
calls_lent (short call cells flags few ∷ steps) = calls_lent steps

-- one record, and the same first 12,800 cells and 6,400 flags
pub record SameLent (s z : State) : Type 0 where
  pub reader : s.reader ≡ z.reader
  pub cells : take cells_lent s.cells ≡ take cells_lent z.cells
  pub flags : take flags_lent s.flags ≡ take flags_lent z.flags

-- such calls lead where the same calls over the same slices lead
abbrev pub CallsRelent : Type 0
CallsRelent = (s : State) (steps : List Lending) → Shaped s.reader → Lends s → SameLent (lending_of steps s) (calls_of (calls_lent steps) s)

-- each call's answer is the one there
abbrev pub CallsAnswerRelent : Type 0
CallsAnswerRelent =
    (s : State) (steps : List Lending) (call : Call) (x : List ℤ) (y : List ℕ) → Shaped s.reader → Lends s
    → (called call (relent x y (lending_of steps s))).answer ≡ (called call (calls_of (calls_lent steps) s)).answer

-- and so is what is read of the table, over slices with anything beyond
abbrev pub CallsReadingRelent : Type 0
CallsReadingRelent =
    (s : State) (steps : List Lending) (x : List ℤ) → Shaped s.reader → Lends s →
    let end = lending_of steps s in
    let plain = calls_of (calls_lent steps) s in
    SameReading end.reader (take cells_lent end.cells ++ x) plain.reader plain.cells

-- so it is from opening, for the chains of specs/Chain
abbrev pub ChainRelent : Type 0
ChainRelent =
    (c : Choices) (cells : List ℤ) (flags : List ℕ) (steps : List Lending) → Opens c cells flags
    → SameLent (lending_of steps (opened c cells flags)) (chain c cells flags (calls_lent steps))

abbrev pub AnswerRelent : Type 0
AnswerRelent =
    (c : Choices) (cells : List ℤ) (flags : List ℕ) (steps : List Lending) (call : Call) (x : List ℤ) (y : List ℕ) → Opens c cells flags
    → (called call (relent x y (lending_of steps (opened c cells flags)))).answer ≡ (called call (chain c cells flags (calls_lent steps))).answer

abbrev pub ChainReadingRelent : Type 0
ChainReadingRelent =
    (c : Choices) (cells : List ℤ) (flags : List ℕ) (steps : List Lending) (x : List ℤ) → Opens c cells flags →
    let end = lending_of steps (opened c cells flags) in
    let plain = chain c cells flags (calls_lent steps) in
    SameReading end.reader (take cells_lent end.cells ++ x) plain.reader plain.cells
