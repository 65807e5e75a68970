-- Demand 1, "A refused row writes no slot, cell or flag; earlier rows stay" (document 01, below the sixteen numbers), for every record and slices, however they came about: of a
-- row, of a line, of a piece at whose bytes a refusal falls, and of a closing that reads the unfinished line.
use Rattle.std.specs.Prelude.{List, ◌∷◌, ◌++◌, ◌≡◌, ℕ, ◌≤◌, ◌<◌}
use Rattle.row.specs.declared.reading.Entry.{Entry}
use Rattle.table.specs.Placing.{Table, placed}
use Rattle.reader.specs.Model.{State, table_at, bytes_of, number_of, piece_of, close_of}
use Rattle.promises_calls.specs.Lines.{line_read}

-- the reader is open
abbrev pub IsOpen : State → Type 0
IsOpen s = s.reader.marks.stage ≡ 1

-- a row that is refused, 8 or 9
abbrev pub RefusedRow : Type 0
RefusedRow = (kind : ℕ) (e : Entry) (t : Table) → 0 < (placed kind e t).number → (placed kind e t).table ≡ t

-- a line after which the reader is not open, being refused 3 to 9 or 17: slots, cells and flags are as before it
abbrev pub RefusedLine : Type 0
RefusedLine = (line : List ℕ) (s : State) → IsOpen s → (IsOpen (line_read line s) → ⊥) → table_at (line_read line s) ≡ table_at s

-- a piece's text is refused at one of its bytes: the reader is open just before it, and what stands there stays
pub record StopsAt (text : List ℕ) (s after : State) : Type 0 where
  pub before : List ℕ
  pub byte : ℕ
  pub behind : List ℕ
  pub split : text ≡ before ++ (byte ∷ behind)
  pub still_open : IsOpen (bytes_of before s)
  pub unchanged : table_at after ≡ table_at (bytes_of before s)

abbrev pub RefusedPiece : Type 0
RefusedPiece = (text : List ℕ) (s : State) → IsOpen s → 3 ≤ number_of (piece_of text s).answer → StopsAt text s (piece_of text s).after

-- 10 and 11 at closing are of the table with the unfinished line's row; every other number is of that line, which then writes nothing, or of the call
abbrev pub RefusedClosing : Type 0
RefusedClosing =
    (s : State) → 0 < number_of (close_of s).answer → (number_of (close_of s).answer ≡ 10 → ⊥) → (number_of (close_of s).answer ≡ 11 → ⊥)
    → table_at (close_of s).after ≡ table_at s
