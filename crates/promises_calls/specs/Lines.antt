-- The lines of a text, for demands 1 and 2 (document 01, "Rows"): "A line feed ends a line, and so does the end of the text"; "A line starts with its first byte, so no line
-- follows a final line feed". And the law that a text is read line by line: what a reader makes of a text's bytes, cut or not, is what it makes of the lines one after the other.
use Rattle.std.specs.Prelude.{true, cond, List, [], ◌∷◌, ◌++◌, ◌≡◌, ℕ, suc, ◌+◌, ◌≤◌, ltb, eqb, length, take, drop}
use Rattle.row.specs.own.Rows.{row_of}
use Rattle.reader.specs.Valid.{valid_of}
use Rattle.reader.specs.Model.{line_more, counting, with_marks, State, stuck_at, ended, bytes_of, closing, close_of}
use Rattle.promises_calls.specs.Kept.{Shaped}
use Rattle.table.specs.Cells.{cells_lent, flags_lent}

-- ---- a text's lines

-- a byte put before the first line
unfoldable pub starts_with : ℕ → List (List ℕ) → List (List ℕ)
starts_with b [] = (b ∷ []) ∷ []
starts_with b (line ∷ lines) = (b ∷ line) ∷ lines

-- the lines, without their line feeds (byte 10). What follows the last line feed is a line where it has a byte
unfoldable pub text_lines : List ℕ → List (List ℕ)
text_lines [] = []
text_lines (b ∷ text) = cond (eqb b 10) ([] ∷ text_lines text) (starts_with b (text_lines text))

-- how many of them a line feed ends
unfoldable pub feeds_in : List ℕ → ℕ
feeds_in [] = 0
feeds_in (b ∷ text) = cond (eqb b 10) (suc (feeds_in text)) (feeds_in text)

abbrev pub ended_lines : List ℕ → List (List ℕ)
ended_lines text = take (feeds_in text) (text_lines text)

-- the line that is not ended, if there is one
abbrev pub unfinished : List ℕ → List (List ℕ)
unfinished text = drop (feeds_in text) (text_lines text)

-- ---- a line

-- one line more has begun, and its bytes are kept, over what was kept before
unfoldable pub kept_line : List ℕ → State → State
kept_line line s =
    with_marks (counting (length line) (line_more s.reader.marks)) (line ++ drop (length line) s.reader.kept) s

-- "Refusal 3 falls at the byte that breaks the limit": at the first byte past line 1,000,000, its line feed if it has no other, and at a line's 161st byte. Then what comes
-- later is not read
unfoldable pub limited : List ℕ → State → State → State
limited line s next =
    cond (eqb s.reader.marks.lines 1_000_000)
    (stuck_at 3 1_000_001 s)
    (cond (ltb 160 (length line)) (stuck_at 3 (s.reader.marks.lines + 1) (kept_line (take 160 line) s)) next)

-- a line that is ended comes to its row; it is the first where none has begun before it
unfoldable pub line_read : List ℕ → State → State
line_read line s = limited line s (ended (row_of s.reader.choices (eqb s.reader.marks.lines 0) line) (kept_line line s))

-- of a line that is not ended the bytes are kept
unfoldable pub part_read : List ℕ → State → State
part_read line s = limited line s (kept_line line s)

-- lines one after the other, while the reader is open
unfoldable pub in_turn : (List ℕ → State → State) → List (List ℕ) → State → State
in_turn read [] s = s
in_turn read (line ∷ lines) s = in_turn read lines (cond (eqb s.reader.marks.stage 1) (read line s) s)

-- ---- the laws

-- an open reader with slices that are long enough, and no line begun
pub record AtLineStart (s : State) : Type 0 where
  pub shaped : Shaped s.reader
  pub valid : valid_of s.reader ≡ true
  pub stage : s.reader.marks.stage ≡ 1
  pub count : s.reader.marks.count ≡ 0
  pub cells : cells_lent ≤ length s.cells
  pub flags : flags_lent ≤ length s.flags

-- after a text, in whatever pieces it came: its ended lines are read, and the unfinished one is kept
abbrev pub TextIsLines : Type 0
TextIsLines =
    (text : List ℕ) (s : State) → AtLineStart s → bytes_of text s ≡ in_turn part_read (unfinished text) (in_turn line_read (ended_lines text) s)

-- and closing after it: all its lines are read, the unfinished one as a line too
abbrev pub ClosingIsLines : Type 0
ClosingIsLines = (text : List ℕ) (s : State) → AtLineStart s → close_of (bytes_of text s) ≡ closing (in_turn line_read (text_lines text) s)
