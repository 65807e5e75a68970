-- The answers of the writer (document 02, M-100): a line at a time, or the whole text into lent bytes.
use Rattle.std.specs.Prelude.{Bool, false, cond, List, [], ◌∷◌, ◌++◌, ℕ, ◌-◌, ltb, eqb, length, get_or, drop, Option, Some, None, Result, Ok, Err}
use Rattle.whole.specs.Any.{any_of}
use Rattle.text.specs.Parts.{text_of}
use Rattle.text.specs.declared.line.Line.{Line}
use Rattle.text.specs.Line.{line_of}
use Rattle.grid.specs.declared.nodes.Pair.{Pair}
use Rattle.table.specs.Pairs.{pairs_of, nth_of}
use Rattle.refusals.specs.declared.refusal.Refusal.{Refusal}
use Rattle.refusals.specs.Numbered.{number_of}
use Rattle.hull.specs.Six.{Component, six_barred, is_spoilt}
use Rattle.proteus.specs.Lines.{proteus_lines}

-- ---- a line

-- the five lines before the matrix
abbrev pub head_count : ℕ
head_count = 5

-- 15 for a line: a part that would stand in it is out of bounds
unfoldable pub nth_spoilt : List Component → Option Pair → Bool
nth_spoilt cs (Some p) = is_spoilt cs p
nth_spoilt cs None = false

unfoldable pub line_spoilt : List Component → ℕ → Bool
line_spoilt [] k = false
line_spoilt (c ∷ cs) k =
    cond (ltb k head_count) false (nth_spoilt (c ∷ cs) (nth_of c.table.choices.coverage c.table.slots (k - head_count)))

-- the number of a line: what bars the six, and then 15
unfoldable pub line_number : List Component → ℕ → ℕ
line_number cs k = cond (eqb (six_barred cs) 0) (cond (line_spoilt cs k) 15 0) (six_barred cs)

-- a line with its number, 0 where it has none
pub record Lined : Type 0 where
  pub number : ℕ
  pub line : Line 256

-- a text in the 256 bytes of a line
unfoldable pub lined_of : ℕ → List ℕ → Lined
lined_of number text = record { number = number; line = line_of 256 text }

-- what the code answers, read so: with a number the line is empty
abbrev pub lined_in : Result (Line 256) Refusal → Lined
lined_in (Ok line) = record { number = 0; line = line }
lined_in (Err refusal) = record { number = number_of refusal; line = line_of 256 [] }

-- the k-th line, from 0 on, without its line feed; no text past the last, and none with a number
unfoldable pub line_at : List Component → ℕ → Lined
line_at cs k = lined_of (line_number cs k) (cond (eqb (line_number cs k) 0) (get_or (proteus_lines cs) k []) [])

-- ---- the whole

unfoldable pub any_spoilt : List Component → Bool
any_spoilt [] = false
any_spoilt (c ∷ cs) = any_of (is_spoilt (c ∷ cs)) (pairs_of c.table.choices.coverage c.table.slots)

-- what bars the six, and then 15 for any part to be written
unfoldable pub text_number : List Component → ℕ
text_number cs = cond (eqb (six_barred cs) 0) (cond (any_spoilt cs) 15 0) (six_barred cs)

-- every line with its line feed
unfoldable pub proteus_text : List Component → List ℕ
proteus_text cs = text_of (proteus_lines cs)

-- 19, last: the lent bytes are fewer than the text has
unfoldable pub write_number : List Component → ℕ → ℕ
write_number cs room = cond (eqb (text_number cs) 0) (cond (ltb room (length (proteus_text cs))) 19 0) (text_number cs)

-- how many bytes are written, or the number of a refusal; and what the code answers, read so
pub record Wrote : Type 0 where
  pub number : ℕ
  pub length : ℕ

abbrev pub wrote_in : Result ℕ Refusal → Wrote
wrote_in (Ok n) = record { number = 0; length = n }
wrote_in (Err refusal) = record { number = number_of refusal; length = 0 }

-- the answer, and what the lent bytes hold then: with a number nothing is written; else the text, and behind it what was there
pub record Outcome : Type 0 where
  pub answer : Wrote
  pub out : List ℕ

abbrev pub outcome : Wrote → List ℕ → Outcome
outcome answer out = record { answer = answer; out = out }

unfoldable pub written : List Component → List ℕ → Outcome
written cs out =
    cond (eqb (write_number cs (length out)) 0)
    (record { answer = record { number = 0; length = length (proteus_text cs) }; out = proteus_text cs ++ drop (length (proteus_text cs)) out })
    (record { answer = record { number = write_number cs (length out); length = 0 }; out = out })
