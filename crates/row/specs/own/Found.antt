-- What the crate's own `columns::find` finds, for those that read the fields: where the first nine words of a line stand.
use Rattle.std.specs.Prelude.{◌≡◌, List, ℕ, ◌≤◌, ◌<◌, length, take, get_or}
use Rattle.std.proofs.Math.Seq.{slice}
use Rattle.row.specs.Line.{words}
use Rattle.row.specs.Layout.{column_of}
use Rattle.row.specs.declared.columns.Span.{Span}

-- a line of more than nine words is no row, and none behind the ninth is asked for
abbrev pub first_nine : List ℕ → List (List ℕ)
first_nine line = take 9 (words line)

-- what stands where there is no word
abbrev pub empty : Span
empty = record { start = 0; end = 0 }

-- each of nine spans is a part of the line, which is the word
pub record Spans (line : List ℕ) (spans : List Span) : Type 0 where
  pub ordered : (k : ℕ) → k < 9 → (get_or spans k empty).start ≤ (get_or spans k empty).end
  pub within : (k : ℕ) → k < 9 → (get_or spans k empty).end ≤ length line
  pub text : (k : ℕ) → k < 9 → slice (get_or spans k empty).start (get_or spans k empty).end line ≡ column_of (words line) k
