-- Numbers in columns: a line holds a number for each column, each column has its places, and a whole number has 0; and how such lines are read.
use Rattle.std.specs.Prelude.{cond, ℕ, eqb, ℤ, length, replicate}
use mathlib.Core.List.{List, [], ◌∷◌, map, zip_with}
use Rattle.std.proofs.Math.Option
use Rattle.std.proofs.Math.Option.{Option, none, some, bind}
use Rattle.text.specs.Decimal.{decimal}
use Rattle.text.specs.Spaced.{spaced}
use Rattle.text.specs.Parts.{words_of}
use Rattle.text.specs.Reading.{read_decimal}

-- the line of a row
unfoldable pub row_text : List ℕ → List ℤ → List ℕ
row_text places row = spaced (zip_with decimal places row)

-- all that was read, or nothing where one was not
unfoldable pub collected : {A : Type 0} → List (Option A) → Option (List A)
collected [] = some []
collected (x ∷ xs) = bind x (λ a. Option.map (λ l. a ∷ l) (collected xs))

-- the row of a line, which has a word for each column
unfoldable pub read_row : List ℕ → List ℕ → Option (List ℤ)
read_row places line =
    let words = words_of line in
    cond (eqb (length words) (length places)) (collected (zip_with read_decimal places words)) none

-- the row of a line with any number of columns, all with the same places
unfoldable pub read_list : ℕ → List ℕ → Option (List ℤ)
read_list places line = read_row (replicate (length (words_of line)) places) line

-- the rows of lines
unfoldable pub read_rows : List ℕ → List (List ℕ) → Option (List (List ℤ))
read_rows places lines = collected (map (read_row places) lines)
