-- The law that ties the code to the rules. The contract of `reading::read`, and the reader's model, say what a line comes to by `row_of` (specs/own/Rows), which makes
-- the code's tests one after the other. Every line is of exactly one case of `LineIs`, and `row_of` says which: so it is enough to believe `LineIs` (LineRules),
-- which has no machinery, and nobody need read `row_of`. proofs/LineRules proves it.
use Rattle.std.specs.Prelude.{Bool, List, ◌↔◌, ◌≡◌, ℕ}
use Rattle.row.specs.declared.reading.Choices.{Choices}
use Rattle.row.specs.Told.{Row}
use Rattle.row.specs.LineRules.{LineIs}
use Rattle.row.specs.own.Rows.{row_of}

abbrev pub LineExactly : Type 0
LineExactly = (c : Choices) (first : Bool) (line : List ℕ) (row : Row) → (row_of c first line ≡ row) ↔ LineIs c first line row
