-- Demand 2, rows that are passed over (document 01, "Rows": "two texts that agree but for well-formed rows of other components on the same lines give the same answers and
-- cells"), whole and in pieces. A line that differs may be blank on one side, or a row in range of two headings in single coverage. Whatever MOD says of a row of another component, or
-- in its range of one of two headings, makes no difference (document 02, M-101: "Passed-over rows are never tested for the misfit").
use Rattle.std.specs.Prelude.{Bool, List, [], ◌≡◌, ℕ, ◌≤◌, eqb, length}
use Rattle.row.specs.declared.reading.Choices.{Choices}
use Rattle.row.specs.LineRules.{fields_of, Written, entry_of, TwoHeadings, WellFormed, Ranged}
use Rattle.promises_agreeing.specs.Agree.{Difference, SamePiecesFrom, SamePieces, SameTextsFrom, SameTexts}

-- a line of at most 160 bytes that is blank, or a row that is passed over: well-formed and of another component than the caller chose, or in range and of two headings in single
-- coverage
pub data Unheard (c : Choices) (first : Bool) (line : List ℕ) : Type 0 where
  blank : length line ≤ 160 → fields_of line ≡ [] → Unheard c first line
  other : {w : Written} → length line ≤ 160 → WellFormed first line w → (w.component ≡ c.component → ⊥) → Unheard c first line
  two-headings : {w : Written} → length line ≤ 160 → Ranged c first line w → TwoHeadings c (entry_of w) → Unheard c first line

-- two such lines
abbrev pub BothUnheard : Difference
BothUnheard c n line second = Unheard c (eqb n 0) line × Unheard c (eqb n 0) second

-- texts that agree but for these come to the same: after the last piece, wherever it ends
abbrev pub OtherPiecesFrom : Type 0
OtherPiecesFrom = SamePiecesFrom BothUnheard

abbrev pub OtherPieces : Type 0
OtherPieces = SamePieces BothUnheard

-- and after closing
abbrev pub OtherComponentsFrom : Type 0
OtherComponentsFrom = SameTextsFrom BothUnheard

abbrev pub OtherComponents : Type 0
OtherComponents = SameTexts BothUnheard
