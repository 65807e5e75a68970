-- What comes of putting one line into a slice, and of adding up how long they all are.
use Rattle.std.specs.Prelude.{◌≡◌, cond, List, [], ◌∷◌, ℕ, ◌≤◌, ltb, eqb, length, get_or}
use Rattle.proteus.specs.declared.line.Step.{Step}
use Rattle.proteus.specs.Answer.{Wrote}
use Rattle.hull.specs.Six.{Component}
use Rattle.proteus.specs.Lines.{proteus_lines}
use Rattle.proteus.specs.Answer.{line_spoilt, text_number, proteus_text}

-- the slots of the first, by which the lines go, are as many as a table has
abbrev pub Slotted : List Component → Type 0
Slotted [] = Unit
Slotted (c ∷ cs) = (length c.table.slots.ticks ≡ 20) × (length c.table.slots.headings ≡ 4)

-- the k-th line: nothing is put past the last, nor of one that is spoilt
unfoldable pub line_put : List Component → ℕ → List ℕ
line_put cs k = cond (line_spoilt cs k) [] (get_or (proteus_lines cs) k [])

-- and what is said of it, where the next byte goes to a place
unfoldable pub step_of : List Component → ℕ → ℕ → Step
step_of cs k at = cond (ltb k (length (proteus_lines cs))) (cond (line_spoilt cs k) Step.Spoilt (Step.Put at)) Step.Past

-- the same by the length alone of what is put, with what bounds it: a line of at most 256 bytes, and at most 5 and 6,400 of them
pub record Counted (cs : List Component) (k : ℕ) (step : Step) : Type 0 where
  pub is : step ≡ step_of cs k (length (line_put cs k))
  pub short : length (line_put cs k) ≤ 256
  pub few : length (proteus_lines cs) ≤ 6_405

-- the length of the text, and 0 with a number
unfoldable pub measured : List Component → Wrote
measured cs = record { number = text_number cs; length = cond (eqb (text_number cs) 0) (length (proteus_text cs)) 0 }
