-- Demand 1, "cut anywhere" (and document 01, "Rows": "where the text is cut makes no difference to answers, cells or place"): for every record, cells and flags, and every cut
-- of a text into pieces, empty ones too, the pieces one after the other end in the same record, cells and flags as the text in one piece, with the same last answer.
use Rattle.std.specs.Prelude.{◌≡◌, List, [], ◌∷◌, ◌++◌, ℕ}
use Rattle.reader.specs.Model.{State, Out, piece_of}
use Rattle.promises_calls.specs.Kept.{Shaped}

-- pieces one after the other, each with the record, cells and flags that the one before left
unfoldable pub pieces_of : List (List ℕ) → Out → Out
pieces_of [] o = o
pieces_of (p ∷ ps) o = pieces_of ps (piece_of p o.after)

-- the text that pieces are cut from
unfoldable pub joined : List (List ℕ) → List ℕ
joined [] = []
joined (p ∷ ps) = p ++ joined ps

abbrev pub Cutting : Type 0
Cutting = (p : List ℕ) (ps : List (List ℕ)) (s : State) → Shaped s.reader → pieces_of ps (piece_of p s) ≡ piece_of (p ++ joined ps) s
