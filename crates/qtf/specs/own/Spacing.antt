-- Words in a line as the code puts them: the first with nothing before it, and each other with a space.
use Rattle.std.specs.Prelude.{cond, List, [], ◌∷◌, ◌++◌, ℕ, eqb, ℤ}
use Rattle.whole.specs.Same.{same_ℤ}
use Rattle.text.specs.Decimal.{natural}
use Rattle.text.specs.Spaced.{spaced}
use Rattle.grid.specs.declared.nodes.Pair.{Pair}
use Rattle.grid.specs.Slots.{slot_of}

-- what stands before the i-th word, from 0 on
unfoldable pub gap : ℕ → List ℕ
gap i = cond (eqb i 0) [] (32 ∷ [])

-- words with a space before each
unfoldable pub behind : List (List ℕ) → List ℕ
behind [] = []
behind (w ∷ ws) = 32 ∷ (w ++ behind ws)

-- words of a line, of which i are put already
unfoldable pub left : ℕ → List (List ℕ) → List ℕ
left i ws = cond (eqb i 0) (spaced ws) (behind ws)

-- the four indexes of a pair
unfoldable pub index_text : List ℕ → List ℤ → Pair → List ℕ
index_text ticks hs p =
    natural (slot_of eqb ticks p.first.tick)
    ++ behind
    (natural (slot_of eqb ticks p.second.tick)
    ∷ natural (slot_of same_ℤ hs p.first.heading)
    ∷ natural (slot_of same_ℤ hs p.second.heading)
    ∷ [])
