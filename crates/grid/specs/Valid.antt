-- The slots of a valid record (document 01, below the sixteen numbers): "at most 20 distinct ticks of 100 to 10,000, at most 4 distinct headings in range", as they are read, and
-- "ticks and headings both present or, if not accepted, both absent".
use Rattle.std.specs.Prelude.{Bool, true, cond, not, ◌&&◌, ◌||◌, List, [], ◌∷◌, ℕ, ltb, leb, eqb, ℤ, pos, neg_ℤ, length}
use Rattle.std.specs.Int.Signed.{le_z, lt_z}
use Rattle.row.specs.Ranges.{tick_least, tick_most, heading_most}
use Rattle.whole.specs.Same.{same_ℤ}
use Rattle.grid.specs.declared.nodes.Slots.{Slots}
use Rattle.grid.specs.Slots.{among, held_ticks, held_headings}

-- each slot is free, or holds a tick from 100 to 10,000 that no later slot holds
unfoldable pub valid_ticks : List ℕ → Bool
valid_ticks [] = true
valid_ticks (t ∷ ts) = (eqb t 0 || (leb tick_least t && (leb t tick_most && not (among eqb ts t)))) && valid_ticks ts

-- each heading is one that can be read: in range and not -180,000, which is read as 180,000 (document 02, M-102); and none stands twice
unfoldable pub valid_headings : List ℤ → Bool
valid_headings [] = true
valid_headings (h ∷ hs) = (lt_z (neg_ℤ (pos heading_most)) h && (le_z h (pos heading_most) && not (among same_ℤ hs h))) && valid_headings hs

-- ticks and headings are both present; both absent will do where the table is not accepted
unfoldable pub valid_presence : ℕ → Slots → Bool
valid_presence stage s =
    cond (eqb (length (held_ticks s.ticks)) 0) (eqb s.held 0 && not (eqb stage 2)) (ltb 0 s.held)

unfoldable pub valid_slots : ℕ → Slots → Bool
valid_slots stage s =
    leb s.held 4 && (valid_ticks s.ticks && (valid_headings (held_headings s) && valid_presence stage s))
