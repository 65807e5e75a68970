-- What closing asks (document 01, "The table"): every pair that the coverage needs, over all frequencies and headings held. 10 where there is none; 11 where one is
-- missing, "either flag not set", with the first missing pair. The order of the pairs puts the one whose first node is not above its second first, and what is
-- missing one way is missing the other way, so that is the pair that the paper asks for.
use Rattle.std.specs.Prelude.{Bool, cond, ◌&&◌, List, [], ◌∷◌, ℕ, eqb, length}
use Rattle.grid.specs.declared.nodes.Node.{Node}
use Rattle.grid.specs.declared.nodes.Pair.{Pair}
use Rattle.grid.specs.declared.nodes.Slots.{Slots}
use Rattle.table.specs.declared.closing.Closed.{Closed}
use Rattle.grid.specs.Slots.{slot_of, held_ticks, heading_slot}
use Rattle.table.specs.Cells.{node_at, place_of, is_set}
use Rattle.table.specs.Pairs.{pairs_of}

-- the number of a node that the slots hold
unfoldable pub node_of : Slots → Node → ℕ
node_of s n = node_at (heading_slot s.headings s.held n.heading) (slot_of eqb s.ticks n.tick)

-- both flags of a pair are set
unfoldable pub both_set : Slots → List ℕ → Pair → Bool
both_set s flags p =
    let a = node_of s p.first in
    let b = node_of s p.second in
    is_set flags (place_of a b) && is_set flags (place_of b a)

-- the two counts, or the first pair that is missing
unfoldable pub closed_over : ℕ → ℕ → Slots → List ℕ → List Pair → Closed
closed_over frequencies headings s flags [] = Closed.Complete frequencies headings
closed_over frequencies headings s flags (p ∷ ps) =
    cond (both_set s flags p) (closed_over frequencies headings s flags ps) (Closed.Missing p)

unfoldable pub closed_of : ℕ → Slots → List ℕ → Closed
closed_of coverage s flags =
    let frequencies = length (held_ticks s.ticks) in
    cond (eqb frequencies 0) Closed.Empty (closed_over frequencies s.held s flags (pairs_of coverage s))
