-- Laws of closing: the pairs in their order, up to the first that is missing, as the loop of `closing::close` goes.
-- Assumes nothing.
use mathlib.Core.Path.{◌≡◌}
use mathlib.Core.Bool.{true, false}
use mathlib.Core.List.{List, ◌∷◌}
use Prim.Native.Nat.{ℕ, ◌+◌, ◌≤◌, ◌<◌}
use native.Mathlib.Numerals.{add-one}
use lib.ListN.{length, drop, get_or, drop_of_length-le}
use lib.Seq.{drop-cons}
use Rattle.grid.specs.declared.nodes.Pair.{Pair}
use Rattle.grid.specs.declared.nodes.Slots.{Slots}
use Rattle.table.specs.declared.closing.Closed.TheVariants as Closed
use Rattle.table.specs.Pairs.{nowhere}
use Rattle.table.specs.Closing.{both_set, closed_over}

-- ---- the pairs that are left, from the k-th on

module _ (frequencies headings : ℕ) (s : Slots) (flags : List ℕ) (ps : List Pair) (k : ℕ) where
  module _ (more : k < length ps) where
    left : drop k ps ≡ get_or ps k nowhere ∷ drop (k + 1) ps
    left = rw add-one (drop-cons ps k nowhere more)

    pub said-next :
        both_set s flags (get_or ps k nowhere) ≡ true
        → closed_over frequencies headings s flags (drop k ps) ≡ closed_over frequencies headings s flags (drop (k + 1) ps)
    unfolding closed_over
    said-next e = simp (left, e)

    pub missing : both_set s flags (get_or ps k nowhere) ≡ false → closed_over frequencies headings s flags (drop k ps) ≡ Closed.Missing (get_or ps k nowhere)
    unfolding closed_over
    missing e = simp (left, e)

  pub all_said : length ps ≤ k → closed_over frequencies headings s flags (drop k ps) ≡ Closed.Complete frequencies headings
  unfolding closed_over
  all_said h = rw (drop_of_length-le ps h)
