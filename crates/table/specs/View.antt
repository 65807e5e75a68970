-- A table by values: which ticks, headings and nodes it holds, and the entry of any two of them. This is what a query reads of it; slots, and the order in which rows
-- arrived, are left out.
use Rattle.std.specs.Prelude.{Bool, ◌&&◌, List, ℕ, eqb, ℤ}
use Rattle.whole.specs.Same.{same_ℤ}
use Rattle.whole.specs.Complex.{Complex}
use Rattle.grid.specs.declared.nodes.Node.{Node}
use Rattle.grid.specs.declared.nodes.Slots.{Slots}
use Rattle.grid.specs.Slots.{among, held_ticks, held_headings}
use Rattle.table.specs.Entries.{entry_at}

unfoldable pub has_tick : Slots → ℕ → Bool
has_tick s t = among eqb (held_ticks s.ticks) t

unfoldable pub has_heading : Slots → ℤ → Bool
has_heading s h = among same_ℤ (held_headings s) h

unfoldable pub has_node : Slots → Node → Bool
has_node s n = has_tick s n.tick && has_heading s n.heading

pub record View : Type 0 where
  pub ticks : ℕ → Bool
  pub headings : ℤ → Bool
  pub nodes : Node → Bool
  pub entry : Node → Node → Complex

abbrev pub view_of : Slots → List ℤ → View
view_of s cells = record { ticks = has_tick s; headings = has_heading s; nodes = has_node s; entry = entry_at s cells }
