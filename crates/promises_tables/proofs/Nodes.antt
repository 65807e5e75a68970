-- Nodes by their numbers, in slots as they stand: one number to a node over the rows, and below 80. Assumes nothing.
use mathlib.Core.List.{List}
use mathlib.Core.Path.{◌≡◌}
use Prim.Native.Nat.{◌<◌}
use native.Mathlib.Omega.{arith}
use lib.Dec.{eqb}
use Rattle.row.specs.declared.reading.Entry.{Entry}
use Rattle.grid.specs.declared.nodes.Node.{Node}
use Rattle.grid.specs.declared.nodes.Slots.{Slots}
use Rattle.grid.specs.Slots.{slot_of, heading_slot}
use Rattle.table.specs.Closing.{node_of}
use Rattle.promises_rows.specs.Said.{ticks_said, headings_said}
use Rattle.promises_rows.specs.Said.{Over}
use Rattle.promises_tables.specs.Holds.{TickSlots, HeadingSlots}
use Rattle.promises_rows.proofs.Equality.{node-path}
use Rattle.promises_tables.proofs.Grid.{node-injective, node-lt}
use Rattle.promises_tables.proofs.Held.{tick-in, tick-one, heading-in, heading-one}

module _ (rows : List Entry) (s : Slots) (T : TickSlots s.ticks (ticks_said rows)) (U : HeadingSlots s.headings s.held (headings_said rows)) where
  tick-small : (a : Node) → Over rows a → slot_of eqb s.ticks a.tick < 20
  tick-small a o = let h = tick-in s.ticks (ticks_said rows) T a.tick o.tick in let n = T.long in omega arith

  heading-small : (a : Node) → Over rows a → heading_slot s.headings s.held a.heading < 4
  heading-small a o = heading-in s.headings s.held (headings_said rows) U a.heading o.heading

  pub node-small : (a : Node) → Over rows a → node_of s a < 80
  unfolding node_of
  node-small a o = node-lt _ _ (tick-small a o) (heading-small a o)

  -- two nodes with one number are one node
  pub node-one : (a b : Node) → Over rows a → Over rows b → node_of s a ≡ node_of s b → a ≡ b
  unfolding node_of
  node-one a b oa ob e =
      let f =
      node-injective {j = heading_slot s.headings s.held a.heading} {j' = heading_slot s.headings s.held b.heading} (tick-small a oa) (tick-small b ob) e
      in
      node-path
      (tick-one s.ticks (ticks_said rows) T a.tick b.tick oa.tick ob.tick f.0)
      (heading-one s.headings s.held (headings_said rows) U a.heading b.heading oa.heading ob.heading f.1)
