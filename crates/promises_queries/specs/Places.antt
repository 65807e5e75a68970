-- For demands 1 and 2, where a frequency and a heading lie in a table (document 01, "Coefficients and forces", and refusals 13 and 14), and the corners of two of them, said of
-- the frequencies and headings that the table holds and of nothing else: no slot, and no order of arrival.
use Rattle.std.specs.Prelude.{◌≡◌, ◌⊎◌, ℕ, ◌-◌, ◌*◌, ◌≤◌, ◌<◌, ℤ}
use mathlib.Core.List.{List, [], ◌∷◌, map, Memᴰ}
use Rattle.row.specs.Heading.{heading_of}
use Rattle.grid.specs.declared.nodes.Node.{Node}
use Rattle.reader.specs.declared.record.Record.{Record}
use Rattle.grid.specs.Slots.{held_ticks, held_headings}
use Rattle.table.specs.Pairs.{product}
use Rattle.load.specs.Corners.{WeightedNode}

-- the table holds a frequency; it holds a heading
abbrev pub HoldsTick : Record → ℕ → Type 0
HoldsTick r f = Memᴰ f (held_ticks r.slots.ticks)

abbrev pub HoldsHeading : Record → ℤ → Type 0
HoldsHeading r h = Memᴰ h (held_headings r.slots)

-- 13: "frequency below the lowest or above the highest"
pub data Outside (r : Record) (f : ℕ) : Type 0 where
  below : ((g : ℕ) → HoldsTick r g → f < g) → Outside r f
  above : ((g : ℕ) → HoldsTick r g → g < f) → Outside r f

-- 14: "heading not in the table, or in single coverage not that of line 1". Coverage 0 is single
pub data Foreign (r : Record) (first heading : ℤ) : Type 0 where
  not-held : (HoldsHeading r (heading_of heading) → ⊥) → Foreign r first heading
  not_first : r.choices.coverage ≡ 0 → (heading_of heading ≡ heading_of first → ⊥) → Foreign r first heading

-- which of the two a line, or a point of a coefficient call, is refused with, where `first` is the heading of line 1: 13 is tested before 14
pub data Off (r : Record) (first : ℤ) (n : Node) : ℕ → Type 0 where
  thirteen : Outside r n.tick → Off r first n 13
  fourteen : (Outside r n.tick → ⊥) → Foreign r first n.heading → Off r first n 14

abbrev pub InPlace : Record → ℤ → Node → Type 0
InPlace r first n = (number : ℕ) → Off r first n number → ⊥

-- the two neighbours of a frequency that the table does not hold: held ones below and above it, with none between them
pub record Neighbours (r : Record) (f low high : ℕ) : Type 0 where
  pub low_held : HoldsTick r low
  pub high_held : HoldsTick r high
  pub above_low : low < f
  pub below-high : f < high
  pub none_between : (g : ℕ) → HoldsTick r g → (g ≤ low) ⊎ (high ≤ g)

-- an end of a line or point: a node of the table, with its weight
abbrev pub end_at : Node → ℕ → ℕ → WeightedNode
end_at n tick weight = record { weight = weight; node = record { tick = tick; heading = heading_of n.heading } }

-- The ends of a line or point, the nodes that it lies between. A frequency that the table holds is its own and only end, with all the weight; any other has its two neighbours,
-- each by how far it is from the other one. No end has weight 0. What else there is to say of coefficients is said of this list, however long.
pub data EndsOf (r : Record) (n : Node) : List WeightedNode → Type 0 where
  itself : HoldsTick r n.tick → EndsOf r n (end_at n n.tick 1 ∷ [])
  between : {low high : ℕ} → Neighbours r n.tick low high → EndsOf r n (end_at n low (high - n.tick) ∷ end_at n high (n.tick - low) ∷ [])

-- a corner of two lines or points: an end of the one with an end of the other, by the product of their weights
pub record WeightedPair : Type 0 where
  pub weight : ℕ
  pub first : Node
  pub second : Node

abbrev pub corner_at : WeightedNode × WeightedNode → WeightedPair
corner_at e = record { weight = e.0.weight * e.1.weight; first = e.0.node; second = e.1.node }

-- their corners: each end of the one with each end of the other
pub data CornersOf (r : Record) (a b : Node) : List WeightedPair → Type 0 where
  of-ends : {ends others : List WeightedNode} → EndsOf r a ends → EndsOf r b others → CornersOf r a b (map corner_at (product ends others))

-- there is but one such list
abbrev pub CornersOnce : Type 0
CornersOnce = (r : Record) (a b : Node) (corners others : List WeightedPair) → CornersOf r a b corners → CornersOf r a b others → corners ≡ others

-- each has weight: "Only a corner whose weight is not 0 is needed"
abbrev pub CornersWeigh : Type 0
CornersWeigh = (r : Record) (a b : Node) (corners : List WeightedPair) → CornersOf r a b corners → (c : WeightedPair) → Memᴰ c corners → 0 < c.weight
