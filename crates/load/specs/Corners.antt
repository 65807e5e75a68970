-- The corners between which a coefficient lies, as a list of weights and nodes, and what is worked from them (document 01, "Coefficients and forces"): "linear in each of
-- the two frequencies, worked from the two by two corner entries as one exact fraction and rounded once per part".
use Rattle.std.specs.Prelude.{Bool, not, ◌&&◌, List, [], ◌∷◌, map, ℕ, ◌*◌, eqb, ℤ, pos, ◌*ℤ◌}
use Rattle.whole.specs.Nearest.{nearest_ℤ}
use Rattle.whole.specs.Complex.{Complex}
use Rattle.whole.specs.Sum.{sumᶜ}
use Rattle.whole.specs.Any.{any_of}
use Rattle.grid.specs.declared.nodes.Node.{Node}
use Rattle.table.specs.Pairs.{product}
use Rattle.table.specs.Entries.{is_out}
use Rattle.table.specs.View.{View}
use Rattle.neighbours.specs.Standing.{Standing}

-- a point of the table: where its frequency stands, and its heading
pub record Point : Type 0 where
  pub frequency : Standing ℕ
  pub heading : ℤ

-- the nodes that a point lies between, each with its weight
pub record WeightedNode : Type 0 where
  pub weight : ℕ
  pub node : Node

unfoldable pub ends : Point → List WeightedNode
ends p =
    record { weight = p.frequency.to_low; node = record { tick = p.frequency.low; heading = p.heading } }
    ∷ record { weight = p.frequency.to_high; node = record { tick = p.frequency.high; heading = p.heading } }
    ∷ []

-- the corners of two points: each end of the one with each end of the other
pub record Corner : Type 0 where
  pub weight : ℕ
  pub value : Complex

unfoldable pub corner_of : View → WeightedNode × WeightedNode → Corner
corner_of v e = record { weight = e.0.weight * e.1.weight; value = v.entry e.0.node e.1.node }

unfoldable pub corners : View → Point → Point → List Corner
corners v p q = map (corner_of v) (product (ends p) (ends q))

-- 15: a part of a corner whose weight is not 0 lies outside -10^9 to 10^9
unfoldable pub is_bad : Corner → Bool
is_bad c = not (eqb c.weight 0) && is_out c.value

unfoldable pub any_bad : List Corner → Bool
any_bad cs = any_of is_bad cs

-- the exact fraction has the corners' values by their weights on top, and below them the product of the widths
unfoldable pub weighed_sum : List Corner → Complex
weighed_sum cs = sumᶜ cs (λ c. record { re = pos c.weight *ℤ c.value.re; im = pos c.weight *ℤ c.value.im })

-- rounded once per part
abbrev pub interpolated : List Corner → ℕ → Complex
interpolated cs over = record { re = nearest_ℤ (weighed_sum cs).re over; im = nearest_ℤ (weighed_sum cs).im over }

unfoldable pub coefficient : View → Point → Point → Complex
coefficient v p q = interpolated (corners v p q) (p.frequency.width * q.frequency.width)
