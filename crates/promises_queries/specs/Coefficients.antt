-- Demand 2, what an answered coefficient is (document 01, "Coefficients and forces"): "linear in each of the two frequencies, worked from the two by two corner entries as one
-- exact fraction and rounded once per part"; at two of the table's own frequencies the entry itself; and it swaps as entries do.
use Rattle.std.specs.Prelude.{true, List, [], ◌∷◌, ◌≡◌, ℕ, ◌-◌, ◌*◌, ◌<◌, ℤ, pos, ◌*ℤ◌}
use Rattle.whole.specs.Nearest.{IsNearest}
use Rattle.whole.specs.Complex.{Complex}
use Rattle.whole.specs.Sum.{sum_ℤ, sum_ℕ}
use Rattle.row.specs.Heading.{heading_of}
use Rattle.grid.specs.declared.nodes.Node.{Node}
use Rattle.reader.specs.declared.record.Record.{Record}
use Rattle.table.specs.Entries.{entry_at}
use Rattle.table.specs.View.{has_node}
use Rattle.load.specs.Coefficient.{coefficient_of}
use Rattle.load.specs.Answers.{Coefficient}
use Rattle.promises_queries.specs.Places.{HoldsTick, Neighbours, WeightedPair, CornersOf}
use Rattle.promises_rows.specs.Said.{mirror_of}

-- the table's entry at a corner
abbrev pub corner_entry : Record → List ℤ → WeightedPair → Complex
corner_entry r cells c = entry_at r.slots cells c.first c.second

-- the linear value between corners is one fraction: on top one part of each entry by its weight, below all the weights
unfoldable pub linear : Record → List ℤ → List WeightedPair → (Complex → ℤ) → ℤ
linear r cells corners part = sum_ℤ corners (λ c. pos c.weight *ℤ part (corner_entry r cells c))

unfoldable pub weight_of : List WeightedPair → ℕ
weight_of corners = sum_ℕ corners (λ c. c.weight)

-- a corner by its two ticks, for the headings of two lines or points
abbrev pub corner : Node → Node → ℕ → ℕ → ℕ → WeightedPair
corner a b s t weight =
    record { weight = weight; first = record { tick = s; heading = heading_of a.heading }; second = record { tick = t; heading = heading_of b.heading } }

-- between neighbours they are "the two by two corner entries", each by how far the two frequencies are from the other neighbours, over the product of the two widths
abbrev pub TwoByTwo : Type 0
TwoByTwo =
    (r : Record) (a b : Node) (low high under over : ℕ)
    → Neighbours r a.tick low high
    → Neighbours r b.tick under over
    → let corners =
    corner a b low under ((high - a.tick) * (over - b.tick))
    ∷ corner a b low over ((high - a.tick) * (b.tick - under))
    ∷ corner a b high under ((a.tick - low) * (over - b.tick))
    ∷ corner a b high over ((a.tick - low) * (b.tick - under))
    ∷ [] in
    CornersOf r a b corners × (weight_of corners ≡ (high - low) * (over - under))

-- each part is the nearest whole unit, a tie to the even one, to the linear value between the corners
pub record Linear (r : Record) (cells : List ℤ) (a b : Node) (value : Complex) : Type 0 where
  pub corners : List WeightedPair
  pub are : CornersOf r a b corners
  pub above : 0 < weight_of corners
  pub re : IsNearest (linear r cells corners (λ z. z.re)) (weight_of corners) value.re
  pub im : IsNearest (linear r cells corners (λ z. z.im)) (weight_of corners) value.im

abbrev pub CoefficientLinear : Type 0
CoefficientLinear =
    (r : Record) (cells : List ℤ) (a b : Node) (re im : ℤ)
    → coefficient_of r cells a b ≡ Coefficient.Value re im
    → Linear r cells a b (record { re = re; im = im })

-- there is but one such value
abbrev pub LinearOnce : Type 0
LinearOnce = (r : Record) (cells : List ℤ) (a b : Node) (v w : Complex) → Linear r cells a b v → Linear r cells a b w → v ≡ w

-- at two of the table's own frequencies it is the entry
abbrev pub own_node : Node → Node
own_node n = record { tick = n.tick; heading = heading_of n.heading }

abbrev pub CoefficientOwn : Type 0
CoefficientOwn =
    (r : Record) (cells : List ℤ) (a b : Node) (re im : ℤ)
    → coefficient_of r cells a b ≡ Coefficient.Value re im
    → HoldsTick r a.tick
    → HoldsTick r b.tick
    → ◌≡◌ {A = Complex} (record { re = re; im = im }) (entry_at r.slots cells (own_node a) (own_node b))

-- entries swap: exchanging the two nodes gives the mirror
abbrev pub EntriesSwap : Record → List ℤ → Type 0
EntriesSwap r cells =
    (a b : Node)
    → has_node r.slots a ≡ true
    → has_node r.slots b ≡ true
    → entry_at r.slots cells b a ≡ mirror_of r.choices.kind (entry_at r.slots cells a b)

-- where they do, so do coefficients
abbrev pub CoefficientSwaps : Type 0
CoefficientSwaps =
    (r : Record) (cells : List ℤ) (a b : Node) (re im : ℤ)
    → EntriesSwap r cells
    → coefficient_of r cells a b ≡ Coefficient.Value re im
    → let v = mirror_of r.choices.kind (record { re = re; im = im }) in
    coefficient_of r cells b a ≡ Coefficient.Value v.re v.im
