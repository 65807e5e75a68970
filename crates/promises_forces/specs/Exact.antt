-- Demand 3, what stands in the exact sum, by the table's values: any two lines of a sea that has a force have their corners, and their unrounded coefficient is the linear value
-- between these (specs/Coefficients), top and bottom.
use mathlib.Core.List.{List, Memᴰ}
use Rattle.std.specs.Prelude.{◌≡◌, ℕ, ℤ}
use Rattle.phase.specs.Turn.{Quarter}
use Rattle.phase.specs.Seconds.{seconds}
use Rattle.reader.specs.declared.record.Record.{Record}
use Rattle.table.specs.View.{view_of}
use Rattle.load.specs.Force.{LocatedLine, force_by}
use Rattle.seaway.specs.declared.sea.Sea.{Sea}
use Rattle.load.specs.Answers.{Force}
use Rattle.promises_queries.specs.Places.{WeightedPair, CornersOf}
use Rattle.promises_queries.specs.Coefficients.{linear, weight_of}
use Rattle.promises_forces.specs.Demand.{linear_top, linear_over, sea_lines}
use Rattle.promises_queries.specs.Queries.{node_of_line}

pub record LinearPair (r : Record) (cells : List ℤ) (m n : LocatedLine) : Type 0 where
  pub corners : List WeightedPair
  pub are : CornersOf r (node_of_line m.line) (node_of_line n.line) corners
  pub re : (linear_top (view_of r.slots cells) m n).re ≡ linear r cells corners (λ z. z.re)
  pub im : (linear_top (view_of r.slots cells) m n).im ≡ linear r cells corners (λ z. z.im)
  pub over : linear_over m n ≡ weight_of corners

abbrev pub ExactLinearBy : Quarter → Type 0
ExactLinearBy clock =
    (r : Record) (cells : List ℤ) (sea : Sea) (t : ℕ) (force : ℤ)
    → force_by clock r cells sea t ≡ Force.Value force
    → (m n : LocatedLine)
    → Memᴰ m (sea_lines r sea)
    → Memᴰ n (sea_lines r sea)
    → LinearPair r cells m n

abbrev pub ExactLinear : Type 0
ExactLinear = ExactLinearBy seconds
