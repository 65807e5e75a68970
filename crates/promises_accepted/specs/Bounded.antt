-- Demand 1, where every cell part is in bounds 15 is never given (document 01, "The sixteen numbers"): so a table of a chain, whose cells are those of its rows, never gives it,
-- and a sea that is not refused by another number gets its force.
use mathlib.Core.List.{List, Memᴰ}
use Rattle.std.specs.Prelude.{◌≡◌, ℕ, ◌≤◌, ◌<◌, ℤ, pos, nat_abs, Float, get_or}
use Rattle.row.specs.declared.reading.Choices.{Choices}
use Rattle.row.specs.declared.reading.Entry.{Entry}
use Rattle.grid.specs.declared.nodes.Node.{Node}
use Rattle.phase.specs.Turn.{Quarter}
use Rattle.phase.specs.Seconds.{seconds}
use Rattle.reader.specs.declared.record.Record.{Record}
use Rattle.table.specs.Placing.{Table}
use Rattle.reader.specs.Model.{State}
use Rattle.seaway.specs.Sea.{Line, lines_of}
use Rattle.load.specs.Force.{force_by}
use Rattle.seaway.specs.declared.sea.Sea.{Sea}
use Rattle.load.specs.Answers.{Force}
use Rattle.load.specs.Answers.{Coefficient}
use Rattle.load.specs.Coefficient.{coefficient_of}
use Rattle.promises_calls.specs.Kept.{Shaped}
use Rattle.promises_chains.specs.Chain.{Call, calls_of, Opens, chain}
use Rattle.promises_texts.specs.Start.{Start, StartsAt}
use Rattle.promises_tables.specs.Holds.{Holds}
use Rattle.promises_queries.specs.Places.{InPlace}
use Rattle.promises_queries.specs.Queries.{Asked, Inadmissible, LineInPlace, CoefficientRefused, SeaRefused, DisplayRefused}
use Rattle.table.specs.Cells.{cells_lent}
use Rattle.row.specs.Ranges.{part_most}

-- each of the 12,800 cell parts is from -10^9 to 10^9
pub record Bounded (cells : List ℤ) : Type 0 where
  pub part : (p : ℕ) → p < cells_lent → nat_abs (get_or cells p (pos 0)) ≤ part_most

-- those of a table that rows made are, and so they are after any calls from a start, and at every point of a chain
abbrev pub RowsBounded : Type 0
RowsBounded = (kind : ℕ) (rows : List Entry) (t : Table) → Holds kind rows t → Bounded t.cells

abbrev pub CallsBounded : Type 0
CallsBounded = (g : Start) (s : State) (calls : List Call) → StartsAt g s → Bounded (calls_of calls s).cells

abbrev pub ChainBounded : Type 0
ChainBounded =
    (c : Choices) (cells : List ℤ) (flags : List ℕ) (calls : List Call) → Opens c cells flags → Bounded (chain c cells flags calls).cells

abbrev pub NoFifteen : Type 0
NoFifteen =
    (r : Record) (cells : List ℤ) (sea : Sea) (scale : Float) (a b : Node) (place : ℕ)
    → Shaped r
    → Bounded cells
    → (CoefficientRefused r cells a b 15 place → ⊥) × (SeaRefused r cells sea 15 place → ⊥) × (DisplayRefused r cells sea scale 15 place → ⊥)

-- two points in their places get a coefficient
abbrev pub PointsAnswered : Type 0
PointsAnswered =
    (r : Record) (cells : List ℤ) (a b : Node)
    → Shaped r
    → Bounded cells
    → Asked r cells
    → InPlace r a.heading a
    → InPlace r a.heading b
    → (re : ℤ) × (im : ℤ) × (coefficient_of r cells a b ≡ Coefficient.Value re im)

-- an accepted sea, all of whose lines are in their places, gets its force
abbrev pub SeaAnsweredBy : Quarter → Type 0
SeaAnsweredBy clock =
    (r : Record) (cells : List ℤ) (sea : Sea) (t : ℕ)
    → Shaped r
    → Bounded cells
    → Asked r cells
    → (Inadmissible sea → ⊥)
    → ((l : Line) → Memᴰ l (lines_of sea) → LineInPlace r sea l)
    → (force : ℤ) × (force_by clock r cells sea t ≡ Force.Value force)

abbrev pub SeaAnswered : Type 0
SeaAnswered = SeaAnsweredBy seconds
