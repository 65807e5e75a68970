-- Demands 1 to 3, what queries promise of an accepted table: 15 is never given; two points in their places get the coefficient that is nearest to the linear value; and a sea
-- that is not refused gets its force, which keeps the bound of demand 3, its load and its display.
use mathlib.Core.List.{List, [], ◌++◌, Memᴰ}
use Rattle.std.specs.Prelude.{◌≡◌, ℕ, ℤ, Float}
use Rattle.whole.specs.Fraction.{◌≤ᶠ◌, as_fraction, distance}
use Rattle.row.specs.declared.reading.Choices.{Choices}
use Rattle.row.specs.declared.reading.Entry.{Entry}
use Rattle.grid.specs.declared.nodes.Node.{Node}
use Rattle.load.specs.Coefficient.{coefficient_of}
use Rattle.seaway.specs.Sea.{Line, lines_of}
use Rattle.load.specs.Force.{load_by, force_by}
use Rattle.readout.specs.Display.{display_by}
use Rattle.seaway.specs.declared.sea.Sea.{Sea}
use Rattle.load.specs.Answers.{Load}
use Rattle.load.specs.Answers.{Force}
use Rattle.load.specs.Answers.{Coefficient}
use Rattle.phase.specs.Turn.{Quarter}
use Rattle.phase.specs.Seconds.{seconds}
use Rattle.reader.specs.declared.record.Record.{Record}
use Rattle.reader.specs.Model.{State}
use Rattle.promises_calls.specs.Kept.{Shaped}
use Rattle.promises_chains.specs.Chain.{Call, calls_of, Opens, chain, chain_text}
use Rattle.promises_tables.specs.Rules.{Complete}
use Rattle.promises_texts.specs.Start.{Start, StartsAt}
use Rattle.promises_texts.specs.Accepted.{AcceptsFrom, Accepts}
use Rattle.promises_accepted.specs.RowQueries.{MadeOf}
use Rattle.promises_queries.specs.Places.{InPlace}
use Rattle.promises_queries.specs.Coefficients.{Linear}
use Rattle.promises_forces.specs.Demand.{exact_force_by, allowed}
use Rattle.promises_queries.specs.Queries.{Inadmissible, LineInPlace, CoefficientRefused, SeaRefused, Unusable, DisplayRefused}
use Rattle.promises_forces.specs.Shown.{FitsDisplay, Shows}

-- ---- an accepted table

-- A record and cells whose table is accepted and is what these rows say, which are complete, whoever made it: queries read no flags, so those may be any with which it holds them.
pub record AcceptedTable (rows : List Entry) (r : Record) (cells : List ℤ) : Type 0 where
  pub made : MadeOf rows r cells
  pub shaped : Shaped r
  pub accepted : r.marks.stage ≡ 2
  pub some-row : rows ≡ [] → ⊥
  pub complete : Complete r.choices.kind r.choices.coverage rows

-- calls from a start that end accepted have made one, of the rows of the start and those of their text
abbrev pub CallsAcceptedTable : Type 0
CallsAcceptedTable =
    (g : Start) (s : State) (calls : List Call) (rows : List Entry) → StartsAt g s → AcceptsFrom g (chain_text calls) rows →
    let end = calls_of calls s in end.reader.marks.stage ≡ 2 → AcceptedTable (g.rows ++ rows) end.reader end.cells

-- and so has a chain, of the used rows of its text
abbrev pub ChainAcceptedTable : Type 0
ChainAcceptedTable =
    (c : Choices) (cells : List ℤ) (flags : List ℕ) (calls : List Call) (rows : List Entry) → Opens c cells flags → Accepts c (chain_text calls) rows →
    let end = chain c cells flags calls in end.reader.marks.stage ≡ 2 → AcceptedTable rows end.reader end.cells

-- there are such rows
abbrev pub SomeRows : Type 0
SomeRows =
    (g : Start) (s : State) (calls : List Call) → StartsAt g s → (calls_of calls s).reader.marks.stage ≡ 2 → (rows : List Entry) × AcceptsFrom g (chain_text calls) rows

-- ---- its queries

abbrev pub ChainNoFifteen : Type 0
ChainNoFifteen =
    (rows : List Entry) (r : Record) (cells : List ℤ)
    → AcceptedTable rows r cells
    → (sea : Sea) (scale : Float) (a b : Node) (place : ℕ)
    → (CoefficientRefused r cells a b 15 place → ⊥)
    × (SeaRefused r cells sea 15 place → ⊥)
    × (DisplayRefused r cells sea scale 15 place → ⊥)

abbrev pub ChainCoefficient : Type 0
ChainCoefficient =
    (rows : List Entry) (r : Record) (cells : List ℤ)
    → AcceptedTable rows r cells
    → (a b : Node)
    → InPlace r a.heading a
    → InPlace r a.heading b
    → (re : ℤ)
    × (im : ℤ)
    × (coefficient_of r cells a b ≡ Coefficient.Value re im)
    × Linear r cells a b (record { re = re; im = im })

abbrev pub ChainForceBy : Quarter → Type 0
ChainForceBy clock =
    (rows : List Entry) (r : Record) (cells : List ℤ)
    → AcceptedTable rows r cells
    → (sea : Sea) (t : ℕ)
    → (Inadmissible sea → ⊥)
    → ((l : Line) → Memᴰ l (lines_of sea) → LineInPlace r sea l)
    → (force : ℤ)
    × (force_by clock r cells sea t ≡ Force.Value force)
    × (distance (as_fraction force) (exact_force_by clock r cells sea t) ≤ᶠ allowed sea)

abbrev pub ChainForce : Type 0
ChainForce = ChainForceBy seconds

-- and its load, both parts of which a display has room for
abbrev pub ChainLoadBy : Quarter → Type 0
ChainLoadBy clock =
    (rows : List Entry) (r : Record) (cells : List ℤ)
    → AcceptedTable rows r cells
    → (sea : Sea) (t : ℕ)
    → (Inadmissible sea → ⊥)
    → ((l : Line) → Memᴰ l (lines_of sea) → LineInPlace r sea l)
    → (mean : ℤ)
    × (whole : ℤ)
    × (load_by clock r cells sea t ≡ Load.Both mean whole)
    × FitsDisplay mean
    × FitsDisplay whole

abbrev pub ChainLoad : Type 0
ChainLoad = ChainLoadBy seconds

-- and its display, under any scale but those of 16
abbrev pub ChainDisplayBy : Quarter → Type 0
ChainDisplayBy clock =
    (rows : List Entry) (r : Record) (cells : List ℤ)
    → AcceptedTable rows r cells
    → (sea : Sea) (t : ℕ) (scale : Float)
    → (Inadmissible sea → ⊥)
    → ((l : Line) → Memᴰ l (lines_of sea) → LineInPlace r sea l)
    → (Unusable scale → ⊥)
    → (mean : ℤ)
    × (whole : ℤ)
    × (load_by clock r cells sea t ≡ Load.Both mean whole)
    × Shows r scale mean whole (display_by clock r cells sea t scale)

abbrev pub ChainDisplay : Type 0
ChainDisplay = ChainDisplayBy seconds
