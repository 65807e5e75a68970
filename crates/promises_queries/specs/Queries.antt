-- Demand 1, what queries are refused (document 01, "The sixteen numbers"): a coefficient, a force and a display are refused 1, 2 and 12 to 16 exactly when the table says, with
-- the place that it says. Numbers are tested in rising order, "for a sea, 12 comes before any line; then line by line 13, 14". Every refused query gives force 0 or coefficient
-- (0, 0).
use Rattle.std.specs.Prelude.{true, ◌⊎◌, ◌↔◌, ◌≡◌, ℕ, suc, ◌<◌, ℤ, pos, nat_abs, Float, length}
use mathlib.Core.List.{List, ◌∷◌, ◌++◌, Memᴰ}
use Rattle.std.specs.Float.{nan, binary64}
use Rattle.std.specs.Float.Ieee.{of_int, lt, le}
use Rattle.grid.specs.declared.nodes.Node.{Node}
use Rattle.phase.specs.Turn.{Quarter}
use Rattle.phase.specs.Seconds.{seconds}
use Rattle.reader.specs.declared.record.Record.{Record}
use Rattle.reader.specs.Valid.{valid_of}
use Rattle.seaway.specs.Sea.{Line, lines_of, size_of}
use Rattle.load.specs.Force as force
use Rattle.load.specs.Force.{first_heading, load_by, force_by}
use Rattle.readout.specs.Display.{display_by}
use Rattle.load.specs.Coefficient as coefficient
use Rattle.load.specs.Coefficient.{coefficient_of}
use Rattle.seaway.specs.declared.sea.Sea.{Sea}
use Rattle.load.specs.Answers.{Load}
use Rattle.load.specs.Answers.{Force}
use Rattle.readout.specs.Told.{Display}
use Rattle.load.specs.Answers.{Coefficient}
use Rattle.promises_queries.specs.Places.{Off, InPlace, WeightedPair, CornersOf}
use Rattle.promises_queries.specs.Coefficients.{corner_entry}
use Rattle.row.specs.Ranges.{part_most}
use Rattle.table.specs.Cells.{cells_lent}

-- ---- 1 and 2, for any query

-- 1: the lent cells are too short
abbrev pub ShortCells : List ℤ → Type 0
ShortCells cells = length cells < cells_lent

-- 2 where this fails: the record is valid, and the table accepted
pub record ValidAccepted (r : Record) : Type 0 where
  pub valid : valid_of r ≡ true
  pub accepted : r.marks.stage ≡ 2

-- neither 1 nor 2
pub record Asked (r : Record) (cells : List ℤ) : Type 0 where
  pub long : ShortCells cells → ⊥
  pub accepted : ValidAccepted r

-- ---- 15

-- "a needed cell part outside -10^9 to 10^9": every corner of two points is needed, for each has weight (`CornersWeigh`)
pub record NeedsLargePart (r : Record) (cells : List ℤ) (a b : Node) : Type 0 where
  pub corners : List WeightedPair
  pub are : CornersOf r a b corners
  pub corner : WeightedPair
  pub needed : Memᴰ corner corners
  pub large : (part_most < nat_abs (corner_entry r cells corner).re) ⊎ (part_most < nat_abs (corner_entry r cells corner).im)

-- ---- a coefficient call: its two points are lines 1 and 2 for 13 and 14, and 12 is not tested

pub data CoefficientRefused (r : Record) (cells : List ℤ) (a b : Node) : ℕ → ℕ → Type 0 where
  one : ShortCells cells → CoefficientRefused r cells a b 1 0
  two : (ShortCells cells → ⊥) → (ValidAccepted r → ⊥) → CoefficientRefused r cells a b 2 0
  first_off : {number : ℕ} → Asked r cells → Off r a.heading a number → CoefficientRefused r cells a b number 1
  second-off : {number : ℕ} → Asked r cells → InPlace r a.heading a → Off r a.heading b number → CoefficientRefused r cells a b number 2
  fifteen : Asked r cells → InPlace r a.heading a → InPlace r a.heading b → NeedsLargePart r cells a b → CoefficientRefused r cells a b 15 0

abbrev pub CoefficientExactly : Type 0
CoefficientExactly =
    (r : Record) (cells : List ℤ) (a b : Node) (number place : ℕ)
    → (coefficient_of r cells a b ≡ Coefficient.Refused number place) ↔ CoefficientRefused r cells a b number place

-- and is answered in every other case
abbrev pub CoefficientGiven : Type 0
CoefficientGiven =
    (r : Record) (cells : List ℤ) (a b : Node)
    → ((number place : ℕ) → CoefficientRefused r cells a b number place → ⊥)
    → (re : ℤ) × (im : ℤ) × (coefficient_of r cells a b ≡ Coefficient.Value re im)

abbrev pub CoefficientZero : Type 0
CoefficientZero =
    (r : Record) (cells : List ℤ) (a b : Node) (number place : ℕ)
    → coefficient_of r cells a b ≡ Coefficient.Refused number place
    → coefficient.value_of (coefficient_of r cells a b) ≡ record { re = pos 0; im = pos 0 }

-- ---- a sea

-- each tick is above that of the line before
abbrev pub Rising : List Line → Type 0
Rising lines = (before after : List Line) (l m : Line) → lines ≡ before ++ (l ∷ m ∷ after) → l.tick < m.tick

-- 12: "over 64 sea lines, ticks not strictly rising, or A over 40,000"
pub data Inadmissible (sea : Sea) : Type 0 where
  many : 64 < sea.count → Inadmissible sea
  not-rising : (Rising (lines_of sea) → ⊥) → Inadmissible sea
  high : 40_000 < size_of (lines_of sea) → Inadmissible sea

-- where a line lies by its tick and heading
abbrev pub node_of_line : Line → Node
node_of_line l = record { tick = l.tick; heading = l.heading }

-- the heading of line 1
abbrev pub first_heading_of : Sea → ℤ
first_heading_of sea = first_heading (lines_of sea)

abbrev pub LineInPlace : Record → Sea → Line → Type 0
LineInPlace r sea l = InPlace r (first_heading_of sea) (node_of_line l)

-- 13 and 14 are of the first line that is off, counted from 1; 15 has no place
pub data SeaRefused (r : Record) (cells : List ℤ) (sea : Sea) : ℕ → ℕ → Type 0 where
  one : ShortCells cells → SeaRefused r cells sea 1 0
  two : (ShortCells cells → ⊥) → (ValidAccepted r → ⊥) → SeaRefused r cells sea 2 0
  twelve : Asked r cells → Inadmissible sea → SeaRefused r cells sea 12 0
  line-off :
      {number : ℕ} (before after : List Line) (l : Line)
      → Asked r cells
      → (Inadmissible sea → ⊥)
      → lines_of sea ≡ before ++ (l ∷ after)
      → ((k : Line) → Memᴰ k before → LineInPlace r sea k)
      → Off r (first_heading_of sea) (node_of_line l) number
      → SeaRefused r cells sea number (suc (length before))
  fifteen :
      (m n : Line)
      → Asked r cells
      → (Inadmissible sea → ⊥)
      → ((k : Line) → Memᴰ k (lines_of sea) → LineInPlace r sea k)
      → Memᴰ m (lines_of sea)
      → Memᴰ n (lines_of sea)
      → NeedsLargePart r cells (node_of_line m) (node_of_line n)
      → SeaRefused r cells sea 15 0

-- a sea that is not refused
abbrev pub SeaFree : Record → List ℤ → Sea → Type 0
SeaFree r cells sea = (number place : ℕ) → SeaRefused r cells sea number place → ⊥

abbrev pub LoadExactlyBy : Quarter → Type 0
LoadExactlyBy clock =
    (r : Record) (cells : List ℤ) (sea : Sea) (t number place : ℕ)
    → (load_by clock r cells sea t ≡ Load.Refused number place) ↔ SeaRefused r cells sea number place

abbrev pub LoadExactly : Type 0
LoadExactly = LoadExactlyBy seconds

-- and is given in every other case
abbrev pub LoadGivenBy : Quarter → Type 0
LoadGivenBy clock =
    (r : Record) (cells : List ℤ) (sea : Sea) (t : ℕ)
    → SeaFree r cells sea
    → (mean : ℤ) × (whole : ℤ) × (load_by clock r cells sea t ≡ Load.Both mean whole)

abbrev pub LoadGiven : Type 0
LoadGiven = LoadGivenBy seconds

abbrev pub ForceExactlyBy : Quarter → Type 0
ForceExactlyBy clock =
    (r : Record) (cells : List ℤ) (sea : Sea) (t number place : ℕ)
    → (force_by clock r cells sea t ≡ Force.Refused number place) ↔ SeaRefused r cells sea number place

abbrev pub ForceExactly : Type 0
ForceExactly = ForceExactlyBy seconds

abbrev pub ForceGivenBy : Quarter → Type 0
ForceGivenBy clock =
    (r : Record) (cells : List ℤ) (sea : Sea) (t : ℕ)
    → SeaFree r cells sea
    → (force : ℤ) × (force_by clock r cells sea t ≡ Force.Value force)

abbrev pub ForceGiven : Type 0
ForceGiven = ForceGivenBy seconds

abbrev pub ForceZeroBy : Quarter → Type 0
ForceZeroBy clock =
    (r : Record) (cells : List ℤ) (sea : Sea) (t number place : ℕ)
    → force_by clock r cells sea t ≡ Force.Refused number place
    → force.value_of (force_by clock r cells sea t) ≡ pos 0

abbrev pub ForceZero : Type 0
ForceZero = ForceZeroBy seconds

-- "An empty sea has force 0"
abbrev pub EmptySeaBy : Quarter → Type 0
EmptySeaBy clock = (r : Record) (cells : List ℤ) (sea : Sea) (t : ℕ) → Asked r cells → sea.count ≡ 0 → force_by clock r cells sea t ≡ Force.Value (pos 0)

abbrev pub EmptySea : Type 0
EmptySea = EmptySeaBy seconds

-- ---- the display: all that the force is refused, then 16

-- "scale not a number, not above 0, or above 1,000"
pub data Unusable (scale : Float) : Type 0 where
  not-a-number : scale ≡ nan → Unusable scale
  not-above : le scale (of_int binary64 (pos 0)) ≡ true → Unusable scale
  too_large : lt (of_int binary64 (pos 1_000)) scale ≡ true → Unusable scale

pub data DisplayRefused (r : Record) (cells : List ℤ) (sea : Sea) (scale : Float) : ℕ → ℕ → Type 0 where
  as-force : {number place : ℕ} → SeaRefused r cells sea number place → DisplayRefused r cells sea scale number place
  sixteen : SeaFree r cells sea → Unusable scale → DisplayRefused r cells sea scale 16 0

abbrev pub DisplayExactlyBy : Quarter → Type 0
DisplayExactlyBy clock =
    (r : Record) (cells : List ℤ) (sea : Sea) (t : ℕ) (scale : Float) (number place : ℕ)
    → (display_by clock r cells sea t scale ≡ Display.Refused number place) ↔ DisplayRefused r cells sea scale number place

abbrev pub DisplayExactly : Type 0
DisplayExactly = DisplayExactlyBy seconds
