-- Demand 3: the force that an accepted sea gets "differs from the exact double sum, taken with unrounded coefficients and our printed cosines, by at most half a unit plus three
-- quarters of the square of A" (document 01, "Coefficients and forces": unrounded coefficients are fractions taken from the cells, the exact sum is such a fraction too, and a
-- cosine is the table's entry over 2^30). One statement for both kinds and both coverages, and for every clock (..By): it holds of each whose table keeps the rule (specs/Clocks).
use Rattle.std.specs.Prelude.{◌≡◌, ℕ, zero, suc, ◌*◌, ◌^◌, ◌<◌, ℤ, pos, ◌*ℤ◌}
use mathlib.Core.List.{List, [], map, Memᴰ}
use Rattle.std.proofs.Common.{zero-lt-suc, lit<}
use Rattle.whole.specs.Complex.{Complex, ◌*ᶜ◌}
use Rattle.whole.specs.Fraction.{Fraction, ◌≤ᶠ◌, ◌≡ᶠ◌, as_fraction, ◌+ᶠ◌, distance}
use Rattle.whole.specs.Sum.{sumᶠ, sumᶜ}
use Rattle.phase.specs.Turn.{Quarter, phase_ℤ}
use Rattle.phase.specs.Seconds.{seconds}
use Rattle.reader.specs.declared.record.Record.{Record}
use Rattle.table.specs.View.{View, view_of}
use Rattle.load.specs.Corners.{corners, weighed_sum, coefficient}
use Rattle.seaway.specs.Sea.{lines_of, size_of}
use Rattle.seaway.specs.declared.sea.Sea.{Sea}
use Rattle.load.specs.Answers.{Load}
use Rattle.load.specs.Answers.{Force}
use Rattle.load.specs.Force.{LocatedLine, LocatedSea, all, stopped, located_sea, amplitudes, step_of, total_by, load_by, force_by}

-- ---- the exact sum

-- z over d, as a fraction. Over 0, which is no width in a table (`WidthsAbove`), it is z itself
abbrev pub ratio : ℤ → ℕ → Fraction
ratio z zero = as_fraction z
ratio z (suc d) = record { num = z; den = suc d; above = zero-lt-suc d }

-- the unrounded coefficient of two lines: in each part the corners' values by their weights, over the product of the two widths
unfoldable pub linear_top : View → LocatedLine → LocatedLine → Complex
linear_top v m n = weighed_sum (corners v m.point n.point)

abbrev pub linear_over : LocatedLine → LocatedLine → ℕ
linear_over m n = m.point.frequency.width * n.point.frequency.width

-- the product of the two amplitudes, and the phase of the two lines by a clock, over 2^30
abbrev pub amplitudes_of : ℕ → LocatedLine → LocatedLine → Complex
amplitudes_of kind m n = amplitudes kind m.line.amplitude n.line.amplitude

abbrev pub turned : Quarter → ℕ → ℕ → LocatedLine → LocatedLine → Complex
turned clock kind t m n = phase_ℤ clock (step_of kind t m.line.tick n.line.tick)

-- the real part of amplitudes, unrounded coefficient and phase, as one fraction
unfoldable pub exact_term : Quarter → ℕ → View → ℕ → LocatedLine → LocatedLine → Fraction
exact_term clock kind v t m n = ratio (amplitudes_of kind m n *ᶜ linear_top v m n *ᶜ turned clock kind t m n).re (linear_over m n * 2 ^ 30)

-- "the sum over all m, n"
unfoldable pub exact_sum : Quarter → ℕ → View → ℕ → List LocatedLine → Fraction
exact_sum clock kind v t lines = sumᶠ lines (λ m. sumᶠ lines (λ n. exact_term clock kind v t m n))

-- the lines of a sea in their places, where all have one
unfoldable pub lines_in : LocatedSea → List LocatedLine
lines_in (all lines) = lines
lines_in (stopped number line) = []

abbrev pub sea_lines : Record → Sea → List LocatedLine
sea_lines r sea = lines_in (located_sea r (lines_of sea))

-- by a clock, and at whole seconds
unfoldable pub exact_force_by : Quarter → Record → List ℤ → Sea → ℕ → Fraction
exact_force_by clock r cells sea t = exact_sum clock r.choices.kind (view_of r.slots cells) t (sea_lines r sea)

abbrev pub exact_force : Record → List ℤ → Sea → ℕ → Fraction
exact_force = exact_force_by seconds

-- ---- the bound

abbrev pub half : Fraction
half = record { num = pos 1; den = 2; above = lit< tt }

abbrev pub quarters : ℕ → Fraction
quarters n = record { num = pos n; den = 4; above = lit< tt }

-- A, "the sum over the lines of the sizes of both parts"
abbrev pub A : Sea → ℕ
A sea = size_of (lines_of sea)

-- "half a unit plus three quarters of the square of A"
abbrev pub allowed : Sea → Fraction
allowed sea = half +ᶠ quarters (3 * (A sea * A sea))

abbrev pub Demand3By : Quarter → Type 0
Demand3By clock =
    (r : Record) (cells : List ℤ) (sea : Sea) (t : ℕ) (force : ℤ)
    → force_by clock r cells sea t ≡ Force.Value force
    → distance (as_fraction force) (exact_force_by clock r cells sea t) ≤ᶠ allowed sea

abbrev pub Demand3 : Type 0
Demand3 = Demand3By seconds

-- the same of the whole load that a display shows, which is that force
abbrev pub Demand3LoadBy : Quarter → Type 0
Demand3LoadBy clock =
    (r : Record) (cells : List ℤ) (sea : Sea) (t : ℕ) (mean force : ℤ)
    → load_by clock r cells sea t ≡ Load.Both mean force
    → distance (as_fraction force) (exact_force_by clock r cells sea t) ≤ᶠ allowed sea

abbrev pub Demand3Load : Type 0
Demand3Load = Demand3LoadBy seconds

-- the same of every fraction that is equal to the exact sum: in what order it was added up, and over what denominators, is no matter
abbrev pub Demand3EqualBy : Quarter → Type 0
Demand3EqualBy clock =
    (r : Record) (cells : List ℤ) (sea : Sea) (t : ℕ) (force : ℤ) (x : Fraction)
    → force_by clock r cells sea t ≡ Force.Value force
    → exact_force_by clock r cells sea t ≡ᶠ x
    → distance (as_fraction force) x ≤ᶠ allowed sea

abbrev pub Demand3Equal : Type 0
Demand3Equal = Demand3EqualBy seconds

-- where rounding leaves every coefficient of the sea as it is, only the half unit is left
pub record Unrounded (v : View) (m n : LocatedLine) : Type 0 where
  pub re : (linear_top v m n).re ≡ (coefficient v m.point n.point).re *ℤ pos (linear_over m n)
  pub im : (linear_top v m n).im ≡ (coefficient v m.point n.point).im *ℤ pos (linear_over m n)

abbrev pub Demand3ExactBy : Quarter → Type 0
Demand3ExactBy clock =
    (r : Record) (cells : List ℤ) (sea : Sea) (t : ℕ) (force : ℤ)
    → force_by clock r cells sea t ≡ Force.Value force
    → ((m n : LocatedLine) → Memᴰ m (sea_lines r sea) → Memᴰ n (sea_lines r sea) → Unrounded (view_of r.slots cells) m n)
    → distance (as_fraction force) (exact_force_by clock r cells sea t) ≤ᶠ half

abbrev pub Demand3Exact : Type 0
Demand3Exact = Demand3ExactBy seconds

-- ---- what stands in the exact sum

-- no width of a sea that has a force is 0, so that every fraction above is the numerator over the denominator
abbrev pub WidthsAboveBy : Quarter → Type 0
WidthsAboveBy clock =
    (r : Record) (cells : List ℤ) (sea : Sea) (t : ℕ) (force : ℤ)
    → force_by clock r cells sea t ≡ Force.Value force
    → (m : LocatedLine)
    → Memᴰ m (sea_lines r sea)
    → 0 < m.point.frequency.width

abbrev pub WidthsAbove : Type 0
WidthsAbove = WidthsAboveBy seconds

-- and the lines that stand there are all the lines of the sea, in order
abbrev pub AllInPlaceBy : Quarter → Type 0
AllInPlaceBy clock =
    (r : Record) (cells : List ℤ) (sea : Sea) (t : ℕ) (force : ℤ)
    → force_by clock r cells sea t ≡ Force.Value force
    → map (λ (m : LocatedLine). m.line) (sea_lines r sea) ≡ lines_of sea

abbrev pub AllInPlace : Type 0
AllInPlace = AllInPlaceBy seconds

-- the total before rounding is the "real part of the sum over all m, n", with rounded coefficients
abbrev pub RealPartBy : Quarter → Type 0
RealPartBy clock =
    (kind : ℕ) (v : View) (t : ℕ) (lines : List LocatedLine)
    → total_by clock kind v t lines
    ≡ (sumᶜ lines (λ m. sumᶜ lines (λ n. amplitudes_of kind m n *ᶜ coefficient v m.point n.point *ᶜ turned clock kind t m n))).re

abbrev pub RealPart : Type 0
RealPart = RealPartBy seconds
