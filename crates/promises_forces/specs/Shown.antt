-- Demand 1, what an answered force and display hold (document 01, "Coefficients and forces"): the force and the mean fit 64 bits with a sign, each is shown as "the force over
-- 1,000, rounded to a whole count (below 2^53), turned into a double exactly and multiplied once by the caller's scale", "marked a force" for components 1 to 3 "or a moment" for
-- 4 to 6.
use Rattle.std.specs.Prelude.{List, ◌≡◌, ℕ, ◌^◌, ◌≤◌, ◌<◌, ℤ, pos, nat_abs, ◌*ℤ◌, Float}
use Rattle.std.specs.Float.{binary64}
use Rattle.std.specs.Float.Ieee.{mul, of_int, to_signed}
use Rattle.whole.specs.Nearest.{IsNearest}
use Rattle.whole.specs.Sum.{sum_ℤ}
use Rattle.phase.specs.Turn.{Quarter}
use Rattle.phase.specs.Seconds.{seconds}
use Rattle.reader.specs.declared.record.Record.{Record}
use Rattle.table.specs.View.{view_of}
use Rattle.load.specs.Force.{load_by, term}
use Rattle.readout.specs.Display.{count_of, display_by}
use Rattle.seaway.specs.declared.sea.Sea.{Sea}
use Rattle.load.specs.Answers.{Load}
use Rattle.readout.specs.declared.display.Reading.{Reading}
use Rattle.readout.specs.Told.{Display}
use Rattle.promises_calls.specs.Kept.{Shaped}
use Rattle.promises_queries.specs.Queries.{Unusable, DisplayRefused}
use Rattle.promises_forces.specs.Demand.{sea_lines}

-- the count is the nearest to the force over 1,000, is below 2^53 in size, and comes back from its double as it was
pub record FitsDisplay (force : ℤ) : Type 0 where
  pub small : nat_abs force ≤ 3_200_000_000_000_000_000
  pub nearest : IsNearest force 1_000 (count_of force)
  pub below : nat_abs (count_of force) < 2 ^ 53
  pub exact : to_signed 63 (of_int binary64 (count_of force)) ≡ count_of force

abbrev pub LoadInRangeBy : Quarter → Type 0
LoadInRangeBy clock =
    (r : Record) (cells : List ℤ) (sea : Sea) (t : ℕ) (mean whole : ℤ)
    → Shaped r
    → load_by clock r cells sea t ≡ Load.Both mean whole
    → FitsDisplay mean × FitsDisplay whole

abbrev pub LoadInRange : Type 0
LoadInRange = LoadInRangeBy seconds

-- "The mean is the part with m = n of a difference table": over 2^30, as the total is. Of a sum table it is 0
pub record MeanIs (clock : Quarter) (r : Record) (cells : List ℤ) (sea : Sea) (t : ℕ) (mean : ℤ) : Type 0 where
  pub difference : r.choices.kind ≡ 0 → mean *ℤ pos (2 ^ 30) ≡ sum_ℤ (sea_lines r sea) (λ m. term clock r.choices.kind (view_of r.slots cells) t m m)
  pub sum : (r.choices.kind ≡ 0 → ⊥) → mean ≡ pos 0

abbrev pub MeanOfLoadBy : Quarter → Type 0
MeanOfLoadBy clock = (r : Record) (cells : List ℤ) (sea : Sea) (t : ℕ) (mean whole : ℤ) → load_by clock r cells sea t ≡ Load.Both mean whole → MeanIs clock r cells sea t mean

abbrev pub MeanOfLoad : Type 0
MeanOfLoad = MeanOfLoadBy seconds

-- the count's double by the scale
abbrev pub shown_as : Float → ℤ → Float
shown_as scale force = mul binary64 (of_int binary64 (count_of force)) scale

-- for a sum table the mean is 0.0
pub record Shows (r : Record) (scale : Float) (mean whole : ℤ) (d : Display) : Type 0 where
  pub reading : Reading
  pub whole_is : reading.whole ≡ shown_as scale whole
  pub mean-is : r.choices.kind ≡ 0 → reading.mean ≡ shown_as scale mean
  pub no-mean : (r.choices.kind ≡ 0 → ⊥) → reading.mean ≡ of_int binary64 (pos 0)
  pub force : r.choices.component ≤ 3 → d ≡ Display.Force reading
  pub moment : 3 < r.choices.component → d ≡ Display.Moment reading

abbrev pub DisplayShowsBy : Quarter → Type 0
DisplayShowsBy clock =
    (r : Record) (cells : List ℤ) (sea : Sea) (t : ℕ) (scale : Float) (mean whole : ℤ)
    → load_by clock r cells sea t ≡ Load.Both mean whole
    → (Unusable scale → ⊥)
    → Shows r scale mean whole (display_by clock r cells sea t scale)

abbrev pub DisplayShows : Type 0
DisplayShows = DisplayShowsBy seconds

-- so a display is given in every case that is not refused: the load's, by the scale
abbrev pub DisplayGivenBy : Quarter → Type 0
DisplayGivenBy clock =
    (r : Record) (cells : List ℤ) (sea : Sea) (t : ℕ) (scale : Float)
    → ((number place : ℕ) → DisplayRefused r cells sea scale number place → ⊥)
    → (mean : ℤ) × (whole : ℤ) × (load_by clock r cells sea t ≡ Load.Both mean whole) × Shows r scale mean whole (display_by clock r cells sea t scale)

abbrev pub DisplayGiven : Type 0
DisplayGiven = DisplayGivenBy seconds
