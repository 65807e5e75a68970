-- The display (document 01, "Coefficients and forces"): the mean and the whole load, each "the force over 1,000, rounded to a whole count", "turned into a double exactly and
-- multiplied once by the caller's scale". A force for components 1 to 3, a moment for 4 to 6; the mean of a sum table is 0.0. It tests all that the force tests, then 16.
-- Bit for bit: a float here is a value of IEEE 754's binary64.
use Rattle.std.specs.Prelude.{Bool, cond, ◌&&◌, List, ℕ, eqb, leb, ℤ, pos, Float}
use Rattle.std.specs.Float.{binary64}
use Rattle.std.specs.Float.Ieee.{mul, of_int, lt, le}
use Rattle.whole.specs.Nearest.{nearest_ℤ}
use Rattle.phase.specs.Turn.{Quarter}
use Rattle.phase.specs.Seconds.{seconds}
use Rattle.reader.specs.declared.record.Record.{Record}
use Rattle.seaway.specs.declared.sea.Sea.{Sea}
use Rattle.load.specs.Answers.{Load}
use Rattle.readout.specs.declared.display.Reading.{Reading}
use Rattle.readout.specs.Told.{Display}
use Rattle.load.specs.Force.{load_by}

-- 16 where this fails: "scale not a number, not above 0, or above 1,000". A comparison with what is not a number fails
unfoldable pub is_usable : Float → Bool
is_usable scale = lt (of_int binary64 (pos 0)) scale && le scale (of_int binary64 (pos 1_000))

-- a force as a count, and the count as a double by the scale
unfoldable pub count_of : ℤ → ℤ
count_of force = nearest_ℤ force 1_000

unfoldable pub scaled : Float → ℤ → Float
scaled scale force = mul binary64 (of_int binary64 (count_of force)) scale

unfoldable pub reading_of : ℕ → Float → ℤ → ℤ → Reading
reading_of kind scale mean whole =
    record { mean = cond (eqb kind 0) (scaled scale mean) (of_int binary64 (pos 0)); whole = scaled scale whole }

unfoldable pub shown : Record → Float → Load → Display
shown r scale (Load.Refused number line) = Display.Refused number line
shown r scale (Load.Both mean whole) =
    let reading = reading_of r.choices.kind scale mean whole in
    cond (is_usable scale)
    (cond (leb r.choices.component 3) (Display.Force reading) (Display.Moment reading))
    (Display.Refused 16 0)

-- by a clock, and at whole seconds
unfoldable pub display_by : Quarter → Record → List ℤ → Sea → ℕ → Float → Display
display_by clock r cells sea t scale = shown r scale (load_by clock r cells sea t)

abbrev pub display_of : Record → List ℤ → Sea → ℕ → Float → Display
display_of = display_by seconds

-- document 01's number of a display
unfoldable pub number_of : Display → ℕ
number_of (Display.Force reading) = 0
number_of (Display.Moment reading) = 0
number_of (Display.Refused number line) = number
