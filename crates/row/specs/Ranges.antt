-- The ranges of document 01, "Numbers", and of document 02, M-101, each said once; src/ranges.rt has the same numbers for the code.
use Rattle.std.specs.Prelude.{ℕ, ℤ, pos, neg_ℤ, Option}
use Rattle.field.specs.declared.decimal.Decimal.{Decimal}
use Rattle.field.specs.Units.{in_units}
use Rattle.row.specs.declared.ranges.Quantity.{Quantity}

-- "Period: microseconds, 1,000,000 to 100,000,000"
abbrev pub period_least : ℕ
period_least = 1_000_000

abbrev pub period_most : ℕ
period_most = 100_000_000

-- "Heading: millidegrees, -180,000 to 180,000"
abbrev pub heading_most : ℕ
heading_most = 180_000

-- "Real and imaginary part: millionths, -10^9 to 10^9"
abbrev pub part_most : ℕ
part_most = 1_000_000_000

-- "MOD in millionths, M, must lie in 0 to 1,415,000,000" (document 02, M-101)
abbrev pub modulus_most : ℕ
modulus_most = 1_415_000_000

-- "Frequency: ticks of 0.0001 Hz, .. so 100 to 10,000"
abbrev pub tick_least : ℕ
tick_least = 100

abbrev pub tick_most : ℕ
tick_most = 10_000

-- the four quantities of a row, each counted in the unit 10^-places, from its least to its most
abbrev pub period : Quantity
period = record { places = 6; least = pos period_least; most = pos period_most }

abbrev pub direction : Quantity
direction = record { places = 3; least = neg_ℤ (pos heading_most); most = pos heading_most }

abbrev pub part : Quantity
part = record { places = 6; least = neg_ℤ (pos part_most); most = pos part_most }

abbrev pub magnitude : Quantity
magnitude = record { places = 6; least = pos 0; most = pos modulus_most }

-- a decimal as one of them: its value in the unit, or that it is out of range, after rounding
abbrev pub measure : Quantity → Decimal → Option ℤ
measure q d = in_units d q.places q.least q.most
