-- `reading::frequency` meets its contract: a period in its range is not negative, and its tick, at most 10,000, fits the smaller word. Assumes nothing.
use mathlib.Core.Path.{◌∙◌, ap}
use Prim.Native.Nat.{◌≤◌}
use native.Mathlib.Omega.{arith}
use lib.IntN.{nat_abs}
use mir.Facts.{to_z-of_z}
use Rattle.field.specs.Units.{tick_of}
use Rattle.field.proofs.Ticks.{tick-range}
use Rattle.row.specs.Ranges.{period_least, period_most}
use Rattle.row.proofs.Sizes.{not_negative, size_above, size_below}
use Rattle.row.proofs.reading.frequency.Goals as goal

-- the period's size
module _ (c : goal.Start) where
  above : period_least ≤ nat_abs c.args.microseconds
  above = size_above period_least c.args.microseconds c.requires.above

  below : nat_abs c.args.microseconds ≤ period_most
  below = size_below period_least period_most c.args.microseconds c.requires.above c.requires.below

pub overflow_cast-microseconds : goal.overflow_cast-microseconds
overflow_cast-microseconds c =
    rw (to_z-of_z c.ranges.microseconds)
    (not_negative period_least c.args.microseconds c.requires.above, record { fits = omega (arith, below c) })

pub returns : goal.returns
returns c = c.tick.ensures ∙ ap (λ z. tick_of (nat_abs z)) (to_z-of_z c.ranges.microseconds)

pub overflow_cast-result : goal.overflow_cast-result
overflow_cast-result c = record { fits = omega (arith, returns c, tick-range (nat_abs c.args.microseconds) (above c.before) (below c.before)) }
