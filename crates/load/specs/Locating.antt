-- Where a sea line, or a point of a coefficient call, lies in a table (document 01, refusals 13 and 14): its frequency from the lowest to the highest, its heading one of
-- the table's own, and in single coverage that of line 1.
use Rattle.std.specs.Prelude.{cond, not, ◌&&◌, ◌||◌, ℕ, leb, eqb, ℤ, Option, Some, None}
use Rattle.whole.specs.Same.{same_ℤ}
use Rattle.row.specs.Heading.{heading_of}
use Rattle.reader.specs.declared.record.Record.{Record}
use Rattle.grid.specs.Slots.{held_ticks}
use Rattle.table.specs.View.{has_heading}
use Rattle.neighbours.specs.Standing.{Standing, apart, standing}
use Rattle.load.specs.Corners.{Point}

-- what comes of a point: its place in the table, or 13 or 14
pub data Located : Type 0 where
  at : Point → Located
  outside : ℕ → Located

-- `first` is the heading of line 1
unfoldable pub at_heading : Record → ℤ → ℤ → Option (Standing ℕ) → Located
at_heading r first h None = outside 13
at_heading r first h (Some f) =
    cond (has_heading r.slots h && (not (eqb r.choices.coverage 0) || same_ℤ h first))
    (at (record { frequency = f; heading = h }))
    (outside 14)

unfoldable pub located : Record → ℤ → ℕ → ℤ → Located
located r first tick heading =
    at_heading r (heading_of first) (heading_of heading) (standing leb apart (held_ticks r.slots.ticks) tick)
