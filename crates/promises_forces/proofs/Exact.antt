-- The unrounded coefficients of demand 3's exact sum are the linear values between the corners. Assumes nothing.
use mathlib.Core.Path.{subst}
use mathlib.Core.List.{List, Memᴰ}
use lib.IntN.{ℤ}
use Rattle.phase.specs.Turn.{Quarter}
use Rattle.phase.specs.Seconds.{seconds}
use Rattle.reader.specs.declared.record.Record.{Record}
use Rattle.load.specs.Force.{LocatedLine}
use Rattle.promises_queries.specs.Places.{of-ends}
use Rattle.promises_forces.specs.Demand.{linear_top}
use Rattle.promises_queries.specs.Queries.{node_of_line, first_heading_of}
use Rattle.promises_forces.specs.Exact.{LinearPair, ExactLinearBy, ExactLinear}
use Rattle.promises_queries.proofs.Loads.{load_given, force-given}
use Rattle.promises_forces.proofs.Demand.{lines-in-place, lines_are}
use Rattle.promises_queries.proofs.Locations.{At}
use Rattle.promises_queries.proofs.Ends.{some-ends}
use Rattle.promises_queries.proofs.Corners.{corners_in, top-re, top-im, over-is}
use Rattle.promises_queries.proofs.Seas.{line_of}

pair-linear : (r : Record) (cells : List ℤ) {first : ℤ} (m n : LocatedLine) → At r first (node_of_line m.line) m.point → At r first (node_of_line n.line) n.point
    → LinearPair r cells m n
unfolding linear_top
pair-linear r cells m n at-m at_n =
    let (es, x) = some-ends at-m in
    let (fs, y) = some-ends at_n in
    record {
      corners = corners_in es fs;
      are = of-ends x.are y.are;
      re = top-re r cells x y;
      im = top-im r cells x y;
      over = over-is r cells x y;
    }

pub exact-linear-by : (clock : Quarter) → ExactLinearBy clock
exact-linear-by clock r cells sea t force e m n i j =
    let (mean, l) = force-given clock r cells sea t force e in
    let (lines, g) = load_given clock r cells sea t mean force l in
    let is = lines_are clock r cells sea t lines mean force g in
    let s = lines-in-place clock r cells sea t lines mean force g in
    pair-linear r cells m n
    (line_of r (first_heading_of sea) s m (subst (Memᴰ m) is i)).1
    (line_of r (first_heading_of sea) s n (subst (Memᴰ n) is j)).1

pub exact-linear : ExactLinear
exact-linear = exact-linear-by seconds
