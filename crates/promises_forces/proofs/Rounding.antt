-- Rounding, and the force's. Assumes nothing.
use mathlib.Core.List.{List}
use mathlib.Core.Path.{◌≡◌, sym, ap, subst}
use Prim.Native.Nat.{◌^◌}
use lib.Dec.{lit<}
use lib.IntN.{ℤ}
use Rattle.whole.specs.Nearest.{IsNearest}
use Rattle.whole.proofs.Nearest as whole
use Rattle.phase.specs.Turn.{Quarter}
use Rattle.phase.specs.Seconds.{seconds}
use Rattle.table.specs.View.{view_of}
use Rattle.load.specs.Force.{LocatedLine, total_by}
use Rattle.promises_forces.specs.Demand.{lines_in, sea_lines}
use Rattle.promises_forces.specs.Rounding.{NearestIs, NearestOnly, ForceNearestBy, ForceNearest}
use Rattle.promises_queries.proofs.Loads.{load_given, force-given}

pub nearest-is : NearestIs
nearest-is = whole.nearest-is

pub nearest-only : NearestOnly
nearest-only x d q above n = whole.nearest-only d above n

pub force-nearest-by : (clock : Quarter) → ForceNearestBy clock
unfolding lines_in
force-nearest-by clock r cells sea t force e =
    let (mean, l) = force-given clock r cells sea t force e in
    let (lines, g) = load_given clock r cells sea t mean force l in
    let totals : List LocatedLine → ℤ = λ (ls : List LocatedLine). total_by clock r.choices.kind (view_of r.slots cells) t ls in
    let there : sea_lines r sea ≡ lines = ap lines_in g.located in
    subst (λ (ls : List LocatedLine). IsNearest (totals ls) (2 ^ 30) force) (sym there)
    (subst (IsNearest (totals lines) (2 ^ 30)) g.force-is (nearest-is (totals lines) (2 ^ 30) (lit< tt)))

pub force-nearest : ForceNearest
force-nearest = force-nearest-by seconds
