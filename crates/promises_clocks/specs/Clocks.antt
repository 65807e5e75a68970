-- Every clock: what is promised of loads, forces and displays at whole seconds holds by any table, of whatever number of steps to the turn, that keeps document 01's rule, with the
-- time in that clock's own units. The statements under their names without By are the instance at whole seconds; another table has the same once its rule is proved.
use Rattle.phase.specs.Turn.{Quarter}
use Rattle.phase.specs.Rule.{Rule, limits}
use Rattle.promises_queries.specs.Queries.{LoadExactlyBy, LoadGivenBy, ForceExactlyBy, ForceGivenBy, ForceZeroBy, EmptySeaBy, DisplayExactlyBy}
use Rattle.promises_numbers.specs.Numbers.{LoadNumberBy, ForceNumberBy, DisplayNumberBy, LoadValueBy, ForceValueBy, DisplayValueBy}
use Rattle.promises_accepted.specs.Bounded.{SeaAnsweredBy}
use Rattle.promises_forces.specs.Demand.{Demand3By, Demand3LoadBy, Demand3EqualBy, Demand3ExactBy, WidthsAboveBy, AllInPlaceBy, RealPartBy}
use Rattle.promises_forces.specs.Rounding.{ForceNearestBy}
use Rattle.promises_forces.specs.Exact.{ExactLinearBy}
use Rattle.promises_forces.specs.Shown.{LoadInRangeBy, MeanOfLoadBy, DisplayShowsBy, DisplayGivenBy}
use Rattle.promises_accepted.specs.ChainQueries.{ChainForceBy, ChainLoadBy, ChainDisplayBy}
use Rattle.promises_accepted.specs.Afterwards.{ForceAfterwardsBy}

pub record ForcesBy (clock : Quarter) : Type 0 where
  -- demand 1: what is refused and with which number, and what is given
  pub load-exactly : LoadExactlyBy clock
  pub load_given : LoadGivenBy clock
  pub load-number : LoadNumberBy clock
  pub load_value : LoadValueBy clock
  pub force-exactly : ForceExactlyBy clock
  pub force-given : ForceGivenBy clock
  pub force-number : ForceNumberBy clock
  pub force-value : ForceValueBy clock
  pub force-zero : ForceZeroBy clock
  pub empty-sea : EmptySeaBy clock
  pub sea-answered : SeaAnsweredBy clock
  pub display-exactly : DisplayExactlyBy clock
  pub display-given : DisplayGivenBy clock
  pub display-number : DisplayNumberBy clock
  pub display-value : DisplayValueBy clock
  pub display-shows : DisplayShowsBy clock
  pub load-in-range : LoadInRangeBy clock
  pub mean-of-load : MeanOfLoadBy clock
  -- demand 3: the bound, and what stands in the exact sum
  pub bound : Demand3By clock
  pub bound-of-load : Demand3LoadBy clock
  pub bound-of-equal : Demand3EqualBy clock
  pub bound-unrounded : Demand3ExactBy clock
  pub force-nearest : ForceNearestBy clock
  pub widths-above : WidthsAboveBy clock
  pub all-in-place : AllInPlaceBy clock
  pub real-part : RealPartBy clock
  pub exact-linear : ExactLinearBy clock
  -- of an accepted table, and ever after
  pub chain-force : ChainForceBy clock
  pub chain-load : ChainLoadBy clock
  pub chain-display : ChainDisplayBy clock
  pub force-afterwards : ForceAfterwardsBy clock

abbrev pub EveryClock : Type 0
EveryClock = (clock : Quarter) → Rule limits clock → ForcesBy clock
