-- `phase::quarter::seconds` meets its contract: the code's table is the list of specs/Seconds, entry by entry. Assumes nothing.
use mathlib.Core.Path.{refl}
use Rattle.phase.specs.Seconds.{cosines}
use Rattle.phase.proofs.quarter.seconds.Goals as goal

pub returns : goal.returns
unfolding cosines
returns c = refl
