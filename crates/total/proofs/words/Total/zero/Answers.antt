-- `total::words::Total::zero` meets its contract: two words of 0 stand for 0. Assumes nothing.
use Rattle.std.proofs.Common.{refl}
use Rattle.total.specs.Total.{meaning}
use Rattle.total.proofs.words.Total.zero.Goals as goal

pub returns : goal.returns
unfolding meaning
returns c = refl
