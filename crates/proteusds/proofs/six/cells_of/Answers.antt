-- `six::cells_of` meets its contract. Assumes nothing.
use Rattle.proteusds.proofs.Parts.{part-is}
use Rattle.proteusds.proofs.six.cells_of.Goals as goal

pub returns : goal.returns
returns c = part-is 12_800 _ _
