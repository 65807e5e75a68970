-- `memory::pair_in` meets its contract: both nodes are at most 100, so that their place fits. Assumes nothing.
use Rattle.table.specs.Cells.{place_of}
use Rattle.origins.specs.Memory.{pair_in}
use Rattle.origins.proofs.memory.pair_in.Goals as goal

pub returns : goal.returns
unfolding pair_in place_of
returns c = simp (c.node_of-2.ensures.node, c.node_of.ensures.node)
