-- `force::mean` meets its contract: one wave after the other, by the laws of Means. Assumes nothing.
use Rattle.load.proofs.Means.{Averaging}
use Rattle.load.proofs.force.mean.Given as goal

abbrev pub invariant-loop-w : goal.invariant-loop-w
invariant-loop-w l =
    Averaging l.cells l.waves l.sum l.w-index
