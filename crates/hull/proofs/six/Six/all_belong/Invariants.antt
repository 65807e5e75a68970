-- `six::Six::all_belong` meets its contract. The invariant is `Belonging` of proofs/Belonging.antt. Assumes nothing.
use Rattle.hull.proofs.Belonging.{Belonging}
use Rattle.hull.proofs.six.Six.all_belong.Given as goal

abbrev pub invariant-loop-i : goal.invariant-loop-i
invariant-loop-i l = Belonging l.coverage l.order l.self.components l.i
