-- `standing::neighbours_of` meets its contract: the slots from the first to the last, by the laws of Rises. Assumes nothing.
use Rattle.neighbours.proofs.Rises.{Walked}
use Rattle.neighbours.proofs.standing.neighbours_of.Given as goal

abbrev pub invariant-loop-slot : goal.invariant-loop-slot
invariant-loop-slot l =
    Walked l.tick-items l.f l.least l.most l.slot
