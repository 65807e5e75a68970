-- `sea::sea_size` meets its contract: one line after the other, by the laws of Seas. Assumes nothing.
use Rattle.seaway.proofs.Seas.{Sizing}
use Rattle.seaway.proofs.sea.sea_size.Given as goal

abbrev pub invariant-loop-i : goal.invariant-loop-i
invariant-loop-i l =
    Sizing l.s l.sum l.i
