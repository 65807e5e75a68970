-- A turn is a call more (`next-called`).
use Rattle.std.proofs.Common.{◌≡◌, length}
use Rattle.proteusds.specs.Six.{six_of, called_to}
use Rattle.proteusds.proofs.six.each.Given as goal

abbrev pub invariant-loop-k : goal.invariant-loop-k
invariant-loop-k l = record {
  so_far : six_of l.called l.cells l.flags ≡ called_to l.call l.text l.k (six_of l.initial.called l.initial.cells l.initial.flags);
  six : length l.called ≡ 6;
}
