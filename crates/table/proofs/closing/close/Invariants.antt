-- `closing::close` meets its contract: the pairs that are left decide what all of them do. Assumes nothing.
use Rattle.std.proofs.Common.{◌≡◌, drop}
use Rattle.table.specs.Pairs.{pairs_of}
use Rattle.table.specs.Closing.{closed_over, closed_of}
use Rattle.table.proofs.closing.close.Given as goal

abbrev pub invariant-loop-k : goal.invariant-loop-k
invariant-loop-k l =
    closed_over l.frequencies l.s.held l.s l.flags (drop l.k (pairs_of l.coverage l.s)) ≡ closed_of l.coverage l.s l.flags
