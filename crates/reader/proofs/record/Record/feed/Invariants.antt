-- `Record::feed` meets its contract: the loop's invariant is `Feeding` of proofs/TextLoop.antt. Assumes nothing.
use Rattle.std.proofs.Common.{length}
use Rattle.reader.specs.Model.{state_of, bytes_of}
use Rattle.reader.proofs.TextLoop.{Feeding}
use Rattle.reader.proofs.record.Record.feed.Given as goal

abbrev pub invariant-loop-left : goal.invariant-loop-left
invariant-loop-left l =
    Feeding (bytes_of l.text (state_of l.initial.self l.initial.cells l.initial.flags)) l.left (state_of l.self l.cells l.flags)

abbrev pub decreases-loop-left : goal.decreases-loop-left
decreases-loop-left l = length l.left
