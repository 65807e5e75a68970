-- `output::added` meets its contract. The invariant is `Measuring` of proofs/Answering.antt, and a line bounds how many there are. Assumes nothing.
use Rattle.std.proofs.Common.{◌≤◌, ◌<◌, length}
use Rattle.hull.specs.Six.{components_of}
use Rattle.proteus.specs.Lines.{proteus_lines}
use Rattle.proteus.proofs.Answering.{Measuring}
use Rattle.proteus.proofs.output.added.Given as goal

abbrev pub invariant-loop-k : goal.invariant-loop-k
invariant-loop-k l = Measuring (components_of l.six) l.k l.length × (0 < l.k → length (proteus_lines (components_of l.six)) ≤ 6_405)
