-- `Explainer::read`: what is left of the piece comes to what the whole piece comes to (`Left`). Assumes nothing.
use Rattle.std.proofs.Common.{length}
use Rattle.explain.specs.Model.{reading_of}
use Rattle.explain.proofs.LineByLine.{Left}
use Rattle.explain.proofs.explainer.Explainer.read.Given as goal

abbrev pub invariant-loop-n : goal.invariant-loop-n
invariant-loop-n l =
    Left l.fn.text (reading_of l.fn.self l.initial.cells l.initial.flags l.initial.lines) l.rest (reading_of l.self l.cells l.flags l.lines)

abbrev pub decreases-loop-n : goal.decreases-loop-n
decreases-loop-n l = length l.rest
