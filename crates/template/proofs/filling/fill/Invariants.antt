-- `filling::fill` meets its contract. What is left of the sentence is still to come. Assumes nothing.
use Rattle.std.proofs.Common.{◌≤◌, drop}
use Rattle.text.proofs.Pens.{Begun}
use Rattle.template.specs.Filling.{filled_from}
use Rattle.template.proofs.filling.fill.Given as goal

abbrev pub invariant-loop-b : goal.invariant-loop-b
invariant-loop-b l =
    (l.k ≤ l.b-index)
    × Begun (filled_from l.sentence 0 l.numbers) (filled_from (drop l.b-index l.sentence) l.k l.numbers) l.initial.pen l.pen
