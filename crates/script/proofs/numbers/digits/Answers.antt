-- `numbers::digits` meets its contract. Assumes nothing.
use Rattle.std.proofs.Common.{arith, sym, ◌∙◌, ap}
use Rattle.std.proofs.lemmas.Bool.{eqb-false}
use Rattle.script.specs.Number.{number_in}
use Rattle.script.proofs.Digits.{begun, stuck, moved, ended}
use Rattle.script.proofs.numbers.digits.Goals as goal

pub loop-b-init : goal.loop-b-init
loop-b-init c = (omega arith, begun _ 0 0 (eqb-false _ _ (sym c.is_empty.ensures ∙ c.if-is_empty.false)))

pub returns-in_err-size : goal.returns-in_err-size
returns-in_err-size c =
    c.from_residual.ensures
    ∙ stuck _ _ _ _ c.loop-b-test.true (sym c.grow.ensures ∙ c.in_err-size.was)
    ∙ ap (number_in _) c.loop-b.invariant.1

pub loop-b-preserved : goal.loop-b-preserved
loop-b-preserved c =
    (omega arith, moved _ _ _ _ c.loop-b-test.true (sym c.grow.ensures ∙ c.in_ok-size.was) ∙ c.loop-b.invariant.1)

pub returns : goal.returns
returns c = ended _ _ _ _ c.loop-b-test.false c.loop-b.invariant.0 ∙ ap (number_in _) c.loop-b.invariant.1
