-- `filling::fill` meets its contract. What is left of the sentence is still to come. Assumes nothing.
use Rattle.std.proofs.Common.{◌∙◌, arith}
use mir.Syntax.{w64}
use mir.Facts.{to_z-of_z}
use Rattle.text.proofs.Pens.{begun, next-put, all-put}
use Rattle.template.specs.Filling.{filled}
use Rattle.template.proofs.Fills.{next-shown, all_shown, uses-few}
use Rattle.template.proofs.filling.fill.Goals as goal

pub overflow_add-k : goal.overflow_add-k
overflow_add-k c = let few = uses-few _ c.uses-k.ensures in omega arith

pub loop-b-init : goal.loop-b-init
loop-b-init c = (omega arith, begun _ _)

pub loop-b-preserved : goal.loop-b-preserved
loop-b-preserved c =
    let a = c.args in
    let l = c.loop-b in
    let few = uses-few _ c.uses-k.ensures in
    let number = to_z-of_z {w = w64} record { sfits = c.number_at.type_inv } ∙ c.number_at.ensures in
    (omega arith, next-put l.invariant.1 (next-shown a.sentence.now l.b-index l.k a.numbers.now c.loop-b-test.true number c.uses-k.ensures) c.put_shown.ensures)

pub returns : goal.returns
unfolding filled
returns c = all-put c.loop-b.invariant.1 (all_shown c.args.sentence.now c.loop-b.b-index c.loop-b.k c.args.numbers.now c.loop-b-test.false)
