-- `pen::Pen::word` meets its contract: what the loop has passed of the text is put. Assumes nothing.
use Rattle.std.proofs.Common.{sym, refl, add-one}
use Rattle.std.proofs.Math.Seq.{take-suc}
use Rattle.text.proofs.Pens.{◌then◌, puts-none, puts-as}
use Rattle.text.proofs.pen.Pen.word.Goals as goal

pub loop-b-init : goal.loop-b-init
loop-b-init c = puts-none _ refl

pub loop-b-preserved : goal.loop-b-preserved
loop-b-preserved c =
    let l = c.loop-b in
    let e = take-suc c.args.text.now l.b-index 0 c.loop-b-test.true in
    rw add-one (puts-as (l.invariant then c.byte.ensures) (sym e))
