-- `parts::next_numbers` meets its contract: what the loop has passed of the numbers is put. Assumes nothing.
use Rattle.std.proofs.Common.{arith, refl, ap, map}
use Rattle.std.proofs.Math.Seq.{take_all}
use Rattle.behind.specs.Behind.{behind}
use Rattle.text.proofs.Pens.{◌then◌, puts-none, puts-as}
use Rattle.behind.proofs.Words.{one_more}
use Rattle.behind.proofs.parts.next_numbers.Goals as goal

pub loop-n-init : goal.loop-n-init
unfolding behind
loop-n-init g c = puts-none _ refl

pub loop-n-preserved : goal.loop-n-preserved
loop-n-preserved g c = puts-as (c.loop-n.invariant then c.put_behind.ensures) (one_more g.N.Numeral.text c.args.numbers.now c.loop-n.n-index c.n-item.result c.loop-n-test.true c.n-item.is)

pub returns : goal.returns
returns g c = puts-as c.loop-n.invariant (ap (λ s. behind (map g.N.Numeral.text s)) (take_all _ _ (omega arith)))
