-- `writing::put_headings` meets its contract: what is left of the text is still to come. Assumes nothing.
use Rattle.std.proofs.Common.{◌++◌, rules}
use Rattle.text.specs.Decimal.{decimal}
use Rattle.qtf.specs.own.Spacing.{gap}
use Rattle.text.proofs.Pens.{begun, next-put, all-put, puts-as, puts-wide}
use Rattle.qtf.proofs.Spacing.{heading_word, next-left, all-left, headings-are}
use Rattle.qtf.proofs.writing.put_headings.Goals as goal

pub loop-i-init : goal.loop-i-init
loop-i-init c = begun _ _

pub loop-i-preserved : goal.loop-i-preserved
loop-i-preserved c =
    next-put c.loop-i.invariant (next-left heading_word c.args.headings.now c.loop-i.i _ c.loop-i-test.true)
    (puts-wide (λ z. gap c.loop-i.i ++ decimal 3 z) (search rules) c.from.ensures c.item.ensures)

pub returns : goal.returns
returns c = puts-as (all-put c.loop-i.invariant (all-left heading_word c.args.headings.now c.loop-i.i c.loop-i-test.false)) (headings-are c.args.headings.now)
