-- `writing::put_frequencies` meets its contract: what is left of the text is still to come. Assumes nothing.
use Rattle.std.proofs.Common.{◌++◌, ℤ, ap, ◌∙◌}
use mir.Syntax.{w64}
use mir.Facts.{to_z-of_z}
use Rattle.text.specs.Decimal.{decimal}
use Rattle.qtf.specs.own.Spacing.{gap}
use Rattle.text.proofs.Pens.{begun, next-put, all-put, puts-as}
use Rattle.qtf.proofs.Spacing.{frequency_word, next-left, all-left, frequencies-are}
use Rattle.qtf.proofs.writing.put_frequencies.Goals as goal

pub loop-i-init : goal.loop-i-init
loop-i-init c = begun _ _

pub loop-i-preserved : goal.loop-i-preserved
loop-i-preserved c =
    next-put c.loop-i.invariant (next-left frequency_word c.args.ticks.now c.loop-i.i _ c.loop-i-test.true)
    (puts-as c.item.ensures
    (ap (λ (z : ℤ). gap c.loop-i.i ++ decimal 9 z) (to_z-of_z {w = w64} record { sfits = c.frequency.type_inv } ∙ c.frequency.ensures)))

pub returns : goal.returns
returns c = puts-as (all-put c.loop-i.invariant (all-left frequency_word c.args.ticks.now c.loop-i.i c.loop-i-test.false)) (frequencies-are c.args.ticks.now)
