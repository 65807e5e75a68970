-- `writing::next_values` meets its contract: what is left of the text is still to come. Assumes nothing.
use Rattle.std.proofs.Common.{◌≡◌, length, arith, rules}
use Rattle.text.proofs.Pens.{begun, next-put, all-put}
use Rattle.qtf.proofs.Spacing.{next-values, no-values}
use Rattle.qtf.proofs.writing.next_values.Goals as goal

pub loop-v-init : goal.loop-v-init
loop-v-init c = begun _ _

pub loop-v-preserved : goal.loop-v-preserved
loop-v-preserved c =
    let six : length c.args.values ≡ 6 = search rules in
    next-put c.loop-v.invariant (next-values c.args.values c.loop-v.v-index _ (omega arith)) c.next_value.ensures

pub returns : goal.returns
returns c =
    let six : length c.args.values ≡ 6 = search rules in
    all-put c.loop-v.invariant (no-values c.args.values c.loop-v.v-index (omega arith))
