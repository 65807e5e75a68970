-- `closing::close` meets its contract: each turn is a law of proofs/Closes.antt. Assumes nothing.
use Rattle.std.proofs.Common.{◌<◌, ◌∙◌, sym, ap, length, get_or, arith}
use borrow.Author.Tests.{eq-eqb, ne_eqb, not-true, not-false}
use Rattle.table.specs.declared.closing.Closed.TheVariants as Closed
use Rattle.table.specs.Pairs.{nowhere, pairs_of}
use Rattle.table.specs.Closing.{both_set, closed_of}
use Rattle.table.proofs.InOrder.{ordered-pairs}
use Rattle.table.proofs.Closes.{said-next, missing, all_said}
use Rattle.table.proofs.closing.close.Goals as goal

pub returns-then-frequencies-eq0 : goal.returns-then-frequencies-eq0
unfolding closed_of
returns-then-frequencies-eq0 c = let some = sym c.ticks_held-frequencies.ensures in rw (some, eq-eqb _ _ c.if-frequencies-eq0.true)

pub loop-k-init : goal.loop-k-init
unfolding closed_of
loop-k-init c =
    rw (sym c.ticks_held-frequencies.ensures) (rw (ne_eqb _ _ c.if-frequencies-eq0.false))

pub returns-then-not-both_set : goal.returns-then-not-both_set
returns-then-not-both_set c =
    let s = c.args.s in
    let these = ordered-pairs s _ c.in_order-o.ensures c.ticks-ticks.ensures.those c.headings-headings.ensures.those c.args.coverage in
    let more : c.loop-k.k < length (pairs_of c.args.coverage s) = omega (arith, c.count-k-end.ensures, ap length these, c.loop-k-test.true) in
    let pair = c.pair_at-p.ensures ∙ (λ i. get_or (these i) c.loop-k.k nowhere) in
    let unset = ap (both_set s c.args.flags.now) (sym pair) ∙ sym c.both_set.ensures ∙ not-true _ c.if-not-both_set.true-raw in
    ap Closed.Missing pair ∙ sym (missing _ _ s c.args.flags.now _ _ more unset) ∙ c.loop-k.invariant

pub loop-k-preserved : goal.loop-k-preserved
loop-k-preserved c =
    let s = c.args.s in
    let these = ordered-pairs s _ c.in_order-o.ensures c.ticks-ticks.ensures.those c.headings-headings.ensures.those c.args.coverage in
    let more : c.loop-k.k < length (pairs_of c.args.coverage s) = omega (arith, c.count-k-end.ensures, ap length these, c.loop-k-test.true) in
    let pair = c.pair_at-p.ensures ∙ (λ i. get_or (these i) c.loop-k.k nowhere) in
    let set = ap (both_set s c.args.flags.now) (sym pair) ∙ sym c.both_set.ensures ∙ not-false _ c.if-not-both_set.false-raw in
    sym (said-next _ _ s c.args.flags.now _ _ more set) ∙ c.loop-k.invariant

pub returns : goal.returns
returns c =
    let these = ordered-pairs c.args.s _ c.in_order-o.ensures c.ticks-ticks.ensures.those c.headings-headings.ensures.those c.args.coverage in
    sym (all_said _ _ _ _ _ c.loop-k.k (omega (arith, c.count-k-end.ensures, ap length these))) ∙ c.loop-k.invariant
