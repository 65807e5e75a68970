-- `columns::find` meets its contract. The invariant is `Finding` of proofs/Finding.antt. Assumes nothing.
use Rattle.std.proofs.Common.{◌∙◌, arith}
use Rattle.row.proofs.Finding.{begun, next, done-counted, done-spanned, full-counted, full-spanned, nine-counted}
use Rattle.row.proofs.columns.find.Goals as goal
use Rattle.row.proofs.columns.find.Goals.{then-at-line-2, else-at-line-2}

pub loop-count-init : goal.loop-count-init
loop-count-init c = let e = c.past_blanks-at.ensures in begun _ _ e.within.1 e.same e.stops

pub past_word-end-requires : goal.past_word-end-requires
past_word-end-requires c = let on = c.loop-count.invariant in (omega (arith, on.within), on.stops (omega (arith, on.within)))

pub loop-count-preserved : goal.loop-count-preserved
loop-count-preserved c =
    let word = c.past_word-end.ensures in
    let e = c.past_blanks-at-in-loop-count.ensures in
    next _ _ _ _ c.loop-count.invariant _ _ c.loop-count-test.true word.within word.first e.within.1 e.same e.stops

pub invariant_of-result : goal.invariant_of-result
invariant_of-result c =
    record { counted = done-counted _ _ _ _ c.loop-count.invariant (omega arith); spanned = done-spanned _ _ _ _ c.loop-count.invariant (omega arith) }

pub invariant_of-result-2 : goal.invariant_of-result-2
invariant_of-result-2 c =
    let on = c.loop-count.invariant in
    record {
      counted =
          elim c.if-at-line-2.branch [
            | then-at-line-2 w ↦ w.count-is ∙ full-counted _ _ _ _ on c.loop-count-test.false w.if-at-line-2.true
            | else-at-line-2 w ↦ w.count-is ∙ nine-counted _ _ _ _ on c.loop-count-test.false w.if-at-line-2.false
          ];
      spanned = full-spanned _ _ _ _ on c.loop-count-test.false;
    }
