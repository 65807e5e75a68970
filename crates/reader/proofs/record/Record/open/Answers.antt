-- `Record::open` meets its contract: each `return` is one of the outcomes of opening (`Openings`). Assumes nothing.
use Rattle.std.proofs.Common.{◌≡◌, ◌∙◌, sym, ap, replicate, pos, drop, ◌++◌, ℕ}
use lib.Seq.{length-take-le}
use borrow.Author.Tests.{not-true, not-false}
use Rattle.reader.specs.declared.reader.Answer.TheVariants as Answer
use Rattle.reader.specs.Model.{out, state_of, out_of, refusal}
use Rattle.reader.proofs.Openings.{short-cells, short-flags, long_enough, opened-short, opened-wrong, opened-right}
use Rattle.reader.proofs.record.Record.open.Goals as goal
use Rattle.reader.proofs.record.Record.open.Goals.{then-cells-lt-CELLS-via-then-cells-lt-CELLS, then-cells-lt-CELLS-via-else-cells-lt-CELLS+then-flags-lt-FLAGS}

pub returns-then-cells-lt-CELLS : goal.returns-then-cells-lt-CELLS
returns-then-cells-lt-CELLS c =
    let a = c.args in
    (λ i. out_of (c.refused.ensures i) a.cells.now a.flags.now)
    ∙ (λ i. out (state_of (c.new.ensures i) a.cells.now a.flags.now) (refusal (c.new.ensures i) 1))
    ∙ sym (opened-short _ a.cells.now a.flags.now
    (elim c.then-cells-lt-CELLS.branch [ then-cells-lt-CELLS-via-then-cells-lt-CELLS w ↦ short-cells _ _ w.if-cells-lt-CELLS.true | then-cells-lt-CELLS-via-else-cells-lt-CELLS+then-flags-lt-FLAGS w ↦ short-flags _ _ w.if-cells-lt-CELLS.false w.if-flags-lt-FLAGS.true ]))

pub returns-then-not-valid_choices : goal.returns-then-not-valid_choices
returns-then-not-valid_choices c =
    let a = c.args in
    (λ i. out_of (c.refused-then-not-valid_choices.ensures i) a.cells.now a.flags.now)
    ∙ (λ i. out (state_of (c.new-then-not-valid_choices.ensures i) a.cells.now a.flags.now) (refusal (c.new-then-not-valid_choices.ensures i) 2))
    ∙ sym (opened-wrong _ a.cells.now a.flags.now (long_enough _ _ c.if-cells-lt-CELLS.false c.if-flags-lt-FLAGS.false) (sym c.valid_choices.ensures ∙ not-true _ c.if-not-valid_choices.true-raw))

pub returns : goal.returns
returns c =
    let a = c.args in
    let cells : c.fill.new.self ≡ replicate 12_800 (pos 0) = c.fill.ensures.after (λ y h. h) ∙ ap (λ (n : ℕ). replicate n (pos 0)) (length-take-le 12_800 a.cells.now c.if-cells-lt-CELLS.false) in
    let flags : c.fill-2.new.self ≡ replicate 6_400 0 = c.fill-2.ensures.after (λ y h. h) ∙ ap (λ (n : ℕ). replicate n 0) (length-take-le 6_400 a.flags.now c.if-flags-lt-FLAGS.false) in
    (λ i. out (state_of (c.fresh_record.ensures i) (cells i ++ drop 12_800 a.cells.now) (flags i ++ drop 6_400 a.flags.now)) Answer.Going)
    ∙ sym (opened-right _ a.cells.now a.flags.now (long_enough _ _ c.if-cells-lt-CELLS.false c.if-flags-lt-FLAGS.false) (sym c.valid_choices.ensures ∙ not-false _ c.if-not-valid_choices.false-raw))
