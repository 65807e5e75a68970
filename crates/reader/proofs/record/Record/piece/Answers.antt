-- `Record::piece` meets its contract: each return is one outcome of proofs/Answers.antt. Assumes nothing.
use Rattle.std.proofs.Common.{sym, ap, refl, ◌∙◌}
use Rattle.reader.specs.declared.reader.Outcome.{Outcome}
use Rattle.reader.specs.Model.{state_of, out_of}
use Rattle.reader.proofs.Valid.{valid-kept, unbarred}
use Rattle.reader.proofs.Answers.{piece-barred, piece-going, piece-stuck}
use Rattle.reader.proofs.record.Record.piece.Goals as goal

pub returns-then-number-ne0 : goal.returns-then-number-ne0
returns-then-number-ne0 c =
    let a = c.args in
    ap (λ (o : Outcome). out_of o a.cells.now a.flags.now) c.refused.ensures
    ∙ piece-barred (state_of a.self a.cells.now a.flags.now) c.barred-number.ensures c.if-number-ne0.true refl _

pub feed-requires : goal.feed-requires
feed-requires c =
    let clear = unbarred _ _ _ (sym c.barred-number.ensures ∙ c.if-number-ne0.false) in
    let kept = valid-kept _ clear.0 in
    (kept.lines, kept.count, clear.1)

pub returns-then-self-ne1 : goal.returns-then-self-ne1
returns-then-self-ne1 c =
    let a = c.args in
    ap (λ (o : Outcome). out_of o c.feed.new.cells c.feed.new.flags) c.refused-then-self-ne1.ensures
    ∙ piece-stuck (state_of a.self a.cells.now a.flags.now) c.barred-number.ensures c.if-number-ne0.false (state_of c.feed.new.self c.feed.new.cells c.feed.new.flags) _ c.feed.ensures c.if-self-ne1.true refl

pub returns : goal.returns
returns c =
    let a = c.args in
    piece-going (state_of a.self a.cells.now a.flags.now) c.barred-number.ensures c.if-number-ne0.false (state_of c.feed.new.self c.feed.new.cells c.feed.new.flags) _ c.feed.ensures c.if-self-ne1.false
