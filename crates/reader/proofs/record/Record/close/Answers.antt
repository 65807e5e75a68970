-- `Record::close` meets its contract: each return is one outcome of proofs/Answers.antt. Assumes nothing.
use Rattle.std.proofs.Common.{sym, ap, refl, ◌∙◌}
use Rattle.reader.specs.declared.reader.Outcome.{Outcome}
use Rattle.reader.specs.Model.{state_of, out_of}
use Rattle.reader.proofs.Valid.{valid-kept, unbarred}
use Rattle.reader.proofs.Answers.{close-barred, close-stuck, close-settled}
use Rattle.reader.proofs.record.Record.close.Goals as goal

pub returns-then-number-ne0 : goal.returns-then-number-ne0
returns-then-number-ne0 c =
    let a = c.args in
    ap (λ (o : Outcome). out_of o a.cells.now a.flags.now) c.refused.ensures
    ∙ close-barred (state_of a.self a.cells.now a.flags.now) c.barred-number.ensures c.if-number-ne0.true refl

pub finish-requires : goal.finish-requires
finish-requires c =
    let clear = unbarred _ _ _ (sym c.barred-number.ensures ∙ c.if-number-ne0.false) in
    (valid-kept _ clear.0).count

pub returns-then-self-ne1 : goal.returns-then-self-ne1
returns-then-self-ne1 c =
    let a = c.args in
    ap (λ (o : Outcome). out_of o c.finish.new.cells c.finish.new.flags) c.refused-then-self-ne1.ensures
    ∙ close-stuck (state_of a.self a.cells.now a.flags.now) c.barred-number.ensures c.if-number-ne0.false (state_of c.finish.new.self c.finish.new.cells c.finish.new.flags) c.finish.ensures c.if-self-ne1.true refl

pub returns : goal.returns
returns c =
    let a = c.args in
    close-settled (state_of a.self a.cells.now a.flags.now) c.barred-number.ensures c.if-number-ne0.false (state_of c.finish.new.self c.finish.new.cells c.finish.new.flags) c.finish.ensures c.if-self-ne1.false (c.settle.ensures c.finish.new.cells)
