-- `calls::close` meets its contract: the closing, of the cells and flags that are lent (`call-told`). Assumes nothing.
use Rattle.std.proofs.Common.{refl}
use borrow.Author.Tests.{eq-eqb}
use Rattle.replies.specs.declared.reply.Reply.TheVariants as Reply
use Rattle.reader.specs.Model.{state_of, close_of}
use Rattle.changing.specs.Calls.{close_with, close_as}
use Rattle.changing.proofs.Lending.{call-told}
use Rattle.changing.proofs.calls.close.Goals as goal

pub returns : goal.returns
unfolding close_with close_as
returns c =
    let a = c.args in
    rw (eq-eqb _ _ c.if-n-ne0.false)
    (call-told a.cells.now a.flags.now a.lent (λ cells flags. close_of (state_of a.r cells flags)) (λ r answer. record { reader = r; reply = Reply.Answered answer }) c.min-c.ensures c.min-f.ensures c.close-outcome.ensures refl)
