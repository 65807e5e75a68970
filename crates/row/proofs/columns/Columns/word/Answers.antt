-- `Columns::word` meets its contract: the part that the span gives is the field's text, and past the ninth there is none. Assumes nothing.
use Rattle.std.proofs.Common.{arith}
use borrow.Author.Tests.{false-ltb}
use Rattle.row.specs.own.Found.{empty}
use Rattle.row.proofs.Spanned.{part, none-behind}
use Rattle.row.proofs.columns.Columns.word.Goals as goal

pub returns-in-Some : goal.returns-in-Some
returns-in-Some c =
    let found = c.in-Some.ensures.lookup in
    part _ _ c.args.self.now.spanned c.args.k (omega (arith, found.3.0)) _ (found.3.1 empty)

pub returns-in-None : goal.returns-in-None
returns-in-None c = none-behind _ _ (omega (arith, false-ltb _ _ c.in-None.ensures.lookup.0))
