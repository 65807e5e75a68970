-- `Columns::decimal` meets its contract: the part that the span gives is the field's text, and past the ninth there is none. Assumes nothing.
use Rattle.std.proofs.Common.{ap, ◌∙◌, arith}
use borrow.Author.Tests.{false-ltb}
use Rattle.field.specs.Form.{field_of}
use Rattle.field.proofs.Parts.{nothing}
use Rattle.row.specs.own.Found.{empty}
use Rattle.row.proofs.Spanned.{spanned, none-behind}
use Rattle.row.proofs.columns.Columns.decimal.Goals as goal

pub returns-in_err-span : goal.returns-in_err-span
returns-in_err-span c =
    c.from_residual.ensures ∙ nothing ∙ ap field_of (none-behind _ _ (omega (arith, false-ltb _ _ c.in_err-span.ensures.lookup.0)))

pub returns : goal.returns
returns c =
    let found = c.in_ok-span.ensures.lookup in
    c.read.ensures ∙ ap field_of (spanned _ _ c.args.self.now.spanned c.args.k (omega (arith, found.3.0)) _ (found.3.1 empty))
