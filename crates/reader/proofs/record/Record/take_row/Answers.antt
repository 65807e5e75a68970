-- `Record::take_row` meets its contract: the row that was read is the model's, and one that is refused leaves the table as it was. Assumes nothing.
use Rattle.std.proofs.Common.{◌≡◌, sym, ap, ◌∙◌, Err, arith, eqb, take}
use Rattle.std.proofs.lemmas.Grind.{common_steps}
use Rattle.refusals.specs.Numbered.{number_of}
use Rattle.refusals.proofs.Numbers.{numbered}
use Rattle.row.specs.Told.{Row, told}
use Rattle.row.specs.own.Rows.{row_of}
use Rattle.reader.specs.Model.{state_of, settled, ended, line_ended}
use Rattle.reader.proofs.Placings.{refused-keeps, not-used}
use Rattle.reader.proofs.record.Record.take_row.Goals as goal

pub returns-in_err-e-clause-row : goal.returns-in_err-e-clause-row
unfolding settled line_ended ended
returns-in_err-e-clause-row c =
    let r = c.args.self.now in
    let e = c.in_err-e.field-0.0 in
    let gone : c.from_residual.result ≡ Err e = grind (arith, common_steps) in
    let row : Row.Refused (number_of e) ≡ row_of r.choices (eqb r.marks.lines 1) (take r.marks.count r.kept) = ap told (sym c.in_err-e.was) ∙ c.read.ensures in
    rw (gone, numbered e) (ap (λ (w : Row). ended w (state_of r c.args.cells.now c.args.flags.now)) row)

pub returns-in-Used-clause-refused : goal.returns-in-Used-clause-refused
returns-in-Used-clause-refused c =
    let r = c.args.self.now in
    refused-keeps r.choices.kind c.in-Used.e r.slots c.args.cells.now _ c.args.flags.now _ c.place.result c.place.ensures

pub returns-in_default : goal.returns-in_default
unfolding settled line_ended
returns-in_default c =
    let r = c.args.self.now in
    let state = state_of r c.args.cells.now c.args.flags.now in
    record {
      row = not-used c.in_ok-e.field-0 c.in_default.not-Used state ∙ ap (λ (w : Row). ended w state) (ap told (sym c.in_ok-e.was) ∙ c.read.ensures);
      refused = tt;
    }
