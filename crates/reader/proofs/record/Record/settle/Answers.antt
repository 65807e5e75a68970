-- `Record::settle` meets its contract: each return is the model's case of what `closing::close` told. Assumes nothing.
use Rattle.std.proofs.Common.{sym, ◌∙◌}
use Rattle.reader.specs.Model.{settled_by}
use Rattle.reader.proofs.record.Record.settle.Goals as goal

pub returns-in-Complete : goal.returns-in-Complete
unfolding settled_by
returns-in-Complete c cells =
    let told = sym c.close.ensures ∙ c.in-Complete.is in
    rw (told, c.at_end.ensures)

pub returns-in-Missing : goal.returns-in-Missing
unfolding settled_by
returns-in-Missing c cells =
    let told = sym c.close.ensures ∙ c.in-Missing.is in
    rw (told, c.refused.ensures, c.at_end-in-Missing.ensures)

pub returns-in-Empty : goal.returns-in-Empty
unfolding settled_by
returns-in-Empty c cells =
    let told = sym c.close.ensures ∙ c.in-Empty.is in
    rw (told, c.refused-in-Empty.ensures, c.at_end-in-Empty.ensures)
