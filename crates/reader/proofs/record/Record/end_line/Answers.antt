-- `Record::end_line` meets its contract: what `take_row` gives, with the marks of a line that is read, or of one that is refused. Assumes nothing.
use Rattle.std.proofs.Common.{◌∙◌}
use Rattle.refusals.proofs.Numbers.{numbered}
use Rattle.reader.specs.Model.{state_of, settled, passed, stuck_at}
use Rattle.reader.proofs.record.Record.end_line.Goals as goal

pub returns-in-Ok : goal.returns-in-Ok
unfolding settled passed
returns-in-Ok c = c.in-Ok.ensures.row

pub returns-in-Err : goal.returns-in-Err
unfolding settled stuck_at
returns-in-Err c =
    let r = c.args.self.now in
    let same = c.in-Err.ensures.refused in
    (λ i. state_of (c.stick.ensures i) (same.0 i) (same.1 i)) ∙ (rw (numbered c.in-Err.refusal) at c.in-Err.ensures.row)
