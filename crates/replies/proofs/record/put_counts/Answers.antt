-- `record::put_counts` meets its contract: the counts behind the word. Assumes nothing.
use Rattle.field.specs.Text.{bytes}
use Rattle.replies.proofs.record.put_counts.Goals as goal

pub returns : goal.returns
unfolding bytes
returns c =
    rw (c.from.ensures, c.from-2.ensures, c.from-3.ensures, c.from-4.ensures, c.from-5.ensures) at c.put_line.ensures
