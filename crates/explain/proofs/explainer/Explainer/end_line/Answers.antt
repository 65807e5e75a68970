-- `Explainer::end_line` meets its contract: the row that was kept, the line feed, and what is remembered of the row. Assumes nothing.
use Rattle.std.proofs.Common.{rules}
use Rattle.explain.proofs.LineByLine.{line-fed}
use Rattle.explain.proofs.explainer.Explainer.end_line.Goals as goal

pub returns : goal.returns
returns c =
    line-fed _ record { lines = c.requires.0; count = c.requires.1; kept = search rules } c.read_on-self.ensures c.row_kept-row.ensures c.recall-self.ensures
