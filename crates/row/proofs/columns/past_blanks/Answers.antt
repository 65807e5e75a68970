-- `columns::past_blanks` meets its contract: a blank adds no word. Assumes nothing.
use mathlib.Core.Path.{sym, ◌∙◌}
use Rattle.row.proofs.Words.{words-blank}
use Rattle.row.proofs.columns.past_blanks.Goals as goal

pub loop-i-preserved : goal.loop-i-preserved
loop-i-preserved c = words-blank _ _ c.loop-i-test.true (sym c.if-not-is_blank.ensures) ∙ c.loop-i.invariant
