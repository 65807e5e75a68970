-- `columns::past_word`: no byte so far is a blank.
use Rattle.row.proofs.Words.{Solid}
use Rattle.row.proofs.columns.past_word.Given as goal

abbrev pub invariant-loop-i : goal.invariant-loop-i
invariant-loop-i l = Solid l.line l.at l.i
