-- `columns::past_blanks`: the words that are left stay the same.
use Rattle.std.proofs.Common.{◌≡◌, drop}
use Rattle.row.specs.Line.{words}
use Rattle.row.proofs.columns.past_blanks.Given as goal

abbrev pub invariant-loop-i : goal.invariant-loop-i
invariant-loop-i l = words (drop l.i l.line) ≡ words (drop l.at l.line)
