-- `columns::find`: the columns of the words so far stand.
use Rattle.row.proofs.Finding.{Finding}
use Rattle.row.proofs.columns.find.Given as goal

abbrev pub invariant-loop-count : goal.invariant-loop-count
invariant-loop-count l = Finding l.line l.spans l.at l.count
