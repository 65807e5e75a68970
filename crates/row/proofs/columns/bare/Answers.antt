-- `columns::bare` meets its contract: a carriage return at the line's end goes, and else all stays. Assumes nothing.
use Rattle.std.proofs.Common.{arith}
use Rattle.row.proofs.Lines.{return-goes, all-stays}
use Rattle.row.proofs.columns.bare.Goals as goal

pub returns-in-13 : goal.returns-in-13
returns-in-13 c = return-goes _ c.in-13.len_at_least (omega arith)

pub returns-in_default : goal.returns-in_default
returns-in_default c = all-stays _ (λ some last. omega arith)

pub returns-in_default-2 : goal.returns-in_default-2
returns-in_default-2 c = all-stays _ (λ some last. omega arith)
