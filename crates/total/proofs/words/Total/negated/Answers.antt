-- `total::words::Total::negated` meets its contract: the words of self and of the result make 0 or 2^128 together. Assumes nothing.
use Rattle.std.proofs.Common.{◌+◌, ◌/◌, ◌^◌, arith}
use Rattle.total.proofs.Totals.{opposite}
use Rattle.total.proofs.words.Total.negated.Goals as goal

pub returns-then-low-eq0 : goal.returns-then-low-eq0
returns-then-low-eq0 c =
    opposite 0 ((c.wrapping_neg-high.result + c.args.self.high) / 2 ^ 64) (omega arith) (omega arith) (omega arith) (omega arith)

pub returns-else-low-eq0 : goal.returns-else-low-eq0
returns-else-low-eq0 c = opposite 1 1 (omega arith) (omega arith) (omega arith) (omega arith)
