-- `total::words::Total::add` meets its contract: the words are added with carries, of which the first is 1 exactly where the low words' sum is below self's.
-- Assumes nothing.
use Rattle.std.proofs.Common.{◌+◌, ◌/◌, ◌%◌, ◌^◌, arith}
use Rattle.total.proofs.Totals.{added}
use Rattle.total.proofs.words.Total.add.Goals as goal
use Rattle.total.proofs.words.Total.add.Goals.{then-low-self, else-low-self}

pub returns : goal.returns
returns c =
    let h = c.args.self.high + c.args.x.high in
    let k = c.if-low-self.carry in
    elim c.if-low-self.branch [
      | then-low-self w ↦ added k (h / 2 ^ 64 + (h % 2 ^ 64 + k) / 2 ^ 64) (omega arith) (omega arith) (omega arith) (omega arith) (omega arith)
      | else-low-self w ↦ added k (h / 2 ^ 64 + (h % 2 ^ 64 + k) / 2 ^ 64) (omega arith) (omega arith) (omega arith) (omega arith) (omega arith)
    ]
