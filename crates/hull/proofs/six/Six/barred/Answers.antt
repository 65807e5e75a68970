-- `six::Six::barred` meets its contract, by the laws of proofs/Barred.antt. Assumes nothing.
use Rattle.std.proofs.Common.{arith}
use Rattle.hull.proofs.Barred.{short-bars, unaccepted-bars, then-barred}
use Rattle.hull.proofs.six.Six.barred.Goals as goal

pub returns-then-any_short : goal.returns-then-any_short
returns-then-any_short c = short-bars _ c.if-any_short.ensures

pub returns-then-any_unaccepted : goal.returns-then-any_unaccepted
returns-then-any_unaccepted c = unaccepted-bars _ c.if-any_short.ensures c.if-any_unaccepted.ensures

pub returns-then-not-all_belong : goal.returns-then-not-all_belong
returns-then-not-all_belong c =
    let long = c.args.self.now.six in
    then-barred _ _ (omega arith) c.if-any_short.ensures c.if-any_unaccepted.ensures (rw c.in_order.ensures at c.if-not-all_belong.ensures)

pub returns-else-not-all_belong : goal.returns-else-not-all_belong
returns-else-not-all_belong c =
    let long = c.args.self.now.six in
    then-barred _ _ (omega arith) c.if-any_short.ensures c.if-any_unaccepted.ensures (rw c.in_order.ensures at c.if-not-all_belong.ensures)
