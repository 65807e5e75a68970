-- `six::Six::all_belong` meets its contract. The invariant is `Belonging` of proofs/Belonging.antt. Assumes nothing.
use Rattle.std.proofs.Common.{refl, sym, arith}
use Rattle.hull.proofs.Belonging.{belongs-here, stray-here, all_here}
use Rattle.hull.proofs.six.Six.all_belong.Goals as goal

pub loop-i-init : goal.loop-i-init
loop-i-init c = record { rest = refl }

pub returns-then-not-belongs : goal.returns-then-not-belongs
returns-then-not-belongs c =
    let long = c.args.self.now.six in
    stray-here c.loop-i.invariant _ (omega arith) (sym c.if-not-belongs.ensures)

pub loop-i-preserved : goal.loop-i-preserved
loop-i-preserved c =
    let long = c.args.self.now.six in
    belongs-here c.loop-i.invariant _ (omega arith) (sym c.if-not-belongs.ensures)

pub returns : goal.returns
returns c =
    let long = c.args.self.now.six in
    all_here c.loop-i.invariant (omega arith)
