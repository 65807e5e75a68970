-- `force::add_pairs` meets its contract: a row of pairs within the loop over rows, each by the laws of Adding. Assumes nothing.
use Rattle.std.proofs.Common.{arith}
use Rattle.phase.proofs.Seconds.{rule}
use Rattle.load.proofs.Adding.{of-terms-more, adding-stops, adding-on, adding-end, pair-room}
use Rattle.load.proofs.AllPairs.{pairs-bad, all-added}
use Rattle.load.proofs.force.add_pairs.Goals as goal

pub add_pair-requires-clause-room : goal.add_pair-requires-clause-room
add_pair-requires-clause-room c =
    pair-room _ _ _ c.requires.few c.loop-i-test.true c.loop-j-test.true c.requires.own.held c.loop-i.invariant.held c.loop-j.invariant.held

-- a pair that is bad makes its row bad, and that all
pub returns-in_default : goal.returns-in_default
returns-in_default c =
    pairs-bad _ _ c.requires.own
    (adding-stops _ _ _ _ _ _ _ _ c.loop-i.invariant c.loop-i-test.true
    (adding-stops _ _ _ _ _ _ _ _ c.loop-j.invariant c.loop-j-test.true c.in_default.ensures))

pub loop-j-preserved : goal.loop-j-preserved
loop-j-preserved c = adding-on _ _ _ _ _ _ _ _ c.loop-j.invariant c.loop-j-test.true _ c.in-Some.ensures

-- the row is done, and goes into the sum of the rows
pub loop-i-preserved : goal.loop-i-preserved
loop-i-preserved c =
    let row = adding-end _ _ _ _ _ _ _ _ c.loop-j.invariant c.loop-j-test.false in
    adding-on _ _ _ _ _ _ _ _ c.loop-i.invariant c.loop-i-test.true _ (row.0, row.1, λ k p. of-terms-more (omega arith) (row.2 k p))

pub returns : goal.returns
returns c = all-added _ _ rule _ _ _ _ _ c.requires.own (adding-end _ _ _ _ _ _ _ _ c.loop-i.invariant c.loop-i-test.false)
