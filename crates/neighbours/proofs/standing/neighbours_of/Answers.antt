-- `standing::neighbours_of` meets its contract: the slots from the first to the last, by the laws of Rises. Assumes nothing.
use Rattle.std.proofs.Common.{◌≡◌, ◌<◌, ◌≤◌, ◌⊎◌, inl, inr, rules, arith}
use Rattle.neighbours.proofs.Rises.{walk_start, walk-next, low-found, high-found, both-are}
use Rattle.neighbours.proofs.standing.neighbours_of.Goals as goal
use Rattle.neighbours.proofs.standing.neighbours_of.Goals.{then-least-lt32, else-least-lt32}

pub loop-slot-init : goal.loop-slot-init
loop-slot-init c = walk_start _ _ (search rules) _ c.rise-least.ensures

pub loop-slot-preserved : goal.loop-slot-preserved
loop-slot-preserved c =
    walk-next _ _ (search rules) c.loop-slot.invariant (search rules) (omega (arith, c.type_inv.tick-items)) _ c.rise-r.ensures _ _ c.min-least.ensures c.max-most.ensures

-- what the lower neighbour lies above f: what is least, where that is f itself, and else what is most
lowest : (c : goal.After-at_rise-2) → ((c.loop-slot.least < 32) × (c.if-least-lt32.lowest ≡ c.loop-slot.least)) ⊎ ((32 ≤ c.loop-slot.least) × (c.if-least-lt32.lowest ≡ c.loop-slot.most))
lowest c = elim c.if-least-lt32.branch [ then-least-lt32 w ↦ inl (w.if-least-lt32.true, w.lowest-is) | else-least-lt32 w ↦ inr (w.if-least-lt32.false, w.lowest-is) ]

pub returns-clause-low : goal.returns-clause-low
returns-clause-low c = low-found _ _ (search rules) c.ranges.f.fits c.loop-slot.invariant c.loop-slot-test.false _ (lowest c) _ c.at_rise.ensures

pub returns-clause-high : goal.returns-clause-high
returns-clause-high c = high-found _ _ (search rules) c.ranges.f.fits c.loop-slot.invariant c.loop-slot-test.false _ c.at_rise-2.ensures

pub returns-clause-slots : goal.returns-clause-slots
returns-clause-slots c =
    both-are _ _ (search rules) c.ranges.f.fits c.loop-slot.invariant c.loop-slot-test.false _ (lowest c) _ c.at_rise.ensures c.at_rise-2.ensures
