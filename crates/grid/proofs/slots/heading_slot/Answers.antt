-- `slots::heading_slot` meets its contract: the place among those held, which are all of them where more are held than there are. Assumes nothing.
use Rattle.std.proofs.Common.{◌∙◌, ap, take, to_z-of_z}
use Rattle.std.proofs.lemmas.List.{take_min}
use Rattle.whole.specs.Same.{same_ℤ}
use Rattle.grid.specs.Slots.{slot_of, heading_slot}
use Rattle.grid.proofs.Places.{heading-place}
use Rattle.grid.proofs.slots.heading_slot.Goals as goal

pub returns-clause-slot : goal.returns-clause-slot
unfolding heading_slot
returns-clause-slot c =
    let slots = c.args.slots.now in
    let held = ap (λ n. take n slots) c.min.ensures ∙ take_min c.args.held slots in
    c.place.ensures.slot ∙ heading-place _ _ ∙ λ i. slot_of same_ℤ (held i) (to_z-of_z c.ranges.h i)
