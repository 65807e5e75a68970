-- `writing::heading_index` meets its contract: the place among those held. Assumes nothing.
use Rattle.std.proofs.Common.{◌∙◌, to_z-of_z}
use Rattle.whole.specs.Same.{same_ℤ}
use Rattle.grid.specs.Slots.{slot_of}
use Rattle.grid.proofs.Places.{heading-place}
use Rattle.qtf.proofs.writing.heading_index.Goals as goal

pub returns : goal.returns
returns c = c.place.ensures.slot ∙ heading-place _ _ ∙ λ i. slot_of same_ℤ (c.headings.ensures.those i) (to_z-of_z c.ranges.h i)
