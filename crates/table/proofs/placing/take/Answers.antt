-- `placing::take` meets its contract: each slot is taken from the slots that the one before it left. Assumes nothing.
use Rattle.std.proofs.Common.{rules}
use Rattle.table.specs.Placing.{grown, tick₁, tick₂, heading₁, heading₂}
use Rattle.table.proofs.placing.take.Goals as goal

pub returns-clause-slots : goal.returns-clause-slots
unfolding grown
returns-clause-slots c = search rules

pub returns-clause-ticks : goal.returns-clause-ticks
unfolding tick₁ tick₂
returns-clause-ticks c = search rules

pub returns-clause-headings : goal.returns-clause-headings
unfolding heading₁ heading₂
returns-clause-headings c = search rules
