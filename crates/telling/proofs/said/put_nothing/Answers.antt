-- `said::put_nothing` meets its contract: one part behind the other. Assumes nothing.
use Rattle.field.specs.Text.{bytes}
use Rattle.text.proofs.Pens.{◌then◌}
use Rattle.telling.specs.Said.{nothing_text}
use Rattle.telling.proofs.said.put_nothing.Goals as goal

pub returns-in-Refused : goal.returns-in-Refused
unfolding nothing_text bytes
returns-in-Refused c = rw c.in-Refused.is (c.put.ensures.result_after then c.word.ensures)
