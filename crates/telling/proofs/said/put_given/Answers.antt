-- `said::put_given` meets its contract: one part behind the other. Assumes nothing.
use Rattle.field.specs.Text.{bytes}
use Rattle.text.proofs.Pens.{◌then◌}
use Rattle.telling.specs.Said.{given_text}
use Rattle.telling.proofs.said.put_given.Goals as goal

pub returns-in-Accepted : goal.returns-in-Accepted
unfolding given_text bytes
returns-in-Accepted c =
    rw c.in-Accepted.is
    (((c.word-in-Accepted.ensures then c.natural.ensures) then c.word-in-Accepted-2.ensures) then c.natural-in-Accepted.ensures)

pub returns-in-Refused : goal.returns-in-Refused
unfolding given_text bytes
returns-in-Refused c = rw c.in-Refused.is (c.word-in-Refused.ensures then c.put.ensures.result_after)
