-- `printing::put_component` meets its contract: one word behind the other. Assumes nothing.
use Rattle.field.specs.Text.{bytes}
use Rattle.text.specs.Spaced.{spaced}
use Rattle.text.proofs.Pens.{◌then◌}
use Rattle.proteusds.proofs.printing.put_component.Goals as goal

pub returns : goal.returns
unfolding bytes spaced
returns c =
    c.word.ensures then (rw c.from.ensures at c.next_natural.ensures) then c.byte.ensures then c.put.ensures.result_after
