-- `listing::put_title` meets its contract: one word behind the other. Assumes nothing.
use Rattle.field.specs.Text.{bytes}
use Rattle.text.specs.Spaced.{spaced}
use Rattle.text.proofs.Pens.{◌then◌}
use Rattle.lines.specs.Listing.{title_text}
use Rattle.lines.proofs.listing.put_title.Goals as goal

pub returns : goal.returns
unfolding title_text spaced bytes
returns c =
    c.word.ensures then c.next_either.ensures then (rw c.from.ensures at c.next_natural.ensures) then c.next_either-2.ensures
    then (rw c.ticks_held.ensures at c.next_natural-2.ensures) then c.next_natural-3.ensures
