-- `refusal::put` meets its contract: one word behind the other. Assumes nothing.
use Rattle.field.specs.Text.{bytes}
use Rattle.text.proofs.Pens.{◌then◌, puts-as}
use Rattle.lines.proofs.Held.{refusal_is, refusal-few}
use Rattle.lines.proofs.refusal.put.Goals as goal

pub returns-clause-result_after : goal.returns-clause-result_after
unfolding bytes
returns-clause-result_after c =
    puts-as (c.word.ensures then (rw c.from.ensures at c.next_natural.ensures) then c.next_place.ensures.result_after) (refusal_is c.args.number c.args.place)

pub returns-clause-place_len_bound : goal.returns-clause-place_len_bound
returns-clause-place_len_bound c = refusal-few c.args.number c.args.place c.ranges.number c.next_place.ensures.place_len_bound
