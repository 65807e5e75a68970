-- `record::put_record` meets its contract: every slot behind the counts. Assumes nothing.
use Rattle.std.proofs.Common.{map, ◌++◌, ◌∷◌, [], List, ℕ}
use Rattle.field.specs.Text.{bytes}
use Rattle.text.specs.Decimal.{natural, signed}
use Rattle.text.proofs.Pens.{◌then◌, puts-as}
use Rattle.behind.proofs.Words.{behind-++, spaced-behind}
use Rattle.replies.specs.Reply.{record_text}
use Rattle.replies.proofs.record.put_record.Goals as goal

pub returns : goal.returns
unfolding bytes record_text
returns c =
    let r = c.args.r in
    let counts : List (List ℕ) = natural r.marks.stage ∷ natural r.choices.kind ∷ natural r.choices.component ∷ natural r.choices.coverage ∷ natural r.marks.lines ∷ natural r.slots.held ∷ [] in
    let ticks = map natural r.slots.ticks in
    let headings = map signed r.slots.headings in
    puts-as (c.put_counts.ensures then puts-as (c.next_numbers.ensures then c.next_numbers-2.ensures) (behind-++ ticks headings))
    (spaced-behind (bytes "record") counts (ticks ++ headings))
