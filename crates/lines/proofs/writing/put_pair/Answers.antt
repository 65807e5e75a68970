-- `writing::put_pair` meets its contract: one number behind the other. Assumes nothing.
use Rattle.std.proofs.Common.{rules, ◌≡◌, ◌∷◌, to_z, of_z, w64}
use Rattle.text.specs.Decimal.{signed}
use Rattle.text.specs.Spaced.{spaced}
use Rattle.text.proofs.Pens.{◌then◌, puts-as}
use Rattle.lines.specs.Listing.{pair_words}
use Rattle.lines.proofs.writing.put_pair.Goals as goal

pub returns : goal.returns
unfolding pair_words spaced
returns c =
    let first : to_z w64 (of_z w64 c.from-2.result) ≡ c.args.p.first.heading = search rules in
    let second : to_z w64 (of_z w64 c.from-4.result) ≡ c.args.p.second.heading = search rules in
    (rw c.from.ensures at c.natural.ensures)
    then puts-as c.next_signed.ensures (λ i. 32 ∷ signed (first i))
    then (rw c.from-3.ensures at c.next_natural.ensures)
    then puts-as c.next_signed-2.ensures (λ i. 32 ∷ signed (second i))
