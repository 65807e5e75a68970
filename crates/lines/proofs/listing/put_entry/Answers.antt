-- `listing::put_entry` meets its contract: both parts of the value behind the pair. Assumes nothing.
use Rattle.std.proofs.Common.{rules, ◌≡◌, ◌∷◌, to_z, of_z, w64}
use Rattle.text.specs.Decimal.{signed}
use Rattle.table.specs.Entries.{complex_of}
use Rattle.text.proofs.Pens.{◌then◌, puts-as}
use Rattle.lines.proofs.Held.{entry-is}
use Rattle.lines.proofs.listing.put_entry.Goals as goal

pub returns : goal.returns
returns c =
    let re : to_z w64 (of_z w64 c.from.result) ≡ c.args.v.re = search rules in
    let im : to_z w64 (of_z w64 c.from-2.result) ≡ c.args.v.im = search rules in
    let value = puts-as c.next_signed.ensures (λ i. 32 ∷ signed (re i)) then puts-as c.next_signed-2.ensures (λ i. 32 ∷ signed (im i)) in
    puts-as (c.put_pair.ensures then value) (entry-is c.args.p (complex_of c.args.v))
