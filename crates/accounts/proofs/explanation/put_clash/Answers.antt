-- `explanation::put_clash` meets its contract: both values behind the line. Assumes nothing.
use Rattle.std.proofs.Common.{rules, ◌≡◌, [], ◌∷◌, to_z, of_z, w32}
use Rattle.field.specs.Text.{bytes}
use Rattle.text.specs.Decimal.{natural, signed}
use Rattle.text.proofs.Pens.{◌then◌, puts-as}
use Rattle.behind.specs.Behind.{behind}
use Rattle.behind.proofs.Words.{spaced-behind}
use Rattle.accounts.specs.Explanation.{clash_text}
use Rattle.accounts.proofs.explanation.put_clash.Goals as goal

pub returns : goal.returns
unfolding bytes clash_text
returns c =
    let x = c.args.c in
    let e1 : to_z w32 (of_z w32 x.held.re) ≡ x.held.re = search rules in
    let e2 : to_z w32 (of_z w32 x.held.im) ≡ x.held.im = search rules in
    let e3 : to_z w32 (of_z w32 x.said.re) ≡ x.said.re = search rules in
    let e4 : to_z w32 (of_z w32 x.said.im) ≡ x.said.im = search rules in
    let values = puts-as c.next_numbers.ensures (λ i. behind (signed (e1 i) ∷ signed (e2 i) ∷ signed (e3 i) ∷ signed (e4 i) ∷ [])) in
    puts-as (c.put_line.ensures then values)
    (spaced-behind (bytes "set") (natural x.line ∷ []) (signed x.held.re ∷ signed x.held.im ∷ signed x.said.re ∷ signed x.said.im ∷ []))
