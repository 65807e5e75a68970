-- `sentences::put_field` meets its contract: the name behind the numbers, and the rule behind the name. Assumes nothing.
use Rattle.std.proofs.Common.{rules, ◌≡◌, [], ◌∷◌, pos, to_z, of_z, w64}
use Rattle.field.specs.Text.{bytes}
use Rattle.text.proofs.Pens.{◌then◌, puts-as}
use Rattle.template.specs.Filling.{filled}
use Rattle.wording.specs.Sentences.{field_text}
use Rattle.wording.proofs.sentences.put_field.Goals as goal

pub returns : goal.returns
unfolding field_text bytes
returns c =
    let e1 : to_z w64 (of_z w64 c.from.result) ≡ pos c.args.line = search rules in
    let e2 : to_z w64 (of_z w64 c.from-2.result) ≡ pos c.args.field = search rules in
    (puts-as c.fill.ensures (λ i. filled (bytes "line #: field #, ") (e1 i ∷ e2 i ∷ []))
    then (rw c.column_name.ensures at c.word.ensures))
    then (rw c.broken_rule.ensures at c.word-2.ensures)
