-- `sentences::put_slot` meets its contract, by its tests. Assumes nothing.
use Rattle.std.proofs.Common.{rules, lt-ltb, le-ltb, ◌≡◌, ◌-◌, [], ◌∷◌, pos, to_z, of_z, w64, cond, eqb, get_or}
use Rattle.field.specs.Text.{bytes}
use Rattle.text.proofs.Pens.{puts-none, puts-as}
use Rattle.template.specs.Filling.{filled}
use Rattle.wording.specs.Sentences.{slot_text, heading_text}
use Rattle.wording.proofs.sentences.put_slot.Goals as goal

pub returns-then-k-lt24 : goal.returns-then-k-lt24
unfolding slot_text heading_text bytes
returns-then-k-lt24 c =
    let a = c.args in
    let line = get_or a.o.headings (a.k - 20) 0 in
    let back : to_z w64 (of_z w64 c.from-then-k-lt24.result) ≡ get_or a.s.headings (a.k - 20) (pos 0) = search rules in
    rw (le-ltb _ 20 c.if-k-lt20.false, lt-ltb _ 24 c.if-k-lt24.true)
    (puts-as c.put_brought-then-k-lt24.ensures (λ i. cond (eqb line 0) [] (filled (bytes "line # brought heading @") (pos line ∷ back i ∷ []))))

pub returns-else-k-lt24 : goal.returns-else-k-lt24
unfolding slot_text
returns-else-k-lt24 c = puts-none _ (rw (le-ltb _ 20 c.if-k-lt20.false, le-ltb _ 24 c.if-k-lt24.false))
