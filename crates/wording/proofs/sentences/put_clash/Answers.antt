-- `sentences::put_clash` meets its contract: each number stays what it is when it is widened. Assumes nothing.
use Rattle.std.proofs.Common.{rules, ◌≡◌, [], ◌∷◌, pos, to_z, of_z, w64}
use Rattle.field.specs.Text.{bytes}
use Rattle.text.proofs.Pens.{puts-as}
use Rattle.template.specs.Filling.{filled}
use Rattle.wording.specs.Sentences.{clash_text}
use Rattle.wording.proofs.sentences.put_clash.Goals as goal

pub returns : goal.returns
unfolding clash_text bytes
returns c =
    let a = c.args in
    let e1 : to_z w64 (of_z w64 c.from.result) ≡ pos a.line = search rules in
    let e2 : to_z w64 (of_z w64 c.from-2.result) ≡ a.c.said.re = search rules in
    let e3 : to_z w64 (of_z w64 c.from-3.result) ≡ a.c.said.im = search rules in
    let e4 : to_z w64 (of_z w64 c.from-4.result) ≡ pos a.e.tick1 = search rules in
    let e5 : to_z w64 (of_z w64 c.from-5.result) ≡ a.e.heading1 = search rules in
    let e6 : to_z w64 (of_z w64 c.from-6.result) ≡ pos a.e.tick2 = search rules in
    let e7 : to_z w64 (of_z w64 c.from-7.result) ≡ a.e.heading2 = search rules in
    let e8 : to_z w64 (of_z w64 c.from-8.result) ≡ pos a.c.line = search rules in
    let e9 : to_z w64 (of_z w64 c.from-9.result) ≡ a.c.held.re = search rules in
    let e10 : to_z w64 (of_z w64 c.from-10.result) ≡ a.c.held.im = search rules in
    puts-as c.fill.ensures (λ i. filled (bytes "line # says % % of # @ # @; line # set it to % %") (e1 i ∷ e2 i ∷ e3 i ∷ e4 i ∷ e5 i ∷ e6 i ∷ e7 i ∷ e8 i ∷ e9 i ∷ e10 i ∷ []))
