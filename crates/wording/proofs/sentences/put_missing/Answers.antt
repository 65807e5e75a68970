-- `sentences::put_missing` meets its contract: each number stays what it is when it is widened. Assumes nothing.
use Rattle.std.proofs.Common.{rules, ◌≡◌, [], ◌∷◌, pos, to_z, of_z, w64}
use Rattle.field.specs.Text.{bytes}
use Rattle.text.proofs.Pens.{puts-as}
use Rattle.template.specs.Filling.{filled}
use Rattle.wording.specs.Sentences.{missing_text}
use Rattle.wording.proofs.sentences.put_missing.Goals as goal

pub returns : goal.returns
unfolding missing_text bytes
returns c =
    let a = c.args in
    let e1 : to_z w64 (of_z w64 c.from.result) ≡ pos a.p.first.tick = search rules in
    let e2 : to_z w64 (of_z w64 c.from-2.result) ≡ a.p.first.heading = search rules in
    let e3 : to_z w64 (of_z w64 c.from-3.result) ≡ pos a.p.second.tick = search rules in
    let e4 : to_z w64 (of_z w64 c.from-4.result) ≡ a.p.second.heading = search rules in
    let e5 : to_z w64 (of_z w64 c.from-5.result) ≡ pos a.b.tick1 = search rules in
    let e6 : to_z w64 (of_z w64 c.from-6.result) ≡ pos a.p.first.tick = search rules in
    let e7 : to_z w64 (of_z w64 c.from-7.result) ≡ pos a.b.heading1 = search rules in
    let e8 : to_z w64 (of_z w64 c.from-8.result) ≡ a.p.first.heading = search rules in
    let e9 : to_z w64 (of_z w64 c.from-9.result) ≡ pos a.b.tick2 = search rules in
    let e10 : to_z w64 (of_z w64 c.from-10.result) ≡ pos a.p.second.tick = search rules in
    let e11 : to_z w64 (of_z w64 c.from-11.result) ≡ pos a.b.heading2 = search rules in
    let e12 : to_z w64 (of_z w64 c.from-12.result) ≡ a.p.second.heading = search rules in
    puts-as c.fill.ensures (λ i. filled (bytes "no row says # @ # @: line # brought frequency # and line # heading @; line # brought frequency # and line # heading @") (e1 i ∷ e2 i ∷ e3 i ∷ e4 i ∷ e5 i ∷ e6 i ∷ e7 i ∷ e8 i ∷ e9 i ∷ e10 i ∷ e11 i ∷ e12 i ∷ []))
