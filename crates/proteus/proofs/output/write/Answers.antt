-- `output::write` meets its contract: each way out is an answer of proofs/WholeText.antt. Assumes nothing.
use Rattle.std.proofs.Common.{◌≡◌, refl, sym, ap, ◌∙◌, rules, arith}
use Rattle.std.proofs.lemmas.Grind.{common_steps}
use Rattle.refusals.proofs.Numbers.{some-number}
use Rattle.text.proofs.Pens.{puts-from, held-as}
use Rattle.proteus.specs.Answer.{Wrote, wrote_in, outcome}
use Rattle.proteus.proofs.WholeText.{number_is, refused, no_room, put_whole}
use Rattle.proteus.proofs.output.write.Goals as goal

pub returns-in_err-length : goal.returns-in_err-length
returns-in_err-length c =
    let e = c.in_err-length.field-0.0 in
    let given : wrote_in c.from_residual.result ≡ wrote_in c.measure.result = grind (arith, common_steps) in
    let some : (wrote_in c.measure.result).number ≡ 0 → ⊥ = λ none. some-number e (ap (λ (w : Wrote). w.number) (sym (ap wrote_in c.in_err-length.was)) ∙ none) in
    ap (λ (w : Wrote). outcome w c.args.out.now) given ∙ refused _ c.args.out.now c.measure.ensures some

pub returns-then-out-length : goal.returns-then-out-length
returns-then-out-length c = no_room _ c.args.out.now (sym (ap wrote_in c.in_ok-length.was) ∙ c.measure.ensures) refl c.if-out-length.true

pub put_lines-requires : goal.put_lines-requires
put_lines-requires c = sym (number_is _ c.args.out.now (sym (ap wrote_in c.in_ok-length.was) ∙ c.measure.ensures))

pub returns : goal.returns
returns c =
    put_whole _ c.args.out.now (sym (ap wrote_in c.in_ok-length.was) ∙ c.measure.ensures) refl c.if-out-length.false
    (held-as (search rules) (puts-from c.new.ensures.begun c.put_lines.ensures))
