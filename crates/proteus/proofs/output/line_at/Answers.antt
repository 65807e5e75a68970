-- `output::line_at` meets its contract: what bars the six comes first. Assumes nothing.
use Rattle.std.proofs.Common.{◌≡◌, sym, ap, ◌∙◌, arith, []}
use Rattle.std.proofs.lemmas.Grind.{common_steps}
use Rattle.refusals.specs.Numbered.{number_of, number_in}
use Rattle.refusals.proofs.Numbers.{some-number}
use Rattle.text.specs.Line.{line_of}
use Rattle.proteus.specs.Answer.{Lined, lined_in, lined_of}
use Rattle.proteus.proofs.Answering.{barred-line}
use Rattle.proteus.proofs.output.line_at.Goals as goal

pub returns-in_err-barred : goal.returns-in_err-barred
unfolding lined_of
returns-in_err-barred c =
    let e = c.in_err-barred.field-0.0 in
    let number : number_in c.barred.result ≡ number_of e = ap number_in c.in_err-barred.was in
    let given : ◌≡◌ {A = Lined} (lined_in c.from_residual.result) (record { number = number_of e; line = line_of 256 [] }) = grind (arith, common_steps) in
    given ∙ barred-line _ c.args.k _ (sym number ∙ c.barred.ensures) (some-number e)

pub made-requires : goal.made-requires
made-requires c = sym c.barred.ensures ∙ ap number_in c.in_ok-barred.was
