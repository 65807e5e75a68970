-- `output::measure` meets its contract: what bars the six comes first. Assumes nothing.
use Rattle.std.proofs.Common.{◌≡◌, sym, ap, ◌∙◌, arith}
use Rattle.std.proofs.lemmas.Grind.{common_steps}
use Rattle.refusals.specs.Numbered.{number_of, number_in}
use Rattle.refusals.proofs.Numbers.{some-number}
use Rattle.proteus.specs.Answer.{Wrote, wrote_in}
use Rattle.proteus.proofs.Answering.{measure-barred}
use Rattle.proteus.proofs.output.measure.Goals as goal

pub returns-in_err-barred : goal.returns-in_err-barred
returns-in_err-barred c =
    let e = c.in_err-barred.field-0.0 in
    let number : number_in c.barred.result ≡ number_of e = ap number_in c.in_err-barred.was in
    let given : ◌≡◌ {A = Wrote} (wrote_in c.from_residual.result) (record { number = number_of e; length = 0 }) = grind (arith, common_steps) in
    given ∙ measure-barred _ _ (sym number ∙ c.barred.ensures) (some-number e)

pub added-requires : goal.added-requires
added-requires c = sym c.barred.ensures ∙ ap number_in c.in_ok-barred.was
