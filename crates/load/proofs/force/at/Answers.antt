-- `force::at` meets its contract: the whole of the load. Assumes nothing.
use Rattle.std.proofs.Common.{◌≡◌, sym, ap, ◌∙◌, arith, to_z-of_z}
use Rattle.std.proofs.lemmas.Grind.{common_steps}
use Rattle.refusals.specs.Numbered.{number_of}
use Rattle.load.specs.Answers.{Force, load_in, force_in}
use Rattle.load.specs.Force.{whole_of, force_by}
use Rattle.load.proofs.Loads.{small-whole}
use Rattle.load.proofs.Terms.{word_of}
use Rattle.load.proofs.force.at.Goals as goal

pub returns-in_err-with_mean : goal.returns-in_err-with_mean
unfolding force_by whole_of
returns-in_err-with_mean c =
    let e = c.in_err-with_mean.field-0.0 in
    let refused : force_in c.from_residual.result ≡ Force.Refused (number_of e.refusal) e.line = grind (arith, common_steps) in
    refused ∙ ap whole_of (sym (ap load_in c.in_err-with_mean.was) ∙ c.with_mean.ensures.value)

pub returns : goal.returns
unfolding force_by whole_of
returns c =
    ap Force.Value (to_z-of_z (word_of c.in_ok-with_mean.field-0.whole (omega (arith, small-whole c.in_ok-with_mean.ensures.small))))
    ∙ ap whole_of c.in_ok-with_mean.ensures.value
