-- `Explainer::close` meets its contract: a record that closing goes on with is valid. Assumes nothing.
use Rattle.std.proofs.Common.{◌≡◌, ap}
use Rattle.refusals.specs.Numbered.{number_in}
use Rattle.reader.proofs.Valid.{valid-kept}
use Rattle.explain.proofs.Outcomes.{close-valid}
use Rattle.explain.proofs.explainer.Explainer.close.Goals as goal

pub ended-requires : goal.ended-requires
ended-requires c =
    let none : number_in c.close_barred.result ≡ 0 = ap number_in c.in_default.is in
    let kept = valid-kept _ (close-valid _ c.close_barred.ensures none) in
    (kept.lines, kept.count)
