-- `Explainer::piece` meets its contract: a record that a piece goes on with is valid. Assumes nothing.
use Rattle.std.proofs.Common.{◌∙◌, sym}
use Rattle.reader.proofs.Valid.{valid-kept, unbarred}
use Rattle.explain.proofs.explainer.Explainer.piece.Goals as goal

pub read-explainer-requires : goal.read-explainer-requires
read-explainer-requires c =
    let kept = valid-kept _ (unbarred _ _ _ (sym c.barred-number.ensures ∙ c.if-number-ne0.false)).0 in
    (kept.lines, kept.count)
