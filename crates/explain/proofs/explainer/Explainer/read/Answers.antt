-- `Explainer::read` meets its contract: the loop goes line by line, and LineByLine says what holds at its head. Assumes nothing.
use Rattle.std.proofs.Common.{◌∙◌, sym}
use Rattle.std.proofs.lemmas.List.{take_rest}
use Rattle.explain.proofs.LineByLine.{line-bounds, line-read, all-read}
use Rattle.explain.proofs.explainer.Explainer.read.Goals as goal

pub end_line-self-requires : goal.end_line-self-requires
end_line-self-requires c =
    let bounds = line-bounds _ _ _ _ c.loop-n.invariant _ _ (sym c.line_end.ensures ∙ c.in-Some.is) _ c.split_at.ensures.front c.read_on-self.ensures in
    (bounds.lines, bounds.count)

pub loop-n-preserved : goal.loop-n-preserved
loop-n-preserved c =
    rw take_rest (line-read _ _ _ _ c.loop-n.invariant _ _ (sym c.line_end.ensures ∙ c.in-Some.is) _ c.split_at.ensures.front c.read_on-self.ensures _ c.split_at.ensures.back _ c.end_line-self.ensures)

pub returns : goal.returns
returns c = all-read _ _ _ _ c.loop-n.invariant _ (sym c.line_end.ensures ∙ c.in_default.is) c.read_on-self-2.ensures
