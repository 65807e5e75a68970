-- `Explainer::open` meets its contract: where the reader's own opening succeeds, all lines that are lent are 0 (`opened`). Assumes nothing.
use Rattle.std.proofs.Common.{◌≡◌, ◌∙◌, ◌++◌, ℕ, length, take, drop, replicate, ap, length-take-le}
use Rattle.explain.proofs.Outcomes.{opened}
use Rattle.explain.proofs.explainer.Explainer.open.Goals as goal

pub returns-then-o-eq1 : goal.returns-then-o-eq1
returns-then-o-eq1 c =
    let lines = c.args.lines.now in
    let long : length (take 6400 lines) ≡ 6400 = length-take-le 6400 lines c.if-lines-lt-LINES.false in
    let cleared = c.fill.ensures.after (λ y e. e) ∙ ap (λ (n : ℕ). replicate n 0) long in
    opened _ _ _ _ _ c.if-lines-lt-LINES.false c.open-o.ensures c.fresh_with-explainer.ensures c.if-o-eq1.true (λ i. cleared i ++ drop 6400 lines)
