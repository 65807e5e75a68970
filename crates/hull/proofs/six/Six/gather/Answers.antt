-- `six::Six::gather` meets its contract: the law `gathered` of proofs/Gathered.antt. Assumes nothing.
use Rattle.std.proofs.Common.{[], ◌∷◌, ◌∙◌}
use Rattle.hull.proofs.Gathered.{gathered}
use Rattle.hull.proofs.six.Six.gather.Goals as goal

pub returns : goal.returns
returns c =
    (λ i. c.value_at.ensures i ∷ c.value_at-2.ensures i ∷ c.value_at-3.ensures i ∷ c.value_at-4.ensures i ∷ c.value_at-5.ensures i ∷ c.value_at-6.ensures i ∷ [])
    ∙ gathered c.args.self.now.components _ c.args.p c.args.self.now.six
