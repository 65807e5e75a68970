-- `six::tables` meets its contract: each record with its part of the cells. Assumes nothing.
use Rattle.std.proofs.Common.{[], ◌∷◌, ◌≡◌, length, ◌∙◌, rules}
use Rattle.hull.specs.Six.{components_with}
use Rattle.hull.proofs.Gathered.{six-with}
use Rattle.proteusds.specs.Six.{parts_of}
use Rattle.proteusds.proofs.six.tables.Goals as goal

pub returns : goal.returns
unfolding parts_of
returns c =
    let long : length c.args.readers.now ≡ 6 = search rules in
    six-with c.args.readers.now _ _ _ _ _ _ _ long
    ∙ (λ i.
    components_with c.args.readers.now
    (c.cells_of.ensures i ∷ c.cells_of-2.ensures i ∷ c.cells_of-3.ensures i ∷ c.cells_of-4.ensures i ∷ c.cells_of-5.ensures i ∷ c.cells_of-6.ensures i ∷ []))
