-- `places::six` meets its contract: each record with the cells of its place. Assumes nothing.
use Rattle.std.proofs.Common.{[], ◌∷◌, ◌≡◌, length, ◌∙◌, rules}
use Rattle.hull.specs.Six.{components_with}
use Rattle.hull.proofs.Gathered.{six-with}
use Rattle.asking.specs.Places.{places_of}
use Rattle.asking.proofs.places.six.Goals as goal

pub returns : goal.returns
unfolding places_of
returns c =
    let long : length c.args.records.now ≡ 6 = search rules in
    six-with c.args.records.now _ _ _ _ _ _ _ long
    ∙ (λ i.
    components_with c.args.records.now
    (c.part.ensures i ∷ c.part-2.ensures i ∷ c.part-3.ensures i ∷ c.part-4.ensures i ∷ c.part-5.ensures i ∷ c.part-6.ensures i ∷ []))
