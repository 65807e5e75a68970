-- `corners::square` meets its contract: four entries of nodes of the table. Assumes nothing.
use mathlib.Core.List.{[], ◌∷◌}
use Rattle.load.specs.own.Square.{square_of}
use Rattle.load.proofs.corners.square.Goals as goal

pub returns : goal.returns
unfolding square_of
returns c =
    λ i.
    (c.corner-a.ensures i ∷ c.corner-b.ensures i ∷ [])
    ∷ (c.corner-c.ensures i ∷ c.corner-d.ensures i ∷ [])
    ∷ []
