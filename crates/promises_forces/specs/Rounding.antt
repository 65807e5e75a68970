-- "All rounding is to the nearest whole unit, a tie to the even one" (document 01, "Numbers"), proved once over the divisor: what every rounding of the model comes to is the
-- nearest, and nothing else is; and the force is the nearest whole unit to the total over 2^30, "rounded once at the end".
use Rattle.std.specs.Prelude.{List, ◌≡◌, ℕ, ◌^◌, ◌<◌, ℤ}
use Rattle.whole.specs.Nearest.{nearest_ℤ, IsNearest}
use Rattle.phase.specs.Turn.{Quarter}
use Rattle.phase.specs.Seconds.{seconds}
use Rattle.reader.specs.declared.record.Record.{Record}
use Rattle.table.specs.View.{view_of}
use Rattle.load.specs.Force.{total_by, force_by}
use Rattle.seaway.specs.declared.sea.Sea.{Sea}
use Rattle.load.specs.Answers.{Force}
use Rattle.promises_forces.specs.Demand.{sea_lines}

abbrev pub NearestIs : Type 0
NearestIs = (x : ℤ) (d : ℕ) → 0 < d → IsNearest x d (nearest_ℤ x d)

abbrev pub NearestOnly : Type 0
NearestOnly = (x : ℤ) (d : ℕ) (q : ℤ) → 0 < d → IsNearest x d q → q ≡ nearest_ℤ x d

abbrev pub ForceNearestBy : Quarter → Type 0
ForceNearestBy clock =
    (r : Record) (cells : List ℤ) (sea : Sea) (t : ℕ) (force : ℤ)
    → force_by clock r cells sea t ≡ Force.Value force
    → IsNearest (total_by clock r.choices.kind (view_of r.slots cells) t (sea_lines r sea)) (2 ^ 30) force

abbrev pub ForceNearest : Type 0
ForceNearest = ForceNearestBy seconds
