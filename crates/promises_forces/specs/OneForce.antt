-- Demand 3 rules out one force for all (document 01, "What the contracts settle"): of example H's table and sea there is no number that keeps the bound both at second 0 and at
-- second 20, whatever the number is.
use Rattle.std.specs.Prelude.{ℕ, ℤ}
use Rattle.whole.specs.Fraction.{◌≤ᶠ◌, as_fraction, distance}
use Rattle.promises_worked.specs.Starred.{table_h, sea_h}
use Rattle.promises_forces.specs.Demand.{exact_force, allowed}

-- a force keeps demand 3's bound at a second
abbrev pub KeepsBound : ℤ → ℕ → Type 0
KeepsBound force t = distance (as_fraction force) (exact_force table_h.reader table_h.cells sea_h t) ≤ᶠ allowed sea_h

abbrev pub NotOneForAll : Type 0
NotOneForAll = (force : ℤ) → KeepsBound force 0 → KeepsBound force 20 → ⊥
