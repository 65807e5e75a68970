-- A sum table's force, worked from document 01 by hand (docs/PROMISES.md, "A sum table by hand", has the working): document 01 gives no such case, and a wrong rule for sums
-- in model and code together would pass its starred ones. The checker computes each.
use Rattle.std.specs.Prelude.{Bool, List, [], ◌∷◌, ℕ, T, ℤ, pos, neg_ℤ, set}
use Prim.Native.String.{String}
use Rattle.reader.specs.Model.{State}
use Rattle.load.specs.Coefficient.{coefficient_of}
use Rattle.load.specs.Force.{force_of}
use Rattle.seaway.specs.declared.sea.Sea.{Sea}
use Rattle.promises_worked.specs.Starred.{table_from, two_lines, is_coefficient, is_force, at_zero, every}

-- sum, component 1, single: Q(1000, 1000) = 20000 + 10000i, Q(1250, 1250) = -36000 + 12000i, Q(1000, 1250) = Q(1250, 1000) = 30000 + 4000i
unfoldable pub sum_text : String
sum_text = "10 10 0 0 1 0.022361 0 0.020 0.010\n8 8 0 0 1 0.037947 0 -0.036 0.012\n10 8 0 0 1 0.030265 0 0.030 0.004\n"

unfoldable pub sum_table : State
sum_table = table_from 1 sum_text

-- tick 1000 with the amplitude 200 + 100i, tick 1250 with 100 + 300i
unfoldable pub sum_sea : Sea
sum_sea = two_lines (record { re = pos 200; im = pos 100 }) (record { re = pos 100; im = pos 300 })

-- a case: what the table must give
pub data SumCase : Type 0 where
  -- two ticks, and both parts of their coefficient
  coefficient_gives : ℕ → ℕ → ℤ → ℤ → SumCase
  -- a second, and the force
  force_gives : ℕ → ℤ → SumCase
  -- a second, and the force of the same cells but the mirror, conjugated: the cell of nodes 1, 0 has its imaginary part at 161
  conjugated_gives : ℕ → ℤ → SumCase

unfoldable pub sum_cases : List SumCase
sum_cases =
    coefficient_gives 1_000 1_100 (pos 24_000) (pos 7_600)
    ∷ coefficient_gives 1_100 1_000 (pos 24_000) (pos 7_600)
    ∷ force_gives 0 (pos 1_200_000_000)
    ∷ force_gives 10 (neg_ℤ (pos 6_080_000_000))
    ∷ force_gives 20 (pos 3_520_000_000)
    ∷ force_gives 30 (pos 2_160_000_000)
    ∷ conjugated_gives 10 (neg_ℤ (pos 6_160_000_000))
    ∷ []

unfoldable pub gives : SumCase → Bool
gives (coefficient_gives f g re im) = is_coefficient (coefficient_of sum_table.reader sum_table.cells (at_zero f) (at_zero g)) re im
gives (force_gives second force) = is_force (force_of sum_table.reader sum_table.cells sum_sea second) force
gives (conjugated_gives second force) = is_force (force_of sum_table.reader (set sum_table.cells 161 (neg_ℤ (pos 4_000))) sum_sea second) force

abbrev pub SumWorked : Type 0
SumWorked = T (every gives sum_cases)
