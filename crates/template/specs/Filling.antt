-- A sentence with numbers in it. It is written with a mark where each number goes: `#` for a whole number, `%` for millionths as a decimal with six places, `@` for a heading
-- in degrees. Every other byte stands for itself.
use Rattle.std.specs.Prelude.{cond, List, [], ◌∷◌, ◌++◌, ℕ, ◌+◌, ◌/◌, ◌%◌, eqb, ℤ, pos, nat_abs, get_or}
use Rattle.text.specs.Decimal.{natural, minus, signed, decimal}

-- millidegrees in degrees: a whole number of them without a point, "0", "-90", "180", and any other with three places, "22.500", "-0.250"
unfoldable pub degrees : ℤ → List ℕ
degrees z = cond (eqb (nat_abs z % 1_000) 0) (minus z ++ natural (nat_abs z / 1_000)) (decimal 3 z)

-- what a byte of a sentence stands for, where z is the next number
unfoldable pub shown : ℕ → ℤ → List ℕ
shown b z = cond (eqb b 35) (signed z) (cond (eqb b 37) (decimal 6 z) (cond (eqb b 64) (degrees z) (b ∷ [])))

-- how many numbers it takes
unfoldable pub uses : ℕ → ℕ
uses b = cond (eqb b 35) 1 (cond (eqb b 37) 1 (cond (eqb b 64) 1 0))

-- what is left of a sentence, where k numbers are taken already
unfoldable pub filled_from : List ℕ → ℕ → List ℤ → List ℕ
filled_from [] k numbers = []
filled_from (b ∷ s) k numbers = shown b (get_or numbers k (pos 0)) ++ filled_from s (k + uses b) numbers

unfoldable pub filled : List ℕ → List ℤ → List ℕ
filled sentence numbers = filled_from sentence 0 numbers
