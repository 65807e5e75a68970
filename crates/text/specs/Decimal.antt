-- Numbers as text: whole ones, "0", "3107", "-90000", and decimals with a set number of places, "-0.020000", "0.000000", "1000.000000".
use Rattle.std.specs.Prelude.{cond, List, [], ◌∷◌, ◌++◌, ℕ, zero, suc, ◌+◌, ◌/◌, ◌%◌, ◌^◌, ltb, ℤ, pos, negsuc, nat_abs}

-- the last `count` digits of n, the highest first
unfoldable pub digits : ℕ → ℕ → List ℕ
digits zero n = []
digits (suc count) n = digits count (n / 10) ++ ((48 + n % 10) ∷ [])

-- how many digits n has, at least one and at most one more than `most`. The two arms are functions, so that what is not asked for is not computed
unfoldable pub width_in : ℕ → ℕ → ℕ
width_in zero n = 1
width_in (suc most) n = cond {A = ℕ → ℕ} (ltb n 10) (λ rest. 1) (λ rest. suc (width_in most rest)) (n / 10)

-- no number has more digits than its own value and one
unfoldable pub width : ℕ → ℕ
width n = width_in n n

unfoldable pub natural : ℕ → List ℕ
natural n = digits (width n) n

-- a minus where it is below 0
abbrev pub minus : ℤ → List ℕ
minus (pos n) = []
minus (negsuc n) = 45 ∷ []

unfoldable pub signed : ℤ → List ℕ
signed z = minus z ++ natural (nat_abs z)

-- ---- decimals: whole numbers of units of 10^-places

-- the point and the decimals of n units; with 0 places there is neither
unfoldable pub fraction : ℕ → ℕ → List ℕ
fraction zero n = []
fraction (suc p) n = 46 ∷ digits (suc p) n

-- n units with no sign
unfoldable pub unsigned : ℕ → ℕ → List ℕ
unsigned places n = natural (n / 10 ^ places) ++ fraction places n

-- z units. What is below 0 has its minus where its whole part is 0 too
unfoldable pub decimal : ℕ → ℤ → List ℕ
decimal places z = minus z ++ unsigned places (nat_abs z)
