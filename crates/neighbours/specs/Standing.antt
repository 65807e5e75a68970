-- Where a value stands among held ones (document 01, "Coefficients and forces": "Between neighbouring frequencies in ascending order"). One definition over any kind
-- of value with its order and its distances; frequencies here.
use Rattle.std.specs.Prelude.{ℕ, ◌+◌, ◌-◌, Bool, cond, List, [], ◌∷◌, Option, Some, None}

-- the two neighbours of a value with a weight each, and the width that the weights are over
pub record Standing (A : Type 0) : Type 0 where
  pub low : A
  pub high : A
  pub to_low : ℕ
  pub to_high : ℕ
  pub width : ℕ

-- a value and what was found so far: the one that is kept
unfoldable pub kept : {A : Type 0} → (A → A → Bool) → A → Option A → Option A
kept better y None = Some y
kept better y (Some z) = cond (better y z) (Some y) (Some z)

-- the greatest of the values that are at most x, by any order
unfoldable pub nearest_of : {A : Type 0} → (A → A → Bool) → List A → A → Option A
nearest_of le [] x = None
nearest_of le (y ∷ ys) x = cond (le y x) (kept (λ a b. le b a) y (nearest_of le ys x)) (nearest_of le ys x)

-- the neighbour below; and, by the order turned round, the one above: the least of the values that are at least x
abbrev pub low_of : {A : Type 0} → (A → A → Bool) → List A → A → Option A
low_of = nearest_of

abbrev pub high_of : {A : Type 0} → (A → A → Bool) → List A → A → Option A
high_of le = nearest_of (λ a b. le b a)

-- between two neighbours the weight of each is the distance to the other, over the distance of the two. A value that is held is both, with all the weight on one
unfoldable pub between : {A : Type 0} → (A → A → Bool) → (A → A → ℕ) → A → Option A → Option A → Option (Standing A)
between le distance x None high = None
between le distance x (Some low) None = None
between le distance x (Some low) (Some high) =
    cond (le high low)
    (Some (record { low = low; high = high; to_low = 1; to_high = 0; width = 1 }))
    (Some (record { low = low; high = high; to_low = distance x high; to_high = distance low x; width = distance low high }))

-- nowhere, where x is below the lowest or above the highest
unfoldable pub standing : {A : Type 0} → (A → A → Bool) → (A → A → ℕ) → List A → A → Option (Standing A)
standing le distance held x = between le distance x (low_of le held x) (high_of le held x)

-- the distance of two frequencies
abbrev pub apart : ℕ → ℕ → ℕ
apart a b = (a - b) + (b - a)
