-- How long a line of words gets.
-- Assumes nothing.
use mathlib.Core.Path.{◌≡◌}
use mathlib.Core.List.{List, [], ◌∷◌, map}
use Prim.Native.Nat.{ℕ, zero, suc, ◌+◌, ◌-◌, ◌*◌, ◌≤◌, zero-le}
use native.Mathlib.Omega.{arith}
use lib.IntN.{ℤ}
use lib.ListN.{length, replicate, length-append}
use Rattle.text.specs.Decimal.{decimal}
use Rattle.text.specs.Spaced.{spaced}
use Rattle.text.proofs.Apart.{Each}

-- each word is no longer than its bound
abbrev pub Within : List ℕ → List (List ℕ) → Type 0
Within ms [] = Unit
Within [] (w ∷ ws) = ⊥
Within (m ∷ ms) (w ∷ ws) = (length w ≤ m) × Within ms ws

-- what words of these lengths take, with a byte behind each
abbrev pub taken : List ℕ → ℕ
taken [] = 0
taken (m ∷ ms) = suc m + taken ms

-- behind the last word there is no space
pub words-few : (ms : List ℕ) (ws : List (List ℕ)) → Within ms ws → length (spaced ws) ≤ taken ms - 1
unfolding spaced
words-few ms [] h = zero-le
words-few [] (w ∷ ws) h = absurd h
words-few (m ∷ ms) (w ∷ []) h = omega arith
words-few (m ∷ []) (w ∷ v ∷ ws) h = absurd h.1
words-few (m ∷ k ∷ ms) (w ∷ v ∷ ws) h = omega (arith, words-few (k ∷ ms) (v ∷ ws) h.1, length-append w (32 ∷ spaced (v ∷ ws)))

-- ---- decimals with one bound

taken-same : (n m : ℕ) → taken (replicate n m) ≡ n * suc m
taken-same zero m = omega arith
taken-same (suc n) m = omega (arith, taken-same n m)

module _ (p m : ℕ) where
  pub decimals-within : (row : List ℤ) → Each (λ z. length (decimal p z) ≤ m) row → Within (replicate (length row) m) (map (decimal p) row)
  decimals-within [] h = tt
  decimals-within (z ∷ row) h = (h.0, decimals-within row h.1)

  pub list-few : (row : List ℤ) → Each (λ z. length (decimal p z) ≤ m) row → length (spaced (map (decimal p) row)) ≤ length row * suc m - 1
  list-few row h =
      omega (arith, words-few (replicate (length row) m) (map (decimal p) row) (decimals-within row h), taken-same (length row) m)
