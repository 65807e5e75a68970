-- Rounding (document 01, "Numbers"): to the nearest whole unit, "a tie to the even one". It is said here once, for every divisor.
use Rattle.std.specs.Prelude.{◌≡◌, cond, ℕ, suc, ◌+◌, ◌*◌, ◌-◌, ◌/◌, ◌%◌, ◌≤◌, ltb, eqb, ℤ, pos, negsuc, neg_ℤ, nat_abs, ◌-ℤ◌, ◌*ℤ◌}

-- What rounding adds to a quotient q that left the remainder r of a divisor d: nothing where r is less than what it lacks to d, one where it is more,
-- and where the two are equal q's last bit, so that the sum is even. The remainder is compared with d - r, never its double with d: no width overflows.
unfoldable pub rounds_up : ℕ → ℕ → ℕ → ℕ
rounds_up q r d = cond (ltb r (d - r)) 0 (cond (ltb (d - r) r) 1 (q % 2))

-- n / d, rounded. Over 0, which no rule of the box asks for, the answer is 0.
unfoldable pub nearest : ℕ → ℕ → ℕ
nearest n d = cond (eqb d 0) 0 (n / d + rounds_up (n / d) (n % d) d)

-- The same of a number with a sign: its size is rounded, and keeps the sign.
abbrev pub nearest_ℤ : ℤ → ℕ → ℤ
nearest_ℤ (pos n) d = pos (nearest n d)
nearest_ℤ (negsuc n) d = neg_ℤ (pos (nearest (suc n) d))

-- What it is for q to be the nearest to x / d, in words that name no quotient and no remainder: q d is at most d / 2 away from x, and where it is
-- just that far, q is even. `nearest-is` and `nearest-only` of proofs/Nearest say that `nearest_ℤ x d` is such a q, and the only one.
pub record IsNearest (x : ℤ) (d : ℕ) (q : ℤ) : Type 0 where
  pub close : 2 * nat_abs (x -ℤ q *ℤ pos d) ≤ d
  pub tie : 2 * nat_abs (x -ℤ q *ℤ pos d) ≡ d → nat_abs q % 2 ≡ 0
