-- Whether MOD fits RE and IM (document 02, M-101), all three in millionths and by their squares: no root is taken.
use Rattle.std.specs.Prelude.{ℕ, ◌+◌, ◌*◌, ◌-◌, ◌/◌, ◌≤◌, ℤ}
use Rattle.whole.specs.Complex.{squares}

-- k, by which MOD may be off: "2 plus M over 100,000 rounded down"
abbrev pub slack : ℕ → ℕ
slack m = 2 + m / 100_000

abbrev pub square : ℕ → ℕ
square n = n * n

-- RE squared plus IM squared
abbrev pub both_squares : ℤ → ℤ → ℕ
both_squares re im = squares (record { re = re; im = im })

-- these are no less than the square of M - k, which is 0 where M is less than k, and no more than the square of M + k
pub record ModulusFits (m : ℕ) (re im : ℤ) : Type 0 where
  pub no_less : square (m - slack m) ≤ both_squares re im
  pub no_more : both_squares re im ≤ square (m + slack m)
