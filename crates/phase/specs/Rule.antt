-- The rule over the whole table (document 01, "Coefficients and forces"), for any number of steps to the quarter turn and any two limits.
use Rattle.std.specs.Prelude.{◌≡◌, ℕ, suc, ◌+◌, ◌-◌, ◌^◌, ◌≤◌, ◌<◌, pos, nat_abs, ◌-ℤ◌, ◌*ℤ◌, length}
use Rattle.whole.specs.Complex.{Complex, ◌*ᶜ◌, squares}
use Rattle.phase.specs.Turn.{Quarter, entry}

-- how far the table may be from a circle, and from turning by one step at each product
pub record Limits : Type 0 where
  pub circle : ℕ
  pub step : ℕ

-- "within 1,518,500,250 of 2^60", "within 2^31 of 2^30 times step i + 1"
abbrev pub limits : Limits
limits = record { circle = 1_518_500_250; step = 2 ^ 31 }

-- step i of the table: its sine is the cosine of what is left of the quarter turn
abbrev pub at_step : Quarter → ℕ → Complex
at_step q i = record { re = pos (entry q i); im = pos (entry q (q.steps - i)) }

-- in the paper's order: how many entries there are, the first, the last, that they "fall strictly", how close each step is to the circle, and how close
-- the product of steps i and 1 is to 2^30 times step i + 1, "in each part"
pub record Rule (l : Limits) (q : Quarter) : Type 0 where
  pub some : 0 < q.steps
  pub count : length q.entries ≡ suc q.steps
  pub first : entry q 0 ≡ 2 ^ 30
  pub last : entry q q.steps ≡ 0
  pub falls : (i : ℕ) → i < q.steps → entry q (i + 1) < entry q i
  pub circle : (i : ℕ) → i ≤ q.steps → nat_abs (pos (squares (at_step q i)) -ℤ pos (2 ^ 60)) ≤ l.circle
  pub step-re : (i : ℕ) → i < q.steps → nat_abs ((at_step q i *ᶜ at_step q 1).re -ℤ pos (2 ^ 30) *ℤ (at_step q (i + 1)).re) ≤ l.step
  pub step-im : (i : ℕ) → i < q.steps → nat_abs ((at_step q i *ᶜ at_step q 1).im -ℤ pos (2 ^ 30) *ℤ (at_step q (i + 1)).im) ≤ l.step
