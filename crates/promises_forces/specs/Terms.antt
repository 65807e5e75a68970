-- A pair's term multiplied out (document 01, "Coefficients and forces"): of two lines m and n with amplitudes a and b, ticks f and g, coefficient Q and phase z the real part of a conj(b) Q z, z at
-- the step (f - g) t, in a difference table; in a sum table that of a b Q z, z at the step (f + g) t. In whole numbers alone, without the model's complex product and conjugate, so that the wrong one
-- of two amplitudes conjugated, or a wrong sign, is found: both in the terms of the exact sum, and in those of the total that is rounded.
use Rattle.std.specs.Prelude.{◌≡◌, ℕ, ◌*◌, ◌^◌, ℤ, pos, ◌+ℤ◌, ◌-ℤ◌, ◌*ℤ◌}
use Rattle.whole.specs.Complex.{Complex}
use Rattle.phase.specs.Turn.{Quarter, phase_ℤ}
use Rattle.table.specs.View.{View}
use Rattle.load.specs.Corners.{coefficient}
use Rattle.load.specs.Force.{LocatedLine, term}
use Rattle.promises_forces.specs.Demand.{ratio, linear_top, linear_over, exact_term}

-- the real part of (x + i y) Q z
abbrev pub real_part : ℤ → ℤ → Complex → Complex → ℤ
real_part x y q z = (x *ℤ q.re -ℤ y *ℤ q.im) *ℤ z.re -ℤ (x *ℤ q.im +ℤ y *ℤ q.re) *ℤ z.im

-- a conj(b) is (a.re b.re + a.im b.im) + i (a.im b.re - a.re b.im)
abbrev pub difference_part : Complex → Complex → Complex → Complex → ℤ
difference_part a b = real_part (a.re *ℤ b.re +ℤ a.im *ℤ b.im) (a.im *ℤ b.re -ℤ a.re *ℤ b.im)

-- a b is (a.re b.re - a.im b.im) + i (a.re b.im + a.im b.re)
abbrev pub sum_part : Complex → Complex → Complex → Complex → ℤ
sum_part a b = real_part (a.re *ℤ b.re -ℤ a.im *ℤ b.im) (a.re *ℤ b.im +ℤ a.im *ℤ b.re)

-- two lines by a clock, at the time t in its units
module _ (clock : Quarter) (t : ℕ) (m n : LocatedLine) where
  -- z((f(m) - f(n)) t), and z((f(m) + f(n)) t)
  abbrev pub apart : Complex
  apart = phase_ℤ clock ((pos m.line.tick -ℤ pos n.line.tick) *ℤ pos t)

  abbrev pub together : Complex
  together = phase_ℤ clock ((pos m.line.tick +ℤ pos n.line.tick) *ℤ pos t)

-- the terms of the exact sum, with the unrounded coefficient over the two widths, and those of the total, with the rounded one. Kind 0 is difference, 1 is sum
pub record Multiplied (clock : Quarter) (v : View) (t : ℕ) (m n : LocatedLine) : Type 0 where
  pub difference-exact :
      exact_term clock 0 v t m n
      ≡ ratio (difference_part m.line.amplitude n.line.amplitude (linear_top v m n) (apart clock t m n)) (linear_over m n * 2 ^ 30)
  pub difference-total :
      term clock 0 v t m n ≡ difference_part m.line.amplitude n.line.amplitude (coefficient v m.point n.point) (apart clock t m n)
  pub sum-exact :
      exact_term clock 1 v t m n
      ≡ ratio (sum_part m.line.amplitude n.line.amplitude (linear_top v m n) (together clock t m n)) (linear_over m n * 2 ^ 30)
  pub sum-total :
      term clock 1 v t m n ≡ sum_part m.line.amplitude n.line.amplitude (coefficient v m.point n.point) (together clock t m n)

abbrev pub TermsMultiplied : Type 0
TermsMultiplied = (clock : Quarter) (v : View) (t : ℕ) (m n : LocatedLine) → Multiplied clock v t m n
