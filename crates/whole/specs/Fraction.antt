-- Fractions (document 01, "Coefficients and forces"): "a pair of whole numbers, the denominator above 0, compared by cross-multiplying".
use Rattle.std.specs.Prelude.{◌≡◌, ℕ, ◌*◌, ◌<◌, ℤ, pos, nat_abs, ◌+ℤ◌, ◌-ℤ◌, ◌*ℤ◌, ◌≤ℤ◌}
use Rattle.std.proofs.Common.{mul-pos, lit<}

infix 5 ◌≤ᶠ◌ ◌≡ᶠ◌
infixl 6 ◌+ᶠ◌ ◌-ᶠ◌
pub record Fraction : Type 0 where
  pub num : ℤ
  pub den : ℕ
  pub above : 0 < den

-- x ≤ y and x = y, by cross-multiplying
pub record ◌≤ᶠ◌ (x y : Fraction) : Type 0 where
  pub crossed : (x.num *ℤ pos y.den) ≤ℤ (y.num *ℤ pos x.den)

pub record ◌≡ᶠ◌ (x y : Fraction) : Type 0 where
  pub crossed : x.num *ℤ pos y.den ≡ y.num *ℤ pos x.den

-- a whole number as a fraction
abbrev pub as_fraction : ℤ → Fraction
as_fraction z = record { num = z; den = 1; above = lit< tt }

abbrev pub ◌+ᶠ◌ : Fraction → Fraction → Fraction
x +ᶠ y =
    record { num = x.num *ℤ pos y.den +ℤ y.num *ℤ pos x.den; den = x.den * y.den; above = mul-pos x.above y.above }

abbrev pub ◌-ᶠ◌ : Fraction → Fraction → Fraction
x -ᶠ y =
    record { num = x.num *ℤ pos y.den -ℤ y.num *ℤ pos x.den; den = x.den * y.den; above = mul-pos x.above y.above }

-- |x|
abbrev pub size : Fraction → Fraction
size x = record { num = pos (nat_abs x.num); den = x.den; above = x.above }

-- by how much x and y differ
abbrev pub distance : Fraction → Fraction → Fraction
distance x y = size (x -ᶠ y)
