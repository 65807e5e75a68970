-- Whole complex numbers: a wave's amplitude in millimetres, a coefficient in millionths, a phase over 2^30. Document 01, "Coefficients and forces".
use Rattle.std.specs.Prelude.{ℕ, ◌+◌, ◌*◌, ℤ, neg_ℤ, nat_abs, ◌+ℤ◌, ◌-ℤ◌, ◌*ℤ◌}

infixl 6 ◌+ᶜ◌
infixl 7 ◌*ᶜ◌
pub record Complex : Type 0 where
  pub re : ℤ
  pub im : ℤ

abbrev pub ◌+ᶜ◌ : Complex → Complex → Complex
w +ᶜ z = record { re = w.re +ℤ z.re; im = w.im +ℤ z.im }

abbrev pub ◌*ᶜ◌ : Complex → Complex → Complex
w *ᶜ z = record { re = w.re *ℤ z.re -ℤ w.im *ℤ z.im; im = w.re *ℤ z.im +ℤ w.im *ℤ z.re }

abbrev pub conj : Complex → Complex
conj z = record { re = z.re; im = neg_ℤ z.im }

-- the sizes of both parts together, as A counts an amplitude
abbrev pub sizes : Complex → ℕ
sizes z = nat_abs z.re + nat_abs z.im

-- |z|², in whole units
abbrev pub squares : Complex → ℕ
squares z = nat_abs z.re * nat_abs z.re + nat_abs z.im * nat_abs z.im
