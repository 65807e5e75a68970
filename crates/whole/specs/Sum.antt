-- Sums over a list, of whole numbers, of naturals, of complex numbers and of fractions: one definition, over what is added. A sum over all pairs m, n is
-- a sum over m of sums over n.
use Rattle.std.specs.Prelude.{List, [], ◌∷◌, ℕ, ◌+◌, ℤ, pos, ◌+ℤ◌}
use Rattle.whole.specs.Complex.{Complex, ◌+ᶜ◌}
use Rattle.whole.specs.Fraction.{Fraction, as_fraction, ◌+ᶠ◌}

-- f of the first, and of the second, and so on, put together by `plus`; `none` where the list is empty
unfoldable pub sum_by : {A M : Type 0} → (M → M → M) → M → List A → (A → M) → M
sum_by plus none [] f = none
sum_by plus none (x ∷ xs) f = plus (f x) (sum_by plus none xs f)

abbrev pub sum_ℤ : {A : Type 0} → List A → (A → ℤ) → ℤ
sum_ℤ = sum_by ◌+ℤ◌ (pos 0)

abbrev pub sum_ℕ : {A : Type 0} → List A → (A → ℕ) → ℕ
sum_ℕ = sum_by ◌+◌ 0

abbrev pub sumᶜ : {A : Type 0} → List A → (A → Complex) → Complex
sumᶜ = sum_by ◌+ᶜ◌ (record { re = pos 0; im = pos 0 })

abbrev pub sumᶠ : {A : Type 0} → List A → (A → Fraction) → Fraction
sumᶠ = sum_by ◌+ᶠ◌ (as_fraction (pos 0))
