-- What a test says: of a `cond`, of two tests joined, and of an equality of signed numbers that cannot fail. Assumes nothing.
use mathlib.Core.Path.{◌≡◌, refl, sym, ◌∙◌}
use mathlib.Core.Bool.{Bool, true, false, cond, ◌&&◌, false≢true, true≢false}
use lib.IntN.{ℤ}
use Rattle.whole.specs.Same.{same_ℤ}
use Rattle.whole.proofs.Same.{same_ℤ-true, same_ℤ-yes}

-- a test: what holds of both its arms holds of the `cond`
pub by-test {ℓ} : {X : Type ℓ} (P : X → Type 0) (t : Bool) (x y : X) → (t ≡ true → P x) → (t ≡ false → P y) → P (cond t x y)
by-test P true x y f g = f refl
by-test P false x y f g = g refl

-- a test that is not passed, by what passing says
pub refuted : {P : Type 0} (t : Bool) → (t ≡ true → P) → (P → ⊥) → t ≡ false
refuted true f n = absurd (n (f refl))
refuted false f n = refl

pub both : (a b : Bool) → (a && b) ≡ true → (a ≡ true) × (b ≡ true)
both true b e = (refl, e)
both false b e = absurd (false≢true e)

-- what is not unequal is equal
pub not-other : (a b : ℤ) → ((a ≡ b → ⊥) → ⊥) → a ≡ b
not-other a b f = go (same_ℤ a b) refl
  where
    go : (t : Bool) → same_ℤ a b ≡ t → a ≡ b
    go true e = same_ℤ-true a b e
    go false e = absurd (f (λ same. true≢false (sym (same_ℤ-yes a b same) ∙ e)))
