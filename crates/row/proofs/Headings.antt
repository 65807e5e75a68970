-- A heading as it is read: 180,000 of -180,000, itself of any other; so of one in range it lies above -180,000. Assumes nothing.
use mathlib.Core.Path.{◌≡◌, refl, sym, ap, ◌∙◌}
use mathlib.Core.Bool.{Bool, cond, true≢false}
use Prim.Native.Nat.{ℕ}
use lib.IntN.{ℤ, pos, negsuc, neg_ℤ, nat_abs}
use lib.Signed.{◌≤ℤ◌, ◌<ℤ◌, lt_z_yes, ≤ℤ_refl}
use Rattle.whole.specs.Same.{same_ℤ}
use Rattle.whole.proofs.Same.{same_ℤ-yes, same_ℤ-no}
use Rattle.whole.proofs.OrderLaws.{≤ℤ→<ℤ}
use Rattle.row.specs.Ranges.{heading_most, direction}
use Rattle.row.specs.Heading.{heading_of}
use Rattle.row.specs.LineRules.{Between}
use Rattle.row.proofs.Deciding.{by-test}

abbrev minus : ℤ
minus = neg_ℤ (pos heading_most)

pub heading-turned : heading_of minus ≡ pos heading_most
unfolding heading_of
heading-turned = refl

pub heading-kept : (h : ℤ) → (h ≡ minus → ⊥) → heading_of h ≡ h
unfolding heading_of
heading-kept h n = ap (λ (t : Bool). cond t (pos heading_most) h) (same_ℤ-no h minus n)

-- either end is read as the one
pub heading-of-size : (h : ℤ) → nat_abs h ≡ heading_most → heading_of h ≡ pos heading_most
unfolding heading_of
heading-of-size (pos n) e = ap pos e
heading-of-size (negsuc n) e = ap (λ (k : ℕ). heading_of (neg_ℤ (pos k))) e ∙ heading-turned

-- what a table may hold
pub record HeadingIn (h : ℤ) : Type 0 where
  pub above : minus <ℤ h
  pub below : h ≤ℤ pos heading_most

pub heading-in : (z : ℤ) → Between direction.least direction.most z → HeadingIn (heading_of z)
unfolding heading_of
heading-in z b =
    by-test HeadingIn (same_ℤ z minus) (pos heading_most) z
    (λ e. record { above = lt_z_yes tt; below = ≤ℤ_refl (pos heading_most) })
    (λ e.
    let other : minus ≡ z → ⊥ = λ s. true≢false (sym (same_ℤ-yes z minus (sym s)) ∙ e) in
    record { above = ≤ℤ→<ℤ b.above other; below = b.below })
