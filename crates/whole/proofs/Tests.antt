-- The code's tests of numbers the other way round: `<` of a word tells whether the model's `≤` fails. Assumes nothing.
use mathlib.Core.Path.{◌≡◌, refl, sym, ap, ◌∙◌}
use mathlib.Core.Bool.{Bool, true, false, not}
use Prim.Native.Nat.{ℕ}
use lib.Dec.{leb, ltb}
use lib.IntN.{ℤ, pos, negsuc}
use lib.Signed.{le_z, lt_z}
use mir.Syntax.{Width}
use mir.Val.{SFits, to_z, of_z}
use mir.Facts.{to_z-of_z}
use borrow.Author.Tests.{le-leb, lt-leb, ltb-true, ltb-false}

pub leb-is : (a b : ℕ) → leb b a ≡ not (ltb a b)
leb-is a b = go (ltb a b) refl
  where
    go : (t : Bool) → ltb a b ≡ t → leb b a ≡ not t
    go true e = lt-leb b a (ltb-true a b e)
    go false e = le-leb b a (ltb-false a b e)

pub le_z-is : (a b : ℤ) → le_z b a ≡ not (lt_z a b)
le_z-is (pos a) (pos b) = leb-is a b
le_z-is (pos a) (negsuc b) = refl
le_z-is (negsuc a) (pos b) = refl
le_z-is (negsuc a) (negsuc b) = leb-is b a

pub lt_z-is : (a b : ℤ) → lt_z b a ≡ not (le_z a b)
lt_z-is a b = sym (not-not (lt_z b a)) ∙ ap not (sym (le_z-is b a))
  where
    not-not : (t : Bool) → not (not t) ≡ t
    not-not true = refl
    not-not false = refl

-- a signed word a against a number b
module _ (w : Width) (a b : ℤ) where
  pub word_below : {t : Bool} → SFits w a → lt_z (to_z w (of_z w a)) b ≡ t → le_z b a ≡ not t
  word_below f e = le_z-is a b ∙ ap not (sym (ap (λ (z : ℤ). lt_z z b) (to_z-of_z f)) ∙ e)

  pub word-above : {t : Bool} → SFits w a → lt_z b (to_z w (of_z w a)) ≡ t → le_z a b ≡ not t
  word-above f e = le_z-is b a ∙ ap not (sym (ap (λ (z : ℤ). lt_z b z) (to_z-of_z f)) ∙ e)

  pub word-at-most : {t : Bool} → SFits w a → le_z (to_z w (of_z w a)) b ≡ t → lt_z b a ≡ not t
  word-at-most f e = lt_z-is a b ∙ ap not (sym (ap (λ (z : ℤ). le_z z b) (to_z-of_z f)) ∙ e)
