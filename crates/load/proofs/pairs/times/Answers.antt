-- `pairs::times` meets its contract: every product on the way is a word, by the laws of Terms. Assumes nothing.
use mathlib.Core.Path.{◌≡◌, sym, ap, ◌∙◌, subst}
use Prim.Native.Nat.{◌*◌, ◌≤◌}
use borrow.Author.Rules.{rules}
use lib.IntN.{ℤ, ◌+ℤ◌, ◌-ℤ◌, ◌*ℤ◌}
use mir.Syntax.{w64}
use mir.Val.{SFits, to_z, of_z}
use mir.Facts.{to_z-of_z}
use Rattle.whole.specs.Complex.{Complex, ◌*ᶜ◌, sizes}
use Rattle.load.specs.own.Terms.{complex}
use Rattle.load.proofs.Terms.{re-re, im-im, re-im, im-re, real, imaginary}
use Rattle.load.proofs.pairs.times.Goals as goal
use Rattle.load.proofs.pairs.times.Lts as lts
use Rattle.load.proofs.pairs.times.Reads as reads

abbrev Start : Type 0
Start = lts.Start reads.Pre reads.Post

abbrev back : ℤ → ℤ
back z = to_z w64 (of_z w64 z)

-- a product of two words, and the product read back
product_is : {a b : ℤ} → SFits w64 a → SFits w64 b → back a *ℤ back b ≡ a *ℤ b
product_is f g = λ i. to_z-of_z f i *ℤ to_z-of_z g i

product-back : {a b : ℤ} → SFits w64 a → SFits w64 b → SFits w64 (a *ℤ b) → back (back a *ℤ back b) ≡ a *ℤ b
product-back f g h = ap back (product_is f g) ∙ to_z-of_z h

module _ (c : Start) where
  abbrev w : Complex
  w = complex c.args.w

  abbrev z : Complex
  z = complex c.args.z

  w-re : SFits w64 w.re
  w-re = search rules

  w-im : SFits w64 w.im
  w-im = search rules

  z-re : SFits w64 z.re
  z-re = search rules

  z-im : SFits w64 z.im
  z-im = search rules

  room : sizes w * sizes z ≤ 9_000_000_000_000_000_000
  room = c.requires

  difference : back (back w.re *ℤ back z.re) -ℤ back (back w.im *ℤ back z.im) ≡ (w *ᶜ z).re
  difference = λ i. product-back w-re z-re (re-re w z room) i -ℤ product-back w-im z-im (im-im w z room) i

  sum : back (back w.re *ℤ back z.im) +ℤ back (back w.im *ℤ back z.re) ≡ (w *ᶜ z).im
  sum = λ i. product-back w-re z-im (re-im w z room) i +ℤ product-back w-im z-re (im-re w z room) i

pub overflow_mul-result : goal.overflow_mul-result
overflow_mul-result c =
    subst (SFits w64) (sym (product_is (w-re c.before.before.before.before.before) (z-re c.before.before.before.before.before))) (re-re (w c.before.before.before.before.before) (z c.before.before.before.before.before) (room c.before.before.before.before.before))

pub overflow_mul-result-2 : goal.overflow_mul-result-2
overflow_mul-result-2 c =
    subst (SFits w64) (sym (product_is (w-im c.before.before.before.before.before.before.before.before.before) (z-im c.before.before.before.before.before.before.before.before.before))) (im-im (w c.before.before.before.before.before.before.before.before.before) (z c.before.before.before.before.before.before.before.before.before) (room c.before.before.before.before.before.before.before.before.before))

pub overflow_sub-result : goal.overflow_sub-result
overflow_sub-result c =
    subst (SFits w64) (sym (difference c.before.before.before.before.before.before.before.before.before)) (real (w c.before.before.before.before.before.before.before.before.before) (z c.before.before.before.before.before.before.before.before.before) (room c.before.before.before.before.before.before.before.before.before))

pub overflow_mul-result-3 : goal.overflow_mul-result-3
overflow_mul-result-3 c =
    subst (SFits w64) (sym (product_is (w-re c.before.before.before.before.before.before.before.before.before.before.before.before.before) (z-im c.before.before.before.before.before.before.before.before.before.before.before.before.before))) (re-im (w c.before.before.before.before.before.before.before.before.before.before.before.before.before) (z c.before.before.before.before.before.before.before.before.before.before.before.before.before) (room c.before.before.before.before.before.before.before.before.before.before.before.before.before))

pub overflow_mul-result-4 : goal.overflow_mul-result-4
overflow_mul-result-4 c =
    subst (SFits w64) (sym (product_is (w-im c.before.before.before.before.before.before.before.before.before.before.before.before.before.before.before.before) (z-re c.before.before.before.before.before.before.before.before.before.before.before.before.before.before.before.before))) (im-re (w c.before.before.before.before.before.before.before.before.before.before.before.before.before.before.before.before) (z c.before.before.before.before.before.before.before.before.before.before.before.before.before.before.before.before) (room c.before.before.before.before.before.before.before.before.before.before.before.before.before.before.before.before))

pub overflow_add-result : goal.overflow_add-result
overflow_add-result c =
    subst (SFits w64) (sym (sum c.before.before.before.before.before.before.before.before.before.before.before.before.before.before.before.before)) (imaginary (w c.before.before.before.before.before.before.before.before.before.before.before.before.before.before.before.before) (z c.before.before.before.before.before.before.before.before.before.before.before.before.before.before.before.before) (room c.before.before.before.before.before.before.before.before.before.before.before.before.before.before.before.before))

pub returns : goal.returns
returns c =
    let re = ap back (difference c.before.before.before.before.before.before.before.before.before.before.before.before.before.before.before.before) ∙ to_z-of_z (real (w c.before.before.before.before.before.before.before.before.before.before.before.before.before.before.before.before) (z c.before.before.before.before.before.before.before.before.before.before.before.before.before.before.before.before) (room c.before.before.before.before.before.before.before.before.before.before.before.before.before.before.before.before)) in
    let im = ap back (sum c.before.before.before.before.before.before.before.before.before.before.before.before.before.before.before.before) ∙ to_z-of_z (imaginary (w c.before.before.before.before.before.before.before.before.before.before.before.before.before.before.before.before) (z c.before.before.before.before.before.before.before.before.before.before.before.before.before.before.before.before) (room c.before.before.before.before.before.before.before.before.before.before.before.before.before.before.before.before)) in
    λ i. record { re = re i; im = im i }
