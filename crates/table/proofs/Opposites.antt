-- The opposite of a word of 32 bits, as std's negation that wraps has it: the least word stays, and of every other it is -z, which fits. Assumes nothing.
use mathlib.Core.Path.{◌≡◌, refl, sym, ap, ◌∙◌}
use mathlib.Core.Bool.{Bool, true, false, cond}
use native.Mathlib.Omega.{arith}
use borrow.Author.Tests.{eqb-false}
use lib.Dec.{lit<}
use lib.IntN.{ℤ, pos, negsuc, neg_ℤ}
use mir.Syntax.{w32}
use mir.Val.{SFits}
use Rattle.std.specs.Int.{int_wrapping_neg}
use Rattle.std.proofs.lemmas.Int.{wrapping_neg_is, int_wrap_fits}
use Rattle.whole.specs.Same.{same_ℤ}
use Rattle.whole.proofs.Same.{same_ℤ-true}
use Rattle.whole.proofs.Words.{neg-fits}
use Rattle.table.specs.Cells.{opposite}

abbrev least : ℤ
least = negsuc 2_147_483_647

opposite-fits : (z : ℤ) → SFits w32 z → same_ℤ z least ≡ false → SFits w32 (neg_ℤ z)
opposite-fits (pos n) f e = neg-fits n (omega arith) (lit< tt)
opposite-fits (negsuc n) f e = record { sfits = omega (arith, eqb-false n 2_147_483_647 e) }

pub opposite-is : (z : ℤ) → SFits w32 z → int_wrapping_neg w32 z ≡ opposite z
unfolding opposite
opposite-is z f = go (same_ℤ z least) refl
  where
    go : (t : Bool) → same_ℤ z least ≡ t → int_wrapping_neg w32 z ≡ cond t z (neg_ℤ z)
    go true e = let is = same_ℤ-true z least e in ap (int_wrapping_neg w32) is ∙ sym is
    go false e = wrapping_neg_is w32 z f ∙ int_wrap_fits w32 (neg_ℤ z) (opposite-fits z f e)
