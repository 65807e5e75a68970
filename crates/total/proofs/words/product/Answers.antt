-- `total::words::product` meets its contract: the words of `wide` are |a| |c|, at most 2^94, and the test tells whether the signs differ. Assumes nothing.
use Rattle.std.proofs.Common.{◌≡◌, ℕ, ◌*◌, ◌^◌, ◌<◌, Bool, true, false, not, ℤ, pos, negsuc, ◌*ℤ◌, neg_ℤ, nat_abs, sym, refl, ap, ◌∙◌, lt_of_le_of_lt, mul-le-mul, lit<, to_z-of_z, w32, w64, SFits, to_z, of_z}
use mathlib.Core.Bool.{beq}
use lib.Signed.{non_neg, nat_abs-le, lt_z}
use Rattle.whole.proofs.Words.{tested}
use Rattle.total.specs.Total.{words, meaning}
use Rattle.total.specs.declared.words.Total.{Total}
use Rattle.total.proofs.Totals.{plain}
use Rattle.total.proofs.Sums.{exact-negated}
use Rattle.total.proofs.words.product.Goals as goal

-- n, or -n where the signs differ
abbrev signed : Bool → ℕ → ℤ
signed true n = pos n
signed false n = neg_ℤ (pos n)

by-signs : (a c : ℤ) → a *ℤ c ≡ signed (beq (non_neg a) (non_neg c)) (nat_abs a * nat_abs c)
by-signs (pos a) (pos c) = refl
by-signs (pos a) (negsuc c) = refl
by-signs (negsuc a) (pos c) = refl
by-signs (negsuc a) (negsuc c) = refl

not_same : (s t : Bool) → beq (not s) (not t) ≡ beq s t
not_same true true = refl
not_same true false = refl
not_same false true = refl
not_same false false = refl

module _ (a k : ℤ) (fa : SFits w64 a) (fk : SFits w32 k) where
  -- the code's tests, and what they say of the product
  abbrev below-a : Bool
  below-a = lt_z (to_z w64 (of_z w64 a)) (pos 0)

  abbrev below-k : Bool
  below-k = lt_z (to_z w32 (of_z w32 k)) (pos 0)

  product_is : (b : Bool) → beq below-a below-k ≡ b → a *ℤ k ≡ signed b (nat_abs a * nat_abs k)
  product_is b e =
      let p = tested w64 a below-a fa refl in
      let q = tested w32 k below-k fk refl in
      by-signs a k ∙ ap (λ (t : Bool). signed t (nat_abs a * nat_abs k)) ((λ i. beq (p i) (q i)) ∙ not_same below-a below-k ∙ e)

  -- its size has room
  below : nat_abs a * nat_abs k < 2 ^ 127
  below = lt_of_le_of_lt (mul-le-mul (nat_abs-le a fa.sfits) (nat_abs-le k fk.sfits)) (lit< tt)

  -- what `wide` returns of the two sizes
  means : (t : Total) (m n : ℕ) → m ≡ nat_abs (to_z w64 (of_z w64 a)) → n ≡ nat_abs (to_z w32 (of_z w32 k)) → words t ≡ m * n → meaning t ≡ pos (nat_abs a * nat_abs k)
  means t m n e f w =
      let first = e ∙ ap nat_abs (to_z-of_z fa) in
      let second = f ∙ ap nat_abs (to_z-of_z fk) in
      let is : words t ≡ nat_abs a * nat_abs k = w ∙ (λ i. first i * second i) in
      plain t (rw is below) ∙ ap pos is

pub returns-then-a-c : goal.returns-then-a-c
returns-then-a-c c =
    let fa = c.ranges.a in
    let fk = c.ranges.c in
    means _ _ fa fk _ _ _ c.unsigned_abs.ensures.value c.unsigned_abs-2.ensures.value c.wide-p.ensures ∙ sym (product_is _ _ fa fk true c.if-a-c.true)

pub returns-else-a-c : goal.returns-else-a-c
returns-else-a-c c =
    let fa = c.ranges.a in
    let fk = c.ranges.c in
    let is = means _ _ fa fk _ _ _ c.unsigned_abs.ensures.value c.unsigned_abs-2.ensures.value c.wide-p.ensures in
    exact-negated (rw is (below _ _ fa fk)) c.negated.ensures ∙ ap neg_ℤ is ∙ sym (product_is _ _ fa fk false c.if-a-c.false)
