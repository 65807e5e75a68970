-- `pairs::raised` meets its contract: below 0 the other number is its size with a minus, and else its size. Assumes nothing.
use Rattle.std.proofs.Common.{◌≡◌, ◌*◌, ◌^◌, ◌≤◌, true, false, pos, neg_ℤ, nat_abs, ◌+ℤ◌, ◌-ℤ◌, ◌*ℤ◌, sym, ap, ◌∙◌, arith, ℤ, w64, SFits, to_z, of_z, to_z-of_z}
use lib.IntN.{+ℤ_idl}
use lib.Signed.{non_neg}
use Rattle.whole.proofs.Magnitude.{nat_abs-neg}
use Rattle.whole.proofs.Words.{tested, is_pos, is-neg}
use Rattle.load.proofs.Terms.{word_of, raised-on, raised-back}
use Rattle.load.proofs.pairs.raised.Goals as goal

-- 0 - a is -a
module _ (a : ℤ) (f : SFits w64 a) (few : nat_abs a ≤ 4_000_000_000_000_000_000) where
  less : pos 0 -ℤ to_z w64 (of_z w64 a) ≡ neg_ℤ a
  less = ap (λ z. pos 0 -ℤ z) (to_z-of_z f) ∙ +ℤ_idl (neg_ℤ a)

  less-few : nat_abs (neg_ℤ a) ≤ 4_000_000_000_000_000_000
  less-few = rw (nat_abs-neg a) few

  less-fits : SFits w64 (neg_ℤ a)
  less-fits = word_of (neg_ℤ a) (omega (arith, less-few))

  less-back : to_z w64 (of_z w64 (pos 0 -ℤ to_z w64 (of_z w64 a))) ≡ neg_ℤ a
  less-back = ap (λ z. to_z w64 (of_z w64 z)) less ∙ to_z-of_z less-fits

pub returns-then-z-lt0-clause-value : goal.returns-then-z-lt0-clause-value
returns-then-z-lt0-clause-value c =
    let z = c.args.z in
    let negative : non_neg z ≡ false = tested w64 z true c.ranges.z c.if-z-lt0.true in
    raised-back c.args.a c.lifted.result (nat_abs z) (c.lifted.ensures.value ∙ ap (λ y. y +ℤ pos (2 ^ 62)) (less-back _ c.ranges.a c.requires))
    ∙ ap (λ y. c.args.a *ℤ y +ℤ pos (2 ^ 62 * nat_abs z)) (sym (is-neg z negative))

pub returns-else-z-lt0-clause-value : goal.returns-else-z-lt0-clause-value
returns-else-z-lt0-clause-value c =
    let z = c.args.z in
    let positive : non_neg z ≡ true = tested w64 z false c.ranges.z c.if-z-lt0.false in
    raised-on c.args.a c.lifted-else-z-lt0.result (nat_abs z) (c.lifted-else-z-lt0.ensures.value ∙ ap (λ y. y +ℤ pos (2 ^ 62)) (to_z-of_z c.ranges.a))
    ∙ ap (λ y. c.args.a *ℤ y +ℤ pos (2 ^ 62 * nat_abs z)) (sym (is_pos z positive))
