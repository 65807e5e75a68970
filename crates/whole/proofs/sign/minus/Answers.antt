-- `whole::sign::minus` meets its contract: nothing, the least number, or -1 - (n - 1). Assumes nothing.
use mathlib.Core.Path.{◌≡◌, sym, ◌∙◌, ap}
use Prim.Native.Nat.{ℕ, ◌+◌, ◌-◌, ◌^◌, ◌<◌, min}
use native.Mathlib.Omega.{arith}
use lib.Dec.{lit<}
use lib.IntN.{pos, negsuc, neg_ℤ, ◌-ℤ◌}
use mir.Syntax.{w64}
use mir.Val.{SFits, to_z, of_z}
use mir.Facts.{to_z-of_z, to_z_pos}
use Rattle.whole.proofs.Words.{one_more, neg-fits}
use Rattle.whole.proofs.sign.minus.Goals as goal

pub returns-then-n-eq0 : goal.returns-then-n-eq0
returns-then-n-eq0 c = let e : min c.before.args.n (2 ^ 63) ≡ 0 = omega arith in simp e

pub returns-then-n-gt9223372036854775808 : goal.returns-then-n-gt9223372036854775808
returns-then-n-gt9223372036854775808 c = let e : min c.before.before.args.n (2 ^ 63) ≡ 2 ^ 63 = omega arith in simp e

-- -1 - (n - 1) is -n, which fits
module _ (c : goal.Else-n-gt9223372036854775808) where
  abbrev n : ℕ
  n = c.before.before.args.n

  minus_is : negsuc 0 -ℤ to_z w64 (n - 1) ≡ neg_ℤ (pos n)
  minus_is =
      let h : n - 1 < 2 ^ 63 = omega arith in
      let e : n - 1 + 1 ≡ n = omega arith in
      ap (λ z. negsuc 0 -ℤ z) (to_z_pos w64 h) ∙ one_more (n - 1) ∙ ap (λ (k : ℕ). neg_ℤ (pos k)) e

  minus-fits : SFits w64 (neg_ℤ (pos n))
  minus-fits = neg-fits n (omega arith) (lit< tt)

pub overflow_sub-result-2 : goal.overflow_sub-result-2
overflow_sub-result-2 c = rw (minus_is c) (minus-fits c)

pub returns : goal.returns
returns c =
    let e : min (n c) (2 ^ 63) ≡ n c = omega arith in
    ap (λ z. to_z w64 (of_z w64 z)) (minus_is c) ∙ to_z-of_z (minus-fits c) ∙ ap (λ (k : ℕ). neg_ℤ (pos k)) (sym e)
