-- `whole::rounding::nearest_signed` meets its contract: the size is rounded, and keeps its sign. Assumes nothing.
use mathlib.Core.Path.{◌≡◌, sym, ◌∙◌, ap}
use mathlib.Core.Bool.{true, false}
use Prim.Native.Nat.{ℕ, ◌^◌, ◌≤◌, ◌<◌, min}
use native.Mathlib.Omega.{arith}
use lib.IntN.{ℤ, pos, neg_ℤ, nat_abs}
use lib.Signed.{non_neg, nat_abs-le}
use mir.Syntax.{w64}
use mir.Facts.{to_z-of_z, to_z_pos}
use Rattle.whole.specs.Nearest.{nearest, nearest_ℤ}
use Rattle.whole.proofs.Nearest.{nearest-le, nearest-neg}
use Rattle.whole.proofs.Words.{mag-positive, tested, is_pos, is-neg}
use Rattle.whole.proofs.rounding.nearest_signed.Goals as goal
use Rattle.whole.proofs.rounding.nearest_signed.Goals.{After-nearest-q}

-- the size, rounded, and that it is at most the size
module _ (c : After-nearest-q) where
  abbrev x : ℤ
  x = c.before.before.args.x

  abbrev d : ℕ
  d = c.before.before.args.d

  rounded : c.nearest-q.result ≡ nearest (nat_abs x) d
  rounded = c.nearest-q.ensures ∙ ap (λ (n : ℕ). nearest n d) (c.before.unsigned_abs.ensures.value ∙ ap nat_abs (to_z-of_z c.before.before.ranges.x))

  small : c.nearest-q.result ≤ nat_abs x
  small = omega (arith, rounded, nearest-le (nat_abs x) d)

-- below 0 the rounded size is at most 2^63, and with the minus it is what x rounds to
pub returns-then-x-lt0 : goal.returns-then-x-lt0
returns-then-x-lt0 c =
    let a = c.before.before in
    let h = nat_abs-le (x a) a.before.before.ranges.x.sfits in
    let e : min a.nearest-q.result (2 ^ 63) ≡ a.nearest-q.result = omega (arith, small a) in
    let negative : non_neg (x a) ≡ false = tested w64 (x a) true a.before.before.ranges.x c.before.if-x-lt0.true in
    to_z-of_z {w = w64} record { sfits = c.minus.type_inv }
    ∙ c.minus.ensures
    ∙ ap (λ (n : ℕ). neg_ℤ (pos n)) (e ∙ rounded a)
    ∙ sym (nearest-neg (pos (nat_abs (x a))) (d a))
    ∙ ap (λ z. nearest_ℤ z (d a)) (sym (is-neg (x a) negative))

-- else it is below 2^63
module _ (c : goal.Else-x-lt0) where
  positive : non_neg (x c.before) ≡ true
  positive = tested w64 (x c.before) false c.before.before.before.ranges.x c.if-x-lt0.false

  below : c.before.nearest-q.result < 2 ^ 63
  below =
      let a = c.before in
      omega (arith, small a, mag-positive (x a) positive, a.before.before.ranges.x.sfits)

pub overflow_cast-result : goal.overflow_cast-result
overflow_cast-result c = record { sfits = below c }

pub returns : goal.returns
returns c =
    let a = c.before in
    to_z_pos w64 (below c) ∙ ap pos (rounded a) ∙ ap (λ z. nearest_ℤ z (d a)) (sym (is_pos (x a) (positive c)))
