-- `doubles::of_bits` meets its contract. Past the test a pattern is no NaN's, and before it every pattern is one.
-- Assumes nothing.
use Rattle.std.proofs.Common.{◌≡◌, refl, sym, ◌∙◌, subst, Bool, not}
use borrow.Author.Tests.{le-ltb, lt-ltb}
use lib.Dec.{T}
use lib.Ieee.{Float, nan, inf, fin, binary64, is_nan, of_bits}
use lib.Ieee.Bits.{nan_bits_above, nan_bits_is}
use Rattle.asking.proofs.doubles.of_bits.Goals as goal

a-nan : of_bits binary64 0x7ff8_0000_0000_0000 ≡ nan
unfolding of_bits
a-nan = refl

the_nan : (x : Float) → T (is_nan x) → nan ≡ x
unfolding is_nan
the_nan nan t = refl
the_nan (inf s) t = absurd t
the_nan (fin s m e) t = absurd t

pub returns-then-bits-gt9218868437227405312 : goal.returns-then-bits-gt9218868437227405312
returns-then-bits-gt9218868437227405312 c =
    let bits = c.args.bits in
    let above = sym (nan_bits_is binary64 bits) ∙ nan_bits_above binary64 bits ∙ lt-ltb _ _ c.if-bits-gt9218868437227405312.true in
    a-nan ∙ the_nan _ (subst T (sym above) tt)

pub float_from_bits-result : goal.float_from_bits-result
float_from_bits-result c =
    subst (λ (b : Bool). T (not b)) (sym (nan_bits_above binary64 c.args.bits ∙ le-ltb _ _ c.if-bits-gt9218868437227405312.false)) tt
