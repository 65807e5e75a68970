-- `doubles::bits_of` meets its contract. Assumes nothing.
use Rattle.std.proofs.Common.{◌≡◌, refl, sym, ◌∙◌, subst, true, not, Bool}
use lib.Dec.{T}
use lib.Ieee.{Float, nan, inf, fin, binary64, is_nan, to_bits}
use Rattle.asking.proofs.doubles.bits_of.Goals as goal

nan-bits : (x : Float) → is_nan x ≡ true → 0x7ff8_0000_0000_0000 ≡ to_bits binary64 x
unfolding to_bits is_nan
nan-bits nan e = refl
nan-bits (inf s) e = cc
nan-bits (fin s m d) e = cc

pub returns-then-is_nan : goal.returns-then-is_nan
returns-then-is_nan c = nan-bits _ (sym c.is_nan.ensures.value ∙ c.if-is_nan.true)

pub float_to_bits-result : goal.float_to_bits-result
float_to_bits-result c = subst (λ (b : Bool). T (not b)) (sym (sym c.is_nan.ensures.value ∙ c.if-is_nan.false)) tt
