-- What a field's decimal is in a unit (document 01, "Numbers"): microseconds and millionths are the unit 10^-6, millidegrees 10^-3. The value is rounded once,
-- from the exact decimal, and "out of range, after rounding" is said of that one whole number, however large it is.
use Rattle.std.specs.Prelude.{Bool, true, false, cond, ◌&&◌, Option, Some, None, ℕ, leb, ◌*◌, ◌^◌, ℤ, pos, neg_ℤ, ◌*ℤ◌}
use Rattle.std.proofs.Math.Nat.{one-le-pow}
use Rattle.std.proofs.Common.{lit<}
use Rattle.std.specs.Int.Signed.{le_z}
use Rattle.whole.specs.Nearest.{nearest, nearest_ℤ}
use Rattle.whole.specs.Fraction.{Fraction}
use Rattle.field.specs.declared.decimal.Decimal.{Decimal}

-- a size with its sign
unfoldable pub with_sign : Bool → ℕ → ℤ
with_sign true n = neg_ℤ (pos n)
with_sign false n = pos n

-- the exact decimal: the digits with their sign, times ten to the power up, over ten to the power down
unfoldable pub exact : Decimal → Fraction
exact d = record { num = with_sign d.negative (d.digits * 10 ^ d.up); den = 10 ^ d.down; above = one-le-pow d.down 10 (lit< tt) }

-- in units of 10^-places, rounded once
unfoldable pub units : Decimal → ℕ → ℤ
units d places = nearest_ℤ ((exact d).num *ℤ pos (10 ^ places)) (exact d).den

-- a size up to 2^31, which every signed word of 32 bits keeps to; none where it is larger
abbrev pub within_word : ℕ → Option ℕ
within_word n = cond (leb n (2 ^ 31)) (Some n) None

-- a whole number held to a range: none where it is out of it
unfoldable pub in_range : ℤ → ℤ → ℤ → Option ℤ
in_range low high z = cond (le_z low z && le_z z high) (Some z) None

unfoldable pub in_units : Decimal → ℕ → ℤ → ℤ → Option ℤ
in_units d places low high = in_range low high (units d places)

-- "ticks of 0.0001 Hz, 10^10 over the microseconds, rounded"
unfoldable pub tick_of : ℕ → ℕ
tick_of microseconds = nearest (10 ^ 10) microseconds
