-- Texts, and what each is by the rule (document 01, "Numbers"), read off the rule by hand; that `field_of` says the same of each is computed.
-- Assumes nothing.
use mathlib.Core.Bool.{Bool, true, false, not, ◌&&◌}
use mathlib.Core.List.{List, [], ◌∷◌}
use Prim.Native.Nat.{ℕ}
use Prim.Native.String.{String}
use lib.Dec.{T, eqb}
use Rattle.std.specs.Prelude.{Option, Some, None}
use Rattle.field.specs.declared.decimal.Decimal.{Decimal}
use Rattle.field.specs.Text.{bytes}
use Rattle.field.specs.Form.{without, starts_minus, leading, after, all_digits, numeral}
use Rattle.field.specs.Form.{before_point, decimals, exponent, exponent_of, number_with, field_of}

-- a field: whether it is negative, its digits as one number, and the powers of ten up and down; or a text whose form is wrong
data Case : Type 0 where
  right : String → Bool → ℕ → ℕ → ℕ → Case
  wrong : String → Case

cases : List Case
cases =
    right "5" false 5 0 0
    ∷ right "5." false 5 0 0
    ∷ right ".5" false 5 0 1
    ∷ right "-0.0" true 0 0 1
    ∷ right "+1e-05" false 1 0 5
    ∷ right "0.100000E+02" false 100_000 2 6
    ∷ right "-12.50e99" true 1_250 99 2
    -- 15 digits, leading zeros among them; the exponent's are not counted
    ∷ right "123456789012345" false 123_456_789_012_345 0 0
    ∷ right "999999999999999" false 999_999_999_999_999 0 0
    ∷ right "12345678.1234567E-99" false 123_456_781_234_567 0 106
    ∷ right "000000000000001" false 1 0 0
    ∷ right ".000000000000001" false 1 0 15
    -- 16
    ∷ wrong "1234567890123456"
    ∷ wrong "0000000000000001"
    ∷ wrong "0.000000000000001"
    -- no digit
    ∷ wrong ""
    ∷ wrong "-"
    ∷ wrong "."
    ∷ wrong "+."
    ∷ wrong "E5"
    ∷ wrong ".E5"
    -- a second sign, a second point, an exponent that is not whole
    ∷ wrong "+-1"
    ∷ wrong "1-"
    ∷ wrong "1..5"
    ∷ wrong "1.5."
    ∷ wrong "1E"
    ∷ wrong "1E+"
    ∷ wrong "1E+-5"
    ∷ wrong "1E005"
    ∷ wrong "1E5.0"
    ∷ wrong "1E5E5"
    -- other bytes
    ∷ wrong "*****"
    ∷ wrong "NaN"
    ∷ wrong " 15"
    ∷ wrong "1e5 "
    ∷ wrong "1 5"
    ∷ wrong "1,5"
    ∷ wrong "1D5"
    ∷ []

-- ---- the test

same : Bool → Bool → Bool
same true b = b
same false b = not b

is_number : Option Decimal → Bool → ℕ → ℕ → ℕ → Bool
is_number (Some d) negative digits up down =
    same d.negative negative && (eqb d.digits digits && (eqb d.up up && eqb d.down down))
is_number None negative digits up down = false

is_wrong : Option Decimal → Bool
is_wrong (Some d) = false
is_wrong None = true

holds : Case → Bool
holds (right s negative digits up down) = is_number (field_of (bytes s)) negative digits up down
holds (wrong s) = is_wrong (field_of (bytes s))

all : List Case → Bool
all [] = true
all (c ∷ cs) = holds c && all cs

all_hold : T (all cases)
unfolding all holds is_wrong is_number same bytes cases field_of number_with exponent_of exponent decimals before_point numeral all_digits after leading starts_minus without
all_hold = tt
