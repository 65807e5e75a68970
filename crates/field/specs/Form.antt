-- The form of a field (document 01, "Numbers"): "optional sign, digits with at most one point, at least one and at most 15 digits, then optionally E or e, an
-- optional sign and one or two digits". Here it is read off the field's bytes from left to right, and with it the decimal that the field says.
use Rattle.std.specs.Prelude.{Bool, true, false, cond, ◌&&◌, ◌||◌, Option, Some, None, List, [], ◌∷◌, ◌++◌, ℕ, ◌+◌, ◌*◌, ◌-◌, eqb, leb, length}
use Rattle.field.specs.declared.decimal.Decimal.{Decimal}
use Rattle.field.specs.declared.form.Exponent.{Exponent}

-- ---- bytes

-- 0 to 9
abbrev pub is_digit : ℕ → Bool
is_digit b = leb 48 b && leb b 57

abbrev pub is_point : ℕ → Bool
is_point b = eqb b 46

-- + or -
abbrev pub is_sign : ℕ → Bool
is_sign b = eqb b 43 || eqb b 45

-- E or e
abbrev pub is_exponent : ℕ → Bool
is_exponent b = eqb b 69 || eqb b 101

-- ---- runs of bytes

-- the bytes after one of a kind, if they start with one: an optional sign, an optional point
unfoldable pub without : (ℕ → Bool) → List ℕ → List ℕ
without kind [] = []
without kind (b ∷ s) = cond (kind b) s (b ∷ s)

unfoldable pub starts_minus : List ℕ → Bool
starts_minus [] = false
starts_minus (b ∷ s) = eqb b 45

-- the digits that they start with, and what follows those
unfoldable pub leading : List ℕ → List ℕ
leading [] = []
leading (b ∷ s) = cond (is_digit b) (b ∷ leading s) []

unfoldable pub after : List ℕ → List ℕ
after [] = []
after (b ∷ s) = cond (is_digit b) (after s) (b ∷ s)

unfoldable pub all_digits : List ℕ → Bool
all_digits [] = true
all_digits (b ∷ s) = is_digit b && all_digits s

-- the number that digits say, after digits that say v: 0 for those that stand first
unfoldable pub numeral : ℕ → List ℕ → ℕ
numeral v [] = v
numeral v (b ∷ s) = numeral (10 * v + (b - 48)) s

-- ---- the parts of a field

-- the digits before the point, those after it, and what follows both
unfoldable pub before_point : List ℕ → List ℕ
before_point s = leading (without is_sign s)

unfoldable pub decimals : List ℕ → List ℕ
decimals s = leading (without is_point (after (without is_sign s)))

unfoldable pub exponent : List ℕ → List ℕ
exponent s = after (without is_point (after (without is_sign s)))

-- no exponent at all, a power of 0; or E or e, an optional sign and one or two digits
unfoldable pub exponent_of : List ℕ → Option Exponent
exponent_of [] = Some record { minus = false; power = 0 }
exponent_of (b ∷ s) =
    let power = without is_sign s in
    cond (is_exponent b && (all_digits power && (leb 1 (length power) && leb (length power) 2)))
    (Some record { minus = starts_minus s; power = numeral 0 power })
    None

-- ---- the field

-- the decimal of a field with its exponent: all its digits as one number, as many tens down as there are decimals, and the exponent up or down
unfoldable pub number_with : List ℕ → Option Exponent → Option Decimal
number_with s (Some e) =
    Some record {
      negative = starts_minus s;
      digits = numeral 0 (before_point s ++ decimals s);
      up = cond e.minus 0 e.power;
      down = length (decimals s) + cond e.minus e.power 0;
    }
number_with s None = None

-- none where the form is wrong
unfoldable pub field_of : List ℕ → Option Decimal
field_of s =
    let count = length (before_point s ++ decimals s) in
    cond (leb 1 count && leb count 15) (number_with s (exponent_of (exponent s))) None
