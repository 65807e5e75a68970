-- How a number is written, in the listing ("1000 0 1250 0 -30000 4000", document 01) and in the ProteusDS text (document 02, M-100), as a grammar of bytes: a digit is 48 (0) to 57 (9), a
-- minus 45 and a point 46. Nothing is divided here: the digits of a text say a number by powers of ten. Of each number the definitions that the code is held to write exactly the text
-- of the grammar, so there is but one.
use Rattle.std.specs.Prelude.{List, [], ◌∷◌, ◌++◌, ◌↔◌, ◌≡◌, ℕ, ◌≤◌, ℤ, pos, nat_abs, length, ◌≤ℤ◌, ◌<ℤ◌}
use Rattle.promises_fields.specs.Fields.{Digits, saying}
use Rattle.text.specs.Decimal.{natural, signed, decimal}

-- ---- the parts of a written number

-- a minus where the number is below 0, and nothing where it is not
pub data MinusIs (z : ℤ) (text : List ℕ) : Type 0 where
  below-0 : z <ℤ pos 0 → text ≡ 45 ∷ [] → MinusIs z text
  from-0 : pos 0 ≤ℤ z → text ≡ [] → MinusIs z text

-- digits, one at least, with no needless zero: a 48 in front stands alone
pub record WholeDigits (text : List ℕ) : Type 0 where
  pub only-digits : Digits text
  pub some : 1 ≤ length text
  pub no-needless-zero : (rest : List ℕ) → text ≡ 48 ∷ rest → rest ≡ []

-- ---- whole numbers

-- "-30000": a minus or none, and digits that say the number's size
pub record WholeIs (z : ℤ) (text : List ℕ) : Type 0 where
  pub sign : List ℕ
  pub digits : List ℕ
  pub whole : text ≡ sign ++ digits
  pub signed : MinusIs z sign
  pub right : WholeDigits digits
  pub says : saying digits ≡ nat_abs z

abbrev pub WholeExactly : Type 0
WholeExactly = (z : ℤ) (text : List ℕ) → (signed z ≡ text) ↔ WholeIs z text

-- a number that is never below 0, as a tick is
abbrev pub NaturalExactly : Type 0
NaturalExactly = (n : ℕ) (text : List ℕ) → (natural n ≡ text) ↔ WholeIs (pos n) text

-- ---- decimals

-- "-0.020000", with so many places: a minus or none; digits with no needless zero; a point; and as many digits as places. All the digits say the number's size in units of the last place
pub record DecimalIs (places : ℕ) (z : ℤ) (text : List ℕ) : Type 0 where
  pub sign : List ℕ
  pub before : List ℕ
  pub behind : List ℕ
  pub whole : text ≡ sign ++ (before ++ (46 ∷ behind))
  pub signed : MinusIs z sign
  pub right : WholeDigits before
  pub only-digits : Digits behind
  pub as_many : length behind ≡ places
  pub says : saying (before ++ behind) ≡ nat_abs z

-- with no place it is a whole number, and has no point
pub data NumberIs (places : ℕ) (z : ℤ) (text : List ℕ) : Type 0 where
  no_place : places ≡ 0 → WholeIs z text → NumberIs places z text
  some-place : 1 ≤ places → DecimalIs places z text → NumberIs places z text

abbrev pub DecimalExactly : Type 0
DecimalExactly = (places : ℕ) (z : ℤ) (text : List ℕ) → (decimal places z ≡ text) ↔ NumberIs places z text
