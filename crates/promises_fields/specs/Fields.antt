-- What a field is (document 01, "Numbers"), as a grammar of its bytes: "optional sign, digits with at most one point, at least one and at most 15 digits, then optionally E or e, an
-- optional sign and one or two digits"; and what the decimal is that it says. Nothing is read from left to right here: a field is a text that can be put together so. The definition that
-- the code is held to, `field_of`, reads exactly these.
use Rattle.std.specs.Prelude.{Bool, true, false, List, [], ◌∷◌, ◌++◌, ◌⊎◌, ◌↔◌, ◌≡◌, ℕ, ◌+◌, ◌*◌, ◌-◌, ◌^◌, ◌≤◌, length, Some, None}
use Rattle.field.specs.declared.decimal.Decimal.{Decimal}
use Rattle.field.specs.Form.{field_of}

-- ---- signs and digits

-- "optional sign": nothing or +, which say no minus, or -
pub data SignIs : List ℕ → Bool → Type 0 where
  unsigned : SignIs [] false
  plus : SignIs (43 ∷ []) false
  minus : SignIs (45 ∷ []) true

-- digits, each a byte from 48 (0) to 57 (9); or none
pub data Digits : List ℕ → Type 0 where
  no_digit : Digits []
  digit : {b : ℕ} {s : List ℕ} → 48 ≤ b → b ≤ 57 → Digits s → Digits (b ∷ s)

-- the number that digits say: each counts as many tens as digits stand behind it
unfoldable pub saying : List ℕ → ℕ
saying [] = 0
saying (b ∷ s) = (b - 48) * 10 ^ length s + saying s

-- ---- the parts of a field

-- "at most one point": a point, with digits behind it or none; or no point, and then nothing behind it
pub data PointIs : List ℕ → List ℕ → Type 0 where
  no-point : PointIs [] []
  point : {behind : List ℕ} → PointIs (46 ∷ []) behind

-- "E or e, an optional sign and one or two digits": E is byte 69, and e is 101
pub record PowerIs (text : List ℕ) (negative : Bool) (power : ℕ) : Type 0 where
  pub letter : ℕ
  pub sign : List ℕ
  pub digits : List ℕ
  pub whole : text ≡ letter ∷ (sign ++ digits)
  pub lettered : (letter ≡ 69) ⊎ (letter ≡ 101)
  pub signed : SignIs sign negative
  pub only-digits : Digits digits
  pub some : 1 ≤ length digits
  pub few : length digits ≤ 2
  pub says : power ≡ saying digits

-- "then optionally": so many tens up, or so many down
pub data ExponentIs (text : List ℕ) (up down : ℕ) : Type 0 where
  no-exponent : text ≡ [] → up ≡ 0 → down ≡ 0 → ExponentIs text up down
  upwards : PowerIs text false up → down ≡ 0 → ExponentIs text up down
  downwards : up ≡ 0 → PowerIs text true down → ExponentIs text up down

-- ---- the field

-- the text is a field that says this decimal: a minus or none, all its digits as one number, the tens up, and the tens down with one for each digit behind the point
pub record FieldIs (text : List ℕ) (d : Decimal) : Type 0 where
  pub sign : List ℕ
  pub before : List ℕ
  pub point : List ℕ
  pub behind : List ℕ
  pub exponent : List ℕ
  pub down : ℕ
  pub whole : text ≡ sign ++ (before ++ (point ++ (behind ++ exponent)))
  pub signed : SignIs sign d.negative
  pub digits-before : Digits before
  pub digits-behind : Digits behind
  pub pointed : PointIs point behind
  pub some : 1 ≤ length (before ++ behind)
  pub few : length (before ++ behind) ≤ 15
  pub says : d.digits ≡ saying (before ++ behind)
  pub powered : ExponentIs exponent d.up down
  pub tens-down : d.down ≡ length behind + down

abbrev pub FieldExactly : Type 0
FieldExactly = (text : List ℕ) (d : Decimal) → (field_of text ≡ Some d) ↔ FieldIs text d

-- and what is no field has the wrong form
abbrev pub FieldWrong : Type 0
FieldWrong = (text : List ℕ) → (field_of text ≡ None) ↔ ((d : Decimal) → FieldIs text d → ⊥)
