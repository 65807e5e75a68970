-- A word read as a number. Besides what `natural` and `decimal` write it may have zeros before its digits, and a minus before 0.
use Rattle.std.specs.Prelude.{cond, ◌&&◌, List, [], ◌∷◌, ◌++◌, ℕ, eqb, leb, ℤ, pos, neg_ℤ, length}
use Rattle.std.proofs.Math.Option.{Option, none, some, map}
use Rattle.field.specs.Form.{all_digits, numeral}
use Rattle.text.specs.Parts.{parts}

-- at least one digit, and nothing else
unfoldable pub read_natural : List ℕ → Option ℕ
read_natural w = cond (leb 1 (length w) && all_digits w) (some (numeral 0 w)) none

-- units of 10^-places with no sign, from what stands between points: digits, and then a point and as many digits as there are places, or neither where there are
-- none. The digits before the point and behind it are one number
unfoldable pub read_size : ℕ → List (List ℕ) → Option ℕ
read_size places [] = none
read_size places (whole ∷ []) = cond (eqb places 0) (read_natural whole) none
read_size places (whole ∷ decimals ∷ []) =
    cond (leb 1 (length whole) && (leb 1 places && eqb (length decimals) places)) (read_natural (whole ++ decimals)) none
read_size places (whole ∷ decimals ∷ other ∷ more) = none

-- units of 10^-places, with a minus before them where they are below 0
unfoldable pub read_decimal : ℕ → List ℕ → Option ℤ
read_decimal places [] = none
read_decimal places (b ∷ s) =
    cond (eqb b 45) (map (λ n. neg_ℤ (pos n)) (read_size places (parts 46 s))) (map pos (read_size places (parts 46 (b ∷ s))))
