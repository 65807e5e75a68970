-- A word read as a number: "decimal with an optional minus". It has at least one digit and nothing else, and a size that 64 bits hold.
use Rattle.std.specs.Prelude.{Bool, true, false, cond, List, [], ◌∷◌, ℕ, zero, suc, ◌+◌, ◌*◌, ◌-◌, ◌^◌, eqb, ltb, length, take, replicate, Option, Some, None}
use Rattle.field.specs.Form.{is_digit}
use Rattle.script.specs.declared.numbers.Number.{Number}
use Rattle.script.specs.declared.numbers.Numbers.{Numbers}

-- the size that digits say which stand behind those of `before`
unfoldable pub onward : ℕ → List ℕ → Option ℕ
onward before [] = Some before
onward before (b ∷ s) = cond (is_digit b) (onward (10 * before + (b - 48)) s) None

-- at least one digit
unfoldable pub size_of : List ℕ → Option ℕ
size_of [] = None
size_of (b ∷ s) = onward 0 (b ∷ s)

unfoldable pub number_in : Bool → Option ℕ → Option Number
number_in minus None = None
number_in minus (Some n) = cond (ltb n (2 ^ 64)) (Some record { minus = minus; size = n }) None

-- a word that is no number is none
unfoldable pub number_of : List ℕ → Option Number
number_of [] = None
number_of (b ∷ s) = cond (eqb b 45) (number_in true (size_of s)) (number_in false (size_of (b ∷ s)))

-- ---- the numbers of a command

-- so many of the words as numbers, and where there are fewer words no numbers in their places
unfoldable pub first_of : ℕ → List (List ℕ) → List (Option Number)
first_of zero ws = []
first_of (suc k) [] = None ∷ first_of k []
first_of (suc k) (w ∷ ws) = number_of w ∷ first_of k ws

-- how many words there are, of which no command takes more than ten: eleven stands for more; and the first ten
unfoldable pub numbers_of : List (List ℕ) → Numbers
numbers_of ws = record { count = length (take 11 ws); all = first_of 10 ws }

abbrev pub nothing : Numbers
nothing = record { count = 0; all = replicate 10 None }
