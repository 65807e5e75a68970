-- What a place takes a number for: the number, where the place can hold it. What it cannot hold makes a command that is none.
use Rattle.std.specs.Prelude.{Bool, true, false, cond, not, ◌||◌, ℕ, leb, eqb, ℤ, pos, neg_ℤ, get_or, Option, Some, None}
use Rattle.script.specs.declared.numbers.Number.{Number}
use Rattle.script.specs.declared.numbers.Numbers.{Numbers}

-- the k-th number, from 0 on
unfoldable pub number_at : Numbers → ℕ → Option Number
number_at n k = get_or n.all k None

-- 64 bits without a sign: -0 is 0
unfoldable pub natural_of : Option Number → Option ℕ
natural_of None = None
natural_of (Some x) = cond (not x.minus || eqb x.size 0) (Some x.size) None

-- 32 bits without a sign
unfoldable pub word_of : Option ℕ → Option ℕ
word_of None = None
word_of (Some n) = cond (leb n 4_294_967_295) (Some n) None

-- 8 bits without a sign
unfoldable pub byte_of : Option ℕ → Option ℕ
byte_of None = None
byte_of (Some n) = cond (leb n 255) (Some n) None

-- 32 bits with a sign: from -2,147,483,648 to 2,147,483,647
unfoldable pub signed_size : Bool → ℕ → Option ℤ
signed_size true n = cond (leb n 2_147_483_648) (Some (neg_ℤ (pos n))) None
signed_size false n = cond (leb n 2_147_483_647) (Some (pos n)) None

unfoldable pub signed_of : Option Number → Option ℤ
signed_of None = None
signed_of (Some x) = signed_size x.minus x.size

-- the first number, where there are so many
unfoldable pub first_among : ℕ → Numbers → Option ℕ
first_among many n = cond (eqb n.count many) (natural_of (number_at n 0)) None

-- the one number that there is
unfoldable pub only_byte_of : Numbers → Option ℕ
only_byte_of n = byte_of (first_among 1 n)
