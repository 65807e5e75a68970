-- One answer each (document 01, "What the contracts settle": "a pair of answers allowed by one contract is proved equal"), for the functions of the running total, whose contracts
-- promise facts instead of a value: two totals that both keep them are one.
use Rattle.std.specs.Prelude.{◌≡◌, ℕ, ◌^◌, ◌<◌, ℤ}
use Rattle.total.specs.declared.words.Total.{Total}
use Rattle.total.specs.Total.{words, meaning, Added, Negated}

-- what the type says: each of the two words has 64 bits
pub record TwoWords (t : Total) : Type 0 where
  pub low : t.low < 2 ^ 64
  pub high : t.high < 2 ^ 64

-- `wide` promises the 128 bits
abbrev pub WordsOne : Type 0
WordsOne = (n : ℕ) (r q : Total) → TwoWords r → TwoWords q → words r ≡ n → words q ≡ n → r ≡ q

-- `zero` and `product` promise the whole number that they stand for
abbrev pub MeaningOne : Type 0
MeaningOne = (z : ℤ) (r q : Total) → TwoWords r → TwoWords q → meaning r ≡ z → meaning q ≡ z → r ≡ q

-- `add` and `negated` promise the 128 bits modulo 2^128
abbrev pub AddedOne : Type 0
AddedOne = (a b r q : Total) → TwoWords r → TwoWords q → Added a b r → Added a b q → r ≡ q

abbrev pub NegatedOne : Type 0
NegatedOne = (a r q : Total) → TwoWords r → TwoWords q → Negated a r → Negated a q → r ≡ q
