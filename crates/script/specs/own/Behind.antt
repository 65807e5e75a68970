-- The words behind the first one, and numbers taken one after the other.
use Rattle.std.specs.Prelude.{List, [], ◌∷◌, ℕ, eqb}
use Rattle.std.specs.List.{position_or_len, fold}
use Rattle.script.specs.declared.numbers.Numbers.{Numbers}
use Rattle.script.specs.Line.{words_of}
use Rattle.script.specs.Number.{number_of}
use Rattle.script.specs.own.Growing.{with_number}

-- how many bytes come before the first space; all of them where there is none
unfoldable pub word_end : List ℕ → ℕ
word_end line = position_or_len (λ b. eqb b 32) line

-- the words behind the space that a text begins with; a text of no bytes has none
unfoldable pub behind : List ℕ → List (List ℕ)
behind [] = []
behind (b ∷ s) = words_of s

-- so many numbers more
abbrev pub with_all : Numbers → List (List ℕ) → Numbers
with_all n ws = fold (λ m w. with_number m (number_of w)) n ws
