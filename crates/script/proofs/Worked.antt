-- The definitions at texts that were worked by hand: what a reader may hold them to. Assumes nothing.
use Rattle.std.proofs.Common.{◌≡◌, refl, true, [], ◌∷◌, neg_ℤ, pos, Option, Some, None}
use Rattle.field.specs.Text.{bytes}
use Rattle.script.specs.declared.numbers.Number.{Number}
use Rattle.script.specs.declared.words.Verb.TheVariants as Verb
use Rattle.script.specs.declared.words.Part.TheVariants as Part
use Rattle.script.specs.Line.{words_of, named}
use Rattle.script.specs.Number.{onward, size_of, number_in, number_of, numbers_of}
use Rattle.script.specs.Place.{natural_of, signed_size, signed_of}
use Rattle.script.specs.Command.{query_of, memory_of, verb_of, slot_of, part_of, plain_of, forge_of, of_words, command_of}

-- two spaces have an empty word between them, and a line of no bytes is one
words-worked : words_of (bytes "sea  2") ≡ bytes "sea" ∷ [] ∷ bytes "2" ∷ []
unfolding bytes words_of
words-worked = refl

no-words-worked : words_of [] ≡ [] ∷ []
unfolding words_of
no-words-worked = refl

-- the largest size, one more, no digits, and -0, which a place without a sign takes
largest-worked :
    ◌≡◌ {A = Option Number}
    (number_of (bytes "-18446744073709551615"))
    (Some record { minus = true; size = 18446744073709551615 })
unfolding bytes number_of number_in size_of onward
largest-worked = refl

past-worked : number_of (bytes "18446744073709551616") ≡ None
unfolding bytes number_of number_in size_of onward
past-worked = refl

bare-minus-worked : number_of (bytes "-") ≡ None
unfolding bytes number_of number_in size_of onward
bare-minus-worked = refl

minus-nought-worked : natural_of (number_of (bytes "-0")) ≡ Some 0
unfolding bytes number_of number_in size_of onward natural_of
minus-nought-worked = refl

least-worked : signed_of (number_of (bytes "-2147483648")) ≡ Some (neg_ℤ (pos 2147483648))
unfolding bytes number_of number_in size_of onward signed_of signed_size
least-worked = refl

-- `forge` with a part, and alone; eleven numbers, and twelve
forge-worked : (command_of (bytes "forge tick 3 7")).part ≡ Part.Tick
unfolding bytes words_of named query_of memory_of verb_of slot_of part_of plain_of forge_of of_words command_of
forge-worked = refl

eleven-worked : (command_of (bytes "explain 0 0 1 0 9 4 0 0 0 251 7")).numbers.count ≡ 11
unfolding bytes words_of named query_of memory_of verb_of slot_of part_of plain_of forge_of of_words command_of numbers_of
eleven-worked = refl

twelve-worked : (command_of (bytes "poke 1 2 3 4 5 6 7 8 9 10 11 12")).numbers.count ≡ 11
unfolding bytes words_of named query_of memory_of verb_of slot_of part_of plain_of forge_of of_words command_of numbers_of
twelve-worked = refl

spill-worked : (command_of (bytes "spill 7")).verb ≡ Verb.Spill
unfolding bytes words_of named query_of memory_of verb_of slot_of part_of plain_of forge_of of_words command_of
spill-worked = refl

keep-worked : (command_of (bytes "keep 6")).verb ≡ Verb.Keep
unfolding bytes words_of named query_of memory_of verb_of slot_of part_of plain_of forge_of of_words command_of
keep-worked = refl

proteus-worked : (command_of (bytes "proteus 1100000")).verb ≡ Verb.Proteus
unfolding bytes words_of named query_of memory_of verb_of slot_of part_of plain_of forge_of of_words command_of
proteus-worked = refl

explain-worked : (command_of (bytes "explain 0 0 1 0 9 4 0 0 0 251")).verb ≡ Verb.Explain
unfolding bytes words_of named query_of memory_of verb_of slot_of part_of plain_of forge_of of_words command_of
explain-worked = refl
