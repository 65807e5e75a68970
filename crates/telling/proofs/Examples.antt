-- Worked examples: what the program says where there is no sentence to say, as a mate reads it. Each is computed. Assumes nothing.
use mathlib.Core.Bool.{Bool}
use mathlib.Core.List.{List}
use Prim.Native.Nat.{ℕ}
use Prim.Native.String.{String}
use lib.Dec.{T, eqb}
use Rattle.whole.specs.Same.{same_list}
use Rattle.field.specs.Text.{bytes}
use Rattle.text.specs.Decimal.{digits, width_in, width, natural}
use Rattle.text.specs.Spaced.{spaced}
use Rattle.reader.specs.declared.reader.Place.TheVariants as Place
use Rattle.reader.specs.declared.reader.Answer.TheVariants as Answer
use Rattle.lines.specs.Refusal.{place_words, refusal_text}
use Rattle.telling.specs.Said.{given_text, nothing_text}

reads : List ℕ → String → Bool
reads text s = same_list eqb text (bytes s)

no-other-part : T (reads (nothing_text (Answer.Refused 7 (Place.Line 3))) "refused 7 3: no other line or field has a part in it")
unfolding reads same_list bytes nothing_text refusal_text place_words spaced natural width width_in digits
no-other-part = tt

another-refusal : T (reads (given_text (Answer.Refused 9 (Place.Line 4))) "the text gives refused 9 4")
unfolding reads same_list bytes given_text refusal_text place_words spaced natural width width_in digits
another-refusal = tt

no-refusal : T (reads (given_text (Answer.Accepted 2 1)) "the text is accepted, frequencies 2, headings 1")
unfolding reads same_list bytes given_text natural width width_in digits
no-refusal = tt
