-- Worked examples: explanations as the bench writes them. All of it is computed. Assumes nothing.
use mathlib.Core.Bool.{Bool, true, ◌&&◌}
use mathlib.Core.List.{List, [], ◌∷◌}
use Prim.Native.String.{String}
use lib.Dec.{T, eqb}
use lib.IntN.{pos, neg_ℤ}
use lib.ListN.{replicate}
use Rattle.whole.specs.Same.{same_list}
use Rattle.field.specs.Text.{bytes}
use Rattle.text.specs.Decimal.{digits, width_in, width, natural, signed}
use Rattle.text.specs.Spaced.{spaced}
use Rattle.lines.specs.Refusal.{place_words, refusal_text}
use Rattle.origins.specs.declared.memory.Origins.{Origins}
use Rattle.reasons.specs.Told.{Explanation}
use Rattle.accounts.specs.Explanation.{clash_text, bringers_text, origins_text, explanation_text}

-- a table of two frequencies and one heading: line 2 brought the second frequency
brought : Origins
brought = record { ticks = 1 ∷ 2 ∷ replicate 18 0; headings = 1 ∷ replicate 3 0 }

data Told : Type 0 where
  tells : Explanation → String → Told

told : List Told
told =
    tells (Explanation.Field 8) "field 8"
    ∷ tells
    (Explanation.Set record {
      line = 3;
      held = record { re = neg_ℤ (pos 30_000); im = neg_ℤ (pos 4_000) };
      said = record { re = neg_ℤ (pos 30_000); im = pos 4_000 };
    })
    "set 3 -30000 -4000 -30000 4000"
    ∷ tells (Explanation.Brought record { tick1 = 1; heading1 = 1; tick2 = 2; heading2 = 1 }) "brought 1 1 2 1"
    ∷ tells Explanation.Held "held 1 2 0 0 0 0 0 0 0 0 0 0 0 0 0 0 0 0 0 0 1 0 0 0"
    ∷ tells Explanation.Nothing "nothing"
    ∷ tells (Explanation.Refused 2) "refused 2 0"
    ∷ []

all_told : List Told → Bool
all_told [] = true
all_told (tells e s ∷ rest) = same_list eqb (explanation_text brought e) (bytes s) && all_told rest

explanations-said : T (all_told told)
unfolding all_told told brought same_list bytes explanation_text clash_text bringers_text origins_text refusal_text place_words spaced signed natural width width_in digits
explanations-said = tt
