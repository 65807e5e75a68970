-- Worked examples: the sentences as a mate reads them. All of it is computed. Assumes nothing.
use mathlib.Core.Bool.{Bool, true, ◌&&◌}
use mathlib.Core.List.{List, [], ◌∷◌}
use Prim.Native.Nat.{ℕ}
use Prim.Native.String.{String}
use lib.Dec.{T, eqb}
use lib.IntN.{pos, neg_ℤ}
use lib.ListN.{replicate}
use Rattle.whole.specs.Same.{same_list}
use Rattle.field.specs.Text.{bytes}
use Rattle.text.specs.Decimal.{digits, width_in, width, natural, signed, fraction, unsigned, decimal}
use Rattle.row.specs.declared.reading.Entry.{Entry}
use Rattle.grid.specs.declared.nodes.Slots.{Slots}
use Rattle.origins.specs.declared.memory.Origins.{Origins}
use Rattle.template.specs.Filling.{degrees, shown, uses, filled_from, filled}
use Rattle.wording.specs.Sentences.{column_name, broken_rule, field_text, full_text, tick_text, heading_text, slot_text, clash_text, missing_text}

-- a text, and what it is to be
data Case : Type 0 where
  reads : List ℕ → String → Case

all : List Case → Bool
all [] = true
all (reads text s ∷ rest) = same_list eqb text (bytes s) && all rest

-- ---- headings in degrees

headings : List Case
headings =
    reads (degrees (pos 0)) "0"
    ∷ reads (degrees (pos 180_000)) "180"
    ∷ reads (degrees (neg_ℤ (pos 90_000))) "-90"
    ∷ reads (degrees (pos 22_500)) "22.500"
    ∷ reads (degrees (neg_ℤ (pos 250))) "-0.250"
    ∷ []

headings-read : T (all headings)
unfolding all headings same_list bytes degrees decimal unsigned fraction natural width width_in digits
headings-read = tt

-- ---- sentences

-- 8 s and then 10 s, at heading 0
said : Entry
said = record { tick1 = 1_250; tick2 = 1_000; heading1 = pos 0; heading2 = pos 0; re = neg_ℤ (pos 30_000); im = pos 4_000 }

slots : Slots
slots = record { ticks = 1_000 ∷ 1_250 ∷ replicate 18 0; headings = pos 0 ∷ neg_ℤ (pos 22_500) ∷ replicate 2 (pos 0); held = 2 }

origins : Origins
origins = record { ticks = 1 ∷ 2 ∷ replicate 18 0; headings = 1 ∷ 3 ∷ replicate 2 0 }

sentences : List Case
sentences =
    reads
    (clash_text 4 said record { line = 3; held = record { re = neg_ℤ (pos 30_000); im = neg_ℤ (pos 4_000) }; said = record { re = neg_ℤ (pos 30_000); im = pos 4_000 } })
    "line 4 says -0.030000 0.004000 of 1250 0 1000 0; line 3 set it to -0.030000 -0.004000"
    ∷ reads
    (missing_text record { first = record { tick = 1_000; heading = pos 0 }; second = record { tick = 1_250; heading = pos 0 } } record { tick1 = 1; heading1 = 1; tick2 = 2; heading2 = 1 })
    "no row says 1000 0 1250 0: line 1 brought frequency 1000 and line 1 heading 0; line 2 brought frequency 1250 and line 1 heading 0"
    ∷ reads
    (full_text 22 record { tick1 = 4_000; tick2 = 4_000; heading1 = pos 0; heading2 = pos 0; re = pos 0; im = pos 0 })
    "line 22 says 4000 0 4000 0, and there is no slot left for it"
    ∷ reads (slot_text slots origins 0) "line 1 brought frequency 1000"
    ∷ reads (slot_text slots origins 2) ""
    ∷ reads (slot_text slots origins 20) "line 1 brought heading 0"
    ∷ reads (slot_text slots origins 21) "line 3 brought heading -22.500"
    ∷ reads (slot_text slots origins 24) ""
    ∷ reads (field_text 3 5 8) "line 3: field 8, RE, has the wrong form"
    ∷ reads (field_text 3 6 6) "line 3: field 6, MOD, is out of range"
    ∷ []

sentences-read : T (all sentences)
unfolding all sentences said slots origins same_list bytes clash_text missing_text full_text tick_text heading_text slot_text field_text column_name broken_rule filled filled_from shown uses degrees decimal unsigned fraction signed natural width width_in digits
sentences-read = tt
