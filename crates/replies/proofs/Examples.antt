-- Worked examples: replies and a record as the bench writes them. All of it is computed.
-- Assumes nothing.
use mathlib.Core.Bool.{Bool, true, ◌&&◌}
use mathlib.Core.List.{List, [], ◌∷◌}
use Prim.Native.String.{String}
use lib.Dec.{T, eqb}
use lib.IntN.{pos, neg_ℤ}
use lib.ListN.{replicate}
use Rattle.whole.specs.Same.{same_list}
use Rattle.field.specs.Text.{bytes}
use Rattle.text.specs.Decimal.{digits, width_in, width, natural, signed}
use Rattle.text.specs.Spaced.{spaced}
use Rattle.table.specs.Pairs.{nowhere}
use Rattle.reader.specs.declared.reader.Place.TheVariants as Place
use Rattle.reader.specs.declared.reader.Answer.TheVariants as Answer
use Rattle.reader.specs.declared.record.Record.{Record}
use Rattle.lines.specs.Refusal.{place_words, refusal_text}
use Rattle.replies.specs.declared.reply.Reply.{Reply}
use Rattle.replies.specs.Reply.{answer_text, reply_text, record_text}

data Case : Type 0 where
  says : Reply → String → Case

cases : List Case
cases =
    says (Reply.Lent 12_800 6_400) "lent 12800 6400"
    ∷ says (Reply.Answered Answer.Going) "going"
    ∷ says (Reply.Answered (Answer.Accepted 2 1)) "accepted 2 1"
    ∷ says (Reply.Answered (Answer.Refused 7 (Place.Line 3_107))) "refused 7 3107"
    ∷ says (Reply.Coefficient (neg_ℤ (pos 30_000)) (pos 4_000)) "coefficient -30000 4000"
    ∷ says (Reply.Force (neg_ℤ (pos 9_223_372_036_854_775_808))) "force -9223372036854775808"
    ∷ says (Reply.ShownForce 4_611_686_018_427_387_904 0) "force 4611686018427387904 0"
    ∷ says (Reply.ShownMoment 1 2) "moment 1 2"
    ∷ says (Reply.Cell (neg_ℤ (pos 1)) (pos 0) 255) "cell -1 0 255"
    ∷ says (Reply.Kept 6) "kept 6"
    ∷ says (Reply.Proteus 1_054_405) "proteus 1054405"
    ∷ says (Reply.Spilt 100) "spilt 100"
    ∷ says (Reply.Sum 4_294_967_295) "sum 4294967295"
    ∷ says Reply.Unknown "?"
    ∷ []

all : List Case → Bool
all [] = true
all (says reply s ∷ rest) = same_list eqb (reply_text reply) (bytes s) && all rest

all_said : T (all cases)
unfolding all cases same_list bytes reply_text answer_text refusal_text place_words spaced signed natural width width_in digits
all_said = tt

-- an accepted table of two frequencies and two headings
held : Record
held =
    record {
      marks = record { stage = 2; line = 0; lines = 4; count = 0 };
      pair = nowhere;
      choices = record { kind = 0; component = 1; coverage = 1 };
      slots = record { ticks = 1_000 ∷ 1_250 ∷ replicate 18 0; headings = pos 180_000 ∷ neg_ℤ (pos 90_000) ∷ replicate 2 (pos 0); held = 2 };
      kept = replicate 160 0;
    }

record-said : T (same_list eqb (record_text held) (bytes "record 2 0 1 1 4 2 1000 1250 0 0 0 0 0 0 0 0 0 0 0 0 0 0 0 0 0 0 180000 -90000 0 0"))
unfolding held same_list bytes record_text spaced signed natural width width_in digits
record-said = tt
