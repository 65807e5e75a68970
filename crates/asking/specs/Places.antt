-- The six places that tables are kept in: the cells of one place stand behind those of the other; and their ProteusDS text.
use Rattle.std.specs.Prelude.{cond, List, [], ◌∷◌, ◌++◌, ℕ, min, leb, eqb, ℤ, take, drop, Option, Some, None}
use Rattle.reader.specs.declared.record.Record.{Record}
use Rattle.reader.specs.declared.reader.Answer.TheVariants as Answer
use Rattle.reader.specs.declared.reader.Place.TheVariants as Place
use Rattle.proteus.specs.Answer.{Wrote}
use Rattle.hull.specs.Six.{components_with}
use Rattle.proteus.specs.Answer.{Outcome, written}
use Rattle.replies.specs.declared.reply.Reply.{Reply}

-- the first c cells of each place
unfoldable pub places_of : ℕ → List ℤ → List (List ℤ)
places_of c kept =
    take c kept
    ∷ take c (drop 12_900 kept)
    ∷ take c (drop 25_800 kept)
    ∷ take c (drop 38_700 kept)
    ∷ take c (drop 51_600 kept)
    ∷ take c (drop 64_500 kept)
    ∷ []

-- what `proteus` leaves: the reply, and the bytes for the text
pub record Telling : Type 0 where
  pub reply : Reply
  pub out : List ℕ

abbrev pub telling : Reply → List ℕ → Telling
telling reply out = record { reply = reply; out = out }

-- the text's length, or the refusal, which has no place
unfoldable pub wrote_as : Wrote → Reply
wrote_as w = cond (eqb w.number 0) (Reply.Proteus w.length) (Reply.Answered (Answer.Refused w.number Place.Nowhere))

unfoldable pub written_as : Outcome → Telling
written_as o = telling (wrote_as o.answer) o.out

-- `proteus ROOM` with these records, cells lent of each place, places and bytes: ROOM is at most 1,100,000, and the first ROOM bytes are lent
unfoldable pub proteus_as : List Record → Option ℕ → ℕ → List ℤ → List ℕ → Telling
proteus_as records None c kept out = telling Reply.Unknown out
proteus_as records (Some room) c kept out =
    cond (leb room 1_100_000)
    (let t = written_as (written (components_with records (places_of (min c 12_900) kept)) (take room out)) in telling t.reply (t.out ++ drop room out))
    (telling Reply.Unknown out)
