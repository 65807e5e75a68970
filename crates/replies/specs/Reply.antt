-- The bench's answers, each as a line without its line feed.
use Rattle.std.specs.Prelude.{List, [], ◌∷◌, ◌++◌, map, ℕ}
use Rattle.field.specs.Text.{bytes}
use Rattle.text.specs.Decimal.{natural, signed}
use Rattle.text.specs.Spaced.{spaced}
use Rattle.reader.specs.declared.reader.Answer.{Answer}
use Rattle.reader.specs.declared.record.Record.{Record}
use Rattle.lines.specs.Refusal.{refusal_text}
use Rattle.replies.specs.declared.reply.Reply.{Reply}

-- what a call of the reader comes to; a refused query reads the same
unfoldable pub answer_text : Answer → List ℕ
answer_text Answer.Going = bytes "going"
answer_text (Answer.Accepted frequencies headings) = spaced (bytes "accepted" ∷ natural frequencies ∷ natural headings ∷ [])
answer_text (Answer.Refused number place) = refusal_text number place

-- what any command comes to. A listing is many lines, and a record is not in its reply: neither is told by this, and what no line tells is `?`. Behind the line
-- of a ProteusDS text, which says how many bytes it has, the text itself follows
unfoldable pub reply_text : Reply → List ℕ
reply_text (Reply.Lent cells flags) = spaced (bytes "lent" ∷ natural cells ∷ natural flags ∷ [])
reply_text Reply.Open = bytes "open"
reply_text (Reply.Answered answer) = answer_text answer
reply_text (Reply.Coefficient re im) = spaced (bytes "coefficient" ∷ signed re ∷ signed im ∷ [])
reply_text (Reply.Sea lines) = spaced (bytes "sea" ∷ natural lines ∷ [])
reply_text (Reply.Force force) = spaced (bytes "force" ∷ signed force ∷ [])
reply_text (Reply.ShownForce mean whole) = spaced (bytes "force" ∷ natural mean ∷ natural whole ∷ [])
reply_text (Reply.ShownMoment mean whole) = spaced (bytes "moment" ∷ natural mean ∷ natural whole ∷ [])
reply_text (Reply.Kept place) = spaced (bytes "kept" ∷ natural place ∷ [])
reply_text (Reply.Cell re im flag) = spaced (bytes "cell" ∷ signed re ∷ signed im ∷ natural flag ∷ [])
reply_text Reply.Poked = bytes "poked"
reply_text (Reply.Spilt value) = spaced (bytes "spilt" ∷ natural value ∷ [])
reply_text Reply.Forged = bytes "forged"
reply_text (Reply.Sum sum) = spaced (bytes "sum" ∷ natural sum ∷ [])
reply_text (Reply.Proteus length) = spaced (bytes "proteus" ∷ natural length ∷ [])
reply_text Reply.Listing = bytes "?"
reply_text Reply.Record = bytes "?"
reply_text Reply.Unknown = bytes "?"

-- a record: its stage, the three choices, the lines begun and how many headings it holds; and then every slot, of ticks and of headings
unfoldable pub record_text : Record → List ℕ
record_text r =
    spaced
    (bytes "record"
    ∷ natural r.marks.stage
    ∷ natural r.choices.kind
    ∷ natural r.choices.component
    ∷ natural r.choices.coverage
    ∷ natural r.marks.lines
    ∷ natural r.slots.held
    ∷ (map natural r.slots.ticks ++ map signed r.slots.headings))
