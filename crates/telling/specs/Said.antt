-- What the program says, in a mate's words: the line that is printed first for each explanation.
use Rattle.std.specs.Prelude.{List, ◌++◌, ℕ, pos}
use Rattle.field.specs.Text.{bytes}
use Rattle.text.specs.Decimal.{natural}
use Rattle.row.specs.declared.reading.Entry.{Entry}
use Rattle.row.specs.Told.{Row}
use Rattle.reader.specs.declared.reader.Answer.{Answer}
use Rattle.reader.specs.declared.record.Record.{Record}
use Rattle.lines.specs.Refusal.{refusal_text}
use Rattle.reasons.specs.Told.{Explanation}
use Rattle.reasons.specs.Reasons.{row_kept}
use Rattle.wording.specs.Sentences.{field_text, full_text, clash_text, missing_text}

-- ---- what the text gives, by the reader

-- "the text gives refused 9 4", "the text is accepted, frequencies 2, headings 1". Closing leaves no text going on
unfoldable pub given_text : Answer → List ℕ
given_text Answer.Going = bytes "the text goes on"
given_text (Answer.Accepted frequencies headings) =
    bytes "the text is accepted, frequencies " ++ natural frequencies ++ bytes ", headings " ++ natural headings
given_text (Answer.Refused number place) = bytes "the text gives " ++ refusal_text number place

-- "refused 7 3: no other line or field has a part in it"
unfoldable pub nothing_text : Answer → List ℕ
nothing_text Answer.Going = given_text Answer.Going
nothing_text (Answer.Accepted frequencies headings) = given_text (Answer.Accepted frequencies headings)
nothing_text (Answer.Refused number place) = refusal_text number place ++ bytes ": no other line or field has a part in it"

-- ---- what is said

-- the refused row, which a stuck record keeps; a line that is no row says nothing
abbrev pub no_entry : Entry
no_entry = record { tick1 = 0; tick2 = 0; heading1 = pos 0; heading2 = pos 0; re = pos 0; im = pos 0 }

unfoldable pub entry_in : Row → Entry
entry_in (Row.Used e) = e
entry_in Row.Blank = no_entry
entry_in Row.Title = no_entry
entry_in Row.PassedOver = no_entry
entry_in (Row.Refused number) = no_entry

unfoldable pub row_refused : Record → Entry
row_refused r = entry_in (row_kept r)

-- what is printed first. A record that is stuck has the refusal's number, its line and the pair of 11
unfoldable pub said_text : Record → Answer → Explanation → List ℕ
said_text r given Explanation.Nothing = nothing_text given
said_text r given (Explanation.Field field) = field_text r.marks.line r.marks.stage field
said_text r given Explanation.Held = full_text r.marks.line (row_refused r)
said_text r given (Explanation.Set clash) = clash_text r.marks.line (row_refused r) clash
said_text r given (Explanation.Brought bringers) = missing_text r.pair bringers
said_text r given (Explanation.Refused number) = given_text given
