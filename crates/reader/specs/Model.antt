-- What opening, a piece and closing do (document 01, "Rows", "The table" and "The sixteen numbers"). A piece is a fold of one byte's step, so that where the text is
-- cut makes no difference. Every function is total: any record, any slices, any bytes.
use Rattle.std.specs.Prelude.{Bool, cond, ◌&&◌, ◌||◌, List, [], ◌∷◌, ◌++◌, ℕ, ◌+◌, ltb, leb, eqb, ℤ, pos, length, take, drop, set, replicate}
use Rattle.row.specs.declared.reading.Choices.{Choices}
use Rattle.row.specs.Told.{Row}
use Rattle.row.specs.own.Rows.{row_of}
use Rattle.grid.specs.declared.nodes.Slots.{Slots}
use Rattle.grid.specs.declared.nodes.Pair.{Pair}
use Rattle.table.specs.declared.closing.Closed.{Closed}
use Rattle.table.specs.Cells.{cells_lent, flags_lent}
use Rattle.table.specs.Pairs.{nowhere}
use Rattle.table.specs.Placing.{Table, Placed, placed, table_of}
use Rattle.table.specs.Closing.{closed_of}
use Rattle.reader.specs.declared.record.Marks.{Marks}
use Rattle.reader.specs.declared.record.Record.{Record}
use Rattle.reader.specs.declared.reader.Place.{Place}
use Rattle.reader.specs.declared.reader.Answer.{Answer}
use Rattle.reader.specs.declared.reader.Outcome.{Outcome}
use Rattle.reader.specs.Valid.{valid_choices, sticks, valid_of}

-- ---- what a call may change

pub record State : Type 0 where
  pub reader : Record
  pub cells : List ℤ
  pub flags : List ℕ

abbrev pub state_of : Record → List ℤ → List ℕ → State
state_of r cells flags = record { reader = r; cells = cells; flags = flags }

-- what a call comes to
pub record Out : Type 0 where
  pub after : State
  pub answer : Answer

abbrev pub out : State → Answer → Out
out s a = record { after = s; answer = a }

-- what the code returns, with the cells and flags that it leaves
abbrev pub out_of : Outcome → List ℤ → List ℕ → Out
out_of o cells flags = out (state_of o.reader cells flags) o.answer

-- the table of a state; a state with another table, and one with other marks and other bytes kept
abbrev pub table_at : State → Table
table_at s = table_of s.reader.slots s.cells s.flags

abbrev pub with_table : Table → State → State
with_table t s =
    let r = s.reader in
    state_of (record { marks = r.marks; pair = r.pair; choices = r.choices; slots = t.slots; kept = r.kept }) t.cells t.flags

abbrev pub with_marks : Marks → List ℕ → State → State
with_marks m kept s =
    let r = s.reader in
    state_of (record { marks = m; pair = r.pair; choices = r.choices; slots = r.slots; kept = kept }) s.cells s.flags

-- ---- marks

-- a refusal of a line, 3 to 9 or 17, with its number; a line more that has begun; so many bytes kept; the stage after closing, with nothing kept
abbrev pub refused_at : ℕ → ℕ → Marks → Marks
refused_at number line m = record { stage = number; line = line; lines = m.lines; count = m.count }

abbrev pub line_more : Marks → Marks
line_more m = record { stage = m.stage; line = m.line; lines = m.lines + 1; count = m.count }

abbrev pub counting : ℕ → Marks → Marks
counting count m = record { stage = m.stage; line = m.line; lines = m.lines; count = count }

abbrev pub closed_as : ℕ → Marks → Marks
closed_as stage m = record { stage = stage; line = m.line; lines = m.lines; count = 0 }

-- ---- a byte

-- a refusal sticks, and leaves the rest as it stood
unfoldable pub stuck_at : ℕ → ℕ → State → State
stuck_at number line s = with_marks (refused_at number line s.reader.marks) s.reader.kept s

-- a line begins with its first byte, an empty one with its own line feed
unfoldable pub begun : State → State
begun s = with_marks (line_more s.reader.marks) s.reader.kept s

unfoldable pub keeping : ℕ → State → State
keeping b s =
    let m = s.reader.marks in
    with_marks (counting (m.count + 1) m) (set s.reader.kept m.count b) s

-- a byte that is no line feed: 3 for the first past line 1,000,000, with the line that it would begin, and for the 161st of a line
unfoldable pub kept_byte : ℕ → State → State
kept_byte b s =
    let m = s.reader.marks in
    cond (eqb m.count 0)
    (cond (eqb m.lines 1_000_000) (stuck_at 3 1_000_001 s) (keeping b (begun s)))
    (cond (eqb m.count 160) (stuck_at 3 m.lines s) (keeping b s))

-- ---- a line

-- the line is read: nothing is kept of it
unfoldable pub passed : State → State
passed s = with_marks (counting 0 s.reader.marks) s.reader.kept s

-- a used row: 8 or 9, or the table with the row in it
unfoldable pub settled : Placed → State → State
settled p s = cond (eqb p.number 0) (passed (with_table p.table s)) (stuck_at p.number s.reader.marks.lines s)

-- what a row makes of the table
unfoldable pub ended : Row → State → State
ended Row.Blank s = passed s
ended Row.Title s = passed s
ended Row.PassedOver s = passed s
ended (Row.Refused number) s = stuck_at number s.reader.marks.lines s
ended (Row.Used e) s = settled (placed s.reader.choices.kind e (table_at s)) s

-- the end of a line that has begun. It is the first line where one line has begun
unfoldable pub line_ended : State → State
line_ended s =
    let r = s.reader in
    ended (row_of r.choices (eqb r.marks.lines 1) (take r.marks.count r.kept)) s

-- a line feed
unfoldable pub line_feed : State → State
line_feed s =
    let m = s.reader.marks in
    cond (eqb m.count 0)
    (cond (eqb m.lines 1_000_000) (stuck_at 3 1_000_001 s) (line_ended (begun s)))
    (line_ended s)

-- ---- text

unfoldable pub open_byte : ℕ → State → State
open_byte b s = cond (eqb b 10) (line_feed s) (kept_byte b s)

-- a reader that is not open takes nothing in
unfoldable pub byte_of : ℕ → State → State
byte_of b s = cond (eqb s.reader.marks.stage 1) (open_byte b s) s

unfoldable pub bytes_of : List ℕ → State → State
bytes_of [] s = s
bytes_of (b ∷ bs) s = bytes_of bs (byte_of b s)

-- the bytes of a text and no more, for whoever reads a text with the reader's own step and looks on (document 02, M-103): no answer, and of the record only its two counts are
-- tested, without which its bytes have no place
unfoldable pub counts_fit : Record → Bool
counts_fit r = leb r.marks.lines 1_000_000 && leb r.marks.count 160

unfoldable pub read_on : List ℕ → State → State
read_on text s = cond (counts_fit s.reader) (bytes_of text s) s

-- ---- answers

-- the place of a refusal that sticks: 11 gives its pair, 10 nothing, any other number its line
unfoldable pub refusal_place : Record → Place
refusal_place r =
    cond (eqb r.marks.stage 11) (Place.Pair r.pair) (cond (eqb r.marks.stage 10) Place.Nowhere (Place.Line r.marks.line))

-- a lent buffer is too short
unfoldable pub too_short : ℕ → ℕ → Bool
too_short cells flags = ltb cells cells_lent || ltb flags flags_lent

-- the number that a piece and closing begin with, and 0 where there is none: a valid record that is stuck repeats its own; 1; 2
unfoldable pub barred_by : Record → ℕ → ℕ → ℕ
barred_by r cells flags =
    let stage = r.marks.stage in
    cond (valid_of r && sticks stage) stage (cond (too_short cells flags) 1 (cond (valid_of r && eqb stage 1) 0 2))

abbrev pub barred : State → ℕ
barred s = barred_by s.reader (length s.cells) (length s.flags)

-- a refusal with its place: 1 and 2 have none, a number that sticks has the record's
unfoldable pub refusal : Record → ℕ → Answer
refusal r number = Answer.Refused number (cond (leb 3 number) (refusal_place r) Place.Nowhere)

unfoldable pub repeated : State → Out
repeated s = out s (refusal s.reader s.reader.marks.stage)

unfoldable pub tested : State → Out → Out
tested s next = cond (eqb (barred s) 0) next (out s (refusal s.reader (barred s)))

-- ---- a piece

unfoldable pub going : State → Out
going s = cond (eqb s.reader.marks.stage 1) (out s Answer.Going) (repeated s)

unfoldable pub piece_of : List ℕ → State → Out
piece_of text s = tested s (going (bytes_of text s))

-- ---- closing

-- the stage and the pair after closing; nothing stays kept
abbrev pub closed_with : ℕ → Pair → State → State
closed_with stage pair s =
    let r = s.reader in
    state_of (record { marks = closed_as stage r.marks; pair = pair; choices = r.choices; slots = r.slots; kept = r.kept }) s.cells s.flags

-- 10, 11 with the first missing pair, or accepted with the two counts
unfoldable pub settled_by : Closed → State → Out
settled_by Closed.Empty s = let after = closed_with 10 s.reader.pair s in out after (refusal after.reader 10)
settled_by (Closed.Missing p) s = let after = closed_with 11 p s in out after (refusal after.reader 11)
settled_by (Closed.Complete frequencies headings) s = out (closed_with 2 s.reader.pair s) (Answer.Accepted frequencies headings)

-- an unfinished line is read as a line first
unfoldable pub finished : State → State
finished s = cond (eqb s.reader.marks.count 0) s (line_ended s)

unfoldable pub closing : State → Out
closing s =
    let r = s.reader in
    cond (eqb r.marks.stage 1) (settled_by (closed_of r.choices.coverage r.slots s.flags) s) (repeated s)

unfoldable pub close_of : State → Out
close_of s = tested s (closing (finished s))

-- ---- opening

abbrev pub free_slots : Slots
free_slots = record { ticks = replicate 20 0; headings = replicate 4 (pos 0); held = 0 }

-- a record as opening makes it at a stage, with choices; and one that was never opened
abbrev pub fresh : ℕ → Choices → Record
fresh stage choices =
    record {
      marks = record { stage = stage; line = 0; lines = 0; count = 0 };
      pair = nowhere;
      choices = choices;
      slots = free_slots;
      kept = replicate 160 0;
    }

abbrev pub never : Record
never = fresh 0 (record { kind = 0; component = 0; coverage = 0 })

-- opening tests 1, then 2; it sets the lent cells and flags to 0, and nothing beyond them
unfoldable pub open_of : Choices → List ℤ → List ℕ → Out
open_of c cells flags =
    let before = state_of never cells flags in
    cond (too_short (length cells) (length flags))
    (out before (refusal never 1))
    (cond (valid_choices c)
    (out
    (state_of (fresh 1 c) (replicate cells_lent (pos 0) ++ drop cells_lent cells) (replicate flags_lent 0 ++ drop flags_lent flags))
    Answer.Going)
    (out before (refusal never 2)))

-- ---- document 01's numbers and values of an answer

-- the number of a refusal; 0 where it is none
unfoldable pub number_of : Answer → ℕ
number_of Answer.Going = 0
number_of (Answer.Accepted frequencies headings) = 0
number_of (Answer.Refused number place) = number
