-- `lend`, `open` and `close`: what they answer, and what they leave of the bench's record, cells and flags. A command with other numbers is none, and leaves all as it is.
use Rattle.std.specs.Prelude.{cond, ◌&&◌, List, ◌++◌, ℕ, leb, eqb, ℤ, take, drop, Option, Some, None}
use Rattle.script.specs.declared.numbers.Numbers.{Numbers}
use Rattle.script.specs.Place.{number_at, natural_of, byte_of}
use Rattle.row.specs.declared.reading.Choices.{Choices}
use Rattle.reader.specs.declared.record.Record.{Record}
use Rattle.reader.specs.declared.reader.Answer.{Answer}
use Rattle.reader.specs.Model.{state_of, open_of, close_of}
use Rattle.replies.specs.declared.reply.Reply.{Reply}
use Rattle.asking.specs.declared.lent.Lent.{Lent}
use Rattle.asking.specs.Explaining.{chosen_of}
use Rattle.changing.specs.declared.calls.Called.{Called}

-- `lend CELLS FLAGS`: 12,900 and 6,500 at most
unfoldable pub lend_as : Option ℕ → Option ℕ → Reply
lend_as (Some cells) (Some flags) = cond (leb cells 12_900 && leb flags 6_500) (Reply.Lent cells flags) Reply.Unknown
lend_as None flags = Reply.Unknown
lend_as (Some cells) None = Reply.Unknown

-- what a call leaves: the record and the reply, and the bench's cells and flags
pub record Calling : Type 0 where
  pub called : Called
  pub cells : List ℤ
  pub flags : List ℕ

abbrev pub calling : Called → List ℤ → List ℕ → Calling
calling called cells flags = record { called = called; cells = cells; flags = flags }

-- a command that is none
abbrev pub uncalled : Record → List ℤ → List ℕ → Calling
uncalled r cells flags = calling record { reader = r; reply = Reply.Unknown } cells flags

-- ---- `open KIND COMPONENT COVERAGE`

-- an opening that is refused leaves the bench's record as it was
unfoldable pub opened_as : Record → Record → Answer → Called
opened_as r opened Answer.Going = record { reader = opened; reply = Reply.Open }
opened_as r opened (Answer.Accepted frequencies headings) = record { reader = r; reply = Reply.Answered (Answer.Accepted frequencies headings) }
opened_as r opened (Answer.Refused number place) = record { reader = r; reply = Reply.Answered (Answer.Refused number place) }

-- the call is lent the first cells and flags, and those behind them stay
unfoldable pub open_with : Record → Choices → Lent → List ℤ → List ℕ → Calling
open_with r choices lent cells flags =
    let o = open_of choices (take lent.cells cells) (take lent.flags flags) in
    calling (opened_as r o.after.reader o.answer) (o.after.cells ++ drop lent.cells cells) (o.after.flags ++ drop lent.flags flags)

unfoldable pub open_by : Record → Option Choices → Lent → List ℤ → List ℕ → Calling
open_by r (Some choices) lent cells flags = open_with r choices lent cells flags
open_by r None lent cells flags = uncalled r cells flags

unfoldable pub open_as : Record → Numbers → Lent → List ℤ → List ℕ → Calling
open_as r n lent cells flags =
    cond (eqb n.count 3)
    (open_by r (chosen_of (byte_of (natural_of (number_at n 0))) (byte_of (natural_of (number_at n 1))) (byte_of (natural_of (number_at n 2)))) lent cells flags)
    (uncalled r cells flags)

-- ---- `close`

unfoldable pub close_with : Record → Lent → List ℤ → List ℕ → Calling
close_with r lent cells flags =
    let o = close_of (state_of r (take lent.cells cells) (take lent.flags flags)) in
    calling
    record { reader = o.after.reader; reply = Reply.Answered o.answer }
    (o.after.cells ++ drop lent.cells cells)
    (o.after.flags ++ drop lent.flags flags)

unfoldable pub close_as : Record → Numbers → Lent → List ℤ → List ℕ → Calling
close_as r n lent cells flags = cond (eqb n.count 0) (close_with r lent cells flags) (uncalled r cells flags)
