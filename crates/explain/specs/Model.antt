-- What opening, a piece and closing of an explainer do (document 02, M-103). It reads the text with the reader's own step, byte by byte, and remembers each row that the table
-- takes; so where the text is cut makes no difference, and no text is judged a second way. Every function is total.
use Rattle.std.specs.Prelude.{cond, List, [], ◌∷◌, ◌++◌, ℕ, min, ltb, eqb, ℤ, length, drop, replicate}
use Rattle.row.specs.declared.reading.Choices.{Choices}
use Rattle.reader.specs.declared.record.Record.{Record}
use Rattle.reader.specs.declared.reader.Answer.{Answer}
use Rattle.reader.specs.Model.{State, state_of, byte_of, too_short, barred_by, refusal, going, close_of, open_of, never}
use Rattle.origins.specs.Memory.{lines_lent, Memory, memory_of, no_origins, recalled}
use Rattle.reasons.specs.declared.explanation.Stated.{Stated}
use Rattle.reasons.specs.Told.{Explanation, numbered}
use Rattle.reasons.specs.Reasons.{row_kept, explanation_of}
use Rattle.explain.specs.declared.explainer.Explainer.{Explainer}
use Rattle.explain.specs.declared.explainer.Step.{Step}
use Rattle.explain.specs.declared.explainer.Told.{Told}

-- ---- what a call may change

pub record Reading : Type 0 where
  pub state : State
  pub stated : Stated
  pub memory : Memory

-- an explainer with the cells, flags and lines that are lent to it
abbrev pub reading_of : Explainer → List ℤ → List ℕ → List ℕ → Reading
reading_of x cells flags lines =
    record { state = state_of x.reader cells flags; stated = x.stated; memory = memory_of x.origins lines }

-- ---- text

-- a byte goes to the reader; a line feed ends a line
unfoldable pub next_byte : ℕ → Reading → Reading
next_byte b x =
    let after = byte_of b x.state in
    record {
      state = after;
      stated = x.stated;
      memory = cond (eqb b 10) (recalled (row_kept x.state.reader) after.reader x.memory) x.memory;
    }

unfoldable pub next_bytes : List ℕ → Reading → Reading
next_bytes [] x = x
next_bytes (b ∷ bs) x = next_bytes bs (next_byte b x)

-- ---- opening and a piece

-- what a call comes to, and what the code returns with what it leaves in the lent slices
pub record Stepped : Type 0 where
  pub after : Reading
  pub answer : Answer

abbrev pub stepped_of : Step → List ℤ → List ℕ → List ℕ → Stepped
stepped_of s cells flags lines = record { after = reading_of s.explainer cells flags lines; answer = s.answer }

-- an explainer before any row, with a reader as it is
abbrev pub fresh_with : Record → Stated → Explainer
fresh_with r w = record { reader = r; stated = w; origins = no_origins }

-- "refusals 1 and 2 as the reader's": too few lines are too short a buffer, like too few flags. Opening sets all that is lent to 0
unfoldable pub open_for : Choices → Stated → List ℤ → List ℕ → List ℕ → Stepped
open_for c w cells flags lines =
    let o = open_of c cells flags in
    cond (ltb (length lines) lines_lent)
    (record { after = reading_of (fresh_with never w) cells flags lines; answer = refusal never 1 })
    (record {
      after =
          reading_of (fresh_with o.after.reader w) o.after.cells o.after.flags
          (cond (eqb o.after.reader.marks.stage 1) (replicate lines_lent 0 ++ drop lines_lent lines) lines);
      answer = o.answer;
    })

-- the number that a piece begins with, by the reader's rule
unfoldable pub barred_at : Reading → ℕ
barred_at x = barred_by x.state.reader (length x.state.cells) (min (length x.state.flags) (length x.memory.lines))

unfoldable pub piece_for : List ℕ → Reading → Stepped
piece_for text x =
    let after = next_bytes text x in
    cond (eqb (barred_at x) 0)
    (record { after = after; answer = (going after.state).answer })
    (record { after = x; answer = refusal x.state.reader (barred_at x) })

-- ---- closing

pub record Explained : Type 0 where
  pub after : Reading
  pub given : Answer
  pub explanation : Explanation

abbrev pub explained_of : Told → List ℤ → List ℕ → List ℕ → Explained
explained_of t cells flags lines =
    record { after = reading_of t.explainer cells flags lines; given = t.given; explanation = numbered t.explanation }

-- an unfinished line is ended as a line feed ends it
unfoldable pub ended_line : Reading → Reading
ended_line x = cond (eqb x.state.reader.marks.count 0) x (next_byte 10 x)

-- then the reader is closed
unfoldable pub closed_for : Reading → Explained
closed_for x =
    let o = close_of x.state in
    record {
      after = record { state = o.after; stated = x.stated; memory = x.memory };
      given = o.answer;
      explanation = explanation_of x.stated o.answer o.after x.memory;
    }

-- 1 where a lent buffer is too short, since an explanation is read from all three; 2 where the record is not valid, not open and not stuck
unfoldable pub close_barred : Reading → ℕ
close_barred x =
    let cells = length x.state.cells in
    let flags = min (length x.state.flags) (length x.memory.lines) in
    cond (too_short cells flags) 1 (cond (eqb (barred_by x.state.reader cells flags) 2) 2 0)

unfoldable pub close_for : Reading → Explained
close_for x =
    let number = close_barred x in
    cond (eqb number 0)
    (closed_for (ended_line x))
    (record { after = x; given = refusal x.state.reader number; explanation = Explanation.Refused number })
