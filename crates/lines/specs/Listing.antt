-- The listing (document 01, "Checked by hand"): a first line with the choices and the two counts, and then a line for every ordered pair that the coverage needs,
-- "as tick, heading, tick, heading, real, imaginary". It is asked as a query is: 1 where the lent cells are too short, 2 where the record is not valid or not
-- accepted, and nothing else.
use Rattle.std.specs.Prelude.{cond, List, [], ◌∷◌, ◌++◌, ℕ, ◌-◌, eqb, ℤ, length}
use Rattle.whole.specs.Complex.{Complex}
use Rattle.field.specs.Text.{bytes}
use Rattle.text.specs.Decimal.{natural, signed}
use Rattle.text.specs.Spaced.{spaced}
use Rattle.grid.specs.declared.nodes.Pair.{Pair}
use Rattle.reader.specs.declared.record.Record.{Record}
use Rattle.std.specs.Prelude.{Option, Some, None, Result, Ok, Err}
use Rattle.text.specs.declared.line.Line.{Line}
use Rattle.grid.specs.Slots.{held_ticks}
use Rattle.reader.specs.Valid.{query_barred}
use Rattle.table.specs.Pairs.{nth_of}
use Rattle.table.specs.View.{View, view_of}
use Rattle.refusals.specs.declared.refusal.Refusal.{Refusal}
use Rattle.refusals.specs.Numbered.{number_of}
use Rattle.lines.specs.Line.{line_of}

-- "QTF difference 1 single 2 1": kind, component, coverage, frequencies, headings
unfoldable pub title_text : Record → List ℕ
title_text r =
    spaced
    (bytes "QTF"
    ∷ cond (eqb r.choices.kind 0) (bytes "difference") (bytes "sum")
    ∷ natural r.choices.component
    ∷ cond (eqb r.choices.coverage 0) (bytes "single") (bytes "full")
    ∷ natural (length (held_ticks r.slots.ticks))
    ∷ natural r.slots.held
    ∷ [])

-- a pair: tick and heading of its first node, and then of its second
unfoldable pub pair_words : Pair → List (List ℕ)
pair_words p = natural p.first.tick ∷ signed p.first.heading ∷ natural p.second.tick ∷ signed p.second.heading ∷ []

-- and its value
unfoldable pub pair_text : Pair → Complex → List ℕ
pair_text p v = spaced (pair_words p ++ (signed v.re ∷ signed v.im ∷ []))

-- the text of a pair's line; no text at all past the last
unfoldable pub nth_text : View → Option Pair → List ℕ
nth_text v (Some p) = pair_text p (v.entry p.first p.second)
nth_text v None = []

-- a line, with the number of the query's refusal, 0 where it is not refused; and what the code answers, read so: a refused line is empty
pub record Listed : Type 0 where
  pub number : ℕ
  pub line : Line 80

abbrev pub listed_in : Result (Line 80) Refusal → Listed
listed_in (Ok line) = record { number = 0; line = line }
listed_in (Err refusal) = record { number = number_of refusal; line = line_of [] }

-- the k-th line, from 0 on
unfoldable pub text_of : Record → List ℤ → ℕ → List ℕ
text_of r cells k =
    cond (eqb k 0) (title_text r) (nth_text (view_of r.slots cells) (nth_of r.choices.coverage r.slots (k - 1)))

unfoldable pub listed : Record → List ℤ → ℕ → Listed
listed r cells k =
    let number = query_barred r (length cells) in
    record { number = number; line = line_of (cond (eqb number 0) (text_of r cells k) []) }
