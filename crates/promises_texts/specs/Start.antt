-- A start, from which lines are read (document 01, "Rows" and "The table"): the choices, the rows that the table already holds, and how many lines are already begun. Opening leads
-- to the first start, with no row and no line. Demands 1 and 2 are stated from any start: whatever else may lead to one later needs only the law that it does, like `OpenStarts`.
use Rattle.std.specs.Prelude.{List, [], ◌++◌, ◌≡◌, ℕ, ◌+◌, ℤ, length}
use Rattle.row.specs.declared.reading.Choices.{Choices}
use Rattle.row.specs.declared.reading.Entry.{Entry}
use Rattle.reader.specs.Model.{table_at, State}
use Rattle.promises_calls.specs.Lines.{AtLineStart}
use Rattle.promises_tables.specs.Holds.{Holds}
use Rattle.promises_chains.specs.Chain.{Opens, opened}

pub record Start : Type 0 where
  pub choices : Choices
  pub rows : List Entry
  pub lines : ℕ

-- a reader at a start: open and between two lines, with its choices and so many lines begun, and its table is what its rows say
pub record StartsAt (g : Start) (s : State) : Type 0 where
  pub ready : AtLineStart s
  pub choices : s.reader.choices ≡ g.choices
  pub lines : s.reader.marks.lines ≡ g.lines
  pub holds : Holds g.choices.kind g.rows (table_at s)

-- the start so many lines further on, where these brought more rows
abbrev pub further : Start → List (List ℕ) → List Entry → Start
further g lines more = record { choices = g.choices; rows = g.rows ++ more; lines = g.lines + length lines }

-- where opening leads
abbrev pub from_opening : Choices → Start
from_opening c = record { choices = c; rows = []; lines = 0 }

abbrev pub OpenStarts : Type 0
OpenStarts = (c : Choices) (cells : List ℤ) (flags : List ℕ) → Opens c cells flags → StartsAt (from_opening c) (opened c cells flags)
