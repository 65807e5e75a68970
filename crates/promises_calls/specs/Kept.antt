-- Demand 1, what every call keeps, whoever made the record: a valid record stays valid, slices keep their length, and nothing is ever written past the 12,800 cells and 6,400
-- flags that the caller lends (document 01, "The table": "anything beyond is never written").
use Rattle.std.specs.Prelude.{◌≡◌, true, List, ℕ, ℤ, length, drop}
use Rattle.reader.specs.Valid.{valid_of}
use Rattle.reader.specs.declared.record.Record.{Record}
use Rattle.row.specs.declared.reading.Choices.{Choices}
use Rattle.reader.specs.Model.{State, state_of, never, open_of, piece_of, close_of}
use Rattle.table.specs.Cells.{cells_lent, flags_lent}

-- what the record's type says of its arrays, which the model has as lists
pub record Shaped (r : Record) : Type 0 where
  pub ticks : length r.slots.ticks ≡ 20
  pub headings : length r.slots.headings ≡ 4
  pub kept : length r.kept ≡ 160

pub record Beyond (before after : State) : Type 0 where
  pub cells : length after.cells ≡ length before.cells
  pub flags : length after.flags ≡ length before.flags
  pub past-cells : drop cells_lent after.cells ≡ drop cells_lent before.cells
  pub past-flags : drop flags_lent after.flags ≡ drop flags_lent before.flags

-- "opening sets these to 0; anything beyond is never written", whatever is lent and chosen
abbrev pub OpenKeeps : Type 0
OpenKeeps = (c : Choices) (cells : List ℤ) (flags : List ℕ) → Beyond (state_of never cells flags) (open_of c cells flags).after

abbrev pub PieceKeeps : Type 0
PieceKeeps = (text : List ℕ) (s : State) → Beyond s (piece_of text s).after

abbrev pub CloseKeeps : Type 0
CloseKeeps = (s : State) → Beyond s (close_of s).after

-- the arrays stay as long as they are
abbrev pub PieceShaped : Type 0
PieceShaped = (text : List ℕ) (s : State) → Shaped s.reader → Shaped (piece_of text s).after.reader

abbrev pub CloseShaped : Type 0
CloseShaped = (s : State) → Shaped s.reader → Shaped (close_of s).after.reader

abbrev pub PieceValid : Type 0
PieceValid = (text : List ℕ) (s : State) → Shaped s.reader → valid_of s.reader ≡ true → valid_of (piece_of text s).after.reader ≡ true

abbrev pub CloseValid : Type 0
CloseValid = (s : State) → Shaped s.reader → valid_of s.reader ≡ true → valid_of (close_of s).after.reader ≡ true
