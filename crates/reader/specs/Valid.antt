-- A valid record (document 01, below the sixteen numbers): slots as crates/table/specs/Valid.antt has them, "at most 160 kept bytes, no line feed among them, a count of
-- lines begun of at most 1,000,000, valid choices", "and a stuck number only of those that stick".
use Rattle.std.specs.Prelude.{Bool, true, cond, not, ◌&&◌, ◌||◌, List, [], ◌∷◌, ℕ, ltb, leb, eqb, take}
use Rattle.row.specs.declared.reading.Choices.{Choices}
use Rattle.table.specs.Cells.{cells_lent}
use Rattle.grid.specs.Valid.{valid_slots}
use Rattle.reader.specs.declared.record.Record.{Record}

-- kind 0 or 1, component 1 to 6, coverage 0 or 1
unfoldable pub valid_choices : Choices → Bool
valid_choices c = leb c.kind 1 && (leb 1 c.component && (leb c.component 6 && leb c.coverage 1))

-- the refusals that stick: 3 to 11 (document 01), and 17 (document 02, M-101)
unfoldable pub sticks : ℕ → Bool
sticks number = (leb 3 number && leb number 11) || eqb number 17

-- never opened, open, accepted, or the number that it is stuck with
unfoldable pub valid_stage : ℕ → Bool
valid_stage stage = leb stage 2 || sticks stage

-- no line feed
unfoldable pub clean : List ℕ → Bool
clean [] = true
clean (b ∷ s) = not (eqb b 10) && clean s

unfoldable pub valid_line : List ℕ → ℕ → Bool
valid_line kept count = leb count 160 && clean (take count kept)

unfoldable pub valid_of : Record → Bool
valid_of r =
    valid_stage r.marks.stage
    && (leb r.marks.lines 1_000_000
    && (valid_choices r.choices && (valid_slots r.marks.stage r.slots && valid_line r.kept r.marks.count)))

-- the number that a query begins with, and 0 where there is none: 1 where the lent cells are too short; 2 where the record is not valid or not accepted
unfoldable pub query_barred : Record → ℕ → ℕ
query_barred r cells = cond (ltb cells cells_lent) 1 (cond (valid_of r && eqb r.marks.stage 2) 0 2)
