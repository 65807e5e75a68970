-- Which refusal is the one that was stated, and what explains it (document 02, M-103). Every function is total.
use Rattle.std.specs.Prelude.{Bool, false, cond, ◌&&◌, ◌||◌, List, [], ◌∷◌, ℕ, eqb, ℤ, pos, take, get_or}
use Rattle.whole.specs.Same.{same_ℤ, same_list}
use Rattle.row.specs.Told.{Row}
use Rattle.row.specs.own.Rows.{row_of}
use Rattle.faults.specs.Offending.{offending_field}
use Rattle.grid.specs.declared.nodes.Pair.{Pair}
use Rattle.grid.specs.declared.nodes.Slots.{Slots}
use Rattle.table.specs.Entries.{entry_at, parts_of}
use Rattle.reader.specs.declared.record.Record.{Record}
use Rattle.reader.specs.declared.reader.Place.{Place}
use Rattle.reader.specs.declared.reader.Answer.{Answer}
use Rattle.reader.specs.Model.{State}
use Rattle.origins.specs.declared.memory.Origins.{Origins}
use Rattle.origins.specs.Memory.{Memory, tick_in, heading_in, pair_in, pair_of}
use Rattle.reasons.specs.declared.explanation.Stated.{Stated}
use Rattle.reasons.specs.declared.explanation.Bringers.{Bringers}
use Rattle.reasons.specs.Told.{Explanation}

-- ---- the line kept

-- the line that a record keeps, and the row that it is. It is the first line where one line has begun
abbrev pub line_kept : Record → List ℕ
line_kept r = take r.marks.count r.kept

unfoldable pub row_kept : Record → Row
row_kept r = row_of r.choices (eqb r.marks.lines 1) (line_kept r)

-- ---- what is stated, and what the text gives

-- a place by its values: none, a line, or a pair
unfoldable pub values_of : Place → List ℤ
values_of Place.Nowhere = []
values_of (Place.Line n) = pos n ∷ []
values_of (Place.Pair p) = pos p.first.tick ∷ p.first.heading ∷ pos p.second.tick ∷ p.second.heading ∷ []

abbrev pub same_place : Place → Place → Bool
same_place a b = same_list same_ℤ (values_of a) (values_of b)

unfoldable pub is_stated : Stated → Answer → Bool
is_stated w Answer.Going = false
is_stated w (Answer.Accepted frequencies headings) = false
is_stated w (Answer.Refused number place) = eqb w.number number && same_place w.place place

-- ---- explanations

-- 9: the line that first set the cell of the refused row's two nodes, the value held there, and the value said
unfoldable pub clash_of : Row → State → Memory → Explanation
clash_of (Row.Used e) s m =
    Explanation.Set record {
      line = get_or m.lines (pair_in s.reader.slots (pair_of e)) 0;
      held = parts_of (entry_at s.reader.slots s.cells (pair_of e).first (pair_of e).second);
      said = record { re = e.re; im = e.im };
    }
clash_of Row.Blank s m = Explanation.Nothing
clash_of Row.Title s m = Explanation.Nothing
clash_of Row.PassedOver s m = Explanation.Nothing
clash_of (Row.Refused number) s m = Explanation.Nothing

-- 11: who brought the frequencies and the headings of the missing pair
abbrev pub bringers_of : Slots → Pair → Origins → Bringers
bringers_of s p o =
    record {
      tick1 = get_or o.ticks (tick_in s p.first.tick) 0;
      heading1 = get_or o.headings (heading_in s p.first.heading) 0;
      tick2 = get_or o.ticks (tick_in s p.second.tick) 0;
      heading2 = get_or o.headings (heading_in s p.second.heading) 0;
    }

-- a refusal by its number: 5 and 6 have their first offending field, 8 the lines of all slots held, which are the memory's origins, 9 and 11 as above, and any other nothing. A
-- reader that is stuck with a line keeps it
unfoldable pub reason_of : ℕ → State → Memory → Explanation
reason_of number s m =
    cond (eqb number 5 || eqb number 6)
    (Explanation.Field (offending_field number (line_kept s.reader)))
    (cond (eqb number 8)
    Explanation.Held
    (cond (eqb number 9)
    (clash_of (row_kept s.reader) s m)
    (cond (eqb number 11) (Explanation.Brought (bringers_of s.reader.slots s.reader.pair m.origins)) Explanation.Nothing)))

-- 2 where the text does not give what is stated
unfoldable pub explanation_of : Stated → Answer → State → Memory → Explanation
explanation_of w given s m = cond (is_stated w given) (reason_of w.number s m) (Explanation.Refused 2)
