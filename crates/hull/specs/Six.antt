-- Six tables of one hull (document 02, M-100), and what is asked of them before anything is written.
use Rattle.std.specs.Prelude.{Bool, true, false, cond, not, ◌&&◌, ℕ, ◌+◌, ltb, leb, eqb, ℤ, length}
use mathlib.Core.List.{List, [], ◌∷◌, map, zip_with}
use Rattle.std.specs.Int.Signed.{le_z}
use Rattle.whole.specs.Complex.{Complex}
use Rattle.whole.specs.Same.{same_ℤ, same_list}
use Rattle.whole.specs.Any.{any_of}
use Rattle.grid.specs.declared.nodes.Pair.{Pair}
use Rattle.table.specs.Cells.{cells_lent}
use Rattle.grid.specs.Slots.{held_ticks, held_headings}
use Rattle.table.specs.Pairs.{ascending}
use Rattle.table.specs.Entries.{entry_at, is_out}
use Rattle.reader.specs.declared.record.Record.{Record}
use Rattle.reader.specs.Valid.{valid_of}
use Rattle.hull.specs.declared.six.Component as code
use Rattle.hull.specs.declared.six.Six.{Six}

-- the table of one load component, with the cells that are lent for it
pub record Component : Type 0 where
  pub table : Record
  pub cells : List ℤ

abbrev pub component_of : code.Component → Component
component_of c = record { table = c.table.now; cells = c.cells.now }

-- in the order in which they are handed over
abbrev pub components_of : Six → List Component
components_of six = map component_of six.components

-- the same of tables and the cells that are lent for them, each in its list
unfoldable pub components_with : List Record → List (List ℤ) → List Component
components_with tables cells = zip_with (λ t c. record { table = t; cells = c }) tables cells

-- 1: too few cells are lent for one of them
unfoldable pub is_short : Component → Bool
is_short c = ltb (length c.cells) cells_lent

-- 2: a record is not valid, or its table is not accepted
unfoldable pub is_unaccepted : Component → Bool
is_unaccepted c = not (valid_of c.table && eqb c.table.marks.stage 2)

-- frequencies and headings, rising; slots are left out, since the six may have read their rows in different orders
unfoldable pub frequencies : Record → List ℕ
frequencies r = ascending leb (held_ticks r.slots.ticks)

unfoldable pub headings : Record → List ℤ
headings r = ascending le_z (held_headings r.slots)

-- whether a table belongs at a place among the six, counted from 1: a difference table of the component of that number, with the coverage, the frequencies and the
-- headings of the first
unfoldable pub belongs : Record → ℕ → Record → Bool
belongs first place r =
    eqb r.choices.kind 0
    && (eqb r.choices.component place
    && (eqb r.choices.coverage first.choices.coverage
    && (same_list eqb (frequencies r) (frequencies first) && same_list same_ℤ (headings r) (headings first))))

unfoldable pub all_belong : Record → ℕ → List Component → Bool
all_belong first place [] = true
all_belong first place (c ∷ cs) = belongs first place c.table && all_belong first (place + 1) cs

-- 18: one of them does not belong
unfoldable pub are_six : List Component → Bool
are_six [] = false
are_six (c ∷ cs) = all_belong c.table 1 (c ∷ cs)

-- the coverage of the six, which the first of them says
unfoldable pub coverage_of : List Component → ℕ
coverage_of [] = 0
coverage_of (c ∷ cs) = c.table.choices.coverage

-- the number that bars the six, and 0 where none does: 1 before 2 before 18, each for any of them
unfoldable pub six_barred : List Component → ℕ
six_barred cs = cond (any_of is_short cs) 1 (cond (any_of is_unaccepted cs) 2 (cond (are_six cs) 0 18))

-- what the six say of a pair, by its nodes
unfoldable pub values_at : List Component → Pair → List Complex
values_at cs p = map (λ c. entry_at c.table.slots c.cells p.first p.second) cs

-- 15: a part of one of them is out of bounds
unfoldable pub is_spoilt : List Component → Pair → Bool
is_spoilt cs p = any_of is_out (values_at cs p)
