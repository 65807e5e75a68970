-- Worked examples: frequencies in billionths of rad/s; the text of a made six, in which example H (document 01, "Checked by hand") is component 1, and once more component 2 with
-- its frequencies in other slots; what bars it; and the text read back. All of it is computed. Assumes nothing.
use mathlib.Core.Path.{◌≡◌, refl}
use mathlib.Core.Bool.{Bool, true, ◌&&◌}
use mathlib.Core.List.{List, [], ◌∷◌, ◌++◌, map, zip_with}
use mathlib.Core.Option.{some, bind}
use Prim.Native.Nat.{ℕ, ◌-◌}
use lib.Dec.{T, eqb}
use lib.IntN.{ℤ, pos, neg_ℤ}
use lib.ListN.{length, take, replicate}
use Rattle.whole.specs.Same.{same_list}
use Rattle.whole.specs.Any.{any_of}
use Rattle.whole.specs.Nearest.{rounds_up, nearest}
use Rattle.field.specs.Form.{all_digits, numeral}
use Rattle.field.specs.Text.{bytes}
use Rattle.text.specs.Decimal.{digits, width_in, width, natural, fraction, unsigned, decimal}
use Rattle.text.specs.Spaced.{spaced}
use Rattle.text.specs.Parts.{onto, parts, words_of, text_of, but_last, lines_of}
use Rattle.text.specs.Reading.{read_natural, read_size, read_decimal}
use Rattle.text.specs.Rows.{row_text, collected, read_row, read_list, read_rows}
use Rattle.grid.specs.Slots.{slot_of, held_ticks, held_headings, heading_slot}
use Rattle.grid.specs.Valid.{valid_ticks, valid_headings, valid_presence, valid_slots}
use Rattle.table.specs.Cells.{node_at, place_of, cell_at, with_cell}
use Rattle.table.specs.Pairs.{insert, inserted, ascending, each_with, product, node, nodes, at_one_heading, nowhere, pairs_over, pairs_of}
use Rattle.table.specs.Closing.{node_of}
use Rattle.table.specs.Entries.{entry_at, in_bounds}
use Rattle.reader.specs.declared.record.Record.{Record}
use Rattle.reader.specs.Valid.{valid_choices, sticks, valid_stage, clean, valid_line, valid_of}
use Rattle.hull.specs.Six.{Component, is_short, is_unaccepted, frequencies, headings, belongs, all_belong, are_six, six_barred, values_at, is_spoilt}
use Rattle.qtf.specs.Matrix.{billionths, list_text, frequency_text, heading_text, indexes, parts_in, matrix_line, head_lines}
use Rattle.proteus.specs.Lines.{lines_from, proteus_lines}
use Rattle.proteus.specs.Answer.{any_spoilt, text_number, proteus_text, write_number}
use Rattle.proteus.specs.Reading.{values_of, tick_of, pair_at, complex_in, row_read, table_read, six_read, lines_read, proteus_read}

-- ---- frequencies

-- the least tick, the one tie, which goes to the even one, and the greatest
ticks-shown : (billionths 100 ≡ 62_831_853) × (billionths 5_000 ≡ 3_141_592_654) × (billionths 10_000 ≡ 6_283_185_307)
unfolding billionths nearest rounds_up
ticks-shown = (refl, refl, refl)

-- ---- a six

table_over : ℕ → ℤ → ℕ → ℕ → ℕ → List ℕ → Record
table_over coverage heading stage kind component ticks =
    record {
      marks = record { stage = stage; line = 0; lines = 4; count = 0 };
      pair = nowhere;
      choices = record { kind = kind; component = component; coverage = coverage };
      slots = record { ticks = ticks; headings = heading ∷ replicate 3 (pos 0); held = 1 };
      kept = replicate 160 0;
    }

table_of : ℕ → ℕ → ℕ → List ℕ → Record
table_of = table_over 0 (pos 0)

rising : List ℕ
rising = 1_000 ∷ 1_250 ∷ replicate 18 0

-- with a free slot between the two
falling : List ℕ
falling = 1_250 ∷ 0 ∷ 1_000 ∷ replicate 17 0

blank : List ℤ
blank = replicate 12_800 (pos 0)

-- example H, with its frequencies in these slots
cells-h : ℕ → ℕ → List ℤ
cells-h low high =
    with_cell
    (with_cell
    (with_cell (with_cell blank (place_of low low) (record { re = neg_ℤ (pos 20_000); im = pos 0 })) (place_of high high) (record { re = neg_ℤ (pos 36_000); im = pos 0 }))
    (place_of low high)
    (record { re = neg_ℤ (pos 30_000); im = pos 4_000 }))
    (place_of high low)
    (record { re = neg_ℤ (pos 30_000); im = neg_ℤ (pos 4_000) })

-- the largest parts that are allowed, and a part that is not
cells-large : ℕ → List ℤ
cells-large part = with_cell blank (place_of 1 1) (record { re = pos 1_000_000_000; im = neg_ℤ (pos part) })

six : Component → Component → List Component
six first last =
    first
    ∷ record { table = table_of 2 0 2 falling; cells = cells-h 2 0 }
    ∷ record { table = table_of 2 0 3 rising; cells = blank }
    ∷ record { table = table_of 2 0 4 rising; cells = blank }
    ∷ record { table = table_of 2 0 5 falling; cells = blank }
    ∷ last
    ∷ []

first-h : Component
first-h = record { table = table_of 2 0 1 rising; cells = cells-h 0 1 }

last-large : Component
last-large = record { table = table_of 2 0 6 rising; cells = cells-large 1_000_000_000 }

text-h : List ℕ
text-h =
    bytes "$QTFFrequencies\n0.628318531 0.785398163\n$QTFHeadings\n0.000\n$WaveDriftQTFMatrix\n"
    ++ (bytes "0 0 0 0 -0.020000 0.000000 -0.020000 0.000000 0.000000 0.000000 0.000000 0.000000 0.000000 0.000000 0.000000 0.000000\n"
    ++ (bytes "0 1 0 0 -0.030000 0.004000 -0.030000 0.004000 0.000000 0.000000 0.000000 0.000000 0.000000 0.000000 0.000000 0.000000\n"
    ++ (bytes "1 0 0 0 -0.030000 -0.004000 -0.030000 -0.004000 0.000000 0.000000 0.000000 0.000000 0.000000 0.000000 0.000000 0.000000\n"
    ++ bytes "1 1 0 0 -0.036000 0.000000 -0.036000 0.000000 0.000000 0.000000 0.000000 0.000000 0.000000 0.000000 1000.000000 -1000.000000\n")))

text-written : T (same_list eqb (proteus_text (six first-h last-large)) text-h)
unfolding same_list bytes text-h six first-h last-large table_of table_over rising falling blank cells-h cells-large with_cell proteus_text text_of proteus_lines lines_from head_lines frequency_text heading_text list_text row_text zip_with spaced decimal unsigned fraction natural width width_in digits billionths nearest rounds_up frequencies headings held_ticks held_headings ascending inserted insert pairs_of pairs_over at_one_heading nodes node product each_with matrix_line indexes parts_in values_at entry_at node_of node_at heading_slot slot_of place_of cell_at
text-written = tt

-- ---- what bars it

-- six tables, room for so many bytes, and the number of the answer
data Case : Type 0 where
  answers : Component → Component → ℕ → ℕ → Case

cases : List Case
cases =
    -- just enough room, and a byte too few
    answers first-h last-large (length text-h) 0
    ∷ answers first-h last-large (length text-h - 1) 19
    -- a cell too few, though the table is also a sum table
    ∷ answers (record { table = table_of 2 1 1 rising; cells = take 12_799 blank }) last-large 0 1
    -- still open, and of another component; never opened
    ∷ answers first-h (record { table = table_of 1 0 5 rising; cells = blank }) 0 2
    ∷ answers first-h (record { table = table_of 0 0 6 (replicate 20 0); cells = blank }) 0 2
    -- a sum table; of another component; another frequency; another heading; another coverage
    ∷ answers first-h (record { table = table_of 2 1 6 rising; cells = blank }) 0 18
    ∷ answers (record { table = table_of 2 0 2 rising; cells = blank }) last-large 0 18
    ∷ answers first-h (record { table = table_of 2 0 6 (1_000 ∷ 1_251 ∷ replicate 18 0); cells = blank }) 0 18
    ∷ answers first-h (record { table = table_over 0 (pos 90_000) 2 0 6 rising; cells = blank }) 0 18
    ∷ answers first-h (record { table = table_over 1 (pos 0) 2 0 6 rising; cells = blank }) 0 18
    -- a part out of bounds
    ∷ answers first-h (record { table = table_of 2 0 6 rising; cells = cells-large 1_000_000_001 }) 0 15
    ∷ []

all : List Case → Bool
all [] = true
all (answers first last room number ∷ rest) = eqb (write_number (six first last) room) number && all rest

all_hold : T (all cases)
unfolding all cases write_number text_number any_spoilt is_spoilt any_of in_bounds six_barred are_six all_belong belongs is_short is_unaccepted valid_of valid_line clean valid_slots valid_presence valid_headings valid_ticks valid_stage sticks valid_choices same_list bytes text-h six first-h last-large table_of table_over rising falling blank cells-h cells-large with_cell proteus_text text_of proteus_lines lines_from head_lines frequency_text heading_text list_text row_text zip_with spaced decimal unsigned fraction natural width width_in digits billionths nearest rounds_up frequencies headings held_ticks held_headings ascending inserted insert pairs_of pairs_over at_one_heading nodes node product each_with matrix_line indexes parts_in values_at entry_at node_of node_at heading_slot slot_of place_of cell_at
all_hold = tt

-- ---- the text read back

text-read : proteus_read 0 text-h ≡ some (map values_of (six first-h last-large))
unfolding proteus_read lines_read six_read table_read row_read complex_in pair_at tick_of values_of collected read_row read_list read_rows read_natural read_size read_decimal onto parts words_of but_last lines_of all_digits numeral bind same_list bytes text-h six first-h last-large table_of table_over rising falling blank cells-h cells-large with_cell zip_with nearest rounds_up frequencies headings held_ticks held_headings ascending inserted insert pairs_of pairs_over at_one_heading nodes node product each_with entry_at node_of node_at heading_slot slot_of place_of cell_at
text-read = refl
