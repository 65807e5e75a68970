-- Example H (document 01, "Checked by hand"): its table lists as the paper prints it, and then an empty line; and refusals, each with its place. All of it is computed.
-- Assumes nothing.
use mathlib.Core.Bool.{Bool, true, false, ◌&&◌}
use mathlib.Core.List.{List, [], ◌∷◌}
use Prim.Native.Nat.{ℕ}
use Prim.Native.String.{String}
use lib.Dec.{T, eqb}
use lib.IntN.{ℤ, pos, neg_ℤ}
use lib.ListN.{length, take, replicate}
use Rattle.field.specs.Text.{bytes}
use Rattle.text.specs.Decimal.{digits, width_in, width, natural, signed}
use Rattle.text.specs.Spaced.{spaced}
use Rattle.reader.specs.declared.reader.Place.{Place}
use Rattle.reader.specs.declared.record.Record.{Record}
use Rattle.grid.specs.Slots.{slot_of, held_ticks, held_headings, heading_slot}
use Rattle.reader.specs.Valid.{valid_choices, sticks, valid_stage, clean, valid_line, valid_of, query_barred}
use Rattle.grid.specs.Valid.{valid_ticks, valid_headings, valid_presence, valid_slots}
use Rattle.table.specs.Cells.{node_at, place_of, cell_at, with_cell}
use Rattle.table.specs.Pairs.{insert, inserted, ascending, each_with, product, node, nodes, at_one_heading, nowhere, pairs_over, pairs_of, nth_of}
use Rattle.table.specs.Closing.{node_of}
use Rattle.table.specs.Entries.{entry_at}
use Rattle.text.specs.declared.line.Line.{Line}
use Rattle.lines.specs.Listing.{Listed}
use Rattle.text.specs.Line.{line_of}
use Rattle.lines.specs.Listing.{title_text, pair_words, pair_text, nth_text, text_of, listed}
use Rattle.lines.specs.Refusal.{place_words, refusal_text}

same : List ℕ → List ℕ → Bool
same [] [] = true
same [] (y ∷ ys) = false
same (x ∷ xs) [] = false
same (x ∷ xs) (y ∷ ys) = eqb x y && same xs ys

-- ---- example H

record-h : ℕ → Record
record-h stage =
    record {
      marks = record { stage = stage; line = 0; lines = 4; count = 0 };
      pair = nowhere;
      choices = record { kind = 0; component = 1; coverage = 0 };
      slots = record { ticks = 1_000 ∷ 1_250 ∷ replicate 18 0; headings = replicate 4 (pos 0); held = 1 };
      kept = replicate 160 0;
    }

cells-h : List ℤ
cells-h =
    with_cell
    (with_cell
    (with_cell
    (with_cell (replicate 12_800 (pos 0)) (place_of 0 0) (record { re = neg_ℤ (pos 20_000); im = pos 0 }))
    (place_of 1 1)
    (record { re = neg_ℤ (pos 36_000); im = pos 0 }))
    (place_of 0 1)
    (record { re = neg_ℤ (pos 30_000); im = pos 4_000 }))
    (place_of 1 0)
    (record { re = neg_ℤ (pos 30_000); im = neg_ℤ (pos 4_000) })

-- the k-th line is a text; the query is refused by a number, and the line is empty
data Case : Type 0 where
  line : ℕ → String → Case
  refused : ℕ → List ℤ → ℕ → Case

cases : List Case
cases =
    line 0 "QTF difference 1 single 2 1"
    ∷ line 1 "1000 0 1000 0 -20000 0"
    ∷ line 2 "1000 0 1250 0 -30000 4000"
    ∷ line 3 "1250 0 1000 0 -30000 -4000"
    ∷ line 4 "1250 0 1250 0 -36000 0"
    ∷ line 5 ""
    ∷ line 1_000_000 ""
    -- a cell too few; a record whose table is still open
    ∷ refused 2 (take 12_799 cells-h) 1
    ∷ refused 1 cells-h 2
    ∷ []

holds_text : Line 80 → List ℕ → Bool
holds_text l text = eqb (length l.bytes) 80 && (eqb l.len (length text) && same (take l.len l.bytes) text)

answers : Listed → ℕ → List ℕ → Bool
answers a number text = eqb a.number number && holds_text a.line text

holds : Case → Bool
holds (line k s) = answers (listed (record-h 2) cells-h k) 0 (bytes s)
holds (refused stage cells number) = answers (listed (record-h stage) cells 0) number []

all : List Case → Bool
all [] = true
all (c ∷ cs) = holds c && all cs

all_hold : T (all cases)
unfolding all holds answers holds_text same cases record-h cells-h bytes with_cell listed text_of nth_text pair_text pair_words entry_at title_text spaced line_of signed natural width width_in digits node_of nth_of pairs_of pairs_over at_one_heading nodes node product each_with ascending inserted insert place_of cell_at node_at query_barred valid_of valid_line clean valid_slots valid_presence valid_headings valid_ticks valid_stage sticks valid_choices heading_slot held_headings held_ticks slot_of
all_hold = tt

-- ---- refusals

data Refusal : Type 0 where
  says : ℕ → Place → String → Refusal

refusals : List Refusal
refusals =
    says 2 Place.Nowhere "refused 2 0"
    ∷ says 7 (Place.Line 3_107) "refused 7 3107"
    ∷ says 11 (Place.Pair (record { first = record { tick = 1_000; heading = pos 180_000 }; second = record { tick = 1_200; heading = neg_ℤ (pos 90_000) } })) "refused 11 1000 180000 1200 -90000"
    ∷ []

all_said : List Refusal → Bool
all_said [] = true
all_said (says number place s ∷ rest) = holds_text (line_of 80 (refusal_text number place)) (bytes s) && all_said rest

refusals-said : T (all_said refusals)
unfolding all_said refusals holds_text same bytes refusal_text place_words pair_words spaced line_of signed natural width width_in digits
refusals-said = tt
