-- The worked texts are decided as they stand: the checker computes the reader's answer, which is the one that the rules give. Assumes nothing.
use mathlib.Core.Bool.{true}
use mathlib.Core.List.{List, [], ◌∷◌, append-nil}
use mathlib.Core.Path.{◌≡◌, refl, subst}
use Prim.Native.Nat.{ℕ}
use lib.Dec.{lit≤}
use lib.IntN.{pos}
use lib.ListN.{replicate}
use Rattle.whole.specs.Nearest.{rounds_up, nearest}
use Rattle.field.specs.Text.{bytes}
use Rattle.field.specs.Form.{without, starts_minus, leading, after, all_digits, numeral, before_point, decimals, exponent, exponent_of, number_with, field_of}
use Rattle.field.specs.Units.{with_sign, exact, units, in_range, in_units, tick_of}
use Rattle.row.specs.Line.{without_return, ends, before, words, starts_letter}
use Rattle.row.specs.Heading.{heading_of}
use Rattle.row.specs.Layout.{wamit_layout}
use Rattle.row.specs.own.Values.{component_of, decimal_of, all_below, values_at, values_of}
use Rattle.row.specs.own.Rows.{is_in, same_node, is_fit, fitted, judged, entry_in, ranged_row, formed_row, words_row, row_of}
use Rattle.grid.specs.Slots.{slot_of, tick_slot, with_tick, held_ticks, held_headings, heading_slot, with_heading, held_with}
use Rattle.reader.specs.Valid.{sticks, valid_choices, clean, valid_line, valid_of, valid_stage}
use Rattle.grid.specs.Valid.{valid_ticks, valid_headings, valid_presence, valid_slots}
use Rattle.table.specs.Cells.{node_at, place_of, cell_at, is_set, with_cell, with_flag, same_value, opposite, mirror}
use Rattle.table.specs.Placing.{grown, tick₁, tick₂, heading₁, heading₂, fits, node₁, node₂, here, there, clashes, written, placed}
use Rattle.table.specs.Pairs.{insert, inserted, ascending, each_with, product, node, nodes, at_one_heading, pairs_over, pairs_of}
use Rattle.table.specs.Closing.{node_of, both_set, closed_over, closed_of}
use Rattle.reader.specs.Model.{
  stuck_at,
  begun,
  keeping,
  kept_byte,
  settled,
  passed,
  ended,
  line_ended,
  line_feed,
  open_byte,
  byte_of,
  bytes_of,
  refusal_place,
  too_short,
  barred_by,
  refusal,
  repeated,
  tested,
  going,
  piece_of,
  settled_by,
  finished,
  closing,
  close_of,
  open_of,
}
use Rattle.row.specs.declared.reading.Choices.{Choices}
use Rattle.reader.specs.declared.reader.Answer.{Answer}
use Rattle.promises_calls.specs.Cutting.{pieces_of, joined}
use Rattle.promises_calls.specs.Lines.{starts_with, text_lines, feeds_in}
use Rattle.promises_worked.specs.Starred.{example_h}
use Rattle.promises_chains.specs.Chain.{Opens}
use Rattle.promises_texts.specs.Accepted.{Verdict, PieceVerdict, answer_to, answer_after}
use Rattle.promises_one_direction.specs.OneDirection.{choices_full}
use Rattle.promises_worked_texts.specs.Worked.{choices_h, fourth_agrees, fourth_differs, passed_over_text, pair_missing, pasted, both_signs, both_signs_single, different_things, different_mirrors, equal_nodes, missing_at180, WorkedTexts, WorkedLines}
use Rattle.promises_texts.proofs.Accepted.{verdict-exactly, piece-exactly}

opens : (c : Choices) → valid_choices c ≡ true → Opens c (replicate 12_800 (pos 0)) (replicate 6_400 0)
opens c e = record { cells-long = lit≤ tt; flags_long = lit≤ tt; choices = e }

-- a text in one piece
module _ (c : Choices) (e : valid_choices c ≡ true) (text : List ℕ) (a : Answer) where
  one-text : joined (text ∷ []) ≡ text
  unfolding joined
  one-text = append-nil text

  closed : answer_to c (replicate 12_800 (pos 0)) (replicate 6_400 0) (text ∷ []) ≡ a → Verdict c text a
  closed given = subst (λ (t : List ℕ). Verdict c t a) one-text ((verdict-exactly c _ _ (text ∷ []) a (opens c e)).0 given)

  before-closing : answer_after c (replicate 12_800 (pos 0)) (replicate 6_400 0) (text ∷ []) ≡ a → PieceVerdict c text a
  before-closing given = subst (λ (t : List ℕ). PieceVerdict c t a) one-text ((piece-exactly c _ _ (text ∷ []) a (opens c e)).0 given)

pub worked-texts : WorkedTexts
unfolding example_h fourth_agrees fourth_differs passed_over_text pair_missing pasted both_signs both_signs_single different_things different_mirrors equal_nodes missing_at180 pieces_of rounds_up nearest bytes without starts_minus leading after all_digits numeral before_point decimals exponent exponent_of number_with field_of with_sign exact units in_range in_units tick_of without_return ends before words starts_letter heading_of wamit_layout component_of decimal_of all_below values_at values_of is_in same_node is_fit fitted judged entry_in ranged_row formed_row words_row row_of slot_of tick_slot with_tick held_ticks held_headings heading_slot with_heading held_with valid_choices valid_ticks valid_headings valid_presence valid_slots sticks valid_stage clean valid_line valid_of node_at place_of cell_at is_set with_cell with_flag same_value opposite mirror grown tick₁ tick₂ heading₁ heading₂ fits node₁ node₂ here there clashes written placed insert inserted ascending each_with product node nodes at_one_heading pairs_over pairs_of node_of both_set closed_over closed_of stuck_at begun keeping kept_byte settled passed ended line_ended line_feed open_byte byte_of bytes_of refusal_place too_short barred_by refusal repeated tested going piece_of settled_by finished closing close_of open_of
worked-texts =
    record {
      example = closed choices_h refl (bytes example_h) _ refl;
      fourth-agrees = closed choices_h refl (bytes fourth_agrees) _ refl;
      fourth-differs = closed choices_h refl (bytes fourth_differs) _ refl;
      passed_over = closed choices_h refl (bytes passed_over_text) _ refl;
      pair-missing = closed choices_h refl (bytes pair_missing) _ refl;
      two_runs = closed choices_h refl (bytes pasted) _ refl;
      no_text = closed choices_h refl [] _ refl;
      few-fields = closed choices_h refl (bytes "1 2 3") _ refl;
      stars = closed choices_h refl (bytes "\n10 10 0 0 1 0 0 ***** 0\n") _ refl;
      long-line = closed choices_h refl (replicate 160 32) _ refl;
      longer-line = closed choices_h refl (replicate 161 32) _ refl;
      both-signs = closed choices_full refl (bytes both_signs) _ refl;
      both-signs-single = closed choices_h refl (bytes both_signs_single) _ refl;
      different-things = closed choices_h refl (bytes different_things) _ refl;
      different-mirrors = closed choices_full refl (bytes different_mirrors) _ refl;
      equal-nodes = closed choices_h refl (bytes equal_nodes) _ refl;
      missing-at-180 = closed choices_full refl (bytes missing_at180) _ refl;
      not_yet = before-closing choices_h refl (bytes fourth_differs) _ refl;
    }

pub worked-lines : WorkedLines
unfolding starts_with text_lines feeds_in bytes
worked-lines = record { none = refl; one-feed = refl; two = refl; two-ended = refl; ended = refl; left = refl }
