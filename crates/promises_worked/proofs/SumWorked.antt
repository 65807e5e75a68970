-- A sum table's force, worked by hand: the checker computes each case. Assumes nothing.
use Rattle.whole.specs.Nearest.{rounds_up, nearest}
use Rattle.whole.specs.Sum.{sum_by}
use Rattle.whole.specs.Any.{any_of}
use Rattle.field.specs.Text.{bytes}
use Rattle.field.specs.Form.{without, starts_minus, leading, after, all_digits, numeral, before_point, decimals, exponent, exponent_of, number_with, field_of}
use Rattle.field.specs.Units.{with_sign, exact, units, in_range, in_units, tick_of}
use Rattle.row.specs.Line.{without_return, ends, before, words, starts_letter}
use Rattle.row.specs.Heading.{heading_of}
use Rattle.row.specs.Layout.{wamit_layout}
use Rattle.row.specs.own.Values.{component_of, decimal_of, all_below, values_at, values_of}
use Rattle.row.specs.own.Rows.{is_in, same_node, is_fit, fitted, judged, entry_in, ranged_row, formed_row, words_row, row_of}
use Rattle.grid.specs.Slots.{slot_of, tick_slot, with_tick, held_ticks, held_headings, heading_slot, with_heading, held_with}
use Rattle.reader.specs.Valid.{sticks, valid_choices, clean, valid_line, valid_of, query_barred, valid_stage}
use Rattle.grid.specs.Valid.{valid_ticks, valid_headings, valid_presence, valid_slots}
use Rattle.table.specs.Cells.{node_at, place_of, cell_at, is_set, with_cell, with_flag, same_value, opposite, mirror}
use Rattle.table.specs.Placing.{grown, tick₁, tick₂, heading₁, heading₂, fits, node₁, node₂, here, there, clashes, written, placed}
use Rattle.table.specs.Pairs.{insert, inserted, ascending, each_with, product, node, nodes, at_one_heading, pairs_over, pairs_of, nth_of}
use Rattle.table.specs.Closing.{node_of, both_set, closed_over, closed_of}
use Rattle.table.specs.Entries.{entry_at}
use Rattle.table.specs.View.{has_heading}
use Rattle.table.specs.Entries.{in_bounds}
use Rattle.reader.specs.Model.{stuck_at, begun, keeping, kept_byte, settled, passed, ended, line_ended, line_feed, open_byte, byte_of, bytes_of, refusal_place, too_short, barred_by, refusal, repeated, tested, going, piece_of, settled_by, finished, closing, close_of, open_of, number_of}
use Rattle.neighbours.specs.Standing.{kept, nearest_of, between, standing}
use Rattle.load.specs.Corners.{ends as ends'load, corner_of, corners, is_bad, any_bad, weighed_sum, coefficient}
use Rattle.load.specs.Locating.{at_heading, located}
use Rattle.load.specs.Coefficient.{of_points, coefficient_of, number_of as numberOf'load, value_of}
use Rattle.seaway.specs.Sea.{line_at, lines_from, lines_of, size_of, rises, is_inadmissible}
use Rattle.load.specs.Force.{more, located_from, first_heading, located_sea, bad_among, amplitudes, step_of, term_of, term, total_by, mean_term_of, mean_term, mean_of, of_located_sea, load_by, whole_of, force_by}
use Rattle.phase.specs.Turn.{in_turn, cosine, sine}
use Rattle.phase.specs.Seconds.{cosines, seconds}
use Rattle.promises_worked.specs.Starred.{table_from, two_lines, is_coefficient, is_force, at_zero, every}
use Rattle.promises_worked.specs.SumWorked.{sum_text, sum_table, sum_sea, sum_cases, gives, SumWorked}

pub sum-worked : SumWorked
unfolding sum_text sum_table sum_sea sum_cases gives every table_from two_lines is_coefficient is_force at_zero rounds_up nearest sum_by bytes without starts_minus leading after all_digits numeral before_point decimals exponent exponent_of number_with field_of with_sign exact units in_range in_units tick_of without_return ends before words starts_letter heading_of wamit_layout component_of decimal_of all_below values_at values_of is_in same_node is_fit fitted judged entry_in ranged_row formed_row words_row row_of slot_of tick_slot with_tick held_ticks held_headings heading_slot with_heading held_with valid_choices valid_ticks valid_headings valid_presence valid_slots sticks valid_stage clean valid_line valid_of query_barred node_at place_of cell_at is_set with_cell with_flag same_value opposite mirror grown tick₁ tick₂ heading₁ heading₂ fits node₁ node₂ here there clashes written placed insert inserted ascending each_with product node nodes at_one_heading pairs_over pairs_of nth_of node_of entry_at both_set closed_over closed_of stuck_at begun keeping kept_byte settled passed ended line_ended line_feed open_byte byte_of bytes_of refusal_place too_short barred_by refusal repeated tested going piece_of settled_by finished closing close_of open_of number_of kept nearest_of between standing ends'load corner_of corners in_bounds is_bad any_of any_bad weighed_sum coefficient has_heading at_heading located of_points coefficient_of numberOf'load value_of line_at lines_from lines_of size_of rises is_inadmissible more located_from first_heading located_sea bad_among amplitudes step_of term_of term total_by mean_term_of mean_term mean_of of_located_sea load_by whole_of force_by in_turn cosine sine cosines seconds
sum-worked = tt
