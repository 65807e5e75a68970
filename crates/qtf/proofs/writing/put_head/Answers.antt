-- `writing::put_head` meets its contract, by the number of the line: a name, or what the slots hold, in order. Assumes nothing.
use Rattle.std.proofs.Common.{ℕ, List, [], ◌≤◌, length, take, ap, ◌∙◌, arith}
use lib.Dec.{leb}
use lib.Signed.{le_z}
use lib.ListN.{get_or-eq_default}
use Rattle.field.specs.Text.{bytes}
use Rattle.text.proofs.Pens.{puts-none, puts-as}
use Rattle.grid.specs.declared.nodes.Slots.{Slots}
use Rattle.table.specs.declared.pairs.Order.{Order}
use Rattle.grid.specs.Slots.{held_ticks, held_headings}
use Rattle.table.specs.Pairs.{ascending}
use Rattle.table.proofs.InOrder.{order-ticks, order-headings}
use Rattle.qtf.specs.Matrix.{frequency_text, heading_text, head_lines}
use Rattle.qtf.proofs.writing.put_head.Goals as goal

abbrev heads : Slots → List (List ℕ)
heads s = head_lines (ascending leb (held_ticks s.ticks)) (ascending le_z (held_headings s))

pub returns-in-0 : goal.returns-in-0
unfolding head_lines bytes
returns-in-0 c = rw c.in-0.is c.word.ensures

pub returns-in-1 : goal.returns-in-1
unfolding head_lines
returns-in-1 c = rw c.in-1.is (puts-as c.put_frequencies.ensures (ap frequency_text (c.ticks.ensures.those ∙ ap (λ (q : Order). take q.frequencies q.ticks) c.in_order-o.ensures ∙ order-ticks c.args.s)))

pub returns-in-2 : goal.returns-in-2
unfolding head_lines bytes
returns-in-2 c = rw c.in-2.is c.word-in-2.ensures

pub returns-in-3 : goal.returns-in-3
unfolding head_lines
returns-in-3 c = rw c.in-3.is (puts-as c.put_headings.ensures (ap heading_text (c.headings.ensures.those ∙ ap (λ (q : Order). take q.held q.headings) c.in_order-o-in-3.ensures ∙ order-headings c.args.s)))

pub returns-in-4 : goal.returns-in-4
unfolding head_lines bytes
returns-in-4 c = rw c.in-4.is c.word-in-4.ensures

pub returns-in_default : goal.returns-in_default
unfolding head_lines
returns-in_default c =
    let past : length (heads c.args.s) ≤ c.args.k = omega arith in
    puts-none _ (get_or-eq_default (heads c.args.s) [] past)
