-- `writing::put_row` meets its contract: the values behind the indexes, which go by what the slots hold, in order. Assumes nothing.
use Rattle.std.proofs.Common.{◌≡◌, ◌++◌, map, length, take, ap, ◌∙◌, rules}
use lib.ListN.{length-map}
use Rattle.text.proofs.Pens.{◌then◌, puts-as}
use Rattle.table.specs.declared.pairs.Order.{Order}
use Rattle.table.specs.Entries.{complex_of}
use Rattle.table.proofs.InOrder.{order-ticks, order-headings}
use Rattle.qtf.specs.own.Spacing.{index_text}
use Rattle.qtf.proofs.Spacing.{values_text, row-is-put}
use Rattle.qtf.proofs.writing.put_row.Goals as goal

pub returns : goal.returns
returns c =
    let x = c.args in
    let k = c.in_order.ensures in
    let ticks = ap (λ (q : Order). take q.frequencies q.ticks) k ∙ order-ticks x.s in
    let hs = ap (λ (q : Order). take q.held q.headings) k ∙ order-headings x.s in
    let zs = map complex_of x.values in
    let six : length x.values ≡ 6 = search rules in
    puts-as (c.put_indexes.ensures then c.next_values.ensures)
    ((λ i. index_text (ticks i) (hs i) x.p ++ values_text 0 x.values) ∙ row-is-put _ _ x.p zs (length-map x.values complex_of ∙ six))
