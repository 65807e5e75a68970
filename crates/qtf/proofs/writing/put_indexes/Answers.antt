-- `writing::put_indexes` meets its contract: each number is where a frequency or a heading stands. Assumes nothing.
use Rattle.std.proofs.Common.{◌≡◌, rules}
use mir.Syntax.{w32}
use mir.Val.{to_z, of_z}
use Rattle.text.proofs.Pens.{◌then◌, puts-as}
use Rattle.qtf.specs.own.Spacing.{index_text}
use Rattle.qtf.proofs.Spacing.{four_are}
use Rattle.qtf.proofs.writing.put_indexes.Goals as goal

pub returns : goal.returns
unfolding index_text
returns c =
    let x = c.args in
    let first : to_z w32 (of_z w32 x.p.first.heading) ≡ x.p.first.heading = search rules in
    let second : to_z w32 (of_z w32 x.p.second.heading) ≡ x.p.second.heading = search rules in
    let a = rw first at c.heading_index.ensures in
    let b = rw second at c.heading_index-2.ensures in
    let i = rw c.tick_index.ensures at c.natural.ensures in
    let j = rw c.tick_index-2.ensures at c.next_natural.ensures in
    puts-as (i then (j then ((rw a at c.next_natural-2.ensures) then (rw b at c.next_natural-3.ensures)))) (four_are _ _ _ _)
