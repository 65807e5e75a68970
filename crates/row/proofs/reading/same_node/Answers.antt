-- `reading::same_node` meets its contract: the ticks are compared, and then the headings by their bits. Assumes nothing.
use Rattle.std.proofs.Common.{rules}
use borrow.Author.Tests.{eq-eqb, ne_eqb}
use mir.Syntax.{w32}
use mir.Val.{SFits}
use Rattle.row.specs.own.Rows.{same_node}
use Rattle.whole.proofs.Same.{same_bits}
use Rattle.row.proofs.reading.same_node.Goals as goal

pub returns-then-e : goal.returns-then-e
unfolding same_node
returns-then-e c =
    let fits1 : SFits w32 c.args.e.heading1 = search rules in
    let fits2 : SFits w32 c.args.e.heading2 = search rules in
    rw (eq-eqb _ _ c.if-e.true) (same_bits w32 fits1 fits2)

pub returns-else-e : goal.returns-else-e
unfolding same_node
returns-else-e c = rw (ne_eqb _ _ c.if-e.false)
