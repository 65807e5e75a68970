-- `reading::fitted` meets its contract: each return is a case of refusal 7. Assumes nothing.
use Rattle.std.proofs.Common.{pos, rules}
use borrow.Author.Tests.{eq-eqb, ne_eqb}
use mir.Syntax.{w32}
use mir.Val.{SFits}
use mir.Facts.{sfits_lit}
use Rattle.row.specs.own.Rows.{fitted}
use Rattle.whole.proofs.Same.{same-yes, same-no}
use Rattle.row.proofs.reading.fitted.Goals as goal
use Rattle.row.proofs.reading.fitted.Goals.{else-c-eq0-via-then-c-eq0+then-same_node+else-e-ne0, else-c-eq0-via-then-c-eq0+else-same_node, else-c-eq0-via-else-c-eq0}

pub returns-then-e-ne0 : goal.returns-then-e-ne0
unfolding fitted
returns-then-e-ne0 c =
    let fits : SFits w32 c.args.e.im = search rules in
    rw (eq-eqb c.args.c.kind 0 c.if-c-eq0.true, ← c.if-same_node.ensures, same-no w32 {b = pos 0} fits (sfits_lit tt) c.if-e-ne0.true)

pub returns-else-c-eq0 : goal.returns-else-c-eq0
unfolding fitted
returns-else-c-eq0 c =
    elim c.else-c-eq0.branch [
      | else-c-eq0-via-then-c-eq0+then-same_node+else-e-ne0 w ↦
          (let fits : SFits w32 c.args.e.im = search rules in
          rw (eq-eqb _ _ w.if-c-eq0.true, ← w.if-same_node.ensures, same-yes w32 {b = pos 0} fits (sfits_lit tt) w.if-e-ne0.false))
      | else-c-eq0-via-then-c-eq0+else-same_node w ↦ rw (eq-eqb _ _ w.if-c-eq0.true, ← w.if-same_node.ensures)
      | else-c-eq0-via-else-c-eq0 w ↦ rw (ne_eqb _ _ w.if-c-eq0.false)
    ]
