-- `Record::line_feed` meets its contract: each return is a case of `line_feed`. Assumes nothing.
use Rattle.std.proofs.Common.{◌∙◌, ap, refl}
use borrow.Author.Tests.{eq-eqb, ne_eqb}
use Rattle.reader.specs.declared.record.Record.{Record}
use Rattle.reader.specs.Model.{state_of, stuck_at, begun, line_ended, line_feed}
use Rattle.reader.proofs.record.Record.line_feed.Goals as goal
use Rattle.reader.proofs.record.Record.line_feed.Goals.{then-self-eq0+else-self-eq1000000, else-self-eq0}

pub returns-then-self-eq1000000 : goal.returns-then-self-eq1000000
unfolding line_feed stuck_at
returns-then-self-eq1000000 c = rw (c.stick.ensures, eq-eqb _ _ c.if-self-eq0.true, eq-eqb _ _ c.if-self-eq1000000.true) refl

pub returns : goal.returns
unfolding line_feed begun
returns c =
    let cells = c.args.cells.now in
    let flags = c.args.flags.now in
    c.end_line.ensures
    ∙ elim c.if-self-eq0.branch [ then-self-eq0+else-self-eq1000000 w ↦ ap (λ (r : Record). line_ended (state_of r cells flags)) w.self-is ∙ rw (eq-eqb _ _ w.if-self-eq0.true, ne_eqb _ _ w.if-self-eq1000000.false) refl | else-self-eq0 w ↦ ap (λ (r : Record). line_ended (state_of r cells flags)) w.self-is ∙ rw (ne_eqb _ _ w.if-self-eq0.false) refl ]
