-- `Record::keep` meets its contract: each return is a case of `kept_byte`. Assumes nothing.
use Rattle.std.proofs.Common.{◌∙◌, ◌+◌, ap, refl, set}
use borrow.Author.Tests.{eq-eqb, ne_eqb}
use Rattle.reader.specs.declared.record.Record.{Record}
use Rattle.reader.specs.Model.{State, state_of, counting, kept_byte, stuck_at, keeping, begun}
use Rattle.reader.proofs.record.Record.keep.Goals as goal
use Rattle.reader.proofs.record.Record.keep.Goals.{then-count-eq0+else-self-eq1000000, else-count-eq0+else-count-eq160}

pub returns-then-self-eq1000000 : goal.returns-then-self-eq1000000
unfolding kept_byte stuck_at
returns-then-self-eq1000000 c cells flags = rw (c.stick.ensures, eq-eqb _ _ c.if-count-eq0.true, eq-eqb _ _ c.if-self-eq1000000.true) refl

pub returns-then-count-eq160 : goal.returns-then-count-eq160
unfolding kept_byte stuck_at
returns-then-count-eq160 c cells flags = rw (c.stick-then-count-eq160.ensures, ne_eqb _ _ c.if-count-eq0.false, eq-eqb _ _ c.if-count-eq160.true) refl

pub returns : goal.returns
unfolding kept_byte keeping begun
returns c cells flags =
    let count = c.args.self.now.marks.count in
    let b = c.args.b in
    let stored : Record → State = λ r. state_of (record { marks = counting (count + 1) r.marks; pair = r.pair; choices = r.choices; slots = r.slots; kept = set r.kept count b }) cells flags in
    elim c.if-count-eq0.branch [ then-count-eq0+else-self-eq1000000 w ↦ ap stored w.self-is ∙ rw (eq-eqb _ _ w.if-count-eq0.true, ne_eqb _ _ w.if-self-eq1000000.false) refl | else-count-eq0+else-count-eq160 w ↦ ap stored w.self-is ∙ rw (ne_eqb _ _ w.if-count-eq0.false, ne_eqb _ _ w.if-count-eq160.false) refl ]
