-- `offending::misformed` meets its contract: the component's column by its number, any other by its field. Assumes nothing.
use Rattle.std.proofs.Common.{◌≡◌, sym, ap, ◌∙◌, Bool, not, Option, is_some, is_none}
use mathlib.Core.Bool.{not-not}
use borrow.Author.Tests.{eq-eqb, ne_eqb}
use Rattle.faults.specs.own.Offends.{is_misformed}
use Rattle.faults.proofs.offending.misformed.Goals as goal

told : {A : Type 0} (o : Option A) (none : Bool) → is_some o ≡ not none → none ≡ is_none o
told o none e = sym (ap not e ∙ not-not none)

pub returns-then-k-layout : goal.returns-then-k-layout
unfolding is_misformed
returns-then-k-layout c = rw (eq-eqb _ _ c.if-k-layout.true, ← c.component.ensures) (told _ _ c.is_none.ensures)

pub returns-else-k-layout : goal.returns-else-k-layout
unfolding is_misformed
returns-else-k-layout c = rw (ne_eqb _ _ c.if-k-layout.false, ← c.decimal.ensures) (told _ _ c.is_none-else-k-layout.ensures)
