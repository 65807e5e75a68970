-- `sentences::put_brought` meets its contract: where no line brought it, nothing is put. Assumes nothing.
use Rattle.std.proofs.Common.{eq-eqb}
use Rattle.text.proofs.Pens.{puts-none}
use Rattle.wording.proofs.sentences.put_brought.Goals as goal

pub returns-else-line-ne0 : goal.returns-else-line-ne0
returns-else-line-ne0 c = puts-none _ (rw (eq-eqb _ 0 c.if-line-ne0.false))
