-- `pen::Pen::natural` meets its contract: its digits, as many as it has. Assumes nothing.
use Rattle.std.proofs.Common.{ℕ, ap}
use Rattle.text.specs.Decimal.{digits, natural}
use Rattle.text.proofs.Pens.{puts-as}
use Rattle.text.proofs.pen.Pen.natural.Goals as goal

pub returns : goal.returns
unfolding natural
returns c = puts-as c.digits.ensures (ap (λ (k : ℕ). digits k c.args.n) c.width.ensures)
