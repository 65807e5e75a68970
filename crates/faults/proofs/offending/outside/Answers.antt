-- `offending::outside` meets its contract: a column with no quantity has no range, and any other is held to its own. Assumes nothing.
use Rattle.std.proofs.Common.{sym, ◌∙◌, rules}
use Rattle.faults.specs.own.Offends.{is_outside, is_out_of, is_out}
use Rattle.faults.proofs.offending.outside.Goals as goal

pub returns-in_default : goal.returns-in_default
unfolding is_outside is_out_of
returns-in_default c = rw (sym c.quantity.ensures ∙ c.in_default.is)

pub returns : goal.returns
unfolding is_outside is_out_of is_out
returns c = rw (sym c.quantity.ensures ∙ c.in-Some.is, ← c.decimal.ensures) (search rules)
