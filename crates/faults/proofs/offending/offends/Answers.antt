-- `offending::offends` meets its contract: a test for each of the two numbers. Assumes nothing.
use Rattle.std.proofs.Common.{arith}
use borrow.Author.Tests.{ne_eqb}
use Rattle.faults.specs.own.Offends.{offends}
use Rattle.faults.proofs.offending.offends.Goals as goal

pub returns-in-5 : goal.returns-in-5
unfolding offends
returns-in-5 c = rw c.in-5.is c.misformed.ensures

pub returns-in-6 : goal.returns-in-6
unfolding offends
returns-in-6 c = rw c.in-6.is c.outside.ensures

pub returns-in_default : goal.returns-in_default
unfolding offends
returns-in_default c = rw (ne_eqb c.args.number 5 (λ e. omega arith), ne_eqb c.args.number 6 (λ e. omega arith))
