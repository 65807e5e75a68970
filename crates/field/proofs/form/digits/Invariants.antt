-- `form::digits`: the invariant is `Reading` of proofs/Loop.antt, and the measure is what is left.
use Rattle.std.proofs.Common.{length}
use Rattle.field.proofs.Loop.{Reading}
use Rattle.field.proofs.form.digits.Given as goal

abbrev pub invariant-loop-rest : goal.invariant-loop-rest
invariant-loop-rest l = Reading l.s l.before l.rest l.number

abbrev pub decreases-loop-rest : goal.decreases-loop-rest
decreases-loop-rest l = length l.rest
