-- `pen::width` meets its contract. Each turn counts one digit of the rest, which is the measure. Assumes nothing.
use mathlib.Core.Path.{◌≡◌}
use Prim.Native.Nat.{◌+◌}
use Rattle.text.specs.Decimal.{width}
use Rattle.text.proofs.pen.width.Given as goal

abbrev pub invariant-loop-rest : goal.invariant-loop-rest
invariant-loop-rest l =
    l.count + width l.rest ≡ 1 + width l.n

abbrev pub decreases-loop-rest : goal.decreases-loop-rest
decreases-loop-rest l =
    l.rest
