-- `pen::width` meets its contract. Each turn counts one digit of the rest, which is the measure. Assumes nothing.
use Prim.Native.Nat.{◌^◌, ◌<◌}
use native.Mathlib.Omega.{arith}
use Rattle.text.proofs.Widths.{width_one, width-more, width_few}
use Rattle.text.proofs.pen.width.Goals as goal

pub overflow_add-count : goal.overflow_add-count
overflow_add-count c =
    let n = c.args.n in
    let small : n < 10 ^ 20 = omega arith in
    omega (arith, width_few 19 n small)

pub loop-rest-preserved : goal.loop-rest-preserved
loop-rest-preserved c = omega (arith, width-more c.loop-rest.rest c.loop-rest-test.true)

pub returns : goal.returns
returns c = omega (arith, width_one c.loop-rest.rest c.loop-rest-test.false)
