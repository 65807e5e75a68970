-- `pen::whole_part` meets its contract: a power that no word holds is above every n. Assumes nothing.
use Rattle.std.proofs.Common.{◌^◌, ◌<◌, sym, arith}
use Rattle.std.proofs.Math.Nat.{one-le-pow, div-eq_of_lt}
use lib.Dec.{lit<}
use Rattle.text.proofs.pen.whole_part.Goals as goal

pub nonzero_div-result : goal.nonzero_div-result
nonzero_div-result c = omega (arith, c.in-Some.ensures.1, one-le-pow c.from.result 10 (lit< tt))

pub returns-in-Some : goal.returns-in-Some
returns-in-Some c = rw (c.in-Some.ensures.1, c.from.ensures)

pub returns-in-None : goal.returns-in-None
returns-in-None c =
    let above : 10 ^ c.args.places < 18446744073709551616 → ⊥ = rw c.from.ensures at c.in-None.ensures in
    let large : c.args.n < 10 ^ c.args.places = omega (arith, c.ranges.n.fits) in
    sym (div-eq_of_lt large)
