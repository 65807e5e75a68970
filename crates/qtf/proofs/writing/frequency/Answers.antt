-- `writing::frequency` meets its contract: the law `billionths-are` of proofs/Billionths.antt. Assumes nothing.
use mathlib.Core.Path.{ap, ◌∙◌}
use Prim.Native.Nat.{◌+◌, ◌*◌, ◌/◌, ◌%◌, ◌^◌, ◌<◌}
use native.Mathlib.Omega.{arith}
use lib.IntN.{pos}
use mir.Syntax.{w64}
use mir.Facts.{to_z_pos}
use Rattle.whole.proofs.Nearest.{nearest-le}
use Rattle.qtf.specs.Matrix.{billionths}
use Rattle.qtf.proofs.Billionths.{billionths-are}
use Rattle.qtf.proofs.writing.frequency.Goals as goal

pub small : (c : goal.After-nearest-rest) → c.from-t.result / 20_000 * 12_566_370_614 + c.nearest-rest.result < 2 ^ 63
small c = omega (arith, c.from-t.ensures, c.nearest-rest.ensures, nearest-le (c.from-t.result % 20_000 * 6_283_185_307) 10_000, c.ranges.tick.fits)

pub overflow_add-result : goal.overflow_add-result
overflow_add-result c = omega (arith, small c)

pub overflow_cast-result : goal.overflow_cast-result
overflow_cast-result c = record { sfits = small c }

pub returns : goal.returns
returns c =
    let t = c.from-t.result in
    to_z_pos w64 (small c) ∙ ap (λ n. pos (t / 20_000 * 12_566_370_614 + n)) c.nearest-rest.ensures ∙ ap pos (billionths-are t) ∙ ap (λ n. pos (billionths n)) c.from-t.ensures
