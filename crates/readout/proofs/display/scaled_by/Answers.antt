-- `display::scaled_by` meets its contract: the count is below 2^53, so a double holds it. Assumes nothing.
use mathlib.Core.Path.{◌≡◌, sym, ap, ◌∙◌, subst}
use native.Mathlib.Omega.{arith}
use lib.Dec.{T}
use lib.IntN.{ℤ}
use lib.Ieee.{binary64, in_float, mul, of_int}
use mir.Syntax.{w64}
use mir.Val.{to_z, of_z}
use mir.Facts.{to_z-of_z}
use Rattle.whole.specs.Nearest.{nearest_ℤ}
use Rattle.readout.specs.Display.{count_of, scaled}
use Rattle.readout.proofs.Shown.{count_small, held}
use Rattle.readout.proofs.display.scaled_by.Goals as goal
use Rattle.readout.proofs.display.scaled_by.Lts as lts
use Rattle.readout.proofs.display.scaled_by.Reads as reads
use Rattle.readout.proofs.display.scaled_by.Tie as claims

abbrev After-nearest_signed-count : Type 0
After-nearest_signed-count = lts.After-nearest_signed claims.the-claims reads.Pre reads.Post

count-is : (c : After-nearest_signed-count) → to_z w64 (of_z w64 c.nearest_signed-count.result) ≡ count_of c.args.force
unfolding count_of
count-is c =
    to_z-of_z {w = w64} record { sfits = c.nearest_signed-count.type_inv }
    ∙ c.nearest_signed-count.ensures
    ∙ ap (λ (z : ℤ). nearest_ℤ z 1_000) (to_z-of_z c.ranges.force)

pub int_to_float-result : goal.int_to_float-result
int_to_float-result c =
    subst (λ (z : ℤ). T (in_float binary64 z)) (sym (count-is c.before))
    (held (count_of c.args.force) (omega (arith, count_small c.args.force c.requires)))

pub returns : goal.returns
unfolding scaled
returns c = ap (λ (z : ℤ). mul binary64 (of_int binary64 z) c.args.scale) (count-is c.before)
