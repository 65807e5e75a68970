-- `field::units::in_range` meets its contract: each way out is a case of `in_range`, once the bits of z, low and high are read back. Assumes nothing.
use Rattle.std.proofs.Common.{◌≡◌, sym, ◌∙◌, ap, ◌<◌, ◌^◌, ℤ, Some}
use lib.Signed.{le_z, mag}
use mir.Syntax.{w32, w64}
use mir.Val.{SFits, to_z, of_z}
use mir.Facts.{to_z-of_z}
use Rattle.field.proofs.Scales.{range-below, range-above, range-in, between}
use Rattle.field.proofs.units.in_range.Goals as goal
use Rattle.field.proofs.units.in_range.Goals.{else-from-z-via-then-from-z+else-z-from, else-from-z-via-else-from-z}

-- an end of the range, as a wider word
widened : {wide end : ℤ} → mag wide < 2 ^ 63 → wide ≡ to_z w32 (of_z w32 end) → SFits w32 end → to_z w64 (of_z w64 wide) ≡ end
widened f e g = to_z-of_z {w = w64} record { sfits = f } ∙ e ∙ to_z-of_z g

pub returns-then-z-from : goal.returns-then-z-from
returns-then-z-from c =
    let z = to_z-of_z c.ranges.z in
    let low = widened c.from.type_inv c.from.ensures c.ranges.low in
    let high = widened c.from-then-from-z.type_inv c.from-then-from-z.ensures c.ranges.high in
    let above = sym (λ i. le_z (low i) (z i)) ∙ c.if-from-z.true in
    let below = sym (λ i. le_z (z i) (high i)) ∙ c.if-z-from.true in
    let fits = between c.args.low c.args.high c.args.z c.ranges.low.sfits c.ranges.high.sfits above below in
    ap (λ y. Some (to_z w32 (of_z w32 y))) z
    ∙ ap (λ y. Some y) (to_z-of_z {w = w32} record { sfits = fits })
    ∙ range-in c.args.low c.args.high c.args.z above below

pub returns-else-from-z : goal.returns-else-from-z
returns-else-from-z c =
    let z = to_z-of_z c.ranges.z in
    let low = widened c.from.type_inv c.from.ensures c.ranges.low in
    elim c.else-from-z.branch [
      | else-from-z-via-then-from-z+else-z-from w ↦
          (let high = widened w.from-then-from-z.type_inv w.from-then-from-z.ensures c.ranges.high in
          range-above c.args.low c.args.high c.args.z (sym (λ i. le_z (z i) (high i)) ∙ w.if-z-from.false))
      | else-from-z-via-else-from-z w ↦
          range-below c.args.low c.args.high c.args.z (sym (λ i. le_z (low i) (z i)) ∙ w.if-from-z.false)
    ]
