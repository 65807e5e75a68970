-- `field::units::in_units` meets its contract: the size is scaled and rounded once, keeps its sign, and is held to the range; a size past 2^31 is out of
-- any range. Assumes nothing.
use mathlib.Core.Path.{◌≡◌, sym, ◌∙◌, ap}
use Prim.Native.Nat.{ℕ, ◌+◌, ◌*◌, ◌^◌, ◌<◌}
use native.Mathlib.Omega.{arith}
use mir.Syntax.{w64}
use mir.Facts.{to_z-of_z}
use Rattle.whole.specs.Nearest.{nearest}
use Rattle.field.specs.Units.{within_word, with_sign, units, in_range, in_units}
use Rattle.field.proofs.Scales.{word-held, none-held, units-size, range-past, mag-with-sign}
use Rattle.field.proofs.units.in_units.Goals as goal
use Rattle.field.proofs.units.in_units.Goals.{After-scaled}

-- the size, rounded
abbrev rounded : After-scaled → ℕ
rounded c = nearest (c.args.d.digits * 10 ^ (c.args.d.up + c.args.places)) (10 ^ c.args.d.down)

scaled_is : (c : After-scaled) → c.scaled.result ≡ within_word (rounded c)
scaled_is c =
    c.scaled.ensures
    ∙ (λ i. within_word (nearest (c.args.d.digits * 10 ^ (c.from.ensures i + c.from-2.ensures i)) (10 ^ c.from-3.ensures i)))

pub with_sign-requires : goal.with_sign-requires
with_sign-requires c =
    let given = word-held _ _ (sym c.in_ok-size.was ∙ scaled_is (goal.at.with_sign-requires c).After-scaled) in
    omega (arith, given)

pub returns-in_err-size : goal.returns-in_err-size
unfolding in_units
returns-in_err-size c =
    let s = (goal.at.returns-in_err-size c).After-scaled in
    let large : 2 ^ 31 < rounded s = none-held _ (sym c.in_err-size.was ∙ scaled_is s) in
    c.from_residual.ensures
    ∙ range-past c.args.low c.args.high (with_sign c.args.d.negative (rounded s)) c.ranges.low.sfits c.ranges.high.sfits
    (mag-with-sign c.args.d.negative (rounded s) large)
    ∙ sym (ap (in_range c.args.low c.args.high) (units-size c.args.d c.args.places))

pub returns : goal.returns
unfolding in_units
returns c =
    let s = (goal.at.returns c).After-scaled in
    let given = word-held _ _ (sym c.in_ok-size.was ∙ scaled_is s) in
    let back = to_z-of_z {w = w64} record { sfits = c.with_sign.type_inv } in
    let signed : c.with_sign.result ≡ units c.args.d c.args.places =
    c.with_sign.ensures
    ∙ ap (with_sign c.args.d.negative) given.0
    ∙ sym (units-size c.args.d c.args.places) in
    c.in_range.ensures
    ∙ (λ i. in_range (to_z-of_z c.ranges.low i) (to_z-of_z c.ranges.high i) ((back ∙ signed) i))
