-- `fit::fits` meets its contract: each of its two tests is one of the model's. Assumes nothing.
use Rattle.std.proofs.Common.{◌≡◌, ap, ◌∙◌, ◌+◌, ◌-◌, nat_abs}
use mir.Facts.{to_z-of_z}
use Rattle.row.specs.Fit.{slack, square, both_squares}
use Rattle.row.proofs.Fitting.{too_small, at_most}
use Rattle.row.proofs.fit.fits.Goals as goal
use Rattle.row.proofs.fit.fits.Goals.{After-square}

-- M, and what each call gives
modulus-is : (c : After-square) → c.size-m.result ≡ nat_abs c.args.modulus
modulus-is c = c.size-m.ensures.value ∙ ap nat_abs (to_z-of_z c.ranges.modulus)

sum_is : (c : After-square) → c.both_squares-both.result ≡ both_squares c.args.re c.args.im
sum_is c = c.both_squares-both.ensures ∙ (λ i. both_squares (to_z-of_z c.ranges.re i) (to_z-of_z c.ranges.im i))

low-is : (c : After-square) → let m = nat_abs c.args.modulus in c.square.result ≡ square (m - slack m)
low-is c =
    let m = modulus-is c in
    c.square.ensures ∙ ap square (c.saturating_sub.ensures ∙ (λ i. m i - slack (m i)))

pub returns-then-square-both : goal.returns-then-square-both
returns-then-square-both c =
    let a = (goal.at.returns-then-square-both c).After-square in
    let m = modulus-is a in
    at_most _ _ _ (low-is a) (sum_is a) (c.square-then-square-both.ensures ∙ (λ i. square (m i + slack (m i)))) c.if-square-both.true

pub returns-else-square-both : goal.returns-else-square-both
returns-else-square-both c =
    let a = (goal.at.returns-else-square-both c).After-square in
    too_small _ _ _ (low-is a) (sum_is a) c.if-square-both.false
