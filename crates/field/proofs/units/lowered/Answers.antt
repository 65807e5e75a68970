-- `field::units::lowered` meets its contract: over 10^20 nothing is left. Assumes nothing.
use Rattle.std.proofs.Common.{◌∙◌, sym, ap}
use Rattle.field.specs.Units.{within_word}
use Rattle.field.proofs.Scales.{lowered-nothing, none-ten}
use Rattle.field.proofs.units.lowered.Goals as goal

pub returns-in_default : goal.returns-in_default
returns-in_default c =
    let many = none-ten _ (sym c.in_default.is ∙ c.ten_to.ensures) in
    sym (ap within_word (lowered-nothing c.args.digits c.args.n c.ranges.digits.fits many))
