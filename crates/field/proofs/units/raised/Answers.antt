-- `field::units::raised` meets its contract: digits past a word stay past it, and so do ten digits and more. Assumes nothing.
use Rattle.std.proofs.Common.{◌∙◌, sym, ◌*◌, ◌^◌, ◌<◌, arith}
use native.Mathlib.Nat.{mul-le-mul}
use Rattle.field.proofs.Scales.{raised-large, none-word, none-held, none-ten, ten-above}
use Rattle.field.proofs.units.raised.Goals as goal

pub returns-in_err-size : goal.returns-in_err-size
returns-in_err-size c =
    let large : 2 ^ 31 < c.args.digits = none-held _ (sym c.in_err-size.was ∙ c.within_word.ensures) in
    let past : 2 ^ 31 < c.args.digits * 10 ^ c.args.n = omega (arith, mul-le-mul large (ten-above c.args.n)) in
    c.from_residual.ensures ∙ none-word _ past

pub returns-in_err-ten_to : goal.returns-in_err-ten_to
returns-in_err-ten_to c =
    let many = none-ten _ (sym c.in_err-ten_to.was ∙ c.ten_to.ensures) in
    let some : 0 < c.args.digits = omega arith in
    c.from_residual-in_err-ten_to.ensures ∙ none-word _ (raised-large c.args.digits c.args.n some (omega arith))
