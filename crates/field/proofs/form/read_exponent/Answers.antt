-- `form::read_exponent` meets its contract: each return is a law of proofs/Parts.antt on the digits behind the letter and its sign. Assumes nothing.
use Rattle.std.proofs.Common.{sym, arith}
use borrow.Author.Tests.{true-eqb, false-eqb}
use Rattle.field.specs.Form.{is_sign, without}
use Rattle.field.proofs.Runs.{behind, seam}
use Rattle.field.proofs.Parts.{Taken, taken, no-exponent-is, no-letter, more-follows, no_digit, many-digits, power_small, power-is}
use Rattle.field.proofs.form.read_exponent.Goals as goal
use Rattle.field.proofs.form.read_exponent.Goals.{After-digits-power, then-not-is_empty-via-then-not-is_empty, then-not-is_empty-via-else-not-is_empty+then-power-eq0, then-not-is_empty-via-else-not-is_empty+else-power-eq0+then-power-gt2}

-- the digits behind the sign
power :
    (c : After-digits-power)
    → Taken (without is_sign (behind c.args.s.now)) 0 c.digits-power.result.number c.digits-power.result.count c.digits-power.result.rest.now
power c =
    let d = c.digits-power.ensures in
    taken (c.past.ensures is_sign (λ b r p. p)) d.count d.rest d.number

pub returns-in-empty : goal.returns-in-empty
returns-in-empty c = no-exponent-is _ (omega arith)

pub returns-in_default : goal.returns-in_default
returns-in_default c = rw (seam c.args.s.now c.in-len1-up.len_at_least) (no-letter _ _ (sym c.if-is_exponent.ensures))

pub returns-then-not-is_empty : goal.returns-then-not-is_empty
returns-then-not-is_empty c =
    let k = power (goal.at.returns-then-not-is_empty c).After-digits-power in
    let letter = sym c.if-is_exponent.ensures in
    rw (seam c.args.s.now c.in-len1-up.len_at_least)
    elim c.then-not-is_empty.branch [
      | then-not-is_empty-via-then-not-is_empty w ↦ more-follows _ _ _ _ k _ letter (false-eqb _ _ w.if-not-is_empty.ensures)
      | then-not-is_empty-via-else-not-is_empty+then-power-eq0 w ↦ no_digit _ _ _ _ k _ letter (true-eqb _ _ w.if-not-is_empty.ensures) w.if-power-eq0.true
      | then-not-is_empty-via-else-not-is_empty+else-power-eq0+then-power-gt2 w ↦ many-digits _ _ _ _ k _ letter (true-eqb _ _ w.if-not-is_empty.ensures) w.if-power-gt2.true
    ]

pub overflow_cast-result : goal.overflow_cast-result
overflow_cast-result c =
    let k = power (goal.at.overflow_cast-result c).After-digits-power in
    omega (arith, power_small _ _ _ _ k (true-eqb _ _ c.if-not-is_empty.ensures) c.if-power-gt2.false)

pub returns-else-power-gt2 : goal.returns-else-power-gt2
returns-else-power-gt2 c =
    let k = power (goal.at.returns-else-power-gt2 c).After-digits-power in
    rw (seam c.args.s.now c.in-len1-up.len_at_least, c.starts_minus.ensures)
    (power-is _ _ _ _ k _ (sym c.if-is_exponent.ensures) (true-eqb _ _ c.if-not-is_empty.ensures) c.if-power-eq0.false c.if-power-gt2.false)
