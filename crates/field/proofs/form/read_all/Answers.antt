-- `form::read_all` meets its contract: the two runs of digits are those of the specification, and each return is a law of proofs/Parts.antt on them. Assumes nothing.
use Rattle.std.proofs.Common.{sym, ◌∙◌, arith, rules}
use Rattle.field.specs.Form.{is_sign, is_point, without}
use Rattle.field.proofs.Parts.{Taken, taken, counts-fit, exponent_lt, no-digits, too_many, no-exponent, number_is}
use Rattle.field.proofs.form.read_all.Goals as goal
use Rattle.field.proofs.form.read_all.Goals.{After-digits-all, then-count-eq0-via-then-count-eq0, then-count-eq0-via-else-count-eq0+then-count-gt15}

-- the digits before the point
first :
    (c : After-digits-all)
    → Taken (without is_sign c.args.s.now) 0 c.digits-whole.result.number c.digits-whole.result.count c.digits-whole.result.rest.now
first c =
    let d = c.digits-whole.ensures in
    taken (c.past.ensures is_sign (λ b r p. p)) d.count d.rest d.number

-- and those behind it
second :
    (c : After-digits-all)
    → Taken (without is_point c.digits-whole.result.rest.now) c.digits-whole.result.number c.digits-all.result.number c.digits-all.result.count c.digits-all.result.rest.now
second c =
    let d = c.digits-all.ensures in
    taken (c.past-2.ensures is_point (λ b r p. search rules)) d.count d.rest d.number

pub overflow_add-count : goal.overflow_add-count
overflow_add-count c = omega (arith, counts-fit _ (first c) (second c), c.well_formed)

pub returns-then-count-eq0 : goal.returns-then-count-eq0
returns-then-count-eq0 c =
    let a = (goal.at.returns-then-count-eq0 c).After-digits-all in
    elim c.then-count-eq0.branch [
      | then-count-eq0-via-then-count-eq0 w ↦ no-digits _ _ _ _ _ _ _ (first a) (second a) w.if-count-eq0.true
      | then-count-eq0-via-else-count-eq0+then-count-gt15 w ↦ too_many _ _ _ _ _ _ _ (first a) (second a) w.if-count-gt15.true
    ]

pub returns-in_err-exponent : goal.returns-in_err-exponent
returns-in_err-exponent c =
    let a = (goal.at.returns-in_err-exponent c).After-digits-all in
    let none = no-exponent _ _ _ _ _ _ _ (first a) (second a) c.if-count-eq0.false c.if-count-gt15.false (sym c.in_err-exponent.was ∙ c.read_exponent.ensures) in
    c.from_residual.ensures ∙ none

pub with_exponent-requires : goal.with_exponent-requires
with_exponent-requires c = (omega arith, exponent_lt _ _ (sym c.in_ok-exponent.was ∙ c.read_exponent.ensures))

pub returns : goal.returns
returns c =
    let a = (goal.at.returns c).After-digits-all in
    let digits = number_is _ _ _ _ _ _ _ (first a) (second a) c.if-count-eq0.false c.if-count-gt15.false _ (sym c.in_ok-exponent.was ∙ c.read_exponent.ensures) in
    rw (c.with_exponent.ensures, c.starts_minus.ensures) digits
