-- `form::digits` meets its contract: each goal is a law of proofs/Loop.antt on what is left. Assumes nothing.
use Rattle.std.proofs.Common.{◌≡◌, sym, ◌∙◌, false, ◌≤◌, length, get_or, arith}
use Rattle.field.specs.Form.{is_digit}
use Rattle.field.proofs.Runs.{digit-ge, digit-le}
use Rattle.field.proofs.Loop.{again, counted, followed, numbered}
use Rattle.field.proofs.form.digits.Goals as goal
use Rattle.field.proofs.form.digits.Goals.{in_default, in-len1-up+then-not-is_ascii_digit}

pub loop-rest-preserved : goal.loop-rest-preserved
loop-rest-preserved c =
    let digit = sym c.is_ascii_digit.ensures.value ∙ c.if-not-is_ascii_digit.false in
    let more = c.with_digit-number.ensures in
    again _ _ _ _ c.loop-rest.invariant _ c.in-len1-up.len_at_least digit more.small more.exact

pub with_digit-number-requires : goal.with_digit-number-requires
with_digit-number-requires c =
    let digit = sym c.is_ascii_digit.ensures.value ∙ c.if-not-is_ascii_digit.false in
    (c.loop-rest.invariant.small, digit-ge _ digit, digit-le _ digit)

-- no digit stands first where the loop is left
stop :
    (c : goal.Joined-rest-lt1) → 1 ≤ length c.loop-rest.rest.now → is_digit (get_or c.loop-rest.rest.now 0 0) ≡ false
stop c h =
    elim c.if-rest-lt1.branch [
      | in_default w ↦ absurd (omega arith)
      | in-len1-up+then-not-is_ascii_digit w ↦ sym w.is_ascii_digit.ensures.value ∙ w.if-not-is_ascii_digit.true
    ]

pub returns : goal.returns
returns c =
    record {
      small = c.loop-rest.invariant.small;
      count = counted _ _ _ _ c.loop-rest.invariant (stop c);
      rest = followed _ _ _ _ c.loop-rest.invariant (stop c);
      number = numbered _ _ _ _ c.loop-rest.invariant (stop c);
    }
