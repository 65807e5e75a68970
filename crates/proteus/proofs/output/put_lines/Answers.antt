-- `output::put_lines` meets its contract: what is left of the text is still to come, and a line bounds how many there are. Assumes nothing.
use Rattle.std.proofs.Common.{◌≤◌, length, refl, arith}
use Rattle.text.proofs.Pens.{◌then◌, begun, next-put, all-put, puts-as}
use Rattle.hull.specs.Six.{components_of}
use Rattle.proteus.specs.Lines.{proteus_lines}
use Rattle.proteus.specs.Answer.{proteus_text}
use Rattle.proteus.proofs.Accepted.{free}
use Rattle.proteus.proofs.Answering.{lines-few}
use Rattle.proteus.proofs.Stepping.{six-led, step-put, none-put, beyond-put, whole-put}
use Rattle.proteus.proofs.WholeText.{next-line, no-lines, whole-line}
use Rattle.proteus.proofs.output.put_lines.Goals as goal

pub loop-k-init : goal.loop-k-init
loop-k-init c = (begun _ _, λ h. absurd (omega arith))

pub loop-k-preserved : goal.loop-k-preserved
loop-k-preserved c =
    let k = c.loop-k.k in
    let (there, whole, same) = step-put _ k _ _ c.in-Put.ensures.step in
    (next-put c.loop-k.invariant.0 (next-line _ k there) ((puts-as c.put_line.ensures.put (whole-put _ k whole)) then c.byte.ensures), λ h. c.put_line.ensures.slotted)

-- no line is spoilt, so that what is not put is past the last
pub returns-in_default : goal.returns-in_default
unfolding proteus_text
returns-in_default c =
    let k = c.loop-k.k in
    let (first, l) = six-led c.args.six.now in
    let past = none-put _ k _ c.put_line.ensures.step (λ n. c.in_default.not-Put n) (whole-line l (free _ c.requires).whole k) in
    all-put (next-put c.loop-k.invariant.0 refl (puts-as c.put_line.ensures.put (beyond-put _ k 0 past))) (no-lines _ k past)

pub returns : goal.returns
unfolding proteus_text
returns c =
    let (first, l) = six-led c.args.six.now in
    let few : length (proteus_lines (components_of c.args.six.now)) ≤ 6_405 = lines-few l (c.loop-k.invariant.1 (omega arith)) in
    all-put c.loop-k.invariant.0 (no-lines _ c.loop-k.k (omega arith))
