-- `output::added` meets its contract. The invariant is `Measuring` of proofs/Answering.antt, and a line bounds how many there are. Assumes nothing.
use Rattle.std.proofs.Common.{◌≡◌, ◌<◌, length, false, sym, ◌∙◌, arith}
use Rattle.hull.specs.Six.{components_of}
use Rattle.proteus.specs.Lines.{proteus_lines}
use Rattle.proteus.specs.Answer.{line_spoilt}
use Rattle.proteus.specs.own.Step.{line_put}
use Rattle.proteus.proofs.Answering.{measuring, measure-next, measure-spoilt, measure-end}
use Rattle.proteus.proofs.Stepping.{six-led, step-put, step-spoilt, step_past}
use Rattle.proteus.proofs.output.added.Goals as goal

-- a line was put: it is there, whole, and so long
line :
    (c : goal.In-Put)
    → (c.loop-k.k < length (proteus_lines (components_of c.args.six.now)))
    × (line_spoilt (components_of c.args.six.now) c.loop-k.k ≡ false)
    × (c.in-Put.n ≡ length (line_put (components_of c.args.six.now) c.loop-k.k))
line c = step-put _ c.loop-k.k _ _ (sym c.in-Put.is ∙ c.line_length.ensures.is)

pub loop-k-init : goal.loop-k-init
loop-k-init c = (measuring _, λ h. absurd (omega arith))

pub overflow_add-length : goal.overflow_add-length
overflow_add-length c = omega (arith, (line c).2, c.line_length.ensures.short)

pub overflow_add-length-in-Put : goal.overflow_add-length-in-Put
overflow_add-length-in-Put c = omega (arith, (line c).0, (line c).2, c.line_length.ensures.short, c.line_length.ensures.few, c.loop-k.invariant.0.small)

pub loop-k-preserved : goal.loop-k-preserved
loop-k-preserved c =
    let l = line c in
    (measure-next c.loop-k.invariant.0 c.in-Put.n l.0 l.1 l.2 (omega (arith, l.2, c.line_length.ensures.short)), λ h. c.line_length.ensures.few)

pub returns-in-Spoilt : goal.returns-in-Spoilt
returns-in-Spoilt c =
    let (first, l) = six-led c.args.six.now in
    let (there, spoilt) = step-spoilt _ c.loop-k.k _ (sym c.in-Spoilt.is ∙ c.line_length.ensures.is) in
    measure-spoilt c.loop-k.invariant.0 l c.requires there spoilt

pub returns-in-Past : goal.returns-in-Past
returns-in-Past c =
    let (first, l) = six-led c.args.six.now in
    measure-end c.loop-k.invariant.0 l c.requires (step_past _ c.loop-k.k _ (sym c.in-Past.is ∙ c.line_length.ensures.is))

pub returns-after-loop-k : goal.returns-after-loop-k
returns-after-loop-k c =
    let (first, l) = six-led c.args.six.now in
    measure-end c.loop-k.invariant.0 l c.requires (omega (arith, c.loop-k.invariant.1 (omega arith)))
