-- `output::made` meets its contract: each variant of the step is an answer of proofs/Answering.antt. Assumes nothing.
use Rattle.std.proofs.Common.{◌∙◌, rules}
use Rattle.text.proofs.Pens.{puts-from, held-as}
use Rattle.proteus.proofs.Answering.{six-long, line-short, past-whole, spoilt-line, past-line, put-line}
use Rattle.proteus.proofs.Stepping.{six-led, step-put, step-spoilt, step_past}
use Rattle.proteus.specs.Answer.{lined_of}
use Rattle.proteus.proofs.output.made.Goals as goal

pub returns-in-Put : goal.returns-in-Put
returns-in-Put c =
    let six = c.args.six.now in
    let k = c.args.k in
    let (first, l) = six-led six in
    let w = step-put _ k _ _ c.in-Put.ensures.step in
    let short = line-short l c.in-Put.ensures.slotted c.requires (six-long six) k in
    put-line _ k c.requires w.1 short (rw w.2 (held-as (search rules) (puts-from c.new-pen.ensures.begun c.put_line.ensures.put)))

pub returns-in-Spoilt : goal.returns-in-Spoilt
unfolding lined_of
returns-in-Spoilt c =
    let (there, spoilt) = step-spoilt _ c.args.k _ c.in-Spoilt.ensures.step in
    spoilt-line _ c.args.k c.requires spoilt

pub returns-in-Past : goal.returns-in-Past
unfolding lined_of
returns-in-Past c =
    let k = c.args.k in
    let (first, l) = six-led c.args.six.now in
    let past = step_past _ k _ c.in-Past.ensures.step in
    rw c.empty.ensures (past-line _ k c.requires (past-whole l k past) past)
