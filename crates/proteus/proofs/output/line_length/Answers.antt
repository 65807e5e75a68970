-- `output::line_length` meets its contract: a line has room in 256 bytes. Assumes nothing.
use Rattle.std.proofs.Common.{ap, ◌∙◌}
use Rattle.text.proofs.Puts.{put-held}
use Rattle.text.proofs.Pens.{puts-from}
use Rattle.proteus.proofs.Answering.{six-long, lines-few, line-short}
use Rattle.proteus.proofs.Stepping.{six-led}
use Rattle.proteus.specs.own.Step.{line_put, step_of}
use Rattle.proteus.proofs.output.line_length.Goals as goal

pub returns : goal.returns
returns c =
    let said = c.put_line.ensures in
    let six = c.args.six.now in
    let k = c.args.k in
    let (first, l) = six-led six in
    let short = line-short l said.slotted c.requires (six-long six) k in
    let held = put-held 256 (line_put _ k) short (puts-from c.new-pen.ensures.begun said.put) in
    record { is = said.step ∙ ap (step_of _ k) held.long; short = short; few = lines-few l said.slotted }
