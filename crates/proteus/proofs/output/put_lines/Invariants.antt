-- `output::put_lines` meets its contract: what is left of the text is still to come, and a line bounds how many there are. Assumes nothing.
use Rattle.std.proofs.Common.{◌<◌, drop}
use Rattle.text.specs.Parts.{text_of}
use Rattle.text.proofs.Pens.{Begun}
use Rattle.hull.specs.Six.{components_of}
use Rattle.proteus.specs.Lines.{proteus_lines}
use Rattle.proteus.specs.own.Step.{Slotted}
use Rattle.proteus.proofs.output.put_lines.Given as goal

abbrev pub invariant-loop-k : goal.invariant-loop-k
invariant-loop-k l =
    let lines = proteus_lines (components_of l.six) in
    Begun (text_of lines) (text_of (drop l.k lines)) l.initial.pen l.pen × (0 < l.k → Slotted (components_of l.six))
