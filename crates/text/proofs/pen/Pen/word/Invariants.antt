-- `pen::Pen::word` meets its contract: what the loop has passed of the text is put. Assumes nothing.
use Rattle.std.proofs.Common.{take}
use Rattle.text.specs.Pen.{Puts}
use Rattle.text.proofs.pen.Pen.word.Given as goal

abbrev pub invariant-loop-b : goal.invariant-loop-b
invariant-loop-b l = Puts (take l.b-index l.text) l.initial.self l.self
