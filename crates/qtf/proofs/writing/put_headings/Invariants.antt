-- `writing::put_headings` meets its contract: what is left of the text is still to come. Assumes nothing.
use Rattle.std.proofs.Common.{drop}
use Rattle.text.proofs.Pens.{Begun}
use Rattle.qtf.proofs.Spacing.{left_of, heading_word}
use Rattle.qtf.proofs.writing.put_headings.Given as goal

abbrev pub invariant-loop-i : goal.invariant-loop-i
invariant-loop-i l = Begun (left_of heading_word 0 l.headings) (left_of heading_word l.i (drop l.i l.headings)) l.initial.pen l.pen
