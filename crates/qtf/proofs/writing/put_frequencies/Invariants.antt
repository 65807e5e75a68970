-- `writing::put_frequencies` meets its contract: what is left of the text is still to come. Assumes nothing.
use Rattle.std.proofs.Common.{drop}
use Rattle.text.proofs.Pens.{Begun}
use Rattle.qtf.proofs.Spacing.{left_of, frequency_word}
use Rattle.qtf.proofs.writing.put_frequencies.Given as goal

abbrev pub invariant-loop-i : goal.invariant-loop-i
invariant-loop-i l = Begun (left_of frequency_word 0 l.ticks) (left_of frequency_word l.i (drop l.i l.ticks)) l.initial.pen l.pen
