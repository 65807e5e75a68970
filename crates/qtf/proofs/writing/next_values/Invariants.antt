-- `writing::next_values` meets its contract: what is left of the text is still to come. Assumes nothing.
use Rattle.std.proofs.Common.{drop}
use Rattle.text.proofs.Pens.{Begun}
use Rattle.qtf.proofs.Spacing.{values_text}
use Rattle.qtf.proofs.writing.next_values.Given as goal

abbrev pub invariant-loop-v : goal.invariant-loop-v
invariant-loop-v l = Begun (values_text 0 l.v-items) (values_text l.v-index (drop l.v-index l.v-items)) l.initial.pen l.pen
