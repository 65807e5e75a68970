-- `parts::next_numbers` meets its contract: what the loop has passed of the numbers is put. Assumes nothing.
use Rattle.std.proofs.Common.{map, take}
use Rattle.text.specs.Pen.{Puts}
use Rattle.behind.specs.Behind.{behind}
use Rattle.behind.proofs.parts.next_numbers.Given as goal

abbrev pub invariant-loop-n : goal.invariant-loop-n
invariant-loop-n g l = Puts (behind (map g.N.Numeral.text (take l.n-index l.numbers))) l.initial.pen l.pen
