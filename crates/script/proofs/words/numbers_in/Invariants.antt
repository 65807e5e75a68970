-- `words::numbers_in`: the numbers so far, and those of the words that are left, come to those of the line. Assumes nothing.
use Rattle.std.proofs.Common.{◌≡◌, length}
use Rattle.script.specs.Line.{words_of}
use Rattle.script.specs.Number.{nothing}
use Rattle.script.specs.own.Behind.{with_all}
use Rattle.script.proofs.words.numbers_in.Given as goal

abbrev pub invariant-loop-end : goal.invariant-loop-end
invariant-loop-end l = with_all l.all (words_of l.rest) ≡ with_all nothing (words_of l.fn.line)

abbrev pub decreases-loop-end : goal.decreases-loop-end
decreases-loop-end l = length l.rest
