-- What is left of the text says, behind the size so far, what all of it says.
use Rattle.std.proofs.Common.{◌≡◌, ◌^◌, ◌<◌, drop}
use Rattle.script.specs.Number.{onward, size_of}
use Rattle.script.proofs.numbers.digits.Given as goal

abbrev pub invariant-loop-b : goal.invariant-loop-b
invariant-loop-b l = (l.size < 2 ^ 64) × (onward l.size (drop l.b-index l.text) ≡ size_of l.text)
