-- `feeding::lay` meets its contract: what is passed has been laid. Assumes nothing.
use Rattle.std.proofs.Common.{◌≡◌, length, take}
use Rattle.reader.proofs.feeding.lay.Given as goal

abbrev pub invariant-loop-i : goal.invariant-loop-i
invariant-loop-i l = (take l.i l.places ≡ take l.i l.bytes) × (length l.places ≡ length l.bytes)
