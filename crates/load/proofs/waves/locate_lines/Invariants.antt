-- `waves::locate_lines` meets its contract: the lines from the last to the first, by the laws of LocatedSea. Assumes nothing.
use Rattle.load.specs.own.Waves.{located_by}
use Rattle.load.proofs.LocatedSea.{LocatingLines}
use Rattle.load.proofs.waves.locate_lines.Given as goal

abbrev pub invariant-loop-i : goal.invariant-loop-i
invariant-loop-i l =
    LocatingLines l.r l.sea (located_by l.outcome l.waves) l.i
