-- `places::proteus` meets its contract: what the writer leaves (`room-told`). Assumes nothing.
use Rattle.asking.proofs.Telling.{room-told, writer-told}
use Rattle.asking.proofs.places.proteus.Goals as goal

pub returns : goal.returns
returns c =
    let a = c.args in
    rw (← c.first_among.ensures, c.in-Some.is)
    (room-told a.records c.in-Some.room a.lent.cells a.kept.now a.out.now c.min-c.ensures c.min-end.ensures c.if-room-gt1100000.false
    (writer-told a.records _ a.kept.now _ c.six.ensures c.write.ensures c.wrote_as.ensures))
