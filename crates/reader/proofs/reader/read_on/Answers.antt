-- `reader::read_on` meets its contract: a record that is not open takes nothing in. Assumes nothing.
use Rattle.std.proofs.Common.{sym}
use borrow.Author.Tests.{le-leb, lt-leb}
use Rattle.reader.specs.Model.{counts_fit, read_on}
use Rattle.reader.proofs.TextLoop.{bytes-stuck}
use Rattle.reader.proofs.reader.read_on.Goals as goal
use Rattle.reader.proofs.reader.read_on.Goals.{else-r-le1000000-via-then-r-le1000000+then-r-le160+else-r-eq1, else-r-le1000000-via-then-r-le1000000+else-r-le160, else-r-le1000000-via-else-r-le1000000}

pub returns-then-r-eq1 : goal.returns-then-r-eq1
unfolding read_on counts_fit
returns-then-r-eq1 c = rw (le-leb _ 1_000_000 c.if-r-le1000000.true, le-leb _ 160 c.if-r-le160.true) c.feed.ensures

pub returns-else-r-le1000000 : goal.returns-else-r-le1000000
unfolding read_on counts_fit
returns-else-r-le1000000 c =
    elim c.else-r-le1000000.branch [ else-r-le1000000-via-then-r-le1000000+then-r-le160+else-r-eq1 w ↦ rw (le-leb _ 1_000_000 w.if-r-le1000000.true, le-leb _ 160 w.if-r-le160.true) (sym (bytes-stuck _ _ w.if-r-eq1.false)) | else-r-le1000000-via-then-r-le1000000+else-r-le160 w ↦ rw (le-leb _ 1_000_000 w.if-r-le1000000.true, lt-leb _ 160 w.if-r-le160.false) | else-r-le1000000-via-else-r-le1000000 w ↦ rw (lt-leb _ 1_000_000 w.if-r-le1000000.false) ]
