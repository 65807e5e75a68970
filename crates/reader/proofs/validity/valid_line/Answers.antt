-- `validity::valid_line` meets its contract: std finds no line feed. Assumes nothing.
use Rattle.std.proofs.Common.{◌∙◌, ap, not}
use borrow.Author.Tests.{le-leb}
use Rattle.grid.proofs.Checking.{holds}
use Rattle.reader.specs.Valid.{valid_line}
use Rattle.reader.proofs.Valid.{clean-is}
use Rattle.reader.proofs.validity.valid_line.Goals as goal

pub returns-then-count-le160 : goal.returns-then-count-le160
unfolding valid_line
returns-then-count-le160 c = holds (le-leb _ _ c.if-count-le160.true) (ap not c.contains.ensures.value ∙ clean-is _)
