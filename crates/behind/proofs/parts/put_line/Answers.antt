-- `parts::put_line` meets its contract: the numbers behind the word. Assumes nothing.
use Rattle.std.proofs.Common.{sym}
use Rattle.text.proofs.Pens.{◌then◌, puts-as}
use Rattle.behind.proofs.Words.{spaced-is}
use Rattle.behind.proofs.parts.put_line.Goals as goal

pub returns : goal.returns
returns g c = puts-as (c.word.ensures then c.next_numbers.ensures) (sym (spaced-is _ _))
