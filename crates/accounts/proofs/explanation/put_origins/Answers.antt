-- `explanation::put_origins` meets its contract: the lines of the headings behind those of the frequencies. Assumes nothing.
use Rattle.std.proofs.Common.{map}
use Rattle.field.specs.Text.{bytes}
use Rattle.text.specs.Decimal.{natural}
use Rattle.text.proofs.Pens.{◌then◌, puts-as}
use Rattle.behind.proofs.Words.{spaced-behind}
use Rattle.accounts.specs.Explanation.{origins_text}
use Rattle.accounts.proofs.explanation.put_origins.Goals as goal

pub returns : goal.returns
unfolding bytes origins_text
returns c =
    puts-as (c.put_line.ensures then c.next_numbers.ensures) (spaced-behind (bytes "held") (map natural c.args.o.ticks) (map natural c.args.o.headings))
