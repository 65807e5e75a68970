-- `explanation::put_bringers` meets its contract: the lines behind the word. Assumes nothing.
use Rattle.field.specs.Text.{bytes}
use Rattle.accounts.specs.Explanation.{bringers_text}
use Rattle.accounts.proofs.explanation.put_bringers.Goals as goal

pub returns : goal.returns
unfolding bytes bringers_text
returns c = c.put_line.ensures
