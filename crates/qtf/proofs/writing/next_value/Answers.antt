-- `writing::next_value` meets its contract: one part behind the other. Assumes nothing.
use Rattle.std.proofs.Common.{◌∷◌, rules}
use Rattle.text.specs.Decimal.{decimal}
use Rattle.text.proofs.Pens.{◌then◌, puts-wide}
use Rattle.qtf.proofs.writing.next_value.Goals as goal

pub returns : goal.returns
returns c =
    puts-wide (λ z. 32 ∷ decimal 6 z) (search rules) c.from.ensures c.next_decimal.ensures
    then puts-wide (λ z. 32 ∷ decimal 6 z) (search rules) c.from-2.ensures c.next_decimal-2.ensures
