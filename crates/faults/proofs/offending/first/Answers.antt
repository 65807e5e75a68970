-- `offending::first` meets its contract. Assumes nothing.
use Rattle.std.proofs.Common.{refl, sym, ◌∙◌, arith, rules, tests}
use Rattle.std.proofs.lemmas.Iterator.{YieldsList-from_range}
use Rattle.std.proofs.lemmas.Iterator.Search.{find_from_yields_List}
use Rattle.std.proofs.lemmas.Iterator.Adapters.{option_map_id}
use Rattle.row.specs.own.Found.{first_nine}
use Rattle.faults.specs.own.Offends.{offends}
use Rattle.faults.proofs.offending.first.Goals as goal

pub returns : goal.returns
returns c =
    let n = c.args.layout.columns in
    sym (option_map_id _)
    ∙ find_from_yields_List (offends c.args.layout c.args.number (first_nine c.args.columns.now.line.now)) _ _ c.find.result c.find.ensures.ran
    (YieldsList-from_range 0 n n refl (omega arith)) (λ x b q p. search (rules, tests))
