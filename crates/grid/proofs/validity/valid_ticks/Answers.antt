-- `validity::valid_ticks` meets its contract: each slot in turn. Assumes nothing.
use Rattle.std.proofs.Common.{◌∙◌, rules, tests, length, arith}
use Rattle.std.proofs.lemmas.Iterator.{YieldsList-from_range}
use Rattle.std.proofs.lemmas.Iterator.Search.{all_from_yields_List}
use Rattle.grid.proofs.Checking.{each_place, ticks-check}
use Rattle.grid.proofs.validity.valid_ticks.Goals as goal

pub returns : goal.returns
returns c =
    all_from_yields_List _ _ _ _ c.all.ensures.ran (YieldsList-from_range 0 (length c.args.ticks.now) (length c.args.ticks.now) (search rules) (omega arith)) (λ x b q k. search (rules, tests))
    ∙ each_place ticks-check 0 c.args.ticks.now
