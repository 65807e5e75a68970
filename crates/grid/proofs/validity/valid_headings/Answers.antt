-- `validity::valid_headings` meets its contract: each heading in turn. Assumes nothing.
use Rattle.std.proofs.Common.{◌∙◌, pos, rules, tests, length, arith}
use Rattle.std.proofs.lemmas.Iterator.{YieldsList-from_range}
use Rattle.std.proofs.lemmas.Iterator.Search.{all_from_yields_List}
use Rattle.grid.proofs.Checking.{each_place, headings-check}
use Rattle.grid.proofs.validity.valid_headings.Goals as goal

pub returns : goal.returns
returns c =
    all_from_yields_List _ _ _ _ c.all.ensures.ran (YieldsList-from_range 0 (length c.args.headings.now) (length c.args.headings.now) (search rules) (omega arith)) (λ x b q k. search (rules, tests))
    ∙ each_place headings-check (pos 0) c.args.headings.now
