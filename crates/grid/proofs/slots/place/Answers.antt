-- `slots::place` meets its contract: std's search, from the first slot on. Assumes nothing.
use Rattle.std.proofs.Common.{◌≡◌, ◌∙◌, ap, length, rules, tests}
use Rattle.std.specs.List.{position}
use Rattle.std.specs.Option.{unwrap_or}
use Rattle.std.proofs.lemmas.Iterator.{YieldsList-from_slice}
use Rattle.std.proofs.lemmas.Iterator.Search.{position_from_yields_List}
use Rattle.grid.proofs.Places.{slot-found, slot-within}
use Rattle.grid.proofs.slots.place.Goals as goal

pub returns-clause-slot : goal.returns-clause-slot
returns-clause-slot g c =
    let e : c.position.result ≡ position (λ y. g.T.PartialEq.eq y c.args.x) c.args.slots.now = position_from_yields_List (λ y. g.T.PartialEq.eq y c.args.x) _ _ _ c.position.ensures.ran (YieldsList-from_slice c.args.slots.now cc) (λ x b q k. search (rules, tests)) in
    c.unwrap_or.ensures ∙ ap (λ o. unwrap_or o (length c.args.slots.now)) e ∙ slot-found g.T.PartialEq.eq c.args.x c.args.slots.now

pub returns-clause-within : goal.returns-clause-within
returns-clause-within g c = rw (returns-clause-slot g c) (slot-within g.T.PartialEq.eq c.args.x c.args.slots.now)
