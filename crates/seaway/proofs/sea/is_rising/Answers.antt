-- `sea::is_rising` meets its contract, by the laws of Seas. Assumes nothing.
use Rattle.std.proofs.Common.{ltb, rules}
use Rattle.std.proofs.lemmas.List.Sorted.{answers_always}
use Rattle.seaway.proofs.Seas.{rising-is}
use Rattle.seaway.proofs.sea.is_rising.Goals as goal

pub returns : goal.returns
returns c = rising-is _ (search rules) _ (c.is_sorted_by.ensures.cases ltb (answers_always _ _ _ (λ f a r g h. search rules)))
