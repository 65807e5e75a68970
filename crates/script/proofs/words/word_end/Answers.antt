-- `words::word_end` meets its contract. Assumes nothing.
use Rattle.std.proofs.Common.{◌≡◌, ℕ, ◌≤◌, ltb, cond, Bool, true, false, Some, None, length, eqb, refl, ap, ◌∙◌, arith, rules, tests}
use Rattle.std.specs.Option.{unwrap_or}
use Rattle.std.proofs.lemmas.Iterator.{YieldsList-from_slice}
use Rattle.std.proofs.lemmas.Iterator.Search.{position_from_yields_List}
use Rattle.std.proofs.lemmas.List.Sums.{prefix_len-le-length}
use borrow.Author.Tests.{ltb-false}
use Rattle.script.specs.own.Behind.{word_end}
use Rattle.script.proofs.words.word_end.Goals as goal

or_all : (p n : ℕ) → p ≤ n → unwrap_or (cond (ltb p n) (Some p) None) n ≡ p
or_all p n h = go (ltb p n) refl
  where
    go : (t : Bool) → ltb p n ≡ t → unwrap_or (cond t (Some p) None) n ≡ p
    go true e = refl
    go false e = let le : n ≤ p = ltb-false p n e in omega arith

pub returns-clause-value : goal.returns-clause-value
unfolding word_end
returns-clause-value c =
    let xs = c.args.line.now in
    let found = position_from_yields_List (λ b. eqb b 32) _ _ c.position.result c.position.ensures.ran (YieldsList-from_slice xs cc) (λ x b q k. search (rules, tests)) in
    c.unwrap_or.ensures ∙ ap (λ o. unwrap_or o (length xs)) found ∙ or_all _ _ (prefix_len-le-length _ xs)
