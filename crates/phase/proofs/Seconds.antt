-- The table of document 01 keeps the rule: antt computes the test over its 2,501 entries, here and nowhere else. And the code's table, wherever it is lent,
-- is this one. Assumes nothing.
use mathlib.Core.Path.{◌≡◌, ◌∙◌, ap}
use mathlib.Core.List.{List}
use Prim.Native.Nat.{ℕ, ◌-◌}
use native.Mathlib.Omega.{arith}
use lib.ListN.{length}
use Rattle.phase.specs.Turn.{quarter_of}
use Rattle.phase.specs.Rule.{Rule, limits}
use Rattle.phase.specs.Seconds.{seconds, cosines}
use Rattle.phase.proofs.Test.{rule-of}

pub rule : Rule limits seconds
unfolding seconds cosines
rule = rule-of limits seconds tt

listed : quarter_of cosines ≡ seconds
unfolding seconds
listed = let e : length cosines - 1 ≡ 2_500 = omega (arith, rule.count) in λ i. record { steps = e i; entries = cosines }

pub lent : {xs : List ℕ} → xs ≡ cosines → quarter_of xs ≡ seconds
lent e = ap quarter_of e ∙ listed
