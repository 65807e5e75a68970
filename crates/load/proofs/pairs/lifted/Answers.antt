-- `pairs::lifted` meets its contract: the sum has no sign and is a word. Assumes nothing.
use mathlib.Core.Path.{◌≡◌, sym, ap, ◌∙◌}
use Prim.Native.Nat.{◌^◌}
use native.Mathlib.Omega.{arith}
use lib.IntN.{pos, nat_abs, ◌+ℤ◌}
use mir.Syntax.{w64}
use mir.Val.{SFits, to_z, of_z}
use mir.Facts.{to_z-of_z}
use Rattle.load.proofs.Terms.{lift, lift-small}
use Rattle.load.proofs.pairs.lifted.Goals as goal
use Rattle.load.proofs.pairs.lifted.Lts as lts
use Rattle.load.proofs.pairs.lifted.Reads as reads
use Rattle.load.proofs.pairs.lifted.Tie as claims

abbrev Start : Type 0
Start = lts.Start reads.Pre reads.Post claims.handed_clauses

module _ (c : Start) where
  sum_is : to_z w64 (of_z w64 c.args.a) +ℤ pos (2 ^ 62) ≡ pos (lift c.args.a c.requires).size
  sum_is = ap (λ z. z +ℤ pos (2 ^ 62)) (to_z-of_z c.ranges.a) ∙ (lift c.args.a c.requires).same

  sum_fits : SFits w64 (pos (lift c.args.a c.requires).size)
  sum_fits = record { sfits = omega (arith, lift-small c.args.a c.requires) }

  sum_back : to_z w64 (of_z w64 (to_z w64 (of_z w64 c.args.a) +ℤ pos (2 ^ 62))) ≡ pos (lift c.args.a c.requires).size
  sum_back = ap (λ z. to_z w64 (of_z w64 z)) sum_is ∙ to_z-of_z sum_fits

pub overflow_add-result : goal.overflow_add-result
overflow_add-result c = rw (sum_is c) (sum_fits c)

pub overflow_cast-result : goal.overflow_cast-result
overflow_cast-result c = rw (sum_back c) (tt, record { fits = omega (arith, lift-small c.args.a c.requires) })

pub returns : goal.returns
returns c =
    record {
      value = ap (λ z. pos (nat_abs z)) (sum_back c) ∙ sym (lift c.args.a c.requires).same;
      small = rw (sum_back c) (lift-small c.args.a c.requires);
    }
