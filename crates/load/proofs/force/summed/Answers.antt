-- `force::summed` meets its contract, answer by answer, by the laws of Loads. Assumes nothing.
use Rattle.std.proofs.Common.{◌≡◌, ◌^◌, ap, ◌∙◌, arith, ℤ, pos, ◌*ℤ◌, Some, None, w64, to_z, of_z, to_z-of_z}
use Rattle.std.proofs.lemmas.Grind.{common_steps}
use Rattle.load.specs.Answers.{Load, load_in}
use Rattle.load.specs.Force.{refused}
use Rattle.load.proofs.AllPairs.{own-bad, own-terms-of}
use Rattle.load.proofs.Loads.{of-all, of-bad}
use Rattle.load.proofs.Terms.{word_of}
use Rattle.load.proofs.force.summed.Goals as goal

pub returns-in_err-mean : goal.returns-in_err-mean
returns-in_err-mean c =
    let none : c.mean.result ≡ None = grind (arith, common_steps) in
    let given : load_in c.from_residual.result ≡ Load.Refused 15 0 = grind (arith, common_steps) in
    record { value = given ∙ of-bad _ _ _ _ _ (own-bad _ _ c.args.kind (rw none at c.mean.ensures)); small = rw given refused }

pub add_pairs-requires-clause-own : goal.add_pairs-requires-clause-own
add_pairs-requires-clause-own c =
    let some : c.mean.result ≡ Some c.in_ok-mean.mean = grind (arith, common_steps) in
    let known = rw some at c.mean.ensures in
    let back : to_z w64 (of_z w64 c.in_ok-mean.mean) ≡ c.in_ok-mean.mean = to_z-of_z (word_of c.in_ok-mean.mean (omega (arith, known.2))) in
    own-terms-of _ _ _ c.in_ok-mean.mean known.0 known.1 known.2 _ (c.product-own.ensures ∙ ap (λ (z : ℤ). z *ℤ pos (2 ^ 30)) back)

pub returns-in_err-total : goal.returns-in_err-total
returns-in_err-total c =
    let none : c.add_pairs.result ≡ None = grind (arith, common_steps) in
    let given : load_in c.from_residual-in_err-total.result ≡ Load.Refused 15 0 = grind (arith, common_steps) in
    record { value = given ∙ of-bad _ _ _ _ _ (rw none at c.add_pairs.ensures); small = rw given refused }

pub returns : goal.returns
returns c =
    let some : c.mean.result ≡ Some c.in_ok-mean.mean = grind (arith, common_steps) in
    let every : c.add_pairs.result ≡ Some c.in_ok-total.total = grind (arith, common_steps) in
    let known = rw some at c.mean.ensures in
    let back : to_z w64 (of_z w64 c.in_ok-mean.mean) ≡ c.in_ok-mean.mean = to_z-of_z (word_of c.in_ok-mean.mean (omega (arith, known.2))) in
    let all = of-all _ _ _ _ _ c.requires.room _ (rw every at c.add_pairs.ensures) _ (to_z-of_z {w = w64} record { sfits = c.rounded.type_inv } ∙ c.rounded.ensures) _ (back ∙ known.1) (rw back known.2) in
    record { value = all.0; small = all.1 }
