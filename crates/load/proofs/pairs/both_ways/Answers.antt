-- `pairs::both_ways` meets its contract: the sums of two parts in bounds are words. Assumes nothing.
use Rattle.std.proofs.Common.{◌≤◌, nat_abs, refl, eq-eqb, ne_eqb}
use Rattle.load.specs.own.Terms.{second_of}
use Rattle.load.proofs.Terms.{added-back, taken_back}
use Rattle.load.proofs.pairs.both_ways.Goals as goal
use Rattle.load.proofs.pairs.both_ways.Goals.{then-kind-eq0, else-kind-eq0}

pub returns : goal.returns
unfolding second_of
returns c =
    let on = c.args.on in
    let back = c.args.back in
    let re-few : (nat_abs on.re ≤ 1_000_000_000) × (nat_abs back.re ≤ 1_000_000_000) = (c.requires.0.0, c.requires.1.0) in
    let im-few : (nat_abs on.im ≤ 1_000_000_000) × (nat_abs back.im ≤ 1_000_000_000) = (c.requires.0.1, c.requires.1.1) in
    let re = added-back on.re back.re re-few _ refl in
    elim c.if-kind-eq0.branch [
      | then-kind-eq0 w ↦ rw (eq-eqb c.args.kind 0 w.if-kind-eq0.true) (λ i. record { re = re i; im = taken_back on.im back.im im-few _ w.im-is i })
      | else-kind-eq0 w ↦ rw (ne_eqb c.args.kind 0 w.if-kind-eq0.false) (λ i. record { re = re i; im = added-back on.im back.im im-few _ w.im-is i })
    ]
