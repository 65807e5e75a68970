-- `pairs::second_of` meets its contract: the imaginary part with the other sign in a difference table. Assumes nothing.
use Rattle.std.proofs.Common.{ap, ◌∙◌, eq-eqb, ne_eqb, rules, ℤ, pos, ◌-ℤ◌, w32, w64, SFits, to_z, of_z}
use Rattle.whole.specs.Complex.{Complex}
use Rattle.load.specs.own.Terms.{second_of}
use Rattle.load.proofs.Terms.{widened_back, less-is}
use Rattle.load.proofs.pairs.second_of.Goals as goal
use Rattle.load.proofs.pairs.second_of.Goals.{then-kind-eq0, else-kind-eq0}

pub returns : goal.returns
unfolding second_of
returns c =
    let word : SFits w32 c.args.a.re = search rules in
    let im-word : SFits w32 c.args.a.im = search rules in
    let back : ℤ → ℤ = λ (z : ℤ). to_z w64 (of_z w64 z) in
    let re = ap (λ (z : Complex). back z.re) c.from-a.ensures ∙ widened_back word in
    elim c.if-kind-eq0.branch [
      | then-kind-eq0 w ↦ rw (eq-eqb c.args.kind 0 w.if-kind-eq0.true) (λ i. record { re = re i; im = (w.im-is ∙ ap (λ (z : Complex). back (pos 0 -ℤ back z.im)) c.from-a.ensures ∙ less-is im-word) i })
      | else-kind-eq0 w ↦ rw (ne_eqb c.args.kind 0 w.if-kind-eq0.false) (λ i. record { re = re i; im = (w.im-is ∙ ap (λ (z : Complex). back z.im) c.from-a.ensures ∙ widened_back im-word) i })
    ]
