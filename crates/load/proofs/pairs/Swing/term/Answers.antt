-- `pairs::Swing::term` meets its contract: the phase at the step is that of document 01's table. Assumes nothing.
use Rattle.std.proofs.Common.{◌≡◌, ◌^◌, ◌≤◌, sym, ap, ◌∙◌, subst, nat_abs}
use Rattle.whole.specs.Complex.{Complex, ◌*ᶜ◌}
use Rattle.phase.specs.Turn.{Quarter, phase, complex_of}
use Rattle.phase.specs.Seconds.{seconds}
use Rattle.phase.proofs.Bounds.{cosine-le, sine-le}
use Rattle.phase.proofs.Seconds.{rule, lent}
use Rattle.load.specs.Force.{term_of}
use Rattle.load.proofs.Terms.{weighed-few}
use Rattle.load.proofs.pairs.Swing.term.Goals as goal
use Rattle.load.proofs.pairs.Swing.term.Goals.{After-phase_in}

-- the phase at the step
turn_is : (c : After-phase_in) → complex_of c.phase_in.result ≡ phase seconds c.step-k.result
turn_is c = c.phase_in.ensures ∙ ap (λ (q : Quarter). phase q c.step-k.result) (lent c.args.self.now.clock)

pub turned-requires : goal.turned-requires
turned-requires c = (
  weighed-few c.args.self.now.kind c.args.m c.args.n _ c.requires.0 c.requires.1 _ c.weighed.ensures,
  subst (λ (z : Complex). nat_abs z.re ≤ 2 ^ 30) (sym (turn_is c)) (cosine-le rule c.step-k.result),
  subst (λ (z : Complex). nat_abs z.im ≤ 2 ^ 30) (sym (turn_is c)) (sine-le rule c.step-k.result),
)

pub returns-clause-value : goal.returns-clause-value
unfolding term_of
returns-clause-value c =
    let turn = c.phase_in.ensures ∙ ap (λ (q : Quarter). phase q c.step-k.result) (lent c.args.self.now.clock) ∙ c.step-k.ensures in
    c.turned.ensures.value ∙ (λ i. (c.weighed.ensures i *ᶜ turn i).re)
