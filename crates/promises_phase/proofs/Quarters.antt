-- z(k) by the quarters, from the laws of crates/phase. Assumes nothing.
use mathlib.Core.Path.{refl}
use Rattle.phase.specs.Turn.{Quarter}
use Rattle.phase.specs.Rule.{Rule, limits}
use Rattle.phase.specs.Seconds.{seconds}
use Rattle.phase.proofs.Quarters.{Closes, cosine-first, cosine-second, cosine-third, cosine-fourth}
use Rattle.phase.proofs.Symmetry.{sine-first, sine-second, sine-third, sine-fourth}
use Rattle.phase.proofs.Steps.{phase_ℤ-round}
use Rattle.phase.proofs.Seconds.{rule}
use Rattle.promises_phase.specs.Quarters.{PhaseParts, PhaseTurns, SecondsTurn}

closed : (clock : Quarter) → Rule limits clock → Closes clock
closed clock r = record { some = r.some; last = r.last }

pub phase-parts : PhaseParts
phase-parts clock r i h =
    let c = closed clock r in
    record {
      first = record { re = cosine-first clock c i h; im = sine-first clock c i h };
      second = record { re = cosine-second clock c i h; im = sine-second clock c i h };
      third = record { re = cosine-third clock c i h; im = sine-third clock c i h };
      fourth = record { re = cosine-fourth clock c i h; im = sine-fourth clock c i h };
    }

pub phase-turns : PhaseTurns
phase-turns clock r k = phase_ℤ-round clock (closed clock r) k

pub seconds-turn : SecondsTurn
unfolding seconds
seconds-turn = (refl, rule)
