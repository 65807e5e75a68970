-- `display::read_off` meets its contract. Assumes nothing.
use Rattle.std.proofs.Common.{ap, ◌∙◌, eq-eqb, ne_eqb, to_z-of_z}
use Rattle.readout.specs.Display.{scaled, reading_of}
use Rattle.readout.proofs.Shown.{zero_is}
use Rattle.readout.proofs.display.read_off.Goals as goal
use Rattle.readout.proofs.display.read_off.Goals.{then-kind-eq0, else-kind-eq0}

pub scaled_by-mean-requires : goal.scaled_by-mean-requires
scaled_by-mean-requires c = rw (to_z-of_z c.ranges.mean) c.requires.0

pub scaled_by-requires : goal.scaled_by-requires
scaled_by-requires c = rw (to_z-of_z c.ranges.whole) c.requires.1

pub returns : goal.returns
unfolding reading_of
returns c =
    let whole = c.scaled_by.ensures ∙ ap (scaled c.args.scale) (to_z-of_z c.ranges.whole) in
    elim c.if-kind-eq0.branch [
      | then-kind-eq0 w ↦ rw (eq-eqb c.args.kind 0 w.if-kind-eq0.true) (λ i. record { mean = (w.mean-is ∙ w.scaled_by-mean.ensures ∙ ap (scaled c.args.scale) (to_z-of_z c.ranges.mean)) i; whole = whole i })
      | else-kind-eq0 w ↦ rw (ne_eqb c.args.kind 0 w.if-kind-eq0.false) (λ i. record { mean = (w.mean-is ∙ zero_is) i; whole = whole i })
    ]
