-- `force::wave_mean` meets its contract: the wave with itself, conjugated, by its own coefficient. Assumes nothing.
use Rattle.std.proofs.Common.{◌*◌, ◌≤◌, ap, ◌∙◌, mul-le-mul_left, arith, nat_abs, to_z-of_z}
use Rattle.whole.specs.Complex.{Complex, ◌*ᶜ◌, conj, sizes}
use Rattle.load.specs.Force.{amplitudes, mean_term_of}
use Rattle.load.specs.own.Means.{wave_mean}
use Rattle.load.specs.own.Waves.{amplitude_of}
use Rattle.load.proofs.Terms.{word_of, weighed-parts}
use Rattle.load.proofs.force.wave_mean.Goals as goal

pub returns : goal.returns
unfolding wave_mean mean_term_of amplitudes
returns c =
    let a = amplitude_of c.args.w in
    let q = c.in_ok-c.ensures in
    let w = c.weighed.ensures in
    let in-range = c.requires.in_range.small in
    let parts = weighed-parts 0 c.args.w c.args.w _ 1_000_000_000 (q.2, q.3) _ w in
    let few : nat_abs c.weighed.result.re ≤ 40_000_000_000_000 * sizes a = omega (arith, parts.0, mul-le-mul_left (sizes a) in-range) in
    let back = to_z-of_z (word_of c.weighed.result.re (omega (arith, few, in-range))) in
    let value = ap (λ (z : Complex). z.re) (w ∙ ap (λ (q : Complex). a *ᶜ conj a *ᶜ q) q.1) in
    (q.0, back ∙ value, rw back few)
