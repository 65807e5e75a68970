-- `force::mean` meets its contract: one wave after the other, by the laws of Means. Assumes nothing.
use Rattle.std.proofs.Common.{◌≡◌, ◌+◌, ◌∙◌, eq-eqb, arith, ℤ, ◌+ℤ◌, get_or, w64, SFits, to_z, of_z, to_z-of_z}
use Rattle.load.specs.own.Waves.{WaveInRange}
use Rattle.load.specs.declared.waves.Wave.{Wave}
use Rattle.load.proofs.Unordered.{nowhere}
use Rattle.load.proofs.Terms.{word_of}
use Rattle.load.proofs.Means.{Averaging, averaging-on, averaging-stops, averaging-small, averaging-end}
use Rattle.load.proofs.force.mean.Goals as goal

pub returns-in_err-sum : goal.returns-in_err-sum
returns-in_err-sum c =
    rw (c.from_residual.ensures, eq-eqb c.args.kind 0 c.if-kind-ne0.false)
    (averaging-stops _ _ _ _ c.loop-w.invariant c.loop-w-test.true c.in_err-sum.ensures)

pub loop-w-preserved : goal.loop-w-preserved
loop-w-preserved c =
    let i = c.loop-w.w-index in
    let wave : Wave = get_or c.args.waves.now i nowhere in
    let in-range : WaveInRange wave = c.requires.in_range i nowhere c.loop-w-test.true in
    let own = c.in_ok-sum.field-0 in
    let worked = c.in_ok-sum.ensures in
    let back : to_z w64 (of_z w64 own) ≡ own = to_z-of_z (word_of own (omega (arith, worked.2, in-range.small))) in
    let sum : ℤ = to_z w64 c.loop-w.sum-bits +ℤ to_z w64 (of_z w64 own) in
    let next : Averaging c.args.cells.now c.args.waves.now sum (i + 1) =
    averaging-on _ _ _ _ c.loop-w.invariant c.loop-w-test.true (to_z w64 (of_z w64 own)) worked.0 (back ∙ worked.1) (rw back worked.2) in
    let word : SFits w64 sum = word_of sum (omega (arith, averaging-small _ _ _ _ next c.requires.few)) in
    rw (to_z-of_z word) next

pub returns : goal.returns
returns c =
    let ended = averaging-end _ _ _ _ c.loop-w.invariant c.loop-w-test.false in
    let difference = eq-eqb c.args.kind 0 c.if-kind-ne0.false in
    (rw difference ended.0, rw difference ended.1, averaging-small _ _ _ _ c.loop-w.invariant c.requires.few)
