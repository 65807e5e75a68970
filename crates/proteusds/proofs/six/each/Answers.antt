-- `six::each` meets its contract: a turn is a call more (`next-called`). Assumes nothing.
use Rattle.std.proofs.Common.{◌≡◌, ℕ, arith, rules, ap, ◌∙◌}
use Rattle.std.proofs.Math.ListN.{length-set}
use Rattle.proteusds.specs.Six.{six_of, called_to}
use Rattle.proteusds.proofs.Parts.{none-called, next-called}
use Rattle.proteusds.proofs.six.each.Goals as goal

pub loop-k-init : goal.loop-k-init
loop-k-init c = record { so_far = none-called _ _ _; six = search rules }

pub loop-k-preserved : goal.loop-k-preserved
loop-k-preserved c =
    let a = c.args in
    let inv = c.loop-k.invariant in
    record {
      so_far = next-called a.call a.text.now _ _ c.one_at-outcome.result _ _ inv.so_far (omega (arith, inv.six, c.loop-k-test.true)) c.one_at-outcome.ensures;
      six = length-set c.loop-k.called c.loop-k.k c.one_at-outcome.result.reader ∙ inv.six;
    }

pub returns : goal.returns
returns c =
    let a = c.args in
    let all : c.loop-k.k ≡ 6 = omega (arith, c.loop-k.auto.k-end, c.loop-k-test.false) in
    c.loop-k.invariant.so_far ∙ ap (λ (k : ℕ). called_to a.call a.text.now k (six_of a.readers a.cells.now a.flags.now)) all
