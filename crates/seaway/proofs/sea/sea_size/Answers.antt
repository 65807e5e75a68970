-- `sea::sea_size` meets its contract: one line after the other, by the laws of Seas. Assumes nothing.
use Rattle.std.proofs.Common.{◌≡◌, ◌+◌, ◌∙◌, rules, pos, nat_abs, get_or, w32, to_z, of_z}
use Rattle.seaway.specs.Sea.{line_at}
use Rattle.seaway.proofs.Seas.{sizing-start, sizing-on, sizing-end}
use Rattle.seaway.proofs.sea.sea_size.Goals as goal

pub loop-i-init : goal.loop-i-init
loop-i-init c = sizing-start _

pub loop-i-preserved : goal.loop-i-preserved
unfolding line_at
loop-i-preserved c =
    let s = c.args.s in
    let i = c.loop-i.i in
    let re : to_z w32 (of_z w32 (get_or s.re i (pos 0))) ≡ get_or s.re i (pos 0) = search rules in
    let im : to_z w32 (of_z w32 (get_or s.im i (pos 0))) ≡ get_or s.im i (pos 0) = search rules in
    sizing-on _ _ _ c.loop-i.invariant _ c.loop-i-test.true
    (c.both_sizes-sum.ensures.value ∙ (λ k. nat_abs (re k) + nat_abs (im k)))
    c.both_sizes-sum.ensures.small

pub returns : goal.returns
returns c = sizing-end _ _ _ c.loop-i.invariant c.loop-i-test.false
