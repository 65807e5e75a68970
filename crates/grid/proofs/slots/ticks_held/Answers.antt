-- `slots::ticks_held` meets its contract: std's count, from the first slot on. Assumes nothing.
use Rattle.std.proofs.Common.{◌≡◌, ◌∙◌, ℕ, count_by, nat_eq, not, rules}
use Rattle.grid.proofs.Places.{held-count}
use Rattle.grid.proofs.slots.ticks_held.Goals as goal

pub returns : goal.returns
returns c =
    let e : c.count.result ≡ count_by (λ (t : ℕ). not (nat_eq t 0)) c.args.ticks.now = search rules in
    e ∙ held-count c.args.ticks.now
