-- `whole::rounding::nearest` meets its contract: over 0 it is 0, and else one step from the quotient and the remainder. Assumes nothing.
use mathlib.Core.Path.{◌≡◌, ◌∙◌, ap}
use Prim.Native.Nat.{ℕ, ◌+◌, ◌/◌, ◌%◌, ◌<◌}
use native.Mathlib.Nat.{div-add-mod', mod-lt}
use native.Mathlib.Omega.{arith}
use borrow.Author.Tests.{eq-eqb}
use Rattle.whole.specs.Nearest.{nearest}
use Rattle.whole.proofs.Nearest.{nearest-step, nearest-le}
use Rattle.whole.proofs.rounding.nearest.Goals as goal

pub returns-then-d-eq0 : goal.returns-then-d-eq0
unfolding nearest
returns-then-d-eq0 c = simp (eq-eqb _ _ c.if-d-eq0.true)

-- the sum that is returned
stepped : (c : goal.After-rounds_up) → c.before.before.args.n / c.before.before.args.d + c.rounds_up.result ≡ nearest c.before.before.args.n c.before.before.args.d
stepped c =
    let n = c.before.before.args.n in
    let d = c.before.before.args.d in
    let positive : 0 < d = omega arith in
    ap (λ (u : ℕ). n / d + u) c.rounds_up.ensures ∙ nearest-step n d (n / d) (n % d) (div-add-mod' n d) (mod-lt n positive)

pub overflow_add-result : goal.overflow_add-result
overflow_add-result c = omega (arith, stepped c, nearest-le c.before.before.args.n c.before.before.args.d)

pub returns : goal.returns
returns c = stepped c
