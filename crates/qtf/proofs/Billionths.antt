-- Frequencies in billionths of rad/s, as the code finds them. Assumes nothing.
use mathlib.Core.Path.{◌≡◌, sym, ap, ◌∙◌}
use Prim.Native.Nat.{ℕ, ◌+◌, ◌*◌, ◌/◌, ◌%◌}
use native.Mathlib.Omega.{arith}
use lib.IntN.{pos, nat_abs}
use Rattle.whole.specs.Nearest.{nearest}
use Rattle.whole.proofs.Nearest.{nearest-shift}
use Rattle.qtf.specs.Matrix.{billionths}

pub billionths-are : (t : ℕ) → t / 20_000 * 12_566_370_614 + nearest (t % 20_000 * 6_283_185_307) 10_000 ≡ billionths t
unfolding billionths
billionths-are t =
    let k = t / 20_000 * 12_566_370_614 in
    let even : k % 2 ≡ 0 = omega arith in
    let shifted = ap nat_abs (nearest-shift (pos (t % 20_000 * 6_283_185_307)) 10_000 k (omega arith) even) in
    let whole : t % 20_000 * 6_283_185_307 + k * 10_000 ≡ t * 6_283_185_307 = omega arith in
    let sum : k + nearest (t % 20_000 * 6_283_185_307) 10_000 ≡ nearest (t % 20_000 * 6_283_185_307) 10_000 + k = omega arith in
    sum ∙ sym shifted ∙ ap (λ (n : ℕ). nearest n 10_000) whole
