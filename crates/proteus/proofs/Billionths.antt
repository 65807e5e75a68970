-- Frequencies in billionths of rad/s: how large they are, and the way back. Assumes nothing.
use mathlib.Core.Path.{◌≡◌, sym, ap}
use Prim.Native.Nat.{ℕ, ◌*◌, ◌≤◌, ◌<◌}
use native.Mathlib.Omega.{arith}
use lib.Dec.{lit<}
use lib.IntN.{pos, nat_abs}
use Rattle.whole.specs.Nearest.{nearest, IsNearest}
use Rattle.whole.proofs.Nearest.{nearest-is, nearest-only, nearest-within}
use Rattle.whole.proofs.Magnitude.{nat_abs-sub-comm}
use Rattle.qtf.specs.Matrix.{billionths}
use Rattle.proteus.specs.Reading.{tick_of}

-- a tick of at most 10,000 is at most 6.283185307 rad/s
pub billionths-few : (t : ℕ) → t ≤ 10_000 → billionths t ≤ 6_283_185_307
unfolding billionths
billionths-few t h = nearest-within (pos (t * 6_283_185_307)) 10_000 6_283_185_307 (omega arith) (omega arith)

-- a multiple of e, rounded to a multiple of the lesser d, is still nearest to itself
nearest-back : (d e t : ℕ) → 0 < d → d < e → nearest (nearest (t * e) d * d) e ≡ t
nearest-back d e t some-d less =
    let v = nearest (t * e) d in
    let near = nearest-is (pos (t * e)) d some-d in
    let turned = nat_abs-sub-comm (pos (v * d)) (pos (t * e)) in
    let close = near.close in
    let back : IsNearest (pos (v * d)) e (pos t) = record { close = omega arith; tie = λ h. absurd (omega arith) } in
    sym (ap nat_abs (nearest-only e (omega arith) back))

-- a tick is read back from its frequency, whatever the tick: the frequency is rounded by far less than half the step from a tick to the next
pub tick-back : (t : ℕ) → tick_of (pos (billionths t)) ≡ t
unfolding tick_of billionths
tick-back t = nearest-back 10_000 6_283_185_307 t (lit< tt) (lit< tt)
