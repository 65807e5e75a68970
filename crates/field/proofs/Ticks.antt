-- Ticks of 0.0001 Hz: the range that they have, by which a caller casts one to a smaller word. Assumes nothing.
use Prim.Native.Nat.{ℕ, ◌≤◌}
use native.Mathlib.Omega.{arith}
use lib.IntN.{pos}
use Rattle.whole.proofs.Nearest.{nearest-within, nearest-above}
use Rattle.field.specs.Units.{tick_of}

-- a period from 1,000,000 to 100,000,000 microseconds has a tick from 100 to 10,000
pub tick-range : (p : ℕ) → 1_000_000 ≤ p → p ≤ 100_000_000 → (100 ≤ tick_of p) × (tick_of p ≤ 10_000)
unfolding tick_of
tick-range p h k =
    (nearest-above 10_000_000_000 p 100 (omega arith) (omega arith), nearest-within (pos 10_000_000_000) p 10_000 (omega arith) (omega arith))
