-- `whole::rounding::rounds_up` meets its contract: each way out is a case of `rounds_up`, or a tie. Assumes nothing.
use mathlib.Core.Path.{◌≡◌, sym}
use Prim.Native.Nat.{ℕ, ◌+◌, ◌-◌, ◌%◌, ◌≤◌, ◌<◌}
use borrow.Author.Tests.{lt-ltb, le-ltb}
use native.Mathlib.Decide.{dec_lt}
use native.Mathlib.Omega.{arith}
use Rattle.whole.specs.Nearest.{rounds_up}
use Rattle.whole.proofs.rounding.rounds_up.Goals as goal

module _ (q r d : ℕ) where
  less : r < d - r → rounds_up q r d ≡ 0
  unfolding rounds_up
  less h = simp (lt-ltb _ _ h)

  more : d - r < r → rounds_up q r d ≡ 1
  unfolding rounds_up
  more h = let g : d - r ≤ r = omega arith in simp (le-ltb _ _ g, lt-ltb _ _ h)

  tie-goes : d - r ≤ r → r ≤ d - r → rounds_up q r d ≡ q % 2
  unfolding rounds_up
  tie-goes g h = simp (le-ltb _ _ g, le-ltb _ _ h)

  -- the two tests of the code, in one
  up : d - r < r + q % 2 → 1 ≡ rounds_up q r d
  up h = go (dec_lt (d - r) r)
    where
      go : Dec (d - r < r) → 1 ≡ rounds_up q r d
      go (yes g) = omega (arith, more g)
      go (no g) = omega (arith, tie-goes (omega arith) (omega arith))

  down : r + q % 2 ≤ d - r → 0 ≡ rounds_up q r d
  down h = go (dec_lt r (d - r))
    where
      go : Dec (r < d - r) → 0 ≡ rounds_up q r d
      go (yes g) = omega (arith, less g)
      go (no g) = omega (arith, tie-goes (omega arith) (omega arith))

pub returns-then-r-eq0 : goal.returns-then-r-eq0
returns-then-r-eq0 c = sym (tie-goes _ c.before.before.args.r c.before.before.args.d (omega arith) (omega arith))

pub returns-then-d-r : goal.returns-then-d-r
returns-then-d-r c = sym (more _ c.before.before.args.r c.before.before.args.d (omega arith))

pub returns-then-d-r-2 : goal.returns-then-d-r-2
returns-then-d-r-2 c = up _ _ _ c.if-d-r-2.true

pub returns : goal.returns
returns c = down _ _ _ c.if-d-r-2.false
