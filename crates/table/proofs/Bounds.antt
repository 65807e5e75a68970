-- What the test of bounds says of a part. Assumes nothing.
use mathlib.Core.Path.{◌≡◌, sym, subst}
use mathlib.Core.Bool.{true}
use Prim.Native.Nat.{◌≤◌}
use lib.Dec.{T}
use lib.IntN.{ℤ, pos, neg_ℤ, nat_abs}
use lib.Signed.{le_z, le_z_yes}
use Rattle.whole.proofs.Magnitude.{nat_abs-le-of}
use Rattle.row.proofs.Deciding.{both}
use Rattle.table.specs.Entries.{in_bounds}

pub small-part : (z : ℤ) → in_bounds z ≡ true → nat_abs z ≤ 1_000_000_000
unfolding in_bounds
small-part z e =
    let (low, high) = both (le_z (neg_ℤ (pos 1_000_000_000)) z) (le_z z (pos 1_000_000_000)) e in
    nat_abs-le-of z 1_000_000_000 (le_z_yes (subst T (sym low) tt)) (le_z_yes (subst T (sym high) tt))
