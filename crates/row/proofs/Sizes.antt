-- The size of a number that lies in a range. Assumes nothing.
use Prim.Native.Nat.{ℕ, ◌≤◌}
use lib.Dec.{T, leb→le}
use lib.IntN.{ℤ, pos, negsuc, nat_abs}
use lib.Signed.{non_neg, ◌≤ℤ◌}

-- a number from one size to another is not negative
pub not_negative : (n : ℕ) (z : ℤ) → pos n ≤ℤ z → T (non_neg z)
not_negative n (pos m) h = tt
not_negative n (negsuc m) h = h.le

pub size_above : (n : ℕ) (z : ℤ) → pos n ≤ℤ z → n ≤ nat_abs z
size_above n (pos m) h = leb→le n m h.le
size_above n (negsuc m) h = absurd h.le

pub size_below : (n m : ℕ) (z : ℤ) → pos n ≤ℤ z → z ≤ℤ pos m → nat_abs z ≤ m
size_below n m (pos k) h g = leb→le k m g.le
size_below n m (negsuc k) h g = absurd h.le
