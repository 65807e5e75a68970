-- The running total (document 01, "Coefficients and forces"): "two 64-bit words with carry; no intermediate rounding", low words added by wrapping, the carry found by
-- comparison. Together they are one whole number, in two's complement.
use Rattle.std.specs.Prelude.{◌≡◌, ℕ, ◌+◌, ◌*◌, ◌%◌, ◌^◌, cond, ℤ, pos, ◌+ℤ◌, neg_ℤ, FitsSigned, int_le}
use Rattle.std.specs.Int.{w128}
use Rattle.std.proofs.Common.{to_z}
use Rattle.whole.specs.Nearest.{nearest_ℤ}
use Rattle.total.specs.declared.words.Total.{Total}

-- the 128 bits, the high word first
abbrev pub words : Total → ℕ
words t = t.high * 2 ^ 64 + t.low

-- the whole number that they stand for
unfoldable pub meaning : Total → ℤ
meaning t = to_z w128 (words t)

-- r is a + b: to the last bit modulo 2^128, and as whole numbers wherever the sum has room
pub record Added (a b r : Total) : Type 0 where
  pub wraps : words r ≡ (words a + words b) % 2 ^ 128
  pub exact : FitsSigned w128 (meaning a +ℤ meaning b) → meaning r ≡ meaning a +ℤ meaning b

-- r is -a: to the last bit modulo 2^128, and as a whole number wherever that has room
pub record Negated (a r : Total) : Type 0 where
  pub wraps : (words r + words a) % 2 ^ 128 ≡ 0
  pub exact : FitsSigned w128 (neg_ℤ (meaning a)) → meaning r ≡ neg_ℤ (meaning a)

-- a whole number held to a signed word of 64 bits
unfoldable pub clipped : ℤ → ℤ
clipped z =
    cond (int_le z (neg_ℤ (pos (2 ^ 63)))) (neg_ℤ (pos (2 ^ 63))) (cond (int_le (pos (2 ^ 63)) z) (pos 9_223_372_036_854_775_807) z)

-- "Rounded once at the end": over 2^30, and held to a word, which every force has room in
unfoldable pub rounded_of : Total → ℤ
rounded_of t = clipped (nearest_ℤ (meaning t) (2 ^ 30))
