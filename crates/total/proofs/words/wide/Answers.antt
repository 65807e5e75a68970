-- `total::words::wide` meets its contract: the two totals that are added are the row of m's two halves, and nothing wraps. Assumes nothing.
use Rattle.std.proofs.Common.{◌≡◌, ℕ, ◌+◌, ◌*◌, ◌/◌, ◌%◌, ◌^◌, ◌<◌, ◌∙◌, lt_of_le_of_lt, le_of_lt, mod-eq_of_lt, mul-le-mul, arith, lit<}
use Rattle.total.proofs.Rows.{row_is}
use Rattle.total.proofs.words.wide.Goals as goal

-- a number that is moved up by a half, in two words
moved : (u : ℕ) → u < 2 ^ 64 → u / 2 ^ 32 * 2 ^ 64 + u * 2 ^ 32 % 2 ^ 64 ≡ u * 2 ^ 32
moved u h = omega arith

-- what is m k has room, since m has 64 bits and k has 32
no_wrap : (n m k : ℕ) → m < 2 ^ 64 → k < 2 ^ 32 → n ≡ m * k → n % 2 ^ 128 ≡ m * k
no_wrap n m k h l e = rw e (mod-eq_of_lt (lt_of_le_of_lt (mul-le-mul (le_of_lt h) (le_of_lt l)) (lit< tt)))

pub returns : goal.returns
returns c =
    let m = c.args.m in
    let k = c.args.k in
    let up = moved c.times-upper.result (omega arith) in
    c.add.ensures.wraps
    ∙ no_wrap _ m k (omega arith) (omega arith) (omega (arith, up, c.times-lower.ensures, c.times-upper.ensures, row_is (2 ^ 32) m k))
