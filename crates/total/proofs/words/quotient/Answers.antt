-- `total::words::quotient` meets its contract: from 2^29 in the high word up the rounded quotient is 2^63 or more, and below it is one step from the quotient and
-- the remainder, which are those of the high word's part and of the low word. Assumes nothing.
use Rattle.std.proofs.Common.{◌≡◌, ℕ, ◌+◌, ◌*◌, ◌/◌, ◌%◌, ◌^◌, ◌<◌, ◌≤◌, pos, ap, ◌∙◌, arith, lit<}
use Rattle.whole.specs.Nearest.{nearest}
use Rattle.whole.proofs.Nearest.{nearest-step, nearest-within, nearest-above}
use Rattle.total.specs.Total.{words}
use Rattle.total.proofs.words.quotient.Goals as goal

-- with no other number in reach: omega stops at one of more than 38 digits
past : (h l : ℕ) → 2 ^ 29 ≤ h → 2 ^ 63 * 2 ^ 30 ≤ h * 2 ^ 64 + l
past h l k = omega arith

within : (h l : ℕ) → h < 2 ^ 29 → l < 2 ^ 64 → h * 2 ^ 64 + l ≤ 2 ^ 63 * 2 ^ 30
within h l k f = omega arith

-- the high word, moved up, loses nothing
parts : (h l : ℕ) → h < 2 ^ 29 → (h * 2 ^ 34 % 2 ^ 64 + l / 2 ^ 30) * 2 ^ 30 + l % 2 ^ 30 ≡ h * 2 ^ 64 + l
parts h l k = omega arith

sum_fits : (h l : ℕ) → h < 2 ^ 29 → l < 2 ^ 64 → h * 2 ^ 34 % 2 ^ 64 + l / 2 ^ 30 < 2 ^ 64
sum_fits h l k f = omega arith

pub returns-then-t-ge536870912 : goal.returns-then-t-ge536870912
returns-then-t-ge536870912 c =
    let t = c.args.t in
    let h : 2 ^ 63 ≤ nearest (words t) (2 ^ 30) = nearest-above (words t) (2 ^ 30) (2 ^ 63) (lit< tt) (past t.high t.low c.if-t-ge536870912.true) in
    omega arith

pub overflow_add-q : goal.overflow_add-q
overflow_add-q c = record { fits = sum_fits c.args.t.high c.args.t.low (omega arith) (omega arith) }

-- the sum that is returned, and that it is at most 2^63
module _ (c : goal.After-rounds_up) where
  abbrev high : ℕ
  high = c.args.t.high

  abbrev low : ℕ
  low = c.args.t.low

  stepped : high * 2 ^ 34 % 2 ^ 64 + low / 2 ^ 30 + c.rounds_up.result ≡ nearest (high * 2 ^ 64 + low) (2 ^ 30)
  stepped =
      let q = high * 2 ^ 34 % 2 ^ 64 + low / 2 ^ 30 in
      let h : low % 2 ^ 30 < 2 ^ 30 = omega arith in
      ap (λ (u : ℕ). q + u) c.rounds_up.ensures ∙ nearest-step (high * 2 ^ 64 + low) (2 ^ 30) q (low % 2 ^ 30) (parts high low (omega arith)) h

  small : nearest (high * 2 ^ 64 + low) (2 ^ 30) ≤ 2 ^ 63
  small = nearest-within (pos (high * 2 ^ 64 + low)) (2 ^ 30) (2 ^ 63) (lit< tt) (within high low (omega arith) (omega arith))

pub overflow_add-result : goal.overflow_add-result
overflow_add-result c = omega (arith, stepped c, small c)

pub returns-else-t-ge536870912 : goal.returns-else-t-ge536870912
returns-else-t-ge536870912 c = omega (arith, stepped c, small c)
