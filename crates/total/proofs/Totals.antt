-- Totals of two words: adding by words, with carries, adds modulo 2^128, words that make a multiple of it together are a number and its negation, and the high
-- word tells the sign. The columns are added at any base B, so that omega meets no 2^128. Assumes nothing.
use Rattle.std.proofs.Common.{◌≡◌, ℕ, ◌+◌, ◌*◌, ◌%◌, ◌^◌, ◌<◌, ◌≤◌, pos, neg_ℤ, sym, ap, ◌∙◌, le_trans, le-add_right, mul-le-mul_right, arith, lit<, Fits}
use lib.Arith.{digits_lt, digits_mod}
use mir.Syntax.{w128}
use mir.Facts.{to_z_pos}
use Rattle.total.specs.declared.words.Total.{Total}
use Rattle.total.specs.Total.{words, meaning, Added, Negated}
use Rattle.total.proofs.Wraps.{read-sum, read-neg, read-size}

-- each word of a total is below 2^64
pub record Sound (t : Total) : Type 0 where
  pub low : t.low < 2 ^ 64
  pub high : t.high < 2 ^ 64

words-fits : {t : Total} → Sound t → Fits w128 (words t)
words-fits s = record { fits = digits_lt s.high s.low }

-- the words a and b, added with the carries c and d
columns : (B al ah bl bh rl rh c d : ℕ) → al + bl ≡ c * B + rl → ah + bh + c ≡ d * B + rh → rl < B → rh < B
    → rh * B + rl ≡ ((ah * B + al) + (bh * B + bl)) % (B * B)
columns B al ah bl bh rl rh c d e f l h =
    let stacked : (ah * B + al) + (bh * B + bl) ≡ d * (B * B) + (rh * B + rl) = omega (arith, ap (λ (n : ℕ). n * B) f) in
    sym (ap (λ (n : ℕ). n % (B * B)) stacked ∙ digits_mod d (digits_lt h l))

-- r is a + b
pub added : {a b r : Total} (c d : ℕ) → Sound a → Sound b → Sound r → a.low + b.low ≡ c * 2 ^ 64 + r.low → a.high + b.high + c ≡ d * 2 ^ 64 + r.high
    → Added a b r
unfolding meaning
added {a} {b} {r} c d sa sb sr e f =
    let whole : words r ≡ (words a + words b) % 2 ^ 128 =
    columns (2 ^ 64) a.low a.high b.low b.high r.low r.high c d e f sr.low sr.high in
    record { wraps = whole; exact = λ s. rw whole (read-sum w128 (words-fits sa) (words-fits sb) s) }

-- r is -a
pub opposite : {a r : Total} (c d : ℕ) → Sound a → Sound r → r.low + a.low ≡ c * 2 ^ 64 + 0 → r.high + a.high + c ≡ d * 2 ^ 64 + 0 → Negated a r
unfolding meaning
opposite {a} {r} c d sa sr e f =
    let whole : (words r + words a) % 2 ^ 128 ≡ 0 =
    sym (columns (2 ^ 64) r.low r.high a.low a.high 0 0 c d e f (lit< tt) (lit< tt)) in
    record { wraps = whole; exact = λ s. read-neg w128 (words-fits sa) (words-fits sr) whole s }

-- a total below 2^127 stands for its words
pub plain : (t : Total) → words t < 2 ^ 127 → meaning t ≡ pos (words t)
unfolding meaning
plain t h = to_z_pos w128 h

-- so it is where the high word's first bit is clear; where that is set, a total stands for its negation's words with a minus
pub top-clear : {t : Total} → Sound t → t.high < 2 ^ 63 → meaning t ≡ pos (words t)
top-clear {t} s h = plain t (digits_lt h s.low)

pub top_set : {t r : Total} → Sound t → Sound r → Negated t r → 2 ^ 63 ≤ t.high → meaning t ≡ neg_ℤ (pos (words r))
unfolding meaning
top_set {t} s q n h =
    read-size w128 (words-fits s) (words-fits q) n.wraps (le_trans (mul-le-mul_right (2 ^ 64) h) (le-add_right (t.high * 2 ^ 64) t.low))
