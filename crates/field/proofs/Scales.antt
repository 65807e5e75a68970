-- Decimals in a unit: rounding over powers of ten, sizes up to 2^31 and ranges, as the functions of `units` take them. The tens that stand on both sides of
-- a quotient fall away; a size past 2^31 is outside of any range of signed words of 32 bits. Assumes nothing.
use mathlib.Core.Path.{◌≡◌, refl, sym, ◌∙◌, ap}
use mathlib.Core.Bool.{Bool, true, false, cond, and-false}
use Prim.Native.Nat.{ℕ, zero, suc, ◌+◌, ◌*◌, ◌-◌, ◌^◌, ◌≤◌, ◌<◌}
use native.Mathlib.Nat.{one-le-pow, pow-le-pow_right, mul-le-mul, mul_assoc}
use native.Mathlib.Omega.{arith}
use borrow.Author.Tests.{lt-leb, leb-true, leb-false, ltb-false}
use lib.Dec.{leb, ltb, lit<}
use lib.IntN.{ℤ, pos, negsuc, neg_ℤ, nat_abs, ◌*ℤ◌}
use lib.Pow.{pow-add}
use lib.Signed.{mag, le_z}
use Rattle.whole.specs.Nearest.{nearest, nearest_ℤ}
use Rattle.whole.proofs.Laws.{neg_ℤ-*ℤ}
use Rattle.whole.proofs.Nearest.{nearest-nothing, nearest-scale, nearest-whole, nearest-neg}
use Rattle.std.proofs.lemmas.Bool.{true≢false}
use Rattle.std.specs.Prelude.{Some, None}
use Rattle.field.specs.Units.{within_word, with_sign, exact, units, in_range}
use Rattle.field.specs.declared.decimal.Decimal.{Decimal}

-- ---- rounding over powers of ten

pub ten-above : (n : ℕ) → 0 < 10 ^ n
ten-above n = one-le-pow n 10 (lit< tt)

-- the tens that are left stand above the line, and nothing is rounded
pub nearest-raised : (digits up down : ℕ) → down ≤ up → nearest (digits * 10 ^ up) (10 ^ down) ≡ digits * 10 ^ (up - down)
nearest-raised digits up down h =
    let e : up - down + down ≡ up = omega arith in
    let split : digits * 10 ^ up ≡ digits * 10 ^ (up - down) * 10 ^ down =
    ap (λ (n : ℕ). digits * 10 ^ n) (sym e)
    ∙ ap (λ (n : ℕ). digits * n) (pow-add 10 (up - down) down)
    ∙ sym (mul_assoc digits (10 ^ (up - down)) (10 ^ down)) in
    ap (λ (n : ℕ). nearest n (10 ^ down)) split ∙ ap nat_abs (nearest-whole (pos (digits * 10 ^ (up - down))) (10 ^ down) (ten-above down))

-- or below it
pub nearest-lowered : (digits up down : ℕ) → up < down → nearest (digits * 10 ^ up) (10 ^ down) ≡ nearest digits (10 ^ (down - up))
nearest-lowered digits up down h =
    let e : down - up + up ≡ down = omega arith in
    let split : 10 ^ down ≡ 10 ^ (down - up) * 10 ^ up = ap (λ (n : ℕ). 10 ^ n) (sym e) ∙ pow-add 10 (down - up) up in
    ap (λ (d : ℕ). nearest (digits * 10 ^ up) d) split
    ∙ ap nat_abs (nearest-scale (pos digits) (10 ^ (down - up)) (10 ^ up) (ten-above (down - up)) (ten-above up))

-- ten digits are past 2^31, whatever stands before them
pub raised-large : (digits n : ℕ) → 0 < digits → 9 < n → 2 ^ 31 < digits * 10 ^ n
raised-large digits n h k =
    let ten : 10 ^ 10 ≤ 10 ^ n = pow-le-pow_right (lit< tt) k in
    omega (arith, mul-le-mul h ten)

-- over 10^20, more than twice any word, nothing is left
pub lowered-nothing : (digits n : ℕ) → digits < 2 ^ 64 → 19 < n → nearest digits (10 ^ n) ≡ 0
lowered-nothing digits n h k =
    let ten : 10 ^ 20 ≤ 10 ^ n = pow-le-pow_right (lit< tt) k in
    nearest-nothing digits (10 ^ n) (omega arith)

-- what is no power that a word of 64 bits holds
pub none-ten : (n : ℕ) → None ≡ cond (ltb n 20) (Some (10 ^ n)) None → 19 < n
none-ten n e = go (ltb n 20) refl e
  where
    go : (t : Bool) → ltb n 20 ≡ t → None ≡ cond t (Some (10 ^ n)) None → 19 < n
    go true t e = let z : ◌≡◌ {A = ℕ} 0 1 = cc in absurd (omega arith)
    go false t e = omega (arith, ltb-false n 20 t)

-- ---- a size, or that it is past 2^31

pub word-held : (n m : ℕ) → Some m ≡ within_word n → (m ≡ n) × (n ≤ 2 ^ 31)
word-held n m e = go (leb n (2 ^ 31)) refl e
  where
    go : (t : Bool) → leb n (2 ^ 31) ≡ t → Some m ≡ cond t (Some n) None → (m ≡ n) × (n ≤ 2 ^ 31)
    go true t e = (cc, leb-true n (2 ^ 31) t)
    go false t e = let z : ◌≡◌ {A = ℕ} 0 1 = cc in absurd (omega arith)

pub none-held : (n : ℕ) → None ≡ within_word n → 2 ^ 31 < n
none-held n e = go (leb n (2 ^ 31)) refl e
  where
    go : (t : Bool) → leb n (2 ^ 31) ≡ t → None ≡ cond t (Some n) None → 2 ^ 31 < n
    go true t e = let z : ◌≡◌ {A = ℕ} 0 1 = cc in absurd (omega arith)
    go false t e = leb-false n (2 ^ 31) t

pub none-word : (n : ℕ) → 2 ^ 31 < n → None ≡ within_word n
none-word n h = simp (lt-leb _ _ h)

-- ---- signs

-- a change of sign goes through: the size is rounded once, and keeps its sign
pub units-size : (d : Decimal) (places : ℕ) → units d places ≡ with_sign d.negative (nearest (d.digits * 10 ^ (d.up + places)) (10 ^ d.down))
unfolding units exact with_sign
units-size d places = go d.negative
  where
    size : d.digits * 10 ^ d.up * 10 ^ places ≡ d.digits * 10 ^ (d.up + places)
    size = mul_assoc d.digits (10 ^ d.up) (10 ^ places) ∙ ap (λ (n : ℕ). d.digits * n) (sym (pow-add 10 d.up places))

    go : (s : Bool) → nearest_ℤ (with_sign s (d.digits * 10 ^ d.up) *ℤ pos (10 ^ places)) (10 ^ d.down)
        ≡ with_sign s (nearest (d.digits * 10 ^ (d.up + places)) (10 ^ d.down))
    go true =
        ap (λ z. nearest_ℤ z (10 ^ d.down)) (neg_ℤ-*ℤ (pos (d.digits * 10 ^ d.up)) (pos (10 ^ places)))
        ∙ nearest-neg (pos (d.digits * 10 ^ d.up * 10 ^ places)) (10 ^ d.down)
        ∙ ap (λ (n : ℕ). neg_ℤ (pos (nearest n (10 ^ d.down)))) size
    go false = ap (λ (n : ℕ). pos (nearest n (10 ^ d.down))) size

-- ---- ranges

-- a number in its range, above it, and below it
module _ (low high z : ℤ) where
  pub range-in : le_z low z ≡ true → le_z z high ≡ true → Some z ≡ in_range low high z
  unfolding in_range
  range-in e f = simp (e, f)

  pub range-above : le_z z high ≡ false → None ≡ in_range low high z
  unfolding in_range
  range-above e = simp (e, and-false (le_z low z))

  pub range-below : le_z low z ≡ false → None ≡ in_range low high z
  unfolding in_range
  range-below e = simp e

-- where the range's ends fit a width, what is in it fits too
pub between : {H : ℕ} (low high z : ℤ) → mag low < H → mag high < H → le_z low z ≡ true → le_z z high ≡ true → mag z < H
between low (pos h) (pos n) a b e f = omega (arith, leb-true n h f)
between low (negsuc h) (pos n) a b e f = absurd (true≢false (sym f))
between (pos l) high (negsuc n) a b e f = absurd (true≢false (sym e))
between (negsuc l) high (negsuc n) a b e f = omega (arith, leb-true n l e)

-- and what does not fit is out of it
past-below : (low : ℤ) (n : ℕ) → mag low < n → le_z low (negsuc n) ≡ false
past-below (pos l) n h = refl
past-below (negsuc l) n h = lt-leb n l h

past-above : (high : ℤ) (n : ℕ) → mag high < n → le_z (pos n) high ≡ false
past-above (pos k) n h = lt-leb n k h
past-above (negsuc k) n h = refl

pub range-past : {H : ℕ} (low high z : ℤ) → mag low < H → mag high < H → H ≤ mag z → None ≡ in_range low high z
range-past low high (pos n) a b h = range-above low high (pos n) (past-above high n (omega arith))
range-past low high (negsuc n) a b h = range-below low high (negsuc n) (past-below low n (omega arith))

pub mag-with-sign : {H : ℕ} (s : Bool) (n : ℕ) → H < n → H ≤ mag (with_sign s n)
unfolding with_sign
mag-with-sign true zero h = absurd (omega arith)
mag-with-sign true (suc n) h = omega arith
mag-with-sign false n h = omega arith
