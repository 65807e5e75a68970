-- Numbers as text: the last digit behind the others, places taken off, how many digits a number has, and how long it gets.
-- Assumes nothing.
use mathlib.Core.Path.{◌≡◌, refl, sym, ap, subst, ◌∙◌}
use mathlib.Core.Bool.{Bool, true, false, cond}
use mathlib.Core.List.{[], ◌∷◌, ◌++◌}
use Prim.Native.Nat.{ℕ, zero, suc, ◌+◌, ◌-◌, ◌*◌, ◌/◌, ◌%◌, ◌^◌, ◌≤◌, ◌<◌}
use native.Mathlib.Nat.{pow-zero, pow-suc, pow-succ', one-le-pow, mul_comm, div-one, div-div-eq-div-mul, div-lt_iff_lt-mul}
use native.Mathlib.Omega.{arith}
use lib.Dec.{T, ltb, lit<}
use lib.IntN.{ℤ, pos, negsuc, nat_abs}
use lib.Pow.{pow-add}
use lib.ListN.{length, length-append}
use lib.Signed.{non_neg}
use borrow.Author.Tests.{lt-ltb, le-ltb, ltb-true, ltb-false}
use Rattle.text.specs.Decimal.{digits, width_in, width, natural, minus, signed, fraction, unsigned, decimal}

pub length_digits : (k n : ℕ) → length (digits k n) ≡ k
unfolding digits
length_digits zero n = refl
length_digits (suc k) n =
    omega (arith, length-append (digits k (n / 10)) ((48 + n % 10) ∷ []), length_digits k (n / 10))

-- by how many are asked: none, or the last one and those before it
pub digits-none : (k n : ℕ) → k ≡ 0 → digits k n ≡ []
unfolding digits
digits-none zero n e = refl
digits-none (suc k) n e = absurd (omega arith)

pub digits_more : (k n : ℕ) → (k ≡ 0 → ⊥) → digits k n ≡ digits (k - 1) (n / 10) ++ ((48 + n % 10) ∷ [])
unfolding digits
digits_more zero n h = absurd (h refl)
digits_more (suc k) n h =
    let e : suc k - 1 ≡ k = omega arith in
    rw e

-- the same of decimals: none, or the point and the digits behind it
pub fraction-none : (places n : ℕ) → places ≡ 0 → fraction places n ≡ []
unfolding fraction
fraction-none zero n e = refl
fraction-none (suc p) n e = absurd (omega arith)

pub fraction-some : (places n : ℕ) → (places ≡ 0 → ⊥) → fraction places n ≡ 46 ∷ digits places n
unfolding fraction
fraction-some zero n h = absurd (h refl)
fraction-some (suc p) n h = refl

-- ---- places taken off

-- one place more is one division more
pub place-more : (n k : ℕ) → n / 10 ^ suc k ≡ n / 10 / 10 ^ k
place-more n k = ap (λ d. n / d) (pow-succ' 10 k) ∙ sym (div-div-eq-div-mul n 10 (10 ^ k))

pub place_none : (n : ℕ) → n / 10 ^ 0 ≡ n
place_none n = ap (λ d. n / d) (pow-zero 10) ∙ div-one n

-- the same from above, as a loop goes
pub place-less : (n k : ℕ) → 0 < k → n / 10 / 10 ^ (k - 1) ≡ n / 10 ^ k
place-less n zero h = absurd (omega arith)
place-less n (suc k) h =
    let e : suc k - 1 ≡ k = omega arith in
    rw e (sym (place-more n k))

-- ---- the width

-- any bound that is large enough gives the same
enough : (f g n : ℕ) → n ≤ f → n ≤ g → width_in f n ≡ width_in g n
unfolding width_in
enough zero zero n h k = refl
enough zero (suc g) n h k = rw (lt-ltb n 10 (omega arith))
enough (suc f) zero n h k = rw (lt-ltb n 10 (omega arith))
enough (suc f) (suc g) n h k = go (ltb n 10) refl (enough f g (n / 10))
  where
    go :
        (t : Bool)
        → ltb n 10 ≡ t
        → (n / 10 ≤ f → n / 10 ≤ g → width_in f (n / 10) ≡ width_in g (n / 10))
        → cond {A = ℕ → ℕ} t (λ m. 1) (λ m. suc (width_in f m)) (n / 10) ≡ cond {A = ℕ → ℕ} t (λ m. 1) (λ m. suc (width_in g m)) (n / 10)
    go true e same = refl
    go false e same = let large = ltb-false n 10 e in ap suc (same (omega arith) (omega arith))

pub width_one : (n : ℕ) → n < 10 → width n ≡ 1
unfolding width width_in
width_one zero h = refl
width_one (suc n) h = rw (lt-ltb (suc n) 10 h)

pub width-more : (n : ℕ) → 10 ≤ n → width n ≡ suc (width (n / 10))
unfolding width width_in
width-more zero h = absurd (omega arith)
width-more (suc n) h =
    let less : suc n / 10 ≤ n = omega arith in
    let self : suc n / 10 ≤ suc n / 10 = omega arith in
    rw (le-ltb (suc n) 10 h) (ap suc (enough n (suc n / 10) (suc n / 10) less self))

-- a claim on widths goes from n / 10 to n
by_width : (P : ℕ → Type 0) → ((n : ℕ) → n < 10 → P n) → ((n : ℕ) → 10 ≤ n → P (n / 10) → P n) → (n : ℕ) → P n
by_width P one more n = below n n (omega arith)
  where
    below : (f m : ℕ) → m ≤ f → P m
    below zero m h = one m (omega arith)
    below (suc f) m h = go (ltb m 10) refl (below f (m / 10))
      where
        go : (t : Bool) → ltb m 10 ≡ t → (m / 10 ≤ f → P (m / 10)) → P m
        go true e next = one m (ltb-true m 10 e)
        go false e next =
            let large = ltb-false m 10 e in
            more m large (next (omega arith))

pub width_some : (n : ℕ) → 0 < width n
width_some = by_width (λ n. 0 < width n) (λ n h. omega (arith, width_one n h)) (λ n h k. omega (arith, width-more n h))

-- no digit stands before the highest
pub width-all : (n : ℕ) → n / 10 ^ width n ≡ 0
width-all =
    by_width (λ n. n / 10 ^ width n ≡ 0)
    (λ n h. rw (width_one n h) (place-more n 0 ∙ place_none (n / 10) ∙ omega arith))
    (λ n h k. rw (width-more n h) (place-more n (width (n / 10)) ∙ k))

pub width_few : (k n : ℕ) → n < 10 ^ suc k → width n ≤ suc k
width_few zero n h = omega (arith, width_one n (omega (arith, pow-suc 10 0)))
width_few (suc k) n h = go (ltb n 10) refl (width_few k (n / 10))
  where
    go : (t : Bool) → ltb n 10 ≡ t → (n / 10 < 10 ^ suc k → width (n / 10) ≤ suc k) → width n ≤ suc (suc k)
    go true e next = omega (arith, width_one n (ltb-true n 10 e))
    go false e next =
        let small : n / 10 < 10 ^ suc k = omega (arith, pow-suc 10 (suc k)) in
        omega (arith, width-more n (ltb-false n 10 e), next small)

-- ---- how long a number gets

pub natural-few : (k n : ℕ) → n < 10 ^ suc k → length (natural n) ≤ suc k
unfolding natural
natural-few k n h = omega (arith, length_digits (width n) n, width_few k n h)

-- a sign is one byte, and none where the number is not below 0
pub minus-few : (z : ℤ) → length (minus z) ≤ 1
minus-few (pos n) = omega arith
minus-few (negsuc n) = omega arith

pub signed-few : (k : ℕ) (z : ℤ) → nat_abs z < 10 ^ suc k → length (signed z) ≤ suc (suc k)
unfolding signed
signed-few k z h = omega (arith, length-append (minus z) (natural (nat_abs z)), minus-few z, natural-few k (nat_abs z) h)

-- what the point and the decimals take: nothing where there are no places
abbrev pub behind_whole : ℕ → ℕ
behind_whole zero = 0
behind_whole (suc p) = suc (suc p)

length-fraction : (places n : ℕ) → length (fraction places n) ≡ behind_whole places
unfolding fraction
length-fraction zero n = refl
length-fraction (suc p) n = ap suc (length_digits (suc p) n)

-- a decimal whose whole part has at most d + 1 digits
pub decimal-few :
    (places d : ℕ) (z : ℤ) → nat_abs z < 10 ^ (places + suc d) → length (decimal places z) ≤ length (minus z) + suc d + behind_whole places
unfolding decimal unsigned
decimal-few places d z h =
    let n = nat_abs z in
    let some : 0 < 10 ^ places = one-le-pow places 10 (lit< tt) in
    let room : n < 10 ^ suc d * 10 ^ places = rw (pow-add, mul_comm) at h in
    let small : n / 10 ^ places < 10 ^ suc d = (div-lt_iff_lt-mul some).1 room in
    omega (
      arith,
      length-append (minus z) (natural (n / 10 ^ places) ++ fraction places n),
      length-append (natural (n / 10 ^ places)) (fraction places n),
      length-fraction places n,
      natural-few d (n / 10 ^ places) small,
    )

-- ---- signs

pub minus-none : (z : ℤ) → non_neg z ≡ true → minus z ≡ []
minus-none (pos n) e = refl
minus-none (negsuc n) e = absurd (subst T (sym e) tt)

pub minus_one : (z : ℤ) → non_neg z ≡ false → minus z ≡ 45 ∷ []
minus_one (pos n) e = absurd (subst T e tt)
minus_one (negsuc n) e = refl
