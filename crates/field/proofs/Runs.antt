-- Laws of the runs of bytes that a field is made of: an optional byte, leading digits with what follows them, the number that digits say, and a part of a text.
-- Assumes nothing.
use mathlib.Core.Path.{◌≡◌, refl, sym, ap, subst, ◌∙◌}
use mathlib.Core.Bool.{Bool, true, false, cond, ◌&&◌}
use mathlib.Core.List.{List, [], ◌∷◌, ◌++◌}
use Prim.Native.Nat.{ℕ, zero, suc, ◌+◌, ◌*◌, ◌-◌, ◌^◌, ◌≤◌, ◌<◌, min}
use native.Mathlib.Nat.{pow-suc, add-zero, add-suc, suc-add, zero-min, suc-min-suc, lt_of_lt_of_le, pow-le-pow_right}
use native.Mathlib.Omega.{arith}
use lib.Dec.{T, lit<, leb, leb→le, eqb, eqb-suc-suc, eqb-zero-suc}
use lib.ListN.{length, take, drop, get_or, drop_of_length-le, length-append, length-take, length-drop, take-append-drop}
use lib.Seq.{slice, take_all, drop-append_seam, drop-append-le, take-nil, take_at}
use mir.Facts.{and_yes}
use borrow.Author.Tests.{eq-eqb, ne_eqb}
use Rattle.field.specs.Form.{is_digit, without, starts_minus, leading, after, all_digits, numeral}

-- ---- a byte

pub digit-ge : (b : ℕ) → is_digit b ≡ true → 48 ≤ b
digit-ge b h = leb→le 48 b (and_yes (leb 48 b) _ (subst T (sym h) tt)).0

pub digit-le : (b : ℕ) → is_digit b ≡ true → b ≤ 57
digit-le b h = leb→le b 57 (and_yes (leb 48 b) _ (subst T (sym h) tt)).1

-- ---- a byte that a run starts with, and what stands behind it

-- what a pattern `[b, rest @ ..]` calls `rest`
abbrev pub behind : List ℕ → List ℕ
behind s = take (length s - 1) (drop 1 s)

pub behind-is : (b : ℕ) (t : List ℕ) → behind (b ∷ t) ≡ t
behind-is b t = take_all (length (b ∷ t) - 1) t (omega arith)

pub length-behind : (s : List ℕ) → 1 ≤ length s → length (behind s) + 1 ≡ length s
length-behind [] h = absurd (omega arith)
length-behind (b ∷ t) h = omega (arith, ap length (behind-is b t))

module _ (kind : ℕ → Bool) where
  pub without-one : (s : List ℕ) → 1 ≤ length s → kind (get_or s 0 0) ≡ true → behind s ≡ without kind s
  unfolding without
  without-one [] h k = absurd (omega arith)
  without-one (b ∷ t) h k = simp k (behind-is b t)

  pub without_other : (s : List ℕ) → (1 ≤ length s → kind (get_or s 0 0) ≡ false) → s ≡ without kind s
  unfolding without
  without_other [] k = refl
  without_other (b ∷ t) k = let other = k (omega arith) in simp other

pub length-without : (kind : ℕ → Bool) (s : List ℕ) → length (without kind s) ≤ length s
unfolding without
length-without kind [] = omega arith
length-without kind (b ∷ t) = go (kind b)
  where
    go : (x : Bool) → length (cond x t (b ∷ t)) ≤ length (b ∷ t)
    go true = omega arith
    go false = omega arith

-- what a run that has a byte is made of
pub seam : (s : List ℕ) → 1 ≤ length s → s ≡ get_or s 0 0 ∷ behind s
seam [] h = absurd (omega arith)
seam (b ∷ t) h = ap (λ (r : List ℕ). b ∷ r) (sym (behind-is b t))

pub minus-one : (s : List ℕ) → 1 ≤ length s → get_or s 0 0 ≡ 45 → true ≡ starts_minus s
unfolding starts_minus
minus-one [] h k = absurd (omega arith)
minus-one (b ∷ t) h k = sym (eq-eqb b 45 k)

pub minus_other : (s : List ℕ) → (1 ≤ length s → get_or s 0 0 ≡ 45 → ⊥) → false ≡ starts_minus s
unfolding starts_minus
minus_other [] k = refl
minus_other (b ∷ t) k = sym (ne_eqb b 45 (k (omega arith)))

-- a digit more
pub leading-more : (s : List ℕ) → 1 ≤ length s → is_digit (get_or s 0 0) ≡ true → leading s ≡ get_or s 0 0 ∷ leading (behind s)
unfolding leading
leading-more [] h k = absurd (omega arith)
leading-more (b ∷ t) h k = simp (k, behind-is b t)

pub after-more : (s : List ℕ) → 1 ≤ length s → is_digit (get_or s 0 0) ≡ true → after s ≡ after (behind s)
unfolding after
after-more [] h k = absurd (omega arith)
after-more (b ∷ t) h k = simp (k, behind-is b t)

-- or none
pub leading-stop : (s : List ℕ) → (1 ≤ length s → is_digit (get_or s 0 0) ≡ false) → leading s ≡ []
unfolding leading
leading-stop [] k = refl
leading-stop (b ∷ t) k = let other = k (omega arith) in simp other

pub after-stop : (s : List ℕ) → (1 ≤ length s → is_digit (get_or s 0 0) ≡ false) → after s ≡ s
unfolding after
after-stop [] k = refl
after-stop (b ∷ t) k = let other = k (omega arith) in simp other

-- ---- leading digits, and what follows them

pub leading-after : (s : List ℕ) → leading s ++ after s ≡ s
unfolding leading after
leading-after [] = refl
leading-after (b ∷ s) = go (is_digit b) (leading-after s)
  where
    go : (t : Bool) → leading s ++ after s ≡ s → cond t (b ∷ leading s) [] ++ cond t (after s) (b ∷ s) ≡ b ∷ s
    go true e = ap (λ (l : List ℕ). b ∷ l) e
    go false e = refl

pub length-leading : (s : List ℕ) → length (leading s) ≤ length s
length-leading s = omega (arith, length-append (leading s) (after s), ap length (leading-after s))

pub drop-leading : (s : List ℕ) → drop (length (leading s)) s ≡ after s
drop-leading s =
    ap (λ (l : List ℕ). drop (length (leading s)) l) (sym (leading-after s)) ∙ drop-append_seam (leading s) (after s)

pub all_digits_lem : (s : List ℕ) → all_digits s ≡ eqb (length (leading s)) (length s)
unfolding all_digits leading
all_digits_lem [] = refl
all_digits_lem (b ∷ s) = go (is_digit b) (all_digits_lem s)
  where
    go :
        (t : Bool)
        → all_digits s ≡ eqb (length (leading s)) (length s)
        → (t && all_digits s) ≡ eqb (length (cond t (b ∷ leading s) [])) (suc (length s))
    go true e = e ∙ sym (eqb-suc-suc (length (leading s)) (length s))
    go false e = sym (eqb-zero-suc (length s))

-- all of them are digits
pub leading-all : (s : List ℕ) → length (leading s) ≡ length s → leading s ≡ s
unfolding leading
leading-all [] h = refl
leading-all (b ∷ s) h = go (is_digit b) (leading-all s) h
  where
    go :
        (t : Bool)
        → (length (leading s) ≡ length s → leading s ≡ s)
        → length (cond t (b ∷ leading s) []) ≡ suc (length s)
        → cond t (b ∷ leading s) [] ≡ b ∷ s
    go true f h = ap (λ (l : List ℕ). b ∷ l) (f (omega arith))
    go false f h = absurd (omega arith)

-- ---- the number that digits say

pub numeral-++ : (v : ℕ) (a b : List ℕ) → numeral v (a ++ b) ≡ numeral (numeral v a) b
unfolding numeral
numeral-++ v [] b = refl
numeral-++ v (d ∷ a) b = numeral-++ (10 * v + (d - 48)) a b

pub numeral-le : (v : ℕ) (ds : List ℕ) → v ≤ numeral v ds
unfolding numeral
numeral-le v [] = omega arith
numeral-le v (d ∷ ds) = omega (arith, numeral-le (10 * v + (d - 48)) ds)

-- n digits after a number below 10^k say one below 10^(k + n)
pub numeral-lt : (v k : ℕ) (s : List ℕ) → v < 10 ^ k → numeral v (leading s) < 10 ^ (k + length (leading s))
unfolding numeral leading
numeral-lt v k [] h = rw add-zero h
numeral-lt v k (b ∷ s) h = go (is_digit b) refl (numeral-lt (10 * v + (b - 48)) (suc k) s) h
  where
    go :
        (t : Bool)
        → is_digit b ≡ t
        → (10 * v + (b - 48) < 10 ^ suc k → numeral (10 * v + (b - 48)) (leading s) < 10 ^ (suc k + length (leading s)))
        → v < 10 ^ k
        → numeral v (cond t (b ∷ leading s) []) < 10 ^ (k + length (cond t (b ∷ leading s) []))
    go true e f h = rw (add-suc, ← suc-add) (f (omega (arith, pow-suc 10 k, digit-le b e)))
    go false e f h = rw add-zero h

pub numeral-below : (v k n : ℕ) (s : List ℕ) → v < 10 ^ k → k + length (leading s) ≤ n → numeral v (leading s) < 10 ^ n
numeral-below v k n s h m = lt_of_lt_of_le (numeral-lt v k s h) (pow-le-pow_right (lit< tt) m)

-- ---- a part of a text

take_min : (n : ℕ) (l : List ℕ) → take n l ≡ take (min n (length l)) l
take_min zero l = rw zero-min
take_min (suc n) [] = sym (take-nil (min (suc n) 0))
take_min (suc n) (x ∷ l) = rw suc-min-suc (ap (λ (t : List ℕ). x ∷ t) (take_min n l))

pub slice-none : (a b : ℕ) (l : List ℕ) → min b (length l) ≤ a → slice a b l ≡ []
slice-none a b l h = drop_of_length-le (take b l) {i = a} (rw length-take h)

pub slice-part : (a b e : ℕ) (l : List ℕ) → e ≡ min b (length l) → a ≤ e → take (e - a) (drop a l) ≡ slice a b l
slice-part a b e l m h =
    let full : length (take e l) ≡ e = length-take e l ∙ omega arith in
    let whole = take-append-drop e l in
    let cut = drop-append-le a (take e l) (drop e l) (omega arith) in
    let long : length (drop a (take e l)) ≡ e - a = length-drop a (take e l) ∙ ap (λ (n : ℕ). n - a) full in
    ap (λ (t : List ℕ). take (e - a) (drop a t)) (sym whole)
    ∙ ap (take (e - a)) cut
    ∙ take_at (drop a (take e l)) (drop e l) (e - a) long
    ∙ ap (λ (t : List ℕ). drop a t) (ap (λ (n : ℕ). take n l) m ∙ sym (take_min b l))
