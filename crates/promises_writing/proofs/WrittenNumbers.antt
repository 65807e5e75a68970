-- What is written by dividing is the text of the grammar, and of each number there is but one such text: digits of one length that say one number are the same digits, and with no
-- needless zero the number tells the length. Assumes nothing.
use mathlib.Core.Path.{◌≡◌, refl, sym, ap, ap₂, subst, ◌∙◌}
use mathlib.Core.Bool.{Bool, true, false}
use mathlib.Core.List.{List, [], ◌∷◌, ◌++◌, append-nil}
use Prim.Native.Nat.{ℕ, zero, suc, ◌+◌, ◌*◌, ◌-◌, ◌/◌, ◌%◌, ◌^◌, ◌≤◌, ◌<◌}
use native.Mathlib.Nat.{pow-suc, pow-zero, add-mul, suc-mul, mul_assoc, mul-one, mul-le-mul_right, pow-le-pow_right}
use native.Mathlib.Omega.{arith}
use lib.Dec.{ltb, lit<, le→leb, ltb→lt}
use lib.IntN.{ℤ, pos, negsuc, nat_abs}
use lib.ListN.{length, length-append}
use lib.Pow.{pow-add}
use borrow.Author.Tests.{ltb-true, ltb-false}
use Rattle.promises_fields.specs.Fields.{Digits, saying}
use Rattle.promises_fields.specs.Fields.Digits.{no_digit, digit}
use Rattle.text.specs.Decimal.{digits, width, natural, minus, signed, fraction, unsigned, decimal}
use Rattle.text.proofs.Widths.{length_digits, place-more, place_none, width_some, width-all, width_few}
use Rattle.promises_writing.specs.WrittenNumbers.{MinusIs, WholeDigits, WholeIs, WholeExactly, NaturalExactly, DecimalIs, NumberIs, DecimalExactly}
use Rattle.promises_writing.specs.WrittenNumbers.MinusIs.{below-0, from-0}
use Rattle.promises_writing.specs.WrittenNumbers.NumberIs.{no_place, some-place}

-- ---- the number that digits say

-- with r and s below p, what stands before them is told
same-high : (a c p r s : ℕ) → r < p → s < p → a * p + r ≡ c * p + s → a ≡ c
same-high a c p r s h k e = go (ltb a c) (ltb c a) refl refl
  where
    go : (t u : Bool) → ltb a c ≡ t → ltb c a ≡ u → a ≡ c
    go true u f g = let less = mul-le-mul_right {m = suc a} {n = c} p (ltb-true a c f) in absurd (omega (arith, suc-mul a p))
    go false true f g = let less = mul-le-mul_right {m = suc c} {n = a} p (ltb-true c a g) in absurd (omega (arith, suc-mul c p))
    go false false f g = omega (arith, ltb-false a c f, ltb-false c a g)

saying-++ : (a b : List ℕ) → saying (a ++ b) ≡ saying a * 10 ^ length b + saying b
unfolding saying
saying-++ [] b = omega arith
saying-++ (c ∷ a) b =
    let rest = saying-++ a b in
    let power : 10 ^ length (a ++ b) ≡ 10 ^ length a * 10 ^ length b = ap (λ (n : ℕ). 10 ^ n) (length-append a b) ∙ pow-add 10 (length a) (length b) in
    let high : (c - 48) * 10 ^ length (a ++ b) ≡ (c - 48) * 10 ^ length a * 10 ^ length b =
    ap (λ (n : ℕ). (c - 48) * n) power ∙ sym (mul_assoc (c - 48) (10 ^ length a) (10 ^ length b))
    in
    omega (arith, add-mul ((c - 48) * 10 ^ length a) (saying a) (10 ^ length b))

saying-below : {s : List ℕ} → Digits s → saying s < 10 ^ length s
unfolding saying
saying-below no_digit = omega (arith, pow-zero 10)
saying-below (digit {b = b} {s = s} low high ds) =
    let rest = saying-below ds in
    let few : b - 48 ≤ 9 = omega arith in
    let less = mul-le-mul_right (10 ^ length s) few in
    omega (arith, pow-suc 10 (length s))

same_digits : {a b : List ℕ} → Digits a → Digits b → length a ≡ length b → saying a ≡ saying b → a ≡ b
unfolding saying
same_digits no_digit no_digit l e = refl
same_digits no_digit (digit low high ds) l e = absurd (omega arith)
same_digits (digit low high ds) no_digit l e = absurd (omega arith)
same_digits (digit {b = b} {s = s} low high ds) (digit {b = c} {s = t} low' high' es) l e =
    let long : length s ≡ length t = omega arith in
    let power : 10 ^ length t ≡ 10 ^ length s = ap (λ (n : ℕ). 10 ^ n) (sym long) in
    let below = saying-below ds in
    let below' : saying t < 10 ^ length s = rw (← power) (saying-below es) in
    let whole : (b - 48) * 10 ^ length s + saying s ≡ (c - 48) * 10 ^ length s + saying t = rw power at e in
    let high_same = same-high (b - 48) (c - 48) (10 ^ length s) (saying s) (saying t) below below' whole in
    let first : b ≡ c = omega arith in
    let rest : saying s ≡ saying t = omega (arith, ap (λ (n : ℕ). n * 10 ^ length s) high_same) in
    ap₂ (λ (d : ℕ) (l : List ℕ). d ∷ l) first (same_digits ds es long rest)

-- ---- with no needless zero

-- more than one digit: the first is not 0
saying-above : {s : List ℕ} → WholeDigits s → (k : ℕ) → length s ≡ suc (suc k) → 10 ^ suc k ≤ saying s
unfolding saying
saying-above {s} w k = go w.only-digits w.no-needless-zero
  where
    go : {s : List ℕ} → Digits s → ((rest : List ℕ) → s ≡ 48 ∷ rest → rest ≡ []) → length s ≡ suc (suc k) → 10 ^ suc k ≤ saying s
    go no_digit n l = absurd (omega arith)
    go (digit {b = b} {s = s} low high ds) n l =
        let long : length s ≡ suc k = omega arith in
        let other : b ≡ 48 → ⊥ = λ e. omega (arith, ap length (n s (ap (λ (c : ℕ). c ∷ s) e))) in
        let some : 1 ≤ b - 48 = omega (arith, other) in
        let more = mul-le-mul_right (10 ^ length s) some in
        rw (← long) (omega arith)

-- the longer of two says more
shorter-no : {a b : List ℕ} → WholeDigits a → WholeDigits b → saying a ≡ saying b → length a < length b → ⊥
shorter-no {a} {b} v w e = go (length a) (length b) refl refl
  where
    go : (m n : ℕ) → length a ≡ m → length b ≡ n → m < n → ⊥
    go m zero f g h = omega arith
    go m (suc zero) f g h = omega (arith, v.some)
    go m (suc (suc k)) f g h =
        let more = saying-above w k g in
        let less = saying-below v.only-digits in
        let grows = pow-le-pow_right {n = 10} (lit< tt) {i = length a} {j = suc k} (omega arith) in
        omega arith

same_whole : {a b : List ℕ} → WholeDigits a → WholeDigits b → saying a ≡ saying b → a ≡ b
same_whole {a} {b} v w e =
    let left = shorter-no v w e in
    let right = shorter-no w v (sym e) in
    same_digits v.only-digits w.only-digits (go (ltb (length a) (length b)) (ltb (length b) (length a)) refl refl left right) e
  where
    go : (t u : Bool) → ltb (length a) (length b) ≡ t → ltb (length b) (length a) ≡ u → (length a < length b → ⊥) → (length b < length a → ⊥) → length a ≡ length b
    go true u f g p q = absurd (p (ltb-true (length a) (length b) f))
    go false true f g p q = absurd (q (ltb-true (length b) (length a) g))
    go false false f g p q = omega (arith, ltb-false (length a) (length b) f, ltb-false (length b) (length a) g)

-- ---- the digits that are written

digits-++ : {a b : List ℕ} → Digits a → Digits b → Digits (a ++ b)
digits-++ no_digit es = es
digits-++ (digit low high ds) es = digit low high (digits-++ ds es)

digits_are : (k n : ℕ) → Digits (digits k n)
unfolding digits
digits_are zero n = no_digit
digits_are (suc k) n = digits-++ (digits_are k (n / 10)) (digit (omega arith) (omega arith) no_digit)

-- the last k digits of n, and what stands before them
digits-say : (k n : ℕ) → n / 10 ^ k * 10 ^ k + saying (digits k n) ≡ n
unfolding digits saying
digits-say zero n = omega (arith, pow-zero 10, place_none n, mul-one (n / 10 ^ 0), ap (λ (p : ℕ). n / 10 ^ 0 * p) (pow-zero 10))
digits-say (suc k) n =
    let rest = digits-say k (n / 10) in
    let last = saying-++ (digits k (n / 10)) ((48 + n % 10) ∷ []) in
    let high : n / 10 ^ suc k * 10 ^ suc k ≡ n / 10 / 10 ^ k * 10 ^ k * 10 =
    ap₂ (λ (q p : ℕ). q * p) (place-more n k) (pow-suc 10 k) ∙ sym (mul_assoc (n / 10 / 10 ^ k) (10 ^ k) 10)
    in
    omega arith

natural-says : (n : ℕ) → saying (natural n) ≡ n
unfolding natural
natural-says n = omega (arith, digits-say (width n) n, ap (λ (q : ℕ). q * 10 ^ width n) (width-all n))

behind-first : {b : ℕ} {s : List ℕ} → Digits (b ∷ s) → Digits s
behind-first (digit low high ds) = ds

natural-right : (n : ℕ) → WholeDigits (natural n)
unfolding natural saying
natural-right n =
    record {
      only-digits = digits_are (width n) n;
      some = omega (arith, length_digits (width n) n, width_some n);
      no-needless-zero = go;
    }
  where
    go : (rest : List ℕ) → digits (width n) n ≡ 48 ∷ rest → rest ≡ []
    go [] e = refl
    go (d ∷ rest) e =
        let long = ap length e ∙ refl in
        let says : n ≡ saying (d ∷ rest) = omega (arith, natural-says n, ap saying e) in
        let few = saying-below (behind-first (subst Digits e (digits_are (width n) n))) in
        let small = width_few (length rest) n (omega arith) in
        absurd (omega (arith, length_digits (width n) n))

-- ---- signs

minus_is : (z : ℤ) → MinusIs z (minus z)
minus_is (pos n) = let h : 0 ≤ n = omega arith in from-0 (record { le = le→leb 0 n h }) refl
minus_is (negsuc n) = below-0 (record { lt = tt }) refl

is-minus : (z : ℤ) {text : List ℕ} → MinusIs z text → text ≡ minus z
is-minus (pos n) (from-0 h e) = e
is-minus (pos n) (below-0 h e) = absurd (omega (arith, ltb→lt n 0 h.lt))
is-minus (negsuc n) (from-0 h e) = absurd h.le
is-minus (negsuc n) (below-0 h e) = e

-- ---- whole numbers

whole-written : (z : ℤ) → WholeIs z (signed z)
unfolding signed
whole-written z =
    record {
      sign = minus z;
      digits = natural (nat_abs z);
      whole = refl;
      signed = minus_is z;
      right = natural-right (nat_abs z);
      says = natural-says (nat_abs z);
    }

whole-one : (z : ℤ) {text : List ℕ} → WholeIs z text → signed z ≡ text
unfolding signed
whole-one z w =
    sym
    (w.whole
    ∙ ap₂ (λ (a b : List ℕ). a ++ b) (is-minus z w.signed) (same_whole w.right (natural-right (nat_abs z)) (w.says ∙ sym (natural-says (nat_abs z)))))

pub whole-exactly : WholeExactly
whole-exactly z text = (λ e. subst (WholeIs z) e (whole-written z), whole-one z)

signed-natural : (n : ℕ) → signed (pos n) ≡ natural n
unfolding signed
signed-natural n = refl

pub natural-exactly : NaturalExactly
natural-exactly n text = (λ e. (whole-exactly (pos n) text).0 (signed-natural n ∙ e), λ w. sym (signed-natural n) ∙ whole-one (pos n) w)

-- ---- decimals

-- the digits on both sides of the point
both_say : (k n : ℕ) → saying (natural (n / 10 ^ k) ++ digits k n) ≡ n
both_say k n =
    let q = n / 10 ^ k in
    let split = saying-++ (natural q) (digits k n) in
    let power : 10 ^ length (digits k n) ≡ 10 ^ k = ap (λ (m : ℕ). 10 ^ m) (length_digits k n) in
    let high : saying (natural q) * 10 ^ length (digits k n) ≡ q * 10 ^ k = ap₂ (λ (a b : ℕ). a * b) (natural-says q) power in
    omega (arith, digits-say k n)

decimal-written : (k : ℕ) (z : ℤ) → DecimalIs (suc k) z (decimal (suc k) z)
unfolding decimal unsigned fraction
decimal-written k z =
    let n = nat_abs z in
    record {
      sign = minus z;
      before = natural (n / 10 ^ suc k);
      behind = digits (suc k) n;
      whole = refl;
      signed = minus_is z;
      right = natural-right (n / 10 ^ suc k);
      only-digits = digits_are (suc k) n;
      as_many = length_digits (suc k) n;
      says = both_say (suc k) n;
    }

-- the two numbers on both sides of the point are told by the whole
record Sides (before behind before' behind' : List ℕ) : Type 0 where
  pub whole : before ≡ before'
  pub places : behind ≡ behind'

sides :
    {before behind before' behind' : List ℕ} → WholeDigits before → Digits behind → WholeDigits before' → Digits behind' → length behind ≡ length behind'
    → saying (before ++ behind) ≡ saying (before' ++ behind') → Sides before behind before' behind'
sides {before} {behind} {before'} {behind'} v ds w es l e =
    let p = 10 ^ length behind in
    let power : 10 ^ length behind' ≡ p = ap (λ (m : ℕ). 10 ^ m) (sym l) in
    let split = saying-++ before behind in
    let split' : saying (before' ++ behind') ≡ saying before' * p + saying behind' = rw power at (saying-++ before' behind') in
    let less = saying-below ds in
    let less' : saying behind' < p = rw power at (saying-below es) in
    let high = same-high (saying before) (saying before') p (saying behind) (saying behind') less less' (omega arith) in
    record {
      whole = same_whole v w high;
      places = same_digits ds es l (omega (arith, ap (λ (m : ℕ). m * p) high));
    }

decimal-one : (k : ℕ) (z : ℤ) {text : List ℕ} → DecimalIs (suc k) z text → decimal (suc k) z ≡ text
decimal-one k z {text} d =
    let m = decimal-written k z in
    let s = sides d.right d.only-digits m.right m.only-digits (d.as_many ∙ sym m.as_many) (d.says ∙ sym m.says) in
    let sign = is-minus z d.signed ∙ sym (is-minus z m.signed) in
    m.whole ∙ sym (d.whole ∙ (λ i. sign i ++ (s.whole i ++ (46 ∷ s.places i))))

placeless : (z : ℤ) → decimal 0 z ≡ signed z
unfolding decimal unsigned fraction signed
placeless z = ap (λ (l : List ℕ). minus z ++ l) (append-nil (natural (nat_abs z / 10 ^ 0)) ∙ ap natural (place_none (nat_abs z)))

pub decimal-exactly : DecimalExactly
decimal-exactly zero z text =
    (λ e. no_place refl ((whole-exactly z text).0 (sym (placeless z) ∙ e)), go)
  where
    go : NumberIs 0 z text → decimal 0 z ≡ text
    go (no_place e w) = placeless z ∙ whole-one z w
    go (some-place h d) = absurd (omega arith)
decimal-exactly (suc k) z text =
    (λ e. some-place (omega arith) (subst (DecimalIs (suc k) z) e (decimal-written k z)), go)
  where
    go : NumberIs (suc k) z text → decimal (suc k) z ≡ text
    go (no_place e w) = absurd (omega arith)
    go (some-place h d) = decimal-one k z d
