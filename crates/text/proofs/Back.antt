-- A written number is read back, with any number of places; and what bytes it is written with.
-- Assumes nothing.
use mathlib.Core.Path.{◌≡◌, refl, sym, ap, ◌∙◌}
use mathlib.Core.Bool.{true}
use mathlib.Core.List.{List, [], ◌∷◌, ◌++◌, append-nil}
use mathlib.Core.Option.{some, map}
use Prim.Native.Nat.{ℕ, zero, suc, ◌+◌, ◌%◌, ◌/◌, ◌^◌, ◌≤◌, ◌<◌}
use native.Mathlib.Omega.{arith}
use lib.Dec.{lit<}
use lib.IntN.{ℤ, pos, negsuc, neg_ℤ}
use lib.ListN.{length, length-append}
use borrow.Author.Tests.{le-leb, eq-eqb, ne_eqb}
use Rattle.field.specs.Form.{is_digit, all_digits, numeral}
use Rattle.field.proofs.Runs.{digit-ge, numeral-++}
use Rattle.text.specs.Decimal.{digits, width, natural, fraction, unsigned, decimal}
use Rattle.text.specs.Parts.{parts}
use Rattle.text.specs.Reading.{read_natural, read_size, read_decimal}
use Rattle.text.proofs.Widths.{length_digits, place-more, place_none, width_some, width-all}
use Rattle.text.proofs.Apart.{Each, Free, Word, each-++, free-++, parts-one, parts_more}

-- ---- digits

abbrev Digits : List ℕ → Type 0
Digits = Each (λ b. is_digit b ≡ true)

last-digit : (n : ℕ) → is_digit (48 + n % 10) ≡ true
last-digit n =
    let low : 48 ≤ 48 + n % 10 = omega arith in
    let high : 48 + n % 10 ≤ 57 = omega arith in
    simp (le-leb _ _ low, le-leb _ _ high)

digits_are : (k n : ℕ) → Digits (digits k n)
unfolding digits
digits_are zero n = tt
digits_are (suc k) n = each-++ (λ b. is_digit b ≡ true) (digits k (n / 10)) ((48 + n % 10) ∷ []) (digits_are k (n / 10)) (last-digit n, tt)

all_are : (w : List ℕ) → Digits w → all_digits w ≡ true
unfolding all_digits
all_are [] h = refl
all_are (b ∷ w) h = rw (h.0, all_are w h.1)

-- nothing that stands before the digits in ASCII is one of them
digits-free : (separator : ℕ) → separator < 48 → (w : List ℕ) → Digits w → Free separator w
digits-free separator s [] h = tt
digits-free separator s (b ∷ w) h = (ne_eqb b separator (λ e. omega (arith, digit-ge b h.0)), digits-free separator s w h.1)

-- the last digits of n, read behind all those before them
digits-say : (k n : ℕ) → numeral (n / 10 ^ k) (digits k n) ≡ n
unfolding digits numeral
digits-say zero n = place_none n
digits-say (suc k) n =
    let others : numeral (n / 10 ^ suc k) (digits k (n / 10)) ≡ n / 10 =
    ap (λ v. numeral v (digits k (n / 10))) (place-more n k) ∙ digits-say k (n / 10)
    in
    numeral-++ (n / 10 ^ suc k) (digits k (n / 10)) ((48 + n % 10) ∷ [])
    ∙ ap (λ v. numeral v ((48 + n % 10) ∷ [])) others
    ∙ omega arith

-- ---- whole numbers

natural-are : (n : ℕ) → Digits (natural n)
unfolding natural
natural-are n = digits_are (width n) n

natural-some : (n : ℕ) → 0 < length (natural n)
unfolding natural
natural-some n = omega (arith, length_digits (width n) n, width_some n)

natural-says : (n : ℕ) → numeral 0 (natural n) ≡ n
unfolding natural
natural-says n = ap (λ v. numeral v (digits (width n) n)) (sym (width-all n)) ∙ digits-say (width n) n

reads : (w : List ℕ) {n : ℕ} → 0 < length w → Digits w → numeral 0 w ≡ n → read_natural w ≡ some n
unfolding read_natural
reads w some-digit h e = rw (le-leb 1 (length w) some-digit, all_are w h) (ap some e)

pub natural-back : (n : ℕ) → read_natural (natural n) ≡ some n
natural-back n = reads (natural n) (natural-some n) (natural-are n) (natural-says n)

-- ---- decimals with no sign

module _ (p n : ℕ) where
  abbrev whole : List ℕ
  whole = natural (n / 10 ^ p)

  -- the digits before the point and behind it
  all_back : read_natural (whole ++ digits p n) ≡ some n
  all_back =
      let some-digit : 0 < length (whole ++ digits p n) = omega (arith, length-append whole (digits p n), natural-some (n / 10 ^ p)) in
      reads (whole ++ digits p n) some-digit (each-++ (λ b. is_digit b ≡ true) whole (digits p n) (natural-are (n / 10 ^ p)) (digits_are p n))
      (numeral-++ 0 whole (digits p n) ∙ ap (λ v. numeral v (digits p n)) (natural-says (n / 10 ^ p)) ∙ digits-say p n)

  whole-free : (separator : ℕ) → separator < 48 → Free separator whole
  whole-free separator s = digits-free separator s whole (natural-are (n / 10 ^ p))

unsigned-some : (p n : ℕ) → 0 < length (unsigned p n)
unfolding unsigned
unsigned-some p n = omega (arith, length-append (whole p n) (fraction p n), natural-some (n / 10 ^ p))

fraction-free : (separator p n : ℕ) → separator < 46 → Free separator (fraction p n)
unfolding fraction
fraction-free separator zero n s = tt
fraction-free separator (suc p) n s =
    (ne_eqb 46 separator (λ e. omega arith), digits-free separator (omega arith) (digits (suc p) n) (digits_are (suc p) n))

unsigned-free : (separator p n : ℕ) → separator < 46 → Free separator (unsigned p n)
unfolding unsigned
unsigned-free separator p n s =
    free-++ separator (whole p n) (fraction p n) (whole-free p n separator (omega arith)) (fraction-free separator p n s)

unsigned_back : (p n : ℕ) → read_size p (parts 46 (unsigned p n)) ≡ some n
unfolding unsigned fraction read_size digits
unsigned_back zero n =
    ap (λ w. read_size 0 (parts 46 w)) (append-nil (whole 0 n))
    ∙ ap (read_size 0) (parts-one 46 (whole 0 n) (whole-free 0 n 46 (lit< tt)))
    ∙ ap read_natural (sym (append-nil (whole 0 n)))
    ∙ all_back 0 n
unsigned_back (suc p) n =
    let decimals = digits (suc p) n in
    ap (read_size (suc p))
    (parts_more 46 (whole (suc p) n) decimals (whole-free (suc p) n 46 (lit< tt))
    ∙ ap (λ ps. whole (suc p) n ∷ ps) (parts-one 46 decimals (digits-free 46 (lit< tt) decimals (digits_are (suc p) n))))
    ∙ rw (le-leb _ _ (natural-some (n / 10 ^ suc p)), le-leb 1 (suc p) (omega arith), eq-eqb _ _ (length_digits (suc p) n)) (all_back (suc p) n)

-- ---- decimals

pub decimal-free : (separator p : ℕ) (z : ℤ) → separator < 45 → Free separator (decimal p z)
unfolding decimal
decimal-free separator p (pos n) s = unsigned-free separator p n (omega arith)
decimal-free separator p (negsuc n) s = (ne_eqb 45 separator (λ e. omega arith), unsigned-free separator p (suc n) (omega arith))

decimal-some : (p : ℕ) (z : ℤ) → 0 < length (decimal p z)
unfolding decimal
decimal-some p (pos n) = unsigned-some p n
decimal-some p (negsuc n) = omega arith

pub decimal-word : (p : ℕ) (z : ℤ) → Word (decimal p z)
decimal-word p z =
    record {
      some_byte = decimal-some p z;
      no-space = decimal-free 32 p z (lit< tt);
      no-feed = decimal-free 10 p z (lit< tt);
    }

-- a number that starts with no minus
plain : (p : ℕ) (w : List ℕ) → 0 < length w → Free 45 w → read_decimal p w ≡ map pos (read_size p (parts 46 w))
unfolding read_decimal
plain p [] h k = absurd (omega arith)
plain p (b ∷ w) h k = rw k.0

pub decimal-back : (p : ℕ) (z : ℤ) → read_decimal p (decimal p z) ≡ some z
unfolding decimal read_decimal
decimal-back p (pos n) =
    plain p (unsigned p n) (unsigned-some p n) (unsigned-free 45 p n (lit< tt)) ∙ ap (map pos) (unsigned_back p n)
decimal-back p (negsuc n) = ap (map (λ m. neg_ℤ (pos m))) (unsigned_back p (suc n))

-- a whole number has no places
pub decimal-natural : (n : ℕ) → decimal 0 (pos n) ≡ natural n
unfolding decimal unsigned fraction
decimal-natural n = append-nil (natural (n / 10 ^ 0)) ∙ ap natural (place_none n)
