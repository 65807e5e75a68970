-- What reads a field from left to right finds the parts of the grammar, and of a text put together by the grammar it finds those parts again. Assumes nothing.
use Rattle.std.specs.Prelude.{Option, Some, None}
use mathlib.Core.Path.{◌≡◌, refl, sym, ap, ap₂, subst, ◌∙◌}
use mathlib.Core.Bool.{Bool, true, false, cond, ◌&&◌, ◌||◌}
use mathlib.Core.List.{List, [], ◌∷◌, ◌++◌, append-nil}
use mathlib.Core.Logic.{◌⊎◌, inl, inr, ⊎_elim}
use Prim.Native.Nat.{ℕ, ◌+◌, ◌*◌, ◌-◌, ◌^◌, ◌≤◌}
use native.Mathlib.Nat.{pow-suc, add-mul, mul-one, mul_comm, mul_assoc}
use native.Mathlib.Omega.{arith}
use lib.Dec.{leb, eqb}
use lib.ListN.{length}
use borrow.Author.Tests.{leb-true, eqb-true, le-leb, ne_eqb}
use Rattle.row.proofs.Deciding.{both, by-test}
use Rattle.field.specs.declared.decimal.Decimal.{Decimal}
use Rattle.field.specs.Form.{is_digit, is_point, is_sign, is_exponent, without, starts_minus, leading, after, all_digits, numeral}
use Rattle.field.specs.Form.{before_point, decimals, exponent, exponent_of, number_with, field_of}
use Rattle.field.proofs.Runs.{digit-ge, digit-le, leading-after}
use Rattle.promises_fields.specs.Fields.{SignIs, Digits, saying, PointIs, PowerIs, ExponentIs, FieldIs, FieldExactly, FieldWrong}
use Rattle.promises_fields.specs.Fields.SignIs.{unsigned, plus, minus}
use Rattle.promises_fields.specs.Fields.Digits.{no_digit, digit}
use Rattle.promises_fields.specs.Fields.PointIs.{no-point, point}
use Rattle.promises_fields.specs.Fields.ExponentIs.{no-exponent, upwards, downwards}

-- ---- the number that digits say

numeral-saying : (v : ℕ) (s : List ℕ) → numeral v s ≡ v * 10 ^ length s + saying s
unfolding numeral saying
numeral-saying v [] = omega (arith, mul-one v)
numeral-saying v (b ∷ s) =
    let below = numeral-saying (10 * v + (b - 48)) s in
    let power = pow-suc 10 (length s) in
    let parts = add-mul (10 * v) (b - 48) (10 ^ length s) in
    let tens : v * (10 ^ length s * 10) ≡ 10 * v * 10 ^ length s =
    mul_comm v (10 ^ length s * 10) ∙ mul_assoc (10 ^ length s) 10 v ∙ mul_comm (10 ^ length s) (10 * v)
    in
    let raised = ap (λ (n : ℕ). v * n) power in
    omega arith

saying-is : (s : List ℕ) → numeral 0 s ≡ saying s
saying-is s = numeral-saying 0 s ∙ omega arith

-- ---- digits

leading-digits : (s : List ℕ) → Digits (leading s)
unfolding leading
leading-digits [] = no_digit
leading-digits (b ∷ s) =
    let below = leading-digits s in
    by-test Digits (is_digit b) (b ∷ leading s) [] (λ e. digit (digit-ge b e) (digit-le b e) below) (λ _. no_digit)

all_are : (s : List ℕ) → all_digits s ≡ true → Digits s
unfolding all_digits
all_are [] e = no_digit
all_are (b ∷ s) e = let f = both (is_digit b) (all_digits s) e in digit (digit-ge b f.0) (digit-le b f.0) (all_are s f.1)

is_digit_lem : (b : ℕ) → 48 ≤ b → b ≤ 57 → is_digit b ≡ true
is_digit_lem b low high = rw (le-leb 48 b low) (le-leb b 57 high)

are_all : {s : List ℕ} → Digits s → all_digits s ≡ true
unfolding all_digits
are_all no_digit = refl
are_all (digit {b = b} low high ds) = rw (is_digit_lem b low high) (are_all ds)

-- a text that starts with no digit
record Undigited (s : List ℕ) : Type 0 where
  pub none : leading s ≡ []
  pub all : after s ≡ s

-- digits before such a text are those that are found
record Found (ds rest : List ℕ) : Type 0 where
  pub digits : leading (ds ++ rest) ≡ ds
  pub then : after (ds ++ rest) ≡ rest

found : {ds : List ℕ} (rest : List ℕ) → Digits ds → Undigited rest → Found ds rest
unfolding leading after
found rest no_digit u = record { digits = u.none; then = u.all }
found rest (digit {b = b} {s = s} low high ds) u =
    let f = found rest ds u in
    let yes = is_digit_lem b low high in
    record {
      digits = rw yes (ap (λ (l : List ℕ). b ∷ l) f.digits);
      then = rw yes f.then;
    }

-- behind the digits that are found stands none
undigited-after : (s : List ℕ) → leading (after s) ≡ []
unfolding leading after
undigited-after [] = refl
undigited-after (b ∷ s) =
    let below = undigited-after s in
    go (is_digit b) refl below
  where
    go : (t : Bool) → is_digit b ≡ t → leading (after s) ≡ [] → leading (cond t (after s) (b ∷ s)) ≡ []
    go true e f = f
    go false e f = rw e

-- ---- signs

-- a text that starts with no sign
record Plain (s : List ℕ) : Type 0 where
  pub all : without is_sign s ≡ s
  pub positive : starts_minus s ≡ false

plain : (b : ℕ) (s : List ℕ) → (b ≡ 43 → ⊥) → (b ≡ 45 → ⊥) → Plain (b ∷ s)
unfolding without starts_minus
plain b s p m =
    let no_minus = ne_eqb b 45 m in
    record { all = rw (ne_eqb b 43 p, no_minus); positive = no_minus }

-- a sign before such a text is the one that is found
record Signed (sign rest : List ℕ) (negative : Bool) : Type 0 where
  pub then : without is_sign (sign ++ rest) ≡ rest
  pub negative-is : starts_minus (sign ++ rest) ≡ negative

sign-found : {sign : List ℕ} {negative : Bool} (rest : List ℕ) → SignIs sign negative → Plain rest → Signed sign rest negative
unfolding without starts_minus
sign-found rest unsigned p = record { then = p.all; negative-is = p.positive }
sign-found rest plus p = record { then = refl; negative-is = refl }
sign-found rest minus p = record { then = refl; negative-is = refl }

digits-plain : {ds : List ℕ} (rest : List ℕ) → Digits ds → 1 ≤ length ds → Plain (ds ++ rest)
digits-plain rest no_digit h = absurd (omega arith)
digits-plain rest (digit {b = b} {s = s} low high ds) h = plain b (s ++ rest) (λ e. omega arith) (λ e. omega arith)

-- the sign that a text starts with
record SignOf (s : List ℕ) : Type 0 where
  pub sign : List ℕ
  pub whole : s ≡ sign ++ without is_sign s
  pub is : SignIs sign (starts_minus s)

sign_of : (s : List ℕ) → SignOf s
unfolding without starts_minus
sign_of [] = record { sign = []; whole = refl; is = unsigned }
sign_of (b ∷ s) = go (eqb b 43) (eqb b 45) refl refl
  where
    go : (p m : Bool) → eqb b 43 ≡ p → eqb b 45 ≡ m → SignOf (b ∷ s)
    go true m e f =
        let at = eqb-true b 43 e in
        subst (λ (c : ℕ). SignOf (c ∷ s)) (sym at) (record { sign = 43 ∷ []; whole = refl; is = plus })
    go false true e f =
        let at = eqb-true b 45 f in
        subst (λ (c : ℕ). SignOf (c ∷ s)) (sym at) (record { sign = 45 ∷ []; whole = refl; is = minus })
    go false false e f =
        record { sign = []; whole = rw (e, f); is = subst (SignIs []) (sym f) unsigned }

-- ---- exponents

-- an exponent is nothing, or starts with a letter
lettered : {text : List ℕ} (P : List ℕ → Type 0) → P [] → ((s : List ℕ) → P (69 ∷ s)) → ((s : List ℕ) → P (101 ∷ s)) → {up down : ℕ}
    → ExponentIs text up down
    → P text
lettered {text} P none upper lower e = go e
  where
    powered : {negative : Bool} {power : ℕ} → PowerIs text negative power → P text
    powered p =
        subst P (sym p.whole)
        (⊎_elim
        (λ l. subst (λ (b : ℕ). P (b ∷ (p.sign ++ p.digits))) (sym l) (upper (p.sign ++ p.digits)))
        (λ l. subst (λ (b : ℕ). P (b ∷ (p.sign ++ p.digits))) (sym l) (lower (p.sign ++ p.digits)))
        p.lettered)

    go : {up down : ℕ} → ExponentIs text up down → P text
    go (no-exponent t u d) = subst P (sym t) none
    go (upwards p d) = powered p
    go (downwards u p) = powered p

-- what a text says as far as its exponent: a decimal with these digits, so many of them behind the point, and the exponent's tens
abbrev numbered : List ℕ → ℕ → ℕ → Option Decimal
numbered s up down =
    Some record {
      negative = starts_minus s;
      digits = numeral 0 (before_point s ++ decimals s);
      up = up;
      down = length (decimals s) + down;
    }

module _ (s : List ℕ) where
  power-found :
      {text : List ℕ} {negative : Bool} {power : ℕ} → PowerIs text negative power
      → number_with s (exponent_of text) ≡ numbered s (cond negative 0 power) (cond negative power 0)
  unfolding number_with exponent_of
  power-found {negative = negative} {power = power} p =
      let ds = p.digits in
      let f = sign-found ds p.signed (rw append-nil at (digits-plain [] p.only-digits p.some)) in
      let letter : is_exponent p.letter ≡ true = ⊎_elim (λ e. rw e) (λ e. rw e) p.lettered in
      let says : numeral 0 ds ≡ power = saying-is ds ∙ sym p.says in
      simp (p.whole, letter, f.then, f.negative-is, are_all p.only-digits, le-leb 1 (length ds) p.some, le-leb (length ds) 2 p.few, says)

  exponent-found : {text : List ℕ} {up down : ℕ} → ExponentIs text up down → number_with s (exponent_of text) ≡ numbered s up down
  unfolding number_with exponent_of
  exponent-found (no-exponent t u d) = simp (t, u, d)
  exponent-found (upwards p d) = rw d (power-found p)
  exponent-found (downwards u p) = rw u (power-found p)

-- and what it reads as an exponent is one by the grammar
power-of :
    (b : ℕ) (t : List ℕ)
    → (is_exponent b && (all_digits (without is_sign t) && (leb 1 (length (without is_sign t)) && leb (length (without is_sign t)) 2))) ≡ true
    → PowerIs (b ∷ t) (starts_minus t) (numeral 0 (without is_sign t))
power-of b t h =
    let ds = without is_sign t in
    let f = both (is_exponent b) (all_digits ds && (leb 1 (length ds) && leb (length ds) 2)) h in
    let g = both (all_digits ds) (leb 1 (length ds) && leb (length ds) 2) f.1 in
    let k = both (leb 1 (length ds)) (leb (length ds) 2) g.1 in
    let signed = sign_of t in
    record {
      letter = b;
      sign = signed.sign;
      digits = ds;
      whole = ap (λ (l : List ℕ). b ∷ l) signed.whole;
      lettered = go (eqb b 69) refl f.0;
      signed = signed.is;
      only-digits = all_are ds g.0;
      some = leb-true 1 (length ds) k.0;
      few = leb-true (length ds) 2 k.1;
      says = saying-is ds;
    }
  where
    go : (u : Bool) → eqb b 69 ≡ u → (u || eqb b 101) ≡ true → (b ≡ 69) ⊎ (b ≡ 101)
    go true e h = inl (eqb-true b 69 e)
    go false e h = inr (eqb-true b 101 h)

exponent-by : {text : List ℕ} {negative : Bool} {power : ℕ} → PowerIs text negative power → ExponentIs text (cond negative 0 power) (cond negative power 0)
exponent-by {negative = true} p = downwards refl p
exponent-by {negative = false} p = upwards p refl

module _ (s : List ℕ) (d : Decimal) where
  record Powered (text : List ℕ) : Type 0 where
    pub down : ℕ
    pub negative : d.negative ≡ starts_minus s
    pub digits : d.digits ≡ numeral 0 (before_point s ++ decimals s)
    pub powered : ExponentIs text d.up down
    pub tens-down : d.down ≡ length (decimals s) + down

  powered-of : (text : List ℕ) (up down : ℕ) → numbered s up down ≡ Some d → ExponentIs text up down → Powered text
  powered-of text up down e x =
      let u : up ≡ d.up = cc in
      record {
        down = down;
        negative = cc;
        digits = cc;
        powered = subst (λ (n : ℕ). ExponentIs text n down) u x;
        tens-down = cc;
      }

  exponent-of : (text : List ℕ) → number_with s (exponent_of text) ≡ Some d → Powered text
  unfolding number_with exponent_of
  exponent-of [] = λ e. powered-of [] 0 0 e (no-exponent refl refl refl)
  exponent-of (b ∷ t) =
      let power = without is_sign t in
      by-test (λ x. number_with s x ≡ Some d → Powered (b ∷ t))
      (is_exponent b && (all_digits power && (leb 1 (length power) && leb (length power) 2))) _ _
      (λ h e. powered-of (b ∷ t) _ _ e (exponent-by (power-of b t h)))
      (λ _ e. let z : ◌≡◌ {A = ℕ} 0 1 = cc in absurd (omega arith))

-- ---- the point

-- the point that a text starts with, which starts with no digit; q is what is left
record PointOf (p q : List ℕ) : Type 0 where
  pub point : List ℕ
  pub whole : p ≡ point ++ (leading q ++ after q)
  pub is : PointIs point (leading q)

point-of : (p : List ℕ) → leading p ≡ [] → PointOf p (without is_point p)
unfolding without
point-of [] none = record { point = []; whole = sym (leading-after []); is = subst (PointIs []) (sym none) no-point }
point-of (b ∷ s) none =
    by-test (PointOf (b ∷ s)) (is_point b) s (b ∷ s)
    (λ e. record { point = 46 ∷ []; whole = ap₂ (λ (c : ℕ) (l : List ℕ). c ∷ l) (eqb-true b 46 e) (sym (leading-after s)); is = point })
    (λ _. record { point = []; whole = sym (leading-after (b ∷ s)); is = subst (PointIs []) (sym none) no-point })

module _ {x : List ℕ} {up down : ℕ} (e : ExponentIs x up down) where
  exponent-undigited : Undigited x
  unfolding leading after
  exponent-undigited =
      lettered Undigited (record { none = refl; all = refl }) (λ s. record { none = refl; all = refl }) (λ s. record { none = refl; all = refl }) e

  no-other-point : without is_point x ≡ x
  unfolding without
  no-other-point = lettered (λ l. without is_point l ≡ l) refl (λ s. refl) (λ s. refl) e

  point-found : {dot behind : List ℕ} → PointIs dot behind → without is_point (dot ++ (behind ++ x)) ≡ behind ++ x
  unfolding without
  point-found no-point = no-other-point
  point-found point = refl

  point-undigited : {dot behind : List ℕ} → PointIs dot behind → Undigited (dot ++ (behind ++ x))
  unfolding leading after
  point-undigited no-point = exponent-undigited
  point-undigited point = record { none = refl; all = refl }

  -- a digit or the point stands first
  parts-plain :
      {before dot behind : List ℕ} → Digits before → PointIs dot behind → 1 ≤ length (before ++ behind) → Plain (before ++ (dot ++ (behind ++ x)))
  parts-plain no_digit no-point h = absurd (omega arith)
  parts-plain {behind = behind} no_digit point h = plain 46 (behind ++ x) (λ z. omega arith) (λ z. omega arith)
  parts-plain {dot = dot} {behind = behind} (digit {b = b} {s = s} low high ds) p h =
      plain b (s ++ (dot ++ (behind ++ x))) (λ z. omega arith) (λ z. omega arith)

-- ---- the field

-- the parts that are found
record Parts (s : List ℕ) (negative : Bool) (before behind x : List ℕ) : Type 0 where
  pub negative-is : starts_minus s ≡ negative
  pub before-is : before_point s ≡ before
  pub behind-is : decimals s ≡ behind
  pub exponent-is : exponent s ≡ x

module _ (text : List ℕ) (d : Decimal) where
  parts : (f : FieldIs text d) → Parts text d.negative f.before f.behind f.exponent
  unfolding before_point decimals exponent
  parts f =
      let x = f.exponent in
      let tail = f.point ++ (f.behind ++ x) in
      let rest = f.before ++ tail in
      let signed = sign-found rest f.signed (parts-plain f.powered f.digits-before f.pointed f.some) in
      let first = found tail f.digits-before (point-undigited f.powered f.pointed) in
      let dotted = point-found f.powered f.pointed in
      let second = found x f.digits-behind (exponent-undigited f.powered) in
      let start : without is_sign text ≡ rest = ap (without is_sign) f.whole ∙ signed.then in
      let middle : without is_point (after (without is_sign text)) ≡ f.behind ++ x =
      ap (λ (l : List ℕ). without is_point (after l)) start ∙ ap (without is_point) first.then ∙ dotted
      in
      record {
        negative-is = ap starts_minus f.whole ∙ signed.negative-is;
        before-is = ap leading start ∙ first.digits;
        behind-is = ap leading middle ∙ second.digits;
        exponent-is = ap after middle ∙ second.then;
      }

  is_field : FieldIs text d → field_of text ≡ Some d
  unfolding field_of
  is_field f =
      let p = parts f in
      let all : before_point text ++ decimals text ≡ f.before ++ f.behind = ap₂ (λ (a b : List ℕ). a ++ b) p.before-is p.behind-is in
      let digits : numeral 0 (before_point text ++ decimals text) ≡ d.digits = ap (numeral 0) all ∙ saying-is (f.before ++ f.behind) ∙ sym f.says in
      let down : length (decimals text) + f.down ≡ d.down = ap (λ (l : List ℕ). length l + f.down) p.behind-is ∙ sym f.tens-down in
      rw (
        all,
        le-leb 1 (length (f.before ++ f.behind)) f.some,
        le-leb (length (f.before ++ f.behind)) 15 f.few,
        p.exponent-is,
      )
      (exponent-found text f.powered ∙ (λ i. Some record { negative = p.negative-is i; digits = digits i; up = d.up; down = down i }))

  field_is : field_of text ≡ Some d → FieldIs text d
  unfolding field_of before_point decimals exponent
  field_is =
      let w = without is_sign text in
      let q = without is_point (after w) in
      let count = length (leading w ++ leading q) in
      by-test (λ (f : Option Decimal). f ≡ Some d → FieldIs text d) (leb 1 count && leb count 15) _ _
      (λ h e.
      let few = both (leb 1 count) (leb count 15) h in
      let signed = sign_of text in
      let dotted = point-of (after w) (undigited-after w) in
      let powered = exponent-of text d (after q) e in
      record {
        sign = signed.sign;
        before = leading w;
        point = dotted.point;
        behind = leading q;
        exponent = after q;
        down = powered.down;
        whole =
            signed.whole
            ∙ ap (λ (l : List ℕ). signed.sign ++ l) (sym (leading-after w) ∙ ap (λ (l : List ℕ). leading w ++ l) dotted.whole);
        signed = subst (SignIs signed.sign) (sym powered.negative) signed.is;
        digits-before = leading-digits w;
        digits-behind = leading-digits q;
        pointed = dotted.is;
        some = leb-true 1 count few.0;
        few = leb-true count 15 few.1;
        says = powered.digits ∙ saying-is (leading w ++ leading q);
        powered = powered.powered;
        tens-down = powered.tens-down;
      })
      (λ _ e. let z : ◌≡◌ {A = ℕ} 0 1 = cc in absurd (omega arith))

pub field-exactly : FieldExactly
field-exactly text d = (field_is text d, is_field text d)

pub field-wrong : FieldWrong
field-wrong text =
    (λ e d f. let z : ◌≡◌ {A = ℕ} 0 1 = cc ((field-exactly text d).1 f) in omega arith, go (field_of text) refl)
  where
    go : (f : Option Decimal) → field_of text ≡ f → ((d : Decimal) → FieldIs text d → ⊥) → field_of text ≡ None
    go (Some d) e n = absurd (n d ((field-exactly text d).0 e))
    go None e n = e
