-- The parts of a field as the code finds them: digits after an optional byte, an exponent, and a whole field.
-- Assumes nothing.
use mathlib.Core.Path.{◌≡◌, refl, sym, ap, subst, ◌∙◌}
use mathlib.Core.Bool.{Bool, true, false, cond, ◌&&◌}
use mathlib.Core.List.{List, [], ◌∷◌, ◌++◌}
use Prim.Native.Nat.{ℕ, ◌+◌, ◌^◌, ◌≤◌, ◌<◌}
use native.Mathlib.Omega.{arith}
use lib.Dec.{T, lit<, leb, eqb→eq, leb→le}
use lib.ListN.{length, length-append}
use mir.Facts.{and_yes}
use borrow.Author.Tests.{eq-eqb, ne_eqb, le-leb, lt-leb}
use Rattle.std.specs.Prelude.{Some, None}
use Rattle.field.specs.declared.form.Exponent.{Exponent}
use Rattle.field.specs.Form.{is_sign, is_point, is_exponent, without, starts_minus, leading, after, all_digits, numeral}
use Rattle.field.specs.Form.{before_point, decimals, exponent, exponent_of, number_with, field_of}
use Rattle.field.proofs.Runs.{leading-after, length-without, all_digits_lem, leading-all, numeral-++, numeral-le, numeral-below}

-- ---- digits

-- what `digits` says of the digits that p starts with, after digits that say v: the number, how many they are, and what stands behind them
pub record Taken (p : List ℕ) (v n c : ℕ) (r : List ℕ) : Type 0 where
  pub count : c ≡ length (leading p)
  pub rest : r ≡ after p
  pub number : numeral v (leading p) < 10 ^ 15 → n ≡ numeral v (leading p)

pub taken :
    {q p : List ℕ} {v n c : ℕ} {r : List ℕ}
    → q ≡ p
    → c ≡ length (leading q)
    → r ≡ after q
    → (numeral v (leading q) < 10 ^ 15 → n ≡ numeral v (leading q))
    → Taken p v n c r
taken {v = v} {n = n} {c = c} {r = r} e count rest number =
    subst (λ (p : List ℕ). Taken p v n c r) e record { count = count; rest = rest; number = number }

pub taken-length : {p : List ℕ} {v n c : ℕ} {r : List ℕ} → Taken p v n c r → length p ≡ c + length r
taken-length {p} k = omega (arith, ap length (leading-after p), length-append (leading p) (after p), k.count, ap length k.rest)

-- the digits before a point and behind it are no more than the bytes of the field
pub counts-fit :
    (s : List ℕ) {n₁ n₂ c₁ c₂ : ℕ} {r₁ r₂ : List ℕ}
    → Taken (without is_sign s) 0 n₁ c₁ r₁
    → Taken (without is_point r₁) n₁ n₂ c₂ r₂
    → c₁ + c₂ ≤ length s
counts-fit s {r₁ = r₁} k₁ k₂ =
    omega (arith, taken-length k₁, taken-length k₂, length-without is_sign s, length-without is_point r₁)

-- ---- an exponent

pub power-lt : (p : List ℕ) → length (leading p) ≡ length p → length p ≤ 2 → numeral 0 p < 100
power-lt p e h = rw (leading-all p e) at (numeral-below 0 0 2 p (lit< tt) (omega arith))

-- the digits after an optional sign that t starts with
module _ (t : List ℕ) (said count : ℕ) (rest : List ℕ) (k : Taken (without is_sign t) 0 said count rest) where
  -- nothing follows them
  module _ (end : length rest ≡ 0) where
    long : length (without is_sign t) ≡ count
    long = omega (arith, taken-length k)

    same : length (leading (without is_sign t)) ≡ length (without is_sign t)
    same = omega (arith, k.count, long)

    digits : all_digits (without is_sign t) ≡ true
    digits = all_digits_lem (without is_sign t) ∙ eq-eqb _ _ same

    module _ (few : count ≤ 2) where
      number : said ≡ numeral 0 (without is_sign t)
      number =
          let p = without is_sign t in
          rw (leading-all p same) at (k.number (numeral-below 0 0 15 p (lit< tt) (omega (arith, k.count))))

      pub power_small : said < 100
      power_small = rw number (power-lt (without is_sign t) same (omega (arith, long)))

  -- an exponent's letter stands before t
  module _ (b : ℕ) (letter : is_exponent b ≡ true) where
    pub more-follows : (length rest ≡ 0 → ⊥) → None ≡ exponent_of (b ∷ t)
    unfolding exponent_of
    more-follows h =
        let p = without is_sign t in
        let no = ne_eqb (length (leading p)) (length p) (λ e. h (omega (arith, taken-length k, k.count))) in
        simp (letter, all_digits_lem p, no)

    module _ (end : length rest ≡ 0) where
      pub no_digit : count ≡ 0 → None ≡ exponent_of (b ∷ t)
      unfolding exponent_of
      no_digit h = simp (letter, digits end, long end, h)

      pub many-digits : 2 < count → None ≡ exponent_of (b ∷ t)
      unfolding exponent_of
      many-digits h =
          simp (letter, digits end, long end, le-leb 1 count (omega arith), lt-leb count 2 h)

      pub power-is :
          (count ≡ 0 → ⊥) → count ≤ 2 → Some record { minus = starts_minus t; power = said } ≡ exponent_of (b ∷ t)
      unfolding exponent_of
      power-is some few =
          simp (
            letter,
            digits end,
            long end,
            le-leb 1 count (omega (arith, some)),
            le-leb count 2 few,
            number end few,
          )

pub no-exponent-is : (s : List ℕ) → length s < 1 → Some record { minus = false; power = 0 } ≡ exponent_of s
unfolding exponent_of
no-exponent-is [] h = refl
no-exponent-is (b ∷ t) h = absurd (omega arith)

pub no-letter : (b : ℕ) (t : List ℕ) → is_exponent b ≡ false → None ≡ exponent_of (b ∷ t)
unfolding exponent_of
no-letter b t h = simp h

-- an exponent is below 100
pub exponent_lt : (s : List ℕ) (x : Exponent) → Some x ≡ exponent_of s → x.power < 100
unfolding exponent_of
exponent_lt [] x e = let z : x ≡ record { minus = false; power = 0 } = cc in omega (arith, ap (λ (y : Exponent). y.power) z)
exponent_lt (b ∷ t) x e = go _ refl e
  where
    p : List ℕ
    p = without is_sign t

    go :
        (y : Bool)
        → (is_exponent b && (all_digits p && (leb 1 (length p) && leb (length p) 2))) ≡ y
        → Some x ≡ cond y (Some record { minus = starts_minus t; power = numeral 0 p }) None
        → x.power < 100
    go true h e =
        let both = and_yes (all_digits p) _ (and_yes (is_exponent b) _ (subst T (sym h) tt)).1 in
        let all = eqb→eq (length (leading p)) (length p) (subst T (all_digits_lem p) both.0) in
        let few = leb→le (length p) 2 (and_yes (leb 1 (length p)) _ both.1).1 in
        let z : x ≡ record { minus = starts_minus t; power = numeral 0 p } = cc in
        omega (arith, power-lt p all few, ap (λ (y : Exponent). y.power) z)
    go false h e = let z : ◌≡◌ {A = ℕ} 0 1 = cc in absurd (omega arith)

-- ---- a field

pub nothing : None ≡ field_of []
unfolding field_of before_point decimals leading after without
nothing = refl

-- the runs of the digits before the point and of those after it, which go on with the first run's number
module _
    (s : List ℕ)
    (n₁ c₁ : ℕ) (r₁ : List ℕ)
    (n₂ c₂ : ℕ) (r₂ : List ℕ)
    (k₁ : Taken (without is_sign s) 0 n₁ c₁ r₁)
    (k₂ : Taken (without is_point r₁) n₁ n₂ c₂ r₂)
  where
    second : Taken (without is_point (after (without is_sign s))) n₁ n₂ c₂ r₂
    second = subst (λ (r : List ℕ). Taken (without is_point r) n₁ n₂ c₂ r₂) k₁.rest k₂

    counted : length (before_point s ++ decimals s) ≡ c₁ + c₂
    unfolding before_point decimals
    counted = simp length-append (omega (arith, k₁.count, second.count))

    pub no-digits : c₁ + c₂ ≡ 0 → None ≡ field_of s
    unfolding field_of
    no-digits h = simp (counted, h)

    pub too_many : 15 < c₁ + c₂ → None ≡ field_of s
    unfolding field_of
    too_many h = simp (counted, le-leb 1 (c₁ + c₂) (omega arith), lt-leb (c₁ + c₂) 15 h)

    module _ (some : c₁ + c₂ ≡ 0 → ⊥) (few : c₁ + c₂ ≤ 15) where
      all_said : n₂ ≡ numeral 0 (before_point s ++ decimals s)
      unfolding before_point decimals
      all_said =
          let w = without is_sign s in
          let p = without is_point (after w) in
          let v = numeral 0 (leading w) in
          let first : v < 10 ^ length (leading w) = numeral-below 0 0 (length (leading w)) w (lit< tt) (omega arith) in
          let both : numeral v (leading p) < 10 ^ 15 =
          numeral-below v (length (leading w)) 15 p first (omega (arith, k₁.count, second.count))
          in
          let e : n₁ ≡ v = k₁.number (omega (arith, numeral-le v (leading p))) in
          subst (λ (n : ℕ). numeral n (leading p) < 10 ^ 15 → n₂ ≡ numeral n (leading p)) e second.number both
          ∙ sym (numeral-++ 0 (leading w) (leading p))

      as_said : number_with s (exponent_of r₂) ≡ field_of s
      unfolding field_of exponent
      as_said =
          simp (
            counted,
            le-leb 1 (c₁ + c₂) (omega (arith, some)),
            le-leb (c₁ + c₂) 15 few,
            second.rest,
          )

      pub no-exponent : None ≡ exponent_of r₂ → None ≡ field_of s
      unfolding number_with
      no-exponent e = ap (number_with s) e ∙ as_said

      pub number_is :
          (x : Exponent)
          → Some x ≡ exponent_of r₂
          → Some record {
            negative = starts_minus s;
            digits = n₂;
            up = cond x.minus 0 x.power;
            down = c₂ + cond x.minus x.power 0;
          }
          ≡ field_of s
      unfolding number_with decimals
      number_is x e = simp (all_said, second.count) (ap (number_with s) e ∙ as_said)
