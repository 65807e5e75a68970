-- The test `same_ℤ` decides equality; signed words that fit have the same bits exactly where they are equal, which is what code compares; and two lists, compared from the
-- first element on by a test that tells equality. Assumes nothing.
use mathlib.Core.Path.{◌≡◌, refl, sym, ◌∙◌, ap, ap₂, subst}
use mathlib.Core.Bool.{Bool, true, false, ◌&&◌, false≢true}
use mathlib.Core.Logic.{◌↔◌}
use mathlib.Core.List.{List, [], ◌∷◌, ◌++◌}
use Prim.Native.Nat.{ℕ, suc, ◌+◌, ◌-◌, ◌≤◌, ◌<◌, zero-le}
use native.Mathlib.Numerals.{add-one}
use native.Mathlib.Omega.{arith}
use borrow.Author.Tests.{eqb-true, eq-eqb, ne_eqb}
use lib.Dec.{T, eqb, eqb→eq, eqb_refl}
use lib.ListN.{length, take, drop, get_or, replicate, drop_of_length-le}
use lib.Seq.{drop-cons, take_at}
use lib.IntN.{ℤ, pos, negsuc}
use mir.Syntax.{Width}
use mir.Val.{SFits, to_z, of_z}
use mir.Facts.{to_z-of_z}
use Rattle.whole.specs.Same.{same_ℤ, same_list}

pub same_ℤ-eq : (a b : ℤ) → T (same_ℤ a b) → a ≡ b
same_ℤ-eq (pos a) (pos b) t = ap pos (eqb→eq a b t)
same_ℤ-eq (pos a) (negsuc b) t = absurd t
same_ℤ-eq (negsuc a) (pos b) t = absurd t
same_ℤ-eq (negsuc a) (negsuc b) t = ap negsuc (eqb→eq a b t)

pub same_ℤ-self : (a : ℤ) → T (same_ℤ a a)
same_ℤ-self (pos n) = eqb_refl n
same_ℤ-self (negsuc n) = eqb_refl n

-- as equations of the test
pub same_ℤ-true : (a b : ℤ) → same_ℤ a b ≡ true → a ≡ b
same_ℤ-true a b e = same_ℤ-eq a b (subst T (sym e) tt)

pub same_ℤ-yes : (a b : ℤ) → a ≡ b → same_ℤ a b ≡ true
same_ℤ-yes a b e = is_true (same_ℤ a b) (subst (λ z. T (same_ℤ a z)) e (same_ℤ-self a))
  where
    is_true : (t : Bool) → T t → t ≡ true
    is_true true h = refl
    is_true false h = absurd h

pub same_ℤ-no : (a b : ℤ) → (a ≡ b → ⊥) → same_ℤ a b ≡ false
same_ℤ-no a b f = is_false (same_ℤ a b) (λ t. f (same_ℤ-eq a b t))
  where
    is_false : (t : Bool) → (T t → ⊥) → t ≡ false
    is_false true h = absurd (h tt)
    is_false false h = refl

-- ---- signed words

pub same_bits : (w : Width) {a b : ℤ} → SFits w a → SFits w b → eqb (of_z w a) (of_z w b) ≡ same_ℤ a b
same_bits w {a} {b} f g = go (same_ℤ a b) refl
  where
    go : (t : Bool) → same_ℤ a b ≡ t → eqb (of_z w a) (of_z w b) ≡ t
    go true e = eq-eqb (of_z w a) (of_z w b) (ap (of_z w) (same_ℤ-true a b e))
    go false e =
        ne_eqb (of_z w a) (of_z w b)
        (λ h.
        let eq : a ≡ b = sym (to_z-of_z f) ∙ ap (to_z w) h ∙ to_z-of_z g in
        absurd (subst T (sym (same_ℤ-yes a b eq) ∙ e) tt))

-- what a test of two words says
pub same-yes : (w : Width) {a b : ℤ} → SFits w a → SFits w b → of_z w a ≡ of_z w b → same_ℤ a b ≡ true
same-yes w {a} {b} f g e = sym (same_bits w f g) ∙ eq-eqb (of_z w a) (of_z w b) e

pub same-no : (w : Width) {a b : ℤ} → SFits w a → SFits w b → (of_z w a ≡ of_z w b → ⊥) → same_ℤ a b ≡ false
same-no w {a} {b} f g e = sym (same_bits w f g) ∙ ne_eqb (of_z w a) (of_z w b) e

-- ---- lists

-- a test that tells equality
pub record Tells {A : Type 0} (same : A → A → Bool) : Type 0 where
  pub exactly : (x y : A) → (same x y ≡ true) ↔ (x ≡ y)

pub eqb_tells : Tells eqb
eqb_tells = record { exactly = λ m n. (eqb-true m n, eq-eqb m n) }

pub same_ℤ-tells : Tells same_ℤ
same_ℤ-tells = record { exactly = λ a b. (same_ℤ-true a b, same_ℤ-yes a b) }

-- two tests that hold at the same time are one
pub both_ways : (a b : Bool) → (a ≡ true → b ≡ true) → (b ≡ true → a ≡ true) → a ≡ b
both_ways true b f g = sym (f refl)
both_ways false true f g = g refl
both_ways false false f g = refl

module _ {A : Type 0} {same : A → A → Bool} (t : Tells same) where
  list-true : (xs ys : List A) → same_list same xs ys ≡ true → xs ≡ ys
  unfolding same_list
  list-true [] [] e = refl
  list-true [] (y ∷ ys) e = absurd (false≢true e)
  list-true (x ∷ xs) [] e = absurd (false≢true e)
  list-true (x ∷ xs) (y ∷ ys) e = go (same x y) refl e (list-true xs ys)
    where
      go : (b : Bool) → same x y ≡ b → (b && same_list same xs ys) ≡ true → (same_list same xs ys ≡ true → xs ≡ ys) → x ∷ xs ≡ y ∷ ys
      go true h e rest = ap₂ ◌∷◌ ((t.exactly x y).0 h) (rest e)
      go false h e rest = absurd (false≢true e)

  list-self : (xs : List A) → same_list same xs xs ≡ true
  unfolding same_list
  list-self [] = refl
  list-self (x ∷ xs) = rw ((t.exactly x x).1 refl) (list-self xs)

  pub list_tells : Tells (same_list same)
  list_tells =
      record { exactly = λ xs ys. (list-true xs ys, λ e. subst (λ (zs : List A). same_list same xs zs ≡ true) e (list-self xs)) }

  -- of two lists that are filled up to one length, and of their own lengths
  pub same-filled :
      (z : A) (n : ℕ) (xs ys : List A)
      → (eqb (length xs) (length ys) && same_list same (xs ++ replicate (n - length xs) z) (ys ++ replicate (n - length ys) z)) ≡ same_list same xs ys
  same-filled z n xs ys = both_ways _ _ forth back
    where
      forth : (eqb (length xs) (length ys) && same_list same (xs ++ replicate (n - length xs) z) (ys ++ replicate (n - length ys) z)) ≡ true → same_list same xs ys ≡ true
      forth e = go (eqb (length xs) (length ys)) refl e
        where
          go :
              (b : Bool)
              → eqb (length xs) (length ys) ≡ b
              → (b && same_list same (xs ++ replicate (n - length xs) z) (ys ++ replicate (n - length ys) z)) ≡ true
              → same_list same xs ys ≡ true
          go true h e =
              let long = eqb-true (length xs) (length ys) h in
              (list_tells.exactly xs ys).1
              (sym (take_at xs (replicate (n - length xs) z) _ long)
              ∙ ap (take (length ys)) ((list_tells.exactly _ _).0 e)
              ∙ take_at ys (replicate (n - length ys) z) _ refl)
          go false h e = absurd (false≢true e)

      back : same_list same xs ys ≡ true → (eqb (length xs) (length ys) && same_list same (xs ++ replicate (n - length xs) z) (ys ++ replicate (n - length ys) z)) ≡ true
      back e =
          let eq = (list_tells.exactly xs ys).0 e in
          rw (eq-eqb (length xs) (length ys) (ap length eq)) ((list_tells.exactly _ _).1 (ap (λ (l : List A). l ++ replicate (n - length l) z) eq))

-- ---- two lists of one length, compared from the first element on

-- the first i are the same, so that what is left decides
pub record Comparing {A : Type 0} (same : A → A → Bool) (xs ys : List A) (i : ℕ) : Type 0 where
  pub within : i ≤ length xs
  pub long : length xs ≡ length ys
  pub rest : same_list same xs ys ≡ same_list same (drop i xs) (drop i ys)

module _ {A : Type 0} {same : A → A → Bool} where
  pub comparing : (xs ys : List A) → length xs ≡ length ys → Comparing same xs ys 0
  comparing xs ys long = record { within = zero-le; long = long; rest = refl }

  module _ {xs ys : List A} {i : ℕ} (k : Comparing same xs ys i) where
    module _ (d : A) (h : i < length xs) {t : Bool} (e : same (get_or xs i d) (get_or ys i d) ≡ t) where
      here : same_list same xs ys ≡ (t && same_list same (drop (i + 1) xs) (drop (i + 1) ys))
      unfolding same_list
      here =
          let below : i < length ys = omega (arith, k.long) in
          k.rest
          ∙ rw (add-one, drop-cons xs i d h, drop-cons ys i d below)
          (ap (λ (b : Bool). b && same_list same (drop (suc i) xs) (drop (suc i) ys)) e)

    pub same_next : (d : A) → i < length xs → same (get_or xs i d) (get_or ys i d) ≡ true → Comparing same xs ys (i + 1)
    same_next d h e = record { within = omega arith; long = k.long; rest = here d h e }

    pub other-here : (d : A) → i < length xs → same (get_or xs i d) (get_or ys i d) ≡ false → false ≡ same_list same xs ys
    other-here d h e = sym (here d h e)

    pub same-all : length xs ≤ i → true ≡ same_list same xs ys
    unfolding same_list
    same-all h =
        sym (k.rest
        ∙ (λ j. same_list same (drop_of_length-le xs {i = i} h j) (drop_of_length-le ys {i = i} (omega (arith, k.long)) j)))
