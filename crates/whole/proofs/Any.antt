-- One of a list is so, or none is; one of two tests; and a loop that asks each of a list. Assumes nothing.
use mathlib.Core.Path.{◌≡◌, refl, sym, ap, ap₂, ◌∙◌, subst}
use mathlib.Core.Bool.{Bool, true, false, ◌||◌, true≢false, false≢true}
use mathlib.Core.List.Memᴰ
use mathlib.Core.List.{List, [], ◌∷◌, map, Memᴰ}
use mathlib.Core.Logic.{◌⊎◌, inl, inr, ⊎_elim}
use Prim.Native.Nat.{ℕ, zero, suc, ◌+◌, ◌≤◌, ◌<◌, zero-le}
use native.Mathlib.Numerals.{add-one}
use native.Mathlib.Omega.{arith}
use lib.ListN.{length, drop, get_or, drop_of_length-le}
use lib.Seq.{drop-cons}
use Rattle.whole.specs.Any.{any_of}

-- ---- two tests in one

pub either : (a b : Bool) → (a || b) ≡ true → (a ≡ true) ⊎ (b ≡ true)
either true b e = inl refl
either false b e = inr e

pub neither : (a b : Bool) → (a || b) ≡ false → (a ≡ false) × (b ≡ false)
neither true b e = absurd (true≢false e)
neither false b e = (refl, e)

-- ---- a list

module _ {A : Type 0} where
  pub none_of : (so : A → Bool) (xs : List A) → any_of so xs ≡ false → (x : A) → Memᴰ x xs → so x ≡ false
  unfolding any_of
  none_of so [] e x i = absurd (Memᴰ.not-nil i)
  none_of so (y ∷ ys) e x i =
      let (one, rest) = neither (so y) (any_of so ys) e in
      ⊎_elim (λ (same : x ≡ y). subst (λ (z : A). so z ≡ false) (sym same) one) (λ later. none_of so ys rest x later) (Memᴰ.cases_cons i)

  pub some_of : (so : A → Bool) (xs : List A) → any_of so xs ≡ true → (x : A) × Memᴰ x xs × (so x ≡ true)
  unfolding any_of
  some_of so [] e = absurd (false≢true e)
  some_of so (x ∷ xs) e =
      ⊎_elim (λ h. (x, Memᴰ.head refl, h)) (λ h. let (y, i, b) = some_of so xs h in (y, Memᴰ.tail i, b)) (either (so x) (any_of so xs) e)

  pub of_some : (so : A → Bool) (xs : List A) (x : A) → Memᴰ x xs → so x ≡ true → any_of so xs ≡ true
  of_some so xs x i h = go (any_of so xs) refl
    where
      go : (t : Bool) → any_of so xs ≡ t → t ≡ true
      go true e = refl
      go false e = absurd (true≢false (sym h ∙ none_of so xs e x i))

  -- by places
  pub none-at : (so : A → Bool) (d : A) (xs : List A) → any_of so xs ≡ false → (j : ℕ) → j < length xs → so (get_or xs j d) ≡ false
  unfolding any_of
  none-at so d [] e j h = absurd (omega arith)
  none-at so d (x ∷ xs) e zero h = (neither (so x) (any_of so xs) e).0
  none-at so d (x ∷ xs) e (suc j) h = none-at so d xs (neither (so x) (any_of so xs) e).1 j (omega arith)

  pub some_at : (so : A → Bool) (d : A) (xs : List A) → any_of so xs ≡ true → (j : ℕ) × (j < length xs) × (so (get_or xs j d) ≡ true)
  unfolding any_of
  some_at so d [] e = absurd (false≢true e)
  some_at so d (x ∷ xs) e =
      ⊎_elim (λ h. (0, omega arith, h)) (λ h. let (j, there, s) = some_at so d xs h in (suc j, omega arith, s)) (either (so x) (any_of so xs) e)

  -- two tests that agree on a list
  pub any_same : (so to : A → Bool) (xs : List A) → ((x : A) → Memᴰ x xs → so x ≡ to x) → any_of so xs ≡ any_of to xs
  unfolding any_of
  any_same so to [] h = refl
  any_same so to (x ∷ xs) h = ap₂ ◌||◌ (h x (Memᴰ.head refl)) (any_same so to xs (λ y i. h y (Memᴰ.tail i)))

pub any-map : {A B : Type 0} (so : B → Bool) (f : A → B) (xs : List A) → any_of so (map f xs) ≡ any_of (λ x. so (f x)) xs
unfolding any_of
any-map so f [] = refl
any-map so f (x ∷ xs) = ap (λ (t : Bool). so (f x) || t) (any-map so f xs)

-- ---- the loop

module _ {A : Type 0} where
  -- none of the first i is so, and what is left decides
  pub record Asking (so : A → Bool) (xs : List A) (i : ℕ) : Type 0 where
    pub within : i ≤ length xs
    pub rest : any_of so xs ≡ any_of so (drop i xs)

  pub asking : (so : A → Bool) (xs : List A) → Asking so xs 0
  asking so xs = record { within = zero-le; rest = refl }

  module _ {so : A → Bool} {xs : List A} {i : ℕ} (k : Asking so xs i) where
    module _ (d : A) (h : i < length xs) {t : Bool} (e : so (get_or xs i d) ≡ t) where
      here : any_of so xs ≡ (t || any_of so (drop (i + 1) xs))
      unfolding any_of
      here = k.rest ∙ rw (add-one, drop-cons xs i d h) (ap (λ (b : Bool). b || any_of so (drop (suc i) xs)) e)

    pub not-here : (d : A) → i < length xs → so (get_or xs i d) ≡ false → Asking so xs (i + 1)
    not-here d h e = record { within = omega arith; rest = here d h e }

    pub is-here : (d : A) → i < length xs → so (get_or xs i d) ≡ true → true ≡ any_of so xs
    is-here d h e = sym (here d h e)

    pub none_at_all : length xs ≤ i → false ≡ any_of so xs
    unfolding any_of
    none_at_all h = sym (k.rest ∙ ap (any_of so) (drop_of_length-le xs {i = i} h))
