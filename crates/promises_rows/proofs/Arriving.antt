-- Values in order of arrival: where a value stands, and what an arrival changes. Over any type with a test of equality, so once for ticks and headings. Assumes nothing.
use mathlib.Core.Path.{◌≡◌, refl, sym, ap, ◌∙◌, subst}
use mathlib.Core.Logic.{◌⊎◌, inl, inr, ⊎_elim}
use mathlib.Core.Bool.{Bool, true, false, cond}
use mathlib.Core.List.{List, [], ◌∷◌, ◌++◌, Memᴰ}
use Prim.Native.Nat.{ℕ, zero, suc, ◌+◌, ◌≤◌, ◌<◌, zero-le, suc-le-suc}
use native.Mathlib.Omega.{arith}
use native.Mathlib.Decide.{dec_lt}
use lib.ListN.{length, get_or, replicate, length-append}
use borrow.Author.Tests.{ltb-true, lt-ltb, le-ltb}
use Rattle.whole.proofs.Same.{Tells}
use Rattle.grid.specs.Slots.{slot_of, among}
use Rattle.grid.proofs.Members.{slot-member, member-slot}
use Rattle.promises_rows.specs.Said.{arrive, arrived, distinct}
use Rattle.row.proofs.Used.{by-test}
use Rattle.promises_rows.proofs.Equality.{Same, same_true}

-- x is in l: its slot is one of l's. It is an order of numbers, so that `omega` reads it.
abbrev pub In : {A : Type 0} → Same A → List A → A → Type 0
In E l x = slot_of E.eq l x < length l

abbrev pub Out : {A : Type 0} → Same A → List A → A → Type 0
Out E l x = slot_of E.eq l x ≡ length l

module _ {A : Type 0} (E : Same A) where
  -- ---- where a value stands

  pub slot-le : (l : List A) (x : A) → slot_of E.eq l x ≤ length l
  unfolding slot_of
  slot-le [] x = zero-le
  slot-le (y ∷ ys) x =
      let below = slot-le ys x in
      by-test (λ (n : ℕ). n ≤ suc (length ys)) (E.eq y x) _ _ (λ _. zero-le) (λ _. suc-le-suc below)

  -- as the table's own test tells it
  pub among_in : (l : List A) (x : A) → among E.eq l x ≡ true → In E l x
  among_in l x e = ltb-true _ _ e

  pub in-among : (l : List A) (x : A) → In E l x → among E.eq l x ≡ true
  in-among l x h = lt-ltb _ _ h

  pub in-or-out : (l : List A) (x : A) → In E l x ⊎ Out E l x
  in-or-out l x =
      let le = slot-le l x in elim (dec_lt (slot_of E.eq l x) (length l)) [ yes h ↦ inl h | no h ↦ inr (omega arith) ]

  pub get-slot : (l : List A) (x d : A) → In E l x → get_or l (slot_of E.eq l x) d ≡ x
  unfolding slot_of
  get-slot [] x d = λ h. absurd (omega arith)
  get-slot (y ∷ ys) x d =
      let below = get-slot ys x d in
      by-test (λ (n : ℕ). n < suc (length ys) → get_or (y ∷ ys) n d ≡ x) (E.eq y x) _ _
      (λ e _. E.sound y x e)
      (λ _ h. below (omega arith))

  -- two values in one slot are one value
  pub slot-injective : (l : List A) (x y : A) → In E l x → In E l y → slot_of E.eq l x ≡ slot_of E.eq l y → x ≡ y
  slot-injective l x y hx hy e =
      sym (get-slot l x x hx) ∙ ap (λ (n : ℕ). get_or l n x) e ∙ get-slot l y x hy

  pub slot-before : (l m : List A) (x : A) → In E l x → slot_of E.eq (l ++ m) x ≡ slot_of E.eq l x
  unfolding slot_of
  slot-before [] m x h = absurd (omega arith)
  slot-before (y ∷ ys) m x h = go (E.eq y x) (slot-before ys m x) h
    where
      go : (t : Bool) → (In E ys x → slot_of E.eq (ys ++ m) x ≡ slot_of E.eq ys x) → cond t zero (suc (slot_of E.eq ys x)) < suc (length ys)
          → cond t zero (suc (slot_of E.eq (ys ++ m) x)) ≡ cond t zero (suc (slot_of E.eq ys x))
      go true f k = refl
      go false f k = ap suc (f (omega arith))

  pub slot-behind : (l m : List A) (x : A) → Out E l x → slot_of E.eq (l ++ m) x ≡ length l + slot_of E.eq m x
  unfolding slot_of
  slot-behind [] m x e = omega arith
  slot-behind (y ∷ ys) m x e = go (E.eq y x) (slot-behind ys m x) e
    where
      go : (t : Bool) → (Out E ys x → slot_of E.eq (ys ++ m) x ≡ length ys + slot_of E.eq m x) → cond t zero (suc (slot_of E.eq ys x)) ≡ suc (length ys)
          → cond t zero (suc (slot_of E.eq (ys ++ m) x)) ≡ suc (length ys) + slot_of E.eq m x
      go true f k = absurd (omega arith)
      go false f k = let g = f (omega arith) in omega arith

  -- in a list that holds x alone, or that holds nothing but z
  pub slot-alone : (x : A) → slot_of E.eq (x ∷ []) x ≡ 0
  unfolding slot_of
  slot-alone x = rw (E.self x)

  pub slot-replicate : (n : ℕ) (z : A) → slot_of E.eq (replicate n z) z ≡ 0
  unfolding slot_of
  slot-replicate zero z = refl
  slot-replicate (suc n) z = rw (E.self z)

  pub slot-other : (n : ℕ) (z x : A) → (z ≡ x → ⊥) → slot_of E.eq (replicate n z) x ≡ n
  unfolding slot_of
  slot-other zero z x h = refl
  slot-other (suc n) z x h =
      let below = slot-other n z x h in
      by-test (λ (m : ℕ). m ≡ suc n) (E.eq z x) _ _ (λ e. absurd (h (E.sound z x e))) (λ _. ap suc below)

  -- one that was not there, put behind the last
  pub slot-last : (l : List A) (x : A) → Out E l x → slot_of E.eq (l ++ (x ∷ [])) x ≡ length l
  slot-last l x h = let p = slot-behind l (x ∷ []) x h in let q = slot-alone x in omega arith

  -- the members of a list are what has a slot there

  tells : Tells E.eq
  tells = record { exactly = λ a b. (E.sound a b, same_true E a b) }

  pub in-member : (l : List A) (x : A) → In E l x → Memᴰ x l
  in-member = slot-member tells

  pub member-in : {l : List A} {x : A} → Memᴰ x l → In E l x
  member-in = member-slot tells

  -- ---- an arrival

  pub arrive-in : (l : List A) (x : A) → In E l x → arrive E.eq l x ≡ l
  unfolding arrive
  arrive-in l x h = rw (lt-ltb (slot_of E.eq l x) (length l) h)

  pub arrive-out : (l : List A) (x : A) → Out E l x → arrive E.eq l x ≡ l ++ (x ∷ [])
  unfolding arrive
  arrive-out l x h = rw (le-ltb (slot_of E.eq l x) (length l) (omega arith))

  pub length_more : (l : List A) (x : A) → length (l ++ (x ∷ [])) ≡ suc (length l)
  length_more l x = let e = length-append l (x ∷ []) in omega arith

  pub arrive-length : (l : List A) (x : A) → (length l ≤ length (arrive E.eq l x)) × (length (arrive E.eq l x) ≤ suc (length l))
  arrive-length l x =
      ⊎_elim
      (λ h. rw (arrive-in l x h) (omega arith))
      (λ h. let n = length_more l x in rw (arrive-out l x h) (omega arith))
      (in-or-out l x)

  -- what was there keeps its slot
  pub arrive-slot : (l : List A) (x y : A) → In E l y → slot_of E.eq (arrive E.eq l x) y ≡ slot_of E.eq l y
  arrive-slot l x y k =
      ⊎_elim
      (λ h. rw (arrive-in l x h))
      (λ h. rw (arrive-out l x h) (slot-before l (x ∷ []) y k))
      (in-or-out l x)

  pub arrive-keeps : (l : List A) (x y : A) → In E l y → In E (arrive E.eq l x) y
  arrive-keeps l x y k = let e = arrive-slot l x y k in let n = arrive-length l x in omega arith

  pub arrive-has : (l : List A) (x : A) → In E (arrive E.eq l x) x
  arrive-has l x =
      ⊎_elim
      (λ h. rw (arrive-in l x h) h)
      (λ h.
      let e = slot-behind l (x ∷ []) x h in
      let o = slot-alone x in
      let n = length_more l x in
      rw (arrive-out l x h) (omega arith))
      (in-or-out l x)

  -- ---- arrivals

  pub arrived-append : (l xs ys : List A) → arrived E.eq l (xs ++ ys) ≡ arrived E.eq (arrived E.eq l xs) ys
  unfolding arrived
  arrived-append l [] ys = refl
  arrived-append l (x ∷ xs) ys = arrived-append (arrive E.eq l x) xs ys

  pub arrived-length : (l xs : List A) → length l ≤ length (arrived E.eq l xs)
  unfolding arrived
  arrived-length l [] = omega arith
  arrived-length l (x ∷ xs) =
      let n = arrive-length l x in let m = arrived-length (arrive E.eq l x) xs in omega arith

  arrived-keeps : (l xs : List A) (y : A) → In E l y → In E (arrived E.eq l xs) y
  unfolding arrived
  arrived-keeps l [] y h = h
  arrived-keeps l (x ∷ xs) y h = arrived-keeps (arrive E.eq l x) xs y (arrive-keeps l x y h)

  pub arrived-has : {y : A} (l : List A) {xs : List A} → Memᴰ y xs → In E (arrived E.eq l xs) y
  unfolding arrived
  arrived-has {y = y} l (Memᴰ.head {x = x} {xs = xs} e) =
      arrived-keeps (arrive E.eq l x) xs y (subst (λ (z : A). In E (arrive E.eq l x) z) (sym e) (arrive-has l x))
  arrived-has {y = y} l (Memᴰ.tail {x = x} {xs = xs} m) = arrived-has (arrive E.eq l x) m

  arrive-only : (l : List A) (x y : A) → In E (arrive E.eq l x) y → In E l y ⊎ (y ≡ x)
  arrive-only l x y k =
      ⊎_elim
      (λ h. inl (rw (arrive-in l x h) at k))
      (λ h.
      ⊎_elim
      (λ there. inl there)
      (λ gone.
      let n = length_more l x in
      let p : slot_of E.eq (l ++ (x ∷ [])) y < length (l ++ (x ∷ [])) = rw (arrive-out l x h) at k in
      let e = slot-behind l (x ∷ []) y gone in
      let q : In E (x ∷ []) y = omega arith in
      inr (sym (get-slot (x ∷ []) y x q) ∙ ap (λ (i : ℕ). get_or (x ∷ []) i x) (first (slot_of E.eq (x ∷ []) y) q)))
      (in-or-out l y))
      (in-or-out l x)
    where
      first : (i : ℕ) → i < 1 → i ≡ 0
      first i h = omega arith

  arrived-only : (l xs : List A) (y : A) → In E (arrived E.eq l xs) y → In E l y ⊎ Memᴰ y xs
  unfolding arrived
  arrived-only l [] y h = inl h
  arrived-only l (x ∷ xs) y h =
      ⊎_elim
      (λ k. ⊎_elim (λ before. inl before) (λ e. inr (Memᴰ.head e)) (arrive-only l x y k))
      (λ m. inr (Memᴰ.tail m))
      (arrived-only (arrive E.eq l x) xs y h)

  -- ---- the distinct ones of a list are its members

  pub distinct-has : {xs : List A} {y : A} → Memᴰ y xs → In E (distinct E.eq xs) y
  unfolding distinct
  distinct-has m = arrived-has [] m

  pub distinct-only : (xs : List A) (y : A) → In E (distinct E.eq xs) y → Memᴰ y xs
  unfolding distinct
  distinct-only xs y h = ⊎_elim (λ k. absurd (omega arith)) (λ m. m) (arrived-only [] xs y h)

  pub distinct_more : (xs : List A) (x y : A)
      → distinct E.eq (xs ++ (x ∷ (y ∷ []))) ≡ arrive E.eq (arrive E.eq (distinct E.eq xs) x) y
  unfolding distinct arrived
  distinct_more xs x y = arrived-append [] xs (x ∷ (y ∷ []))

  pub distinct-length : (xs ys : List A) → length (distinct E.eq xs) ≤ length (distinct E.eq (xs ++ ys))
  unfolding distinct
  distinct-length xs ys = rw (arrived-append [] xs ys) (arrived-length (arrived E.eq [] xs) ys)
