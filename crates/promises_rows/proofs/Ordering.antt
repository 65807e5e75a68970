-- Lists in ascending order, each value below all that stand behind it: insertion in order makes one, products of two are one, and two with the same members are one list.
-- Assumes nothing.
use mathlib.Core.Bool.{Bool, true, false, true≢false}
use mathlib.Core.List.Memᴰ
use mathlib.Core.List.{List, [], ◌∷◌, ◌++◌, map, Memᴰ}
use mathlib.Core.Logic.{◌⊎◌, inl, inr, ⊎_elim}
use mathlib.Core.Path.{◌≡◌, refl, sym, ap, ap₂, ◌∙◌, subst}
use Prim.Native.Nat.{ℕ, ◌<◌}
use native.Mathlib.Omega.{arith}
use lib.Dec.{T, leb, lt→ltb}
use lib.IntN.{ℤ, pos, negsuc}
use lib.Signed.{le_z, le_z_yes, ◌<ℤ◌, <ℤ-≤ℤ_trans, <ℤ_irrefl}
use borrow.Author.Tests.{leb-true, leb-false}
use Rattle.whole.proofs.OrderLaws.{<ℤ→≤ℤ, ≤ℤ→<ℤ}
use Rattle.row.proofs.Used.{by-test}
use Rattle.table.specs.Pairs.{insert, inserted, ascending, each_with, product}
use Rattle.table.proofs.Ascending.{insert-only, ascending-only, ascending-has}
use Rattle.table.proofs.Products.{each-only, product-only}
use Rattle.promises_rows.specs.Said.{Once}
use Rattle.promises_rows.specs.Said.Once.{none, more}

pub data Ascending {A : Type 0} (Below : A → A → Type 0) : List A → Type 0 where
  end : Ascending Below []
  then : {x : A} {xs : List A} → ((y : A) → Memᴰ y xs → Below x y) → Ascending Below xs → Ascending Below (x ∷ xs)

-- no value is below itself, and below is transitive
pub record Order {A : Type 0} (Below : A → A → Type 0) : Type 0 where
  pub irreflexive : (a : A) → Below a a → ⊥
  pub transitive : (a b c : A) → Below a b → Below b c → Below a c

module _ {A : Type 0} {Below : A → A → Type 0} where
  pub first_below : {x : A} {xs : List A} → Ascending Below (x ∷ xs) → (y : A) → Memᴰ y xs → Below x y
  first_below (then h b) = h

  pub rest-ascends : {x : A} {xs : List A} → Ascending Below (x ∷ xs) → Ascending Below xs
  rest-ascends (then h b) = b

  pub ascending-append :
      {l : List A} (m : List A) → Ascending Below l → Ascending Below m
      → ((x y : A) → Memᴰ x l → Memᴰ y m → Below x y) → Ascending Below (l ++ m)
  ascending-append m end b f = b
  ascending-append m (then {x = x} {xs = xs} h a) b f =
      then (λ y k. ⊎_elim (h y) (f x y (Memᴰ.head refl)) (Memᴰ.append_cases xs k))
      (ascending-append m a b (λ y z k n. f y z (Memᴰ.tail k) n))

  -- what stands behind is above
  pub ascending-behind :
      (before : List A) (p : A) (behind : List A) → Ascending Below (before ++ (p ∷ behind)) → (q : A) → Memᴰ q behind → Below p q
  ascending-behind [] p behind a q m = first_below a q m
  ascending-behind (x ∷ before) p behind a q m = ascending-behind before p behind (rest-ascends a) q m

  -- and a list in which what stands behind is above ascends
  pub behind-ascends :
      (l : List A) → ((before behind : List A) (x y : A) → l ≡ before ++ (x ∷ behind) → Memᴰ y behind → Below x y) → Ascending Below l
  behind-ascends [] h = end
  behind-ascends (x ∷ xs) h =
      then (λ y m. h [] xs x y refl m) (behind-ascends xs (λ before behind w y e m. h (x ∷ before) behind w y (ap (λ (l : List A). x ∷ l) e) m))

  -- two with the same members are one list
  pub ascending-same :
      Order Below → (l m : List A) → Ascending Below l → Ascending Below m → ((x : A) → Memᴰ x l → Memᴰ x m)
      → ((x : A) → Memᴰ x m → Memᴰ x l) → l ≡ m
  ascending-same o [] [] a b f g = refl
  ascending-same o [] (y ∷ ys) a b f g = absurd (Memᴰ.not-nil (g y (Memᴰ.head refl)))
  ascending-same o (x ∷ xs) [] a b f g = absurd (Memᴰ.not-nil (f x (Memᴰ.head refl)))
  ascending-same o (x ∷ xs) (y ∷ ys) a b f g =
      ap₂ (λ (z : A) (zs : List A). z ∷ zs) first
      (ascending-same o xs ys (rest-ascends a) (rest-ascends b)
      (λ z m. ⊎_elim (λ e. absurd (not_first a m (e ∙ sym first))) (λ n. n) (Memᴰ.cases_cons (f z (Memᴰ.tail m))))
      (λ z m. ⊎_elim (λ e. absurd (not_first b m (e ∙ first))) (λ n. n) (Memᴰ.cases_cons (g z (Memᴰ.tail m)))))
    where
      -- what stands behind a value is another
      not_first : {w z : A} {zs : List A} → Ascending Below (w ∷ zs) → Memᴰ z zs → z ≡ w → ⊥
      not_first {w} {z} c m e = o.irreflexive z (subst (λ (v : A). Below v z) (sym e) (first_below c z m))

      first : x ≡ y
      first =
          ⊎_elim
          (λ e. e)
          (λ m.
          ⊎_elim
          (λ e. sym e)
          (λ n. absurd (o.irreflexive x (o.transitive x y x (first_below a y n) (first_below b x m))))
          (Memᴰ.cases_cons (g y (Memᴰ.head refl))))
          (Memᴰ.cases_cons (f x (Memᴰ.head refl)))

-- ---- insertion puts the members in order

module _ {A : Type 0} (le : A → A → Bool) where
  -- two lists with the same members are one list in ascending order
  pub members-ascend :
      {Below : A → A → Type 0} (l m : List A) → Order Below → Ascending Below (ascending le l) → Ascending Below (ascending le m)
      → ((x : A) → Memᴰ x l → Memᴰ x m)
      → ((x : A) → Memᴰ x m → Memᴰ x l)
      → ascending le l ≡ ascending le m
  members-ascend l m o up up' there back =
      ascending-same o (ascending le l) (ascending le m) up up'
      (λ x k. ascending-has le m x (there x (ascending-only le l x k)))
      (λ x k. ascending-has le l x (back x (ascending-only le m x k)))

  module _ (Below : A → A → Type 0) (o : Order Below) (yes-below : (a b : A) → le a b ≡ true → (a ≡ b → ⊥) → Below a b)
      (no-below : (a b : A) → le a b ≡ false → Below b a) where
    insert-ascends : (x : A) {l : List A} → Ascending Below l → (Memᴰ x l → ⊥) → Ascending Below (insert le x l)
    unfolding insert
    insert-ascends x end out = then (λ y m. absurd (Memᴰ.not-nil m)) end
    insert-ascends x (then {x = z} {xs = zs} h a) out =
        let with-z = insert-ascends z a (λ m. o.irreflexive z (h z m)) in
        let with-x = insert-ascends x a (λ m. out (Memᴰ.tail m)) in
        by-test (Ascending Below) (le x z) _ _
        (λ e.
        let xz = yes-below x z e (λ q. out (Memᴰ.head q)) in
        then (λ y m. ⊎_elim (λ q. subst (Below x) (sym q) xz) (λ n. o.transitive x z y xz (h y n)) (insert-only le z zs y m)) with-z)
        (λ e.
        then (λ y m. ⊎_elim (λ q. subst (Below z) (sym q) (no-below x z e)) (h y) (insert-only le x zs y m)) with-x)

    inserted-ascends :
        (sorted : List A) {xs : List A} → Ascending Below sorted → Once xs → ((x : A) → Memᴰ x xs → Memᴰ x sorted → ⊥)
        → Ascending Below (inserted le sorted xs)
    unfolding inserted
    inserted-ascends sorted a none out = a
    inserted-ascends sorted a (more {x = x} {xs = xs} new once) out =
        inserted-ascends (insert le x sorted) (insert-ascends x a (out x (Memᴰ.head refl))) once
        (λ y m n.
        ⊎_elim
        (λ e. new (subst (λ (z : A). Memᴰ z xs) e m))
        (λ k. out y (Memᴰ.tail m) k)
        (insert-only le x sorted y n))

    pub ascends : {xs : List A} → Once xs → Ascending Below (ascending le xs)
    unfolding ascending
    ascends once = inserted-ascends [] end once (λ x m n. Memᴰ.not-nil n)

-- ---- ticks and headings

abbrev pub TickBelow : ℕ → ℕ → Type 0
TickBelow a b = a < b

pub tick-order : Order TickBelow
tick-order = record { irreflexive = λ a h. omega arith; transitive = λ a b c h k. omega arith }

pub ticks-ascend : {l : List ℕ} → Once l → Ascending TickBelow (ascending leb l)
ticks-ascend once =
    ascends leb TickBelow tick-order (λ a b e ne. let h = leb-true a b e in omega arith) (λ a b e. leb-false a b e) once

le_z-lt : (a b : ℤ) → le_z a b ≡ true → (a ≡ b → ⊥) → a <ℤ b
le_z-lt a b e ne = ≤ℤ→<ℤ (le_z_yes (subst T (sym e) tt)) ne

le_z-gt : (a b : ℤ) → le_z a b ≡ false → b <ℤ a
le_z-gt (pos a) (pos b) e = record { lt = lt→ltb b a (leb-false a b e) }
le_z-gt (pos a) (negsuc b) e = record { lt = tt }
le_z-gt (negsuc a) (pos b) e = absurd (true≢false e)
le_z-gt (negsuc a) (negsuc b) e = record { lt = lt→ltb a b (leb-false b a e) }

pub heading-order : Order ◌<ℤ◌
heading-order = record { irreflexive = λ a h. <ℤ_irrefl h; transitive = λ a b c h k. <ℤ-≤ℤ_trans h (<ℤ→≤ℤ k) }

pub headings-ascend : {l : List ℤ} → Once l → Ascending ◌<ℤ◌ (ascending le_z l)
headings-ascend once = ascends le_z ◌<ℤ◌ heading-order le_z-lt le_z-gt once

-- ---- products

module _ {A B : Type 0} where
  -- by the first, then by the second
  module _ (Below₁ : A → A → Type 0) (Below₂ : B → B → Type 0) where
    abbrev pub InTurn : A × B → A × B → Type 0
    InTurn p q = Below₁ p.0 q.0 ⊎ ((p.0 ≡ q.0) × Below₂ p.1 q.1)

    each-ascends : (x : A) {ys : List B} → Ascending Below₂ ys → Ascending InTurn (each_with x ys)
    unfolding each_with
    each-ascends x end = end
    each-ascends x (then {x = y} {xs = ys} h a) =
        then (λ q m. let f = each-only x ys q m in inr (sym f.0, h q.1 f.1)) (each-ascends x a)

    pub product-ascends : {xs : List A} {ys : List B} → Ascending Below₁ xs → Ascending Below₂ ys → Ascending InTurn (product xs ys)
    unfolding product
    product-ascends end b = end
    product-ascends {ys = ys} (then {x = x} {xs = xs} h a) b =
        ascending-append (product xs ys) (each-ascends x b) (product-ascends a b)
        (λ p q m n.
        let f = each-only x ys p m in
        let g = product-only xs ys q n in
        inl (subst (λ (z : A). Below₁ z q.0) (sym f.0) (h q.0 g.0)))

-- what keeps the order keeps a list in order
module _ {A B : Type 0} {Below₁ : A → A → Type 0} {Below₂ : B → B → Type 0} (f : A → B) (keeps : (x y : A) → Below₁ x y → Below₂ (f x) (f y)) where
  pub map-ascends : {l : List A} → Ascending Below₁ l → Ascending Below₂ (map f l)
  map-ascends end = end
  map-ascends (then {x = x} {xs = xs} h a) =
      then
      (λ y m. let g = Memᴰ.of_map f xs m in subst (λ (z : B). Below₂ (f x) z) g.2 (keeps x g.0 (h g.0 g.1)))
      (map-ascends a)
