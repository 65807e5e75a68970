-- Laws of the product of two lists, each of the first with each of the second: its length, what stands at a place, by division, and which pairs are in it. Assumes nothing.
use mathlib.Core.Path.{◌≡◌, refl, sym, ap, ◌∙◌}
use mathlib.Core.List.Memᴰ
use mathlib.Core.List.{
  List,
  [],
  ◌∷◌,
  ◌++◌,
  Memᴰ,
}
use mathlib.Core.Logic.{⊎_elim}
use Prim.Native.Nat.{ℕ, zero, suc, ◌+◌, ◌*◌, ◌/◌, ◌%◌, ◌<◌}
use native.Mathlib.Nat.{zero-mul, mul-zero, suc-mul, zero-lt-suc, not-suc-le-zero, le_of_suc-le-suc, mod-lt, div-lt_iff_lt-mul, div-add-mod'}
use native.Mathlib.Omega.{arith}
use lib.ListN.{length, get_or, length-append, get_or-append}
use lib.Seq.{get_or-append-add}
use Rattle.table.specs.Pairs.{each_with, product}

-- ---- a place among p rows of n

pub record Cut (k p n : ℕ) : Type 0 where
  pub wide : 0 < n
  pub row : k / n < p
  pub column : k % n < n

pub cut : (k p n : ℕ) → k < p * n → Cut k p n
cut k p zero h = absurd (not-suc-le-zero (rw mul-zero at h))
cut k p (suc n) h =
    record { wide = zero-lt-suc n; row = (div-lt_iff_lt-mul (zero-lt-suc n)).1 h; column = mod-lt k (zero-lt-suc n) }

-- ---- the product

module _ {A B : Type 0} where
  length-each_with : (x : A) (ys : List B) → length (each_with x ys) ≡ length ys
  unfolding each_with
  length-each_with x [] = refl
  length-each_with x (y ∷ ys) = ap suc (length-each_with x ys)

  each_with-at : (x : A) (ys : List B) (q : ℕ) (d : A × B) → q < length ys → get_or (each_with x ys) q d ≡ (x, get_or ys q d.1)
  unfolding each_with
  each_with-at x [] q d h = absurd (not-suc-le-zero h)
  each_with-at x (y ∷ ys) zero d h = refl
  each_with-at x (y ∷ ys) (suc q) d h = each_with-at x ys q d (le_of_suc-le-suc h)

  length-product : (xs : List A) (ys : List B) → length (product xs ys) ≡ length xs * length ys
  unfolding product
  length-product [] ys = sym (zero-mul _)
  length-product (x ∷ xs) ys =
      omega (
        arith,
        length-append (each_with x ys) (product xs ys),
        length-each_with x ys,
        length-product xs ys,
        suc-mul (length xs) (length ys),
      )

  -- the p-th of the first with the q-th of the second
  product_at :
      (xs : List A) (ys : List B) (p q : ℕ) (d : A × B)
      → p < length xs
      → q < length ys
      → get_or (product xs ys) (p * length ys + q) d ≡ (get_or xs p d.0, get_or ys q d.1)
  unfolding product
  product_at [] ys p q d h k = absurd (not-suc-le-zero h)
  product_at (x ∷ xs) ys zero q d h k =
      let first = each_with x ys in
      let e : 0 * length ys + q ≡ q = omega arith in
      ap (λ (n : ℕ). get_or (first ++ product xs ys) n d) e
      ∙ get_or-append first (product xs ys) d q (omega (arith, length-each_with x ys))
      ∙ each_with-at x ys q d k
  product_at (x ∷ xs) ys (suc p) q d h k =
      let first = each_with x ys in
      let e : suc p * length ys + q ≡ length first + (p * length ys + q) =
      omega (arith, suc-mul p (length ys), length-each_with x ys) in
      ap (λ (n : ℕ). get_or (first ++ product xs ys) n d) e
      ∙ get_or-append-add first (product xs ys) (p * length ys + q) d
      ∙ product_at xs ys p q d (le_of_suc-le-suc h) k

  -- m of the first, n of the second: how many pairs, and which stands at k, by division
  module _ (xs : List A) (ys : List B) (m n : ℕ) (long-xs : length xs ≡ m) (long-ys : length ys ≡ n) where
    pub product-count : length (product xs ys) ≡ m * n
    product-count = length-product xs ys ∙ (λ i. long-xs i * long-ys i)

    pub product-nth : (k : ℕ) (d : A × B) → k < m * n → get_or (product xs ys) k d ≡ (get_or xs (k / n) d.0, get_or ys (k % n) d.1)
    product-nth k d h =
        let c = cut k m n h in
        let e : k / n * length ys + k % n ≡ k = rw long-ys (div-add-mod' k n) in
        ap (λ (j : ℕ). get_or (product xs ys) j d) (sym e)
        ∙ product_at xs ys (k / n) (k % n) d (rw long-xs c.row) (rw long-ys c.column)

-- ---- its members

module _ {A B : Type 0} where
  pub each-only : (x : A) (ys : List B) (p : A × B) → Memᴰ p (each_with x ys) → (p.0 ≡ x) × Memᴰ p.1 ys
  unfolding each_with
  each-only x [] p m = absurd (Memᴰ.not-nil m)
  each-only x (y ∷ ys) p m =
      ⊎_elim
      (λ e. (ap (λ (q : A × B). q.0) e, Memᴰ.head (ap (λ (q : A × B). q.1) e)))
      (λ n. let f = each-only x ys p n in (f.0, Memᴰ.tail f.1))
      (Memᴰ.cases_cons m)

  each-has : (x a : A) (b : B) (ys : List B) → a ≡ x → Memᴰ b ys → Memᴰ (a, b) (each_with x ys)
  unfolding each_with
  each-has x a b [] e m = absurd (Memᴰ.not-nil m)
  each-has x a b (y ∷ ys) e m =
      ⊎_elim (λ f. Memᴰ.head (λ i. (e i, f i))) (λ n. Memᴰ.tail (each-has x a b ys e n)) (Memᴰ.cases_cons m)

  pub product-only : (xs : List A) (ys : List B) (p : A × B) → Memᴰ p (product xs ys) → Memᴰ p.0 xs × Memᴰ p.1 ys
  unfolding product
  product-only [] ys p m = absurd (Memᴰ.not-nil m)
  product-only (x ∷ xs) ys p m =
      ⊎_elim
      (λ n. let f = each-only x ys p n in (Memᴰ.head f.0, f.1))
      (λ n. let f = product-only xs ys p n in (Memᴰ.tail f.0, f.1))
      (Memᴰ.append_cases (each_with x ys) m)

  pub product-has : (xs : List A) (ys : List B) (a : A) (b : B) → Memᴰ a xs → Memᴰ b ys → Memᴰ (a, b) (product xs ys)
  unfolding product
  product-has [] ys a b m n = absurd (Memᴰ.not-nil m)
  product-has (x ∷ xs) ys a b m n =
      ⊎_elim
      (λ e. Memᴰ.append_left (product xs ys) (each-has x a b ys e n))
      (λ k. Memᴰ.append_right (each_with x ys) (product-has xs ys a b k n))
      (Memᴰ.cases_cons m)
