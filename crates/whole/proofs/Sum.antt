-- Sums over a list, and over all pairs of two lists. What two sums share term by term they share as sums (`sum-related`): equations, real parts, bounds and
-- distances are cases of it. Assumes nothing.
use mathlib.Core.Path.{◌≡◌, refl, sym, ◌∙◌, ap, ap₂}
use mathlib.Core.List.{List, [], ◌∷◌, ◌++◌, Memᴰ}
use Prim.Native.Nat.{ℕ, ◌*◌, ◌≤◌}
use native.Mathlib.Nat.{mul-le-mul_left}
use native.Mathlib.Omega.{arith}
use lib.IntN.{ℤ, pos, nat_abs, ◌+ℤ◌, ◌*ℤ◌, +ℤ_assoc, +ℤ_idl, *ℤ-zero, zero-*ℤ}
use Rattle.whole.specs.Complex.{Complex}
use Rattle.whole.specs.Fraction.{Fraction, ◌≤ᶠ◌, distance}
use Rattle.whole.specs.Sum.{sum_by, sum_ℤ, sum_ℕ, sumᶜ, sumᶠ}
use Rattle.whole.proofs.Laws.{+ℤ-middle, *ℤ-distribˡ, *ℤ-distribʳ}
use Rattle.whole.proofs.Magnitude.{triangle}
use Rattle.whole.proofs.Fraction.{≤ᶠ-refl, ≤ᶠ-trans, +ᶠ-mono, distance-+, distance-zero}

-- ---- what is shared term by term

pub sum-related : {A M N : Type 0} (R : M → N → Type 0) {plus : M → M → M} {none : M} {plus' : N → N → N} {none' : N}
    → R none none' → ((a b : M) (c d : N) → R a c → R b d → R (plus a b) (plus' c d))
    → (xs : List A) (f : A → M) (g : A → N) → ((x : A) → Memᴰ x xs → R (f x) (g x))
    → R (sum_by plus none xs f) (sum_by plus' none' xs g)
unfolding sum_by
sum-related R z p [] f g h = z
sum-related R {plus} {none} {plus'} {none'} z p (x ∷ xs) f g h =
    p (f x) (sum_by plus none xs f) (g x) (sum_by plus' none' xs g)
    (h x (Memᴰ.head refl))
    (sum-related R z p xs f g (λ y m. h y (Memᴰ.tail m)))

-- equal terms
pub sum-ext : {A M : Type 0} (plus : M → M → M) (none : M) (xs : List A) (f g : A → M) → ((x : A) → Memᴰ x xs → f x ≡ g x)
    → sum_by plus none xs f ≡ sum_by plus none xs g
sum-ext {A} {M} plus none xs f g h = sum-related (λ (a b : M). a ≡ b) refl (λ a b c d p q. ap₂ plus p q) xs f g h

-- the real part of a sum is the sum of the real parts
pub sum-real : {A : Type 0} (xs : List A) (f : A → Complex) → (sumᶜ xs f).re ≡ sum_ℤ xs (λ x. (f x).re)
sum-real xs f = sum-related (λ (z : Complex) (r : ℤ). z.re ≡ r) refl (λ a b c d p q. ap₂ ◌+ℤ◌ p q) xs f (λ x. (f x).re) (λ x m. refl)

-- naturals, as whole numbers
pub sum-pos : {A : Type 0} (xs : List A) (f : A → ℕ) → pos (sum_ℕ xs f) ≡ sum_ℤ xs (λ x. pos (f x))
sum-pos xs f = sum-related (λ (n : ℕ) (z : ℤ). pos n ≡ z) refl (λ a b c d p q. ap₂ ◌+ℤ◌ p q) xs f (λ x. pos (f x)) (λ x m. refl)

-- a factor
pub sum-* : {A : Type 0} (c : ℤ) (xs : List A) (f : A → ℤ) → sum_ℤ xs (λ x. c *ℤ f x) ≡ c *ℤ sum_ℤ xs f
sum-* c xs f =
    sum-related (λ (a b : ℤ). a ≡ c *ℤ b) (sym (*ℤ-zero c))
    (λ a b d e p q. ap₂ ◌+ℤ◌ p q ∙ sym (*ℤ-distribˡ c d e)) xs (λ x. c *ℤ f x) f (λ x m. refl)

-- sizes: where c |f| ≤ b term by term, c times the sum's size is at most b added up
pub sum-size : {A : Type 0} (c : ℕ) (xs : List A) (f : A → ℤ) (b : A → ℕ) → ((x : A) → Memᴰ x xs → c * nat_abs (f x) ≤ b x)
    → c * nat_abs (sum_ℤ xs f) ≤ sum_ℕ xs b
sum-size c xs f b h =
    sum-related (λ (z : ℤ) (n : ℕ). c * nat_abs z ≤ n) (omega arith) (λ y z m n p q. omega (arith, mul-le-mul_left c (triangle y z))) xs f b h

-- distances: two sums of fractions differ by at most what their terms differ by, added up
pub sum-distance : {A : Type 0} (xs : List A) (f g : A → Fraction) → distance (sumᶠ xs f) (sumᶠ xs g) ≤ᶠ sumᶠ xs (λ x. distance (f x) (g x))
unfolding sum_by
sum-distance [] f g = distance-zero
sum-distance (x ∷ xs) f g =
    ≤ᶠ-trans (distance-+ (f x) (sumᶠ xs f) (g x) (sumᶠ xs g)) (+ᶠ-mono (≤ᶠ-refl (distance (f x) (g x))) (sum-distance xs f g))

-- ---- sums of whole numbers

pub sum-++ : {A : Type 0} (xs ys : List A) (f : A → ℤ) → sum_ℤ (xs ++ ys) f ≡ sum_ℤ xs f +ℤ sum_ℤ ys f
unfolding sum_by
sum-++ [] ys f = sym (+ℤ_idl (sum_ℤ ys f))
sum-++ (x ∷ xs) ys f = ap (λ z. f x +ℤ z) (sum-++ xs ys f) ∙ sym (+ℤ_assoc (f x) (sum_ℤ xs f) (sum_ℤ ys f))

pub sum-+ : {A : Type 0} (xs : List A) (f g : A → ℤ) → sum_ℤ xs (λ x. f x +ℤ g x) ≡ sum_ℤ xs f +ℤ sum_ℤ xs g
unfolding sum_by
sum-+ [] f g = refl
sum-+ (x ∷ xs) f g = ap (λ z. f x +ℤ g x +ℤ z) (sum-+ xs f g) ∙ +ℤ-middle (f x) (g x) (sum_ℤ xs f) (sum_ℤ xs g)

-- ---- sums over all pairs

sum-none : {A : Type 0} (xs : List A) → sum_ℤ xs (λ x. pos 0) ≡ pos 0
unfolding sum_by
sum-none [] = refl
sum-none (x ∷ xs) = +ℤ_idl (sum_ℤ xs (λ y. pos 0)) ∙ sum-none xs

-- which of the two lists is gone through first makes no difference
pub sum-swap : {A B : Type 0} (xs : List A) (ys : List B) (f : A → B → ℤ) → sum_ℤ xs (λ x. sum_ℤ ys (λ y. f x y)) ≡ sum_ℤ ys (λ y. sum_ℤ xs (λ x. f x y))
unfolding sum_by
sum-swap [] ys f = sym (sum-none ys)
sum-swap (x ∷ xs) ys f =
    ap (λ z. sum_ℤ ys (λ y. f x y) +ℤ z) (sum-swap xs ys f) ∙ sym (sum-+ ys (λ y. f x y) (λ y. sum_ℤ xs (λ w. f w y)))

-- a product of two sums is the sum of all products
pub sum-product : {A B : Type 0} (xs : List A) (ys : List B) (f : A → ℤ) (g : B → ℤ) → sum_ℤ xs (λ x. sum_ℤ ys (λ y. f x *ℤ g y)) ≡ sum_ℤ xs f *ℤ sum_ℤ ys g
sum-product xs ys f g =
    sum-related (λ (a b : ℤ). a ≡ b *ℤ sum_ℤ ys g) (sym (zero-*ℤ (sum_ℤ ys g)))
    (λ a b c d p q. ap₂ ◌+ℤ◌ p q ∙ sym (*ℤ-distribʳ c d (sum_ℤ ys g))) xs (λ x. sum_ℤ ys (λ y. f x *ℤ g y)) f (λ x m. sum-* (f x) ys g)

-- the same of naturals: with both lists the sea's lines and both functions their sizes, this is A²
pub sum-product_ℕ : {A B : Type 0} (xs : List A) (ys : List B) (f : A → ℕ) (g : B → ℕ) → sum_ℕ xs (λ x. sum_ℕ ys (λ y. f x * g y)) ≡ sum_ℕ xs f * sum_ℕ ys g
sum-product_ℕ xs ys f g =
    ap nat_abs
    (sum-pos xs (λ x. sum_ℕ ys (λ y. f x * g y))
    ∙ sum-ext ◌+ℤ◌ (pos 0) xs (λ x. pos (sum_ℕ ys (λ y. f x * g y))) (λ x. sum_ℤ ys (λ y. pos (f x) *ℤ pos (g y))) (λ x m. sum-pos ys (λ y. f x * g y))
    ∙ sum-product xs ys (λ x. pos (f x)) (λ y. pos (g y))
    ∙ sym (ap₂ ◌*ℤ◌ (sum-pos xs f) (sum-pos ys g)))
