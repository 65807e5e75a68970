-- Slots and headings checked from the first on, each by a test of it and of what follows it; and a chain of tests. Assumes nothing.
use mathlib.Core.Path.{◌≡◌, refl, sym, ap, ◌∙◌}
use mathlib.Core.Bool.{Bool, true, false, not, ◌&&◌, ◌||◌}
use mathlib.Core.List.{List, [], ◌∷◌}
use Prim.Native.Nat.{ℕ, zero, suc, ◌+◌, ◌-◌}
use native.Mathlib.Numerals.{add-one}
use native.Mathlib.Omega.{arith}
use lib.Dec.{leb, eqb}
use lib.IntN.{pos, neg_ℤ}
use lib.Signed.{le_z, lt_z}
use lib.ListN.{length, take, drop, get_or, drop_of_length-le, length-drop}
use lib.Seq.{drop-cons, take_all}
use Rattle.std.specs.List.{list_all, list_any, range_with_len}
use Rattle.whole.specs.Same.{same_ℤ}
use Rattle.grid.specs.Slots.{among}
use Rattle.grid.specs.Valid.{valid_ticks, valid_headings}
use Rattle.grid.proofs.Places.{any-among}

-- ---- a chain of tests: in `&&` one that holds goes on, and one that fails decides; in `||` one that fails goes on

pub holds : {a b r : Bool} → a ≡ true → r ≡ b → r ≡ (a && b)
holds {b = b} e f = f ∙ sym (ap (λ (t : Bool). t && b) e)

pub fails : {a : Bool} (b : Bool) → a ≡ false → false ≡ (a && b)
fails b e = sym (ap (λ (t : Bool). t && b) e)

pub other : {a b r : Bool} → a ≡ false → r ≡ b → r ≡ (a || b)
other {b = b} e f = f ∙ sym (ap (λ (t : Bool). t || b) e)

-- ---- a list is checked by a test of each element and of what follows it

pub record Check {A : Type 0} (valid : List A → Bool) (test : A → List A → Bool) : Type 0 where
  pub none : valid [] ≡ true
  pub one : (x : A) (xs : List A) → valid (x ∷ xs) ≡ (test x xs && valid xs)

-- each place in turn, as std's `all` over the places has it

module _ {A : Type 0} {valid : List A → Bool} {test : A → List A → Bool} (k : Check valid test) (d : A) (l : List A) where
  from_place : (n i : ℕ) → i + n ≡ length l → list_all (λ j. test (get_or l j d) (drop (j + 1) l)) (range_with_len i n) ≡ valid (drop i l)
  from_place zero i e = sym (ap valid (drop_of_length-le l {i = i} (omega arith)) ∙ k.none)
  from_place (suc n) i e =
      let rest = from_place n (i + 1) (omega arith) in
      ap (λ (b : Bool). test (get_or l i d) (drop (i + 1) l) && b) rest
      ∙ sym (rw (add-one, drop-cons l i d (omega arith)) (k.one (get_or l i d) (drop (suc i) l)))

  pub each_place : list_all (λ j. test (get_or l j d) (drop (j + 1) l)) (range_with_len 0 (length l)) ≡ valid l
  each_place = from_place (length l) 0 (omega arith)

-- ---- the two checks

pub ticks-check :
    Check valid_ticks (λ t ts. eqb t 0 || (leb 100 t && (leb t 10_000 && not (among eqb ts t))))
unfolding valid_ticks
ticks-check = record { none = refl; one = λ t ts. refl }

pub headings-check :
    Check valid_headings (λ h hs. (lt_z (neg_ℤ (pos 180_000)) h && le_z h (pos 180_000)) && not (among same_ℤ hs h))
unfolding valid_headings
headings-check = record { none = refl; one = λ h hs. ap (λ (b : Bool). b && valid_headings hs) (grouped (lt_z (neg_ℤ (pos 180_000)) h) _ _) }
  where
    grouped : (a b d : Bool) → (a && (b && d)) ≡ ((a && b) && d)
    grouped true b d = refl
    grouped false b d = refl

-- a part that goes to the end, and whether std finds a value there
module _ {A : Type 0} (same : A → A → Bool) (l : List A) (n : ℕ) (x : A) where
  pub alone : {r : Bool} → r ≡ list_any (λ y. same y x) (take (length l - n) (drop n l)) → not r ≡ not (among same (drop n l) x)
  alone e =
      let all : take (length l - n) (drop n l) ≡ drop n l = take_all (length l - n) (drop n l) (omega (arith, length-drop n l)) in
      ap not (e ∙ ap (list_any (λ y. same y x)) all ∙ any-among same x (drop n l))
