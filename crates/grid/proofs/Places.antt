-- The place of a value among slots, as std's search from the first on has it, over any type with a test; and where std's test of equality is not the one of specs/.
-- Assumes nothing.
use Rattle.std.proofs.Common.{◌≡◌, refl, sym, ap, ◌∙◌, Bool, true, false, cond, not, ◌||◌, List, [], ◌∷◌, ℕ, suc, ◌+◌, ◌≤◌, ltb, length, ℤ, Option, Some, None, arith, count_by, eqb}
use Rattle.std.specs.List.{position_or_len, position, list_any}
use Rattle.std.proofs.lemmas.List.Recursion.{is_position_or_len, is_count_by}
use Rattle.std.specs.Option.{unwrap_or}
use Rattle.std.specs.Ordering.{int_eq}
use Rattle.std.specs.Cmp.{signed_Decides}
use Rattle.whole.specs.Same.{same_ℤ}
use Rattle.whole.proofs.Same.{same_ℤ-yes, same_ℤ-true}
use Rattle.whole.proofs.Same.{both_ways}
use Rattle.row.proofs.Deciding.{by-test}
use borrow.Author.Tests.{ltb-true, ltb-false, lt-ltb}
use Rattle.grid.specs.Slots.{slot_of, among, held_ticks}

module _ {A : Type 0} (same : A → A → Bool) (x : A) where
  slot-step : (y : A) (ys : List A) → slot_of same (y ∷ ys) x ≡ cond (same y x) 0 (1 + slot_of same ys x)
  unfolding slot_of
  slot-step y ys = let e : suc (slot_of same ys x) ≡ 1 + slot_of same ys x = omega arith in ap (cond (same y x) 0) e

  slot-none : slot_of same [] x ≡ 0
  unfolding slot_of
  slot-none = refl

  pub slot-is : (l : List A) → slot_of same l x ≡ position_or_len (λ y. same y x) l
  slot-is = is_position_or_len (λ l. slot_of same l x) (λ y. same y x) slot-none slot-step

  pub slot-within : (l : List A) → slot_of same l x ≤ length l
  unfolding slot_of
  slot-within [] = omega arith
  slot-within (y ∷ ys) =
      let h = slot-within ys in
      by-test (λ (n : ℕ). n ≤ suc (length ys)) (same y x) _ _ (λ _. omega arith) (λ _. omega arith)

  -- a search that finds nothing, with the number of slots in its stead, is the place
  pub slot-found : (l : List A) → unwrap_or (position (λ y. same y x) l) (length l) ≡ slot_of same l x
  slot-found l =
      let n = position_or_len (λ y. same y x) l in
      let within : n ≤ length l = rw (← slot-is l) (slot-within l) in
      rw (slot-is l)
      (by-test (λ (o : Option ℕ). unwrap_or o (length l) ≡ n) (ltb n (length l)) (Some n) None
      (λ _. refl)
      (λ e. let h : length l ≤ n = ltb-false n (length l) e in omega arith))

  pub any-among : (l : List A) → list_any (λ y. same y x) l ≡ among same l x
  unfolding slot_of
  any-among [] = refl
  any-among (y ∷ ys) =
      let h = any-among ys in
      go (same y x) h
    where
      go : (t : Bool) → list_any (λ y. same y x) ys ≡ among same ys x → (t || list_any (λ y. same y x) ys) ≡ ltb (cond t 0 (suc (slot_of same ys x))) (suc (length ys))
      go true h = sym (lt-ltb 0 (suc (length ys)) (omega arith))
      go false h =
          both_ways _ _
          (λ e. let below = ltb-true _ _ (sym h ∙ e) in lt-ltb _ _ (omega arith))
          (λ e. let below = ltb-true _ _ e in h ∙ lt-ltb _ _ (omega arith))

pub int-same : (a b : ℤ) → int_eq a b ≡ same_ℤ a b
int-same a b =
    both_ways _ _
    (λ e. same_ℤ-yes a b ((signed_Decides a b).0 e))
    (λ e. (signed_Decides a b).1 (same_ℤ-true a b e))

-- the place of a heading, with the test of specs/
pub heading-place : (l : List ℤ) (h : ℤ) → slot_of int_eq l h ≡ slot_of same_ℤ l h
heading-place l h = ap (λ (f : ℤ → ℤ → Bool). slot_of f l h) (λ i a b. int-same a b i)

-- how many ticks are held
pub held-count : (l : List ℕ) → count_by (λ t. not (eqb t 0)) l ≡ length (held_ticks l)
unfolding held_ticks
held-count l = sym (is_count_by (λ l. length (held_ticks l)) (λ t. not (eqb t 0)) none one l)
  where
    none : length (held_ticks []) ≡ 0
    none = refl

    one : (t : ℕ) (ts : List ℕ) → length (held_ticks (t ∷ ts)) ≡ cond (not (eqb t 0)) (1 + length (held_ticks ts)) (length (held_ticks ts))
    one t ts = let e : suc (length (held_ticks ts)) ≡ 1 + length (held_ticks ts) = omega arith in go (eqb t 0) e
      where
        go : (b : Bool) → suc (length (held_ticks ts)) ≡ 1 + length (held_ticks ts) → length (cond b (held_ticks ts) (t ∷ held_ticks ts)) ≡ cond (not b) (1 + length (held_ticks ts)) (length (held_ticks ts))
        go true e = refl
        go false e = e

pub heading-among : (l : List ℤ) (h : ℤ) → among int_eq l h ≡ among same_ℤ l h
heading-among l h = ap (λ (f : ℤ → ℤ → Bool). among f l h) (λ i a b. int-same a b i)
