-- A value stands in a list exactly where it has a slot there, which is what `among` tests, and it is what stands at that slot. Over any test that tells equality, so once for
-- ticks and headings. Assumes nothing.
use mathlib.Core.Path.{◌≡◌, sym, ap}
use mathlib.Core.Bool.{Bool, true}
use mathlib.Core.List.{List, [], ◌∷◌, Memᴰ}
use mathlib.Core.Option.{some}
use Prim.Native.Nat.{ℕ, suc, ◌<◌}
use native.Mathlib.Omega.{arith}
use lib.ListN.{length, get_elem?}
use borrow.Author.Tests.{ltb-true, lt-ltb}
use Rattle.whole.proofs.Same.{Tells, both_ways}
use Rattle.row.proofs.Deciding.{by-test}
use Rattle.grid.specs.Slots.{slot_of, among}

module _ {A : Type 0} {same : A → A → Bool} (t : Tells same) where
  pub slot-member : (l : List A) (x : A) → slot_of same l x < length l → Memᴰ x l
  unfolding slot_of
  slot-member [] x = λ h. absurd (omega arith)
  slot-member (y ∷ ys) x =
      let below = slot-member ys x in
      by-test (λ (n : ℕ). n < suc (length ys) → Memᴰ x (y ∷ ys)) (same y x) _ _
      (λ e _. Memᴰ.head (sym ((t.exactly y x).0 e)))
      (λ _ h. Memᴰ.tail (below (omega arith)))

  pub member-slot : {x : A} {l : List A} → Memᴰ x l → slot_of same l x < length l
  unfolding slot_of
  member-slot {x = x} (Memᴰ.head {x = y} e) = rw ((t.exactly y x).1 (sym e)) (omega arith)
  member-slot {x = x} (Memᴰ.tail {x = y} {xs = ys} m) =
      let below = member-slot m in
      by-test (λ (n : ℕ). n < suc (length ys)) (same y x) _ _ (λ _. omega arith) (λ _. omega arith)

  pub among-member : (l : List A) (x : A) → among same l x ≡ true → Memᴰ x l
  among-member l x e = slot-member l x (ltb-true _ _ e)

  pub member-among : (l : List A) (x : A) → Memᴰ x l → among same l x ≡ true
  member-among l x m = lt-ltb _ _ (member-slot m)

  -- two lists with the same members have the same values among them
  pub among_same :
      (l m : List A)
      → ((x : A) → Memᴰ x l → Memᴰ x m)
      → ((x : A) → Memᴰ x m → Memᴰ x l)
      → (x : A)
      → among same l x ≡ among same m x
  among_same l m f g x =
      both_ways _ _
      (λ e. member-among m x (f x (among-member l x e)))
      (λ e. member-among l x (g x (among-member m x e)))

  -- what stands at a value's slot is the value
  slot-holds : (l : List A) (x : A) → slot_of same l x < length l → get_elem? l (slot_of same l x) ≡ some x
  unfolding slot_of
  slot-holds [] x = λ h. absurd (omega arith)
  slot-holds (y ∷ ys) x =
      let below = slot-holds ys x in
      by-test (λ (n : ℕ). n < suc (length ys) → get_elem? (y ∷ ys) n ≡ some x) (same y x) _ _
      (λ e _. ap some ((t.exactly y x).0 e))
      (λ _ h. below (omega arith))

  pub at_slot : (l : List A) (x : A) → Memᴰ x l → get_elem? l (slot_of same l x) ≡ some x
  at_slot l x m = slot-holds l x (member-slot m)
