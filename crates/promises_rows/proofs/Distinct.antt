-- `distinct` is what its name says: no value stands there twice. So its length is the number of distinct values, and lists with the same
-- members have the same number. Assumes nothing.
use mathlib.Core.Path.{◌≡◌, refl, sym, ap, subst}
use mathlib.Core.Logic.{⊎_elim}
use mathlib.Core.List.Memᴰ
use mathlib.Core.List.{
  List,
  [],
  ◌∷◌,
  ◌++◌,
  Memᴰ,
}
use Prim.Native.Nat.{◌≤◌, zero-le}
use native.Mathlib.Omega.{arith}
use lib.ListN.{length, length-append}
use Rattle.promises_rows.specs.Said.{arrive, arrived, distinct, Once, EachOnce, ticks_said, headings_said, ticks_of, headings_of, TicksDistinct, HeadingsDistinct}
use Rattle.promises_rows.specs.Said.Once.{none, more}
use Rattle.promises_rows.proofs.Equality.{Same, Same_ℕ, Same_ℤ}
use Rattle.promises_rows.proofs.Arriving.{in-or-out, member-in, in-member, arrive-in, arrive-out, distinct-has, distinct-only}

module _ {A : Type 0} where
  once_more : {l : List A} (x : A) → Once l → (Memᴰ x l → ⊥) → Once (l ++ (x ∷ []))
  once_more x none out = more Memᴰ.not-nil none
  once_more x (more {x = y} {xs = ys} n o) out =
      more (λ m. ⊎_elim n (λ z. out (Memᴰ.head (sym (Memᴰ.eq_of_singleton z)))) (Memᴰ.append_cases ys m))
      (once_more x o (λ m. out (Memᴰ.tail m)))

  split : {x : A} {l : List A} → Memᴰ x l → (pre : List A) × (post : List A) × (l ≡ pre ++ (x ∷ post))
  split (Memᴰ.head {xs = ys} e) = ([], ys, ap (λ (z : A). z ∷ ys) (sym e))
  split (Memᴰ.tail {x = y} m) = let s = split m in (y ∷ s.0, s.1, ap (λ (l : List A). y ∷ l) s.2)

  -- a member of the list that is not the one taken out is a member of the rest
  left_over : (pre post : List A) (x y : A) → (y ≡ x → ⊥) → Memᴰ y (pre ++ (x ∷ post)) → Memᴰ y (pre ++ post)
  left_over pre post x y ne m =
      ⊎_elim
      (λ a. Memᴰ.append_left post a)
      (λ b. ⊎_elim (λ e. absurd (ne e)) (λ n. Memᴰ.append_right pre n) (Memᴰ.cases_cons b))
      (Memᴰ.append_cases pre m)

  -- a list with no repeats is no longer than one that has its members
  pub once-length : {l : List A} → Once l → (m : List A) → ((x : A) → Memᴰ x l → Memᴰ x m) → length l ≤ length m
  once-length none m f = zero-le
  once-length (more {x = x} {xs = xs} n o) m f =
      let s = split (f x (Memᴰ.head refl)) in
      let below =
      once-length o (s.0 ++ s.1)
      (λ y k.
      left_over s.0 s.1 x y (λ e. n (subst (λ (z : A). Memᴰ z xs) e k))
      (subst (Memᴰ y) s.2 (f y (Memᴰ.tail k))))
      in
      let a = length-append s.0 s.1 in
      let b = length-append s.0 (x ∷ s.1) in
      let e = ap length s.2 in
      omega arith

module _ {A : Type 0} (E : Same A) where
  arrive-once : (l : List A) (x : A) → Once l → Once (arrive E.eq l x)
  arrive-once l x o =
      ⊎_elim
      (λ h. rw (arrive-in E l x h) o)
      (λ h. rw (arrive-out E l x h) (once_more x o (λ m. let k = member-in E m in omega arith)))
      (in-or-out E l x)

  arrived-once : (l xs : List A) → Once l → Once (arrived E.eq l xs)
  unfolding arrived
  arrived-once l [] o = o
  arrived-once l (x ∷ xs) o = arrived-once (arrive E.eq l x) xs (arrive-once l x o)

  pub distinct-once : (xs : List A) → Once (distinct E.eq xs)
  unfolding distinct
  distinct-once xs = arrived-once [] xs none

  -- the same members, of which there are as many
  pub distinct-members : (xs : List A) (y : A) → Memᴰ y (distinct E.eq xs) → Memᴰ y xs
  distinct-members xs y m = distinct-only E xs y (member-in E m)

  pub members-distinct : (xs : List A) (y : A) → Memᴰ y xs → Memᴰ y (distinct E.eq xs)
  members-distinct xs y m = in-member E (distinct E.eq xs) y (distinct-has E m)

  distinct-fewer : (xs ys : List A) → ((x : A) → Memᴰ x xs → Memᴰ x ys) → length (distinct E.eq xs) ≤ length (distinct E.eq ys)
  distinct-fewer xs ys f =
      once-length (distinct-once xs) (distinct E.eq ys) (λ x m. members-distinct ys x (f x (distinct-members xs x m)))

  pub distinct-count : (xs ys : List A) → ((x : A) → Memᴰ x xs → Memᴰ x ys) → ((x : A) → Memᴰ x ys → Memᴰ x xs)
      → length (distinct E.eq xs) ≡ length (distinct E.eq ys)
  distinct-count xs ys f g = let a = distinct-fewer xs ys f in let b = distinct-fewer ys xs g in omega arith

  pub distinct-each : (xs : List A) → EachOnce (distinct E.eq xs) xs
  distinct-each xs = record { once = distinct-once xs; values = λ y. (distinct-members xs y, members-distinct xs y) }

-- ---- the frequencies and headings of rows

pub ticks-distinct : TicksDistinct
unfolding ticks_of
ticks-distinct rows = distinct-each Same_ℕ (ticks_said rows)

pub headings-distinct : HeadingsDistinct
unfolding headings_of
headings-distinct rows = distinct-each Same_ℤ (headings_said rows)
