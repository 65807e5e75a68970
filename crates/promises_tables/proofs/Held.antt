-- Slots as they stand: which values they hold and in which slot, and what one value more changes. A value that is held keeps its slot, and a new one takes a free slot where there is
-- one; where there is none it is one too many. Any slot of a frequency may be free. Assumes nothing.
use mathlib.Core.Bool.{Bool, true, false, cond}
use mathlib.Core.List.{
  List,
  [],
  ◌∷◌,
  ◌++◌,
  append_assoc,
  append-nil,
  Memᴰ,
}
use mathlib.Core.Logic.{◌⊎◌, inl, inr, ⊎_elim}
use mathlib.Core.Path.{◌≡◌, refl, sym, ap, ◌∙◌, subst}
use Prim.Native.Nat.{ℕ, zero, suc, ◌≤◌, ◌<◌}
use native.Mathlib.Numerals.{add-one}
use native.Mathlib.Omega.{arith}
use native.Mathlib.Decide.{dec_lt}
use lib.Dec.{eqb}
use lib.IntN.{ℤ, pos}
use lib.ListN.{length, get_or, set, take, drop, length-set, take-append-drop}
use lib.Seq.{length-take-le, drop-cons, set_split, set-get_or, get_or-take, get_or-set_other, take-suc-set}
use borrow.Author.Tests.{lt-ltb, le-ltb, eqb-true, eq-eqb, ne_eqb}
use Rattle.whole.specs.Same.{same_ℤ}
use Rattle.row.proofs.Used.{by-test}
use Rattle.row.specs.declared.reading.Entry.{Entry}
use Rattle.grid.specs.Slots.{slot_of, tick_slot, with_tick, held_ticks, heading_slot, with_heading, held_with}
use Rattle.table.proofs.Ascending.{held-le, held-append}
use Rattle.neighbours.proofs.Neighbours.{held-above}
use Rattle.promises_rows.specs.Said.{distinct, Once, EachOnce, ticks_said, headings_said, ticks_of, headings_of}
use Rattle.promises_rows.specs.Said.Once.{more}
use Rattle.promises_tables.specs.Holds.{TickSlots, HeadingSlots}
use Rattle.promises_rows.proofs.Equality.{Same, Same_ℕ, Same_ℤ, same_false}
use Rattle.promises_rows.proofs.Arriving.{
  In,
  Out,
  in-or-out,
  get-slot,
  slot-injective,
  slot-before,
  slot-last,
  in-member,
  member-in,
  distinct-length,
}
use Rattle.promises_rows.proofs.Distinct.{once-length, distinct-each, ticks-distinct, headings-distinct}
use Rattle.promises_calls.proofs.SlotsOnce.{held-member}

-- ---- another value in a slot

module _ {A : Type 0} (E : Same A) where
  -- that of a third value, which did not stand there, is as it was
  slot-set-other :
      (l : List A) (i : ℕ) (v x d : A) → (get_or l i d ≡ x → ⊥) → (v ≡ x → ⊥) → slot_of E.eq (set l i v) x ≡ slot_of E.eq l x
  unfolding slot_of
  slot-set-other [] i v x d n m = refl
  slot-set-other (y ∷ ys) zero v x d n m = rw (same_false E v x m, same_false E y x n)
  slot-set-other (y ∷ ys) (suc i) v x d n m = ap (λ (k : ℕ). cond (E.eq y x) zero (suc k)) (slot-set-other ys i v x d n m)

  -- and its own is the one that it was put in
  slot-set-new : (l : List A) (i : ℕ) (v : A) → i < length l → Out E l v → slot_of E.eq (set l i v) v ≡ i
  unfolding slot_of
  slot-set-new [] i v h out = absurd (omega arith)
  slot-set-new (y ∷ ys) zero v h out = rw (E.self v)
  slot-set-new (y ∷ ys) (suc i) v h out = go (E.eq y v) (slot-set-new ys i v (omega arith)) out
    where
      go : (t : Bool) → (Out E ys v → slot_of E.eq (set ys i v) v ≡ i) → cond t zero (suc (slot_of E.eq ys v)) ≡ suc (length ys)
          → cond t zero (suc (slot_of E.eq (set ys i v) v)) ≡ suc i
      go true f e = absurd (omega arith)
      go false f e = ap suc (f (omega arith))

  -- a value put where it stands changes nothing
  set-again : (l : List A) (x : A) → In E l x → set l (slot_of E.eq l x) x ≡ l
  set-again l x h =
      let i = slot_of E.eq l x in ap (λ (v : A). set l i v) (sym (get-slot E l x x h)) ∙ set-get_or l i x

-- ---- values that stand each once

module _ {A : Type 0} where
  -- how many there are is told by what is said
  each-length : {l m said : List A} → EachOnce l said → EachOnce m said → length l ≡ length m
  each-length {l} {m} a b =
      let f = once-length a.once m (λ x k. (b.values x).1 ((a.values x).0 k)) in
      let g = once-length b.once l (λ x k. (a.values x).1 ((b.values x).0 k)) in
      omega arith

  once-insert : (xs ys : List A) (x : A) → Once (xs ++ ys) → (Memᴰ x (xs ++ ys) → ⊥) → Once (xs ++ (x ∷ ys))
  once-insert [] ys x o out = more out o
  once-insert (y ∷ xs) ys x (more n o) out =
      more
      (λ m.
      ⊎_elim
      (λ a. n (mathlib.Core.List.Memᴰ.append_left ys a))
      (λ b. ⊎_elim (λ e. out (mathlib.Core.List.Memᴰ.head (sym e))) (λ c. n (mathlib.Core.List.Memᴰ.append_right xs c)) (mathlib.Core.List.Memᴰ.cases_cons b))
      (mathlib.Core.List.Memᴰ.append_cases xs m))
      (once-insert xs ys x o (λ m. out (mathlib.Core.List.Memᴰ.tail m)))

  -- one that is said once more
  each_again : {l said : List A} {x : A} → EachOnce l said → Memᴰ x said → EachOnce l (said ++ (x ∷ []))
  each_again {l} {said} {x} a m =
      record {
        once = a.once;
        values = λ y. (
          (λ k. mathlib.Core.List.Memᴰ.append_left (x ∷ []) ((a.values y).0 k)),
          (λ k.
              ⊎_elim (a.values y).1 (λ e. subst (λ (z : A). Memᴰ z l) (sym (mathlib.Core.List.Memᴰ.eq_of_singleton e)) ((a.values x).1 m))
              (mathlib.Core.List.Memᴰ.append_cases said k)),
        );
      }

  -- a new one, wherever it is put
  each-insert :
      (xs ys : List A) {l said : List A} (x : A) → l ≡ xs ++ ys → EachOnce l said → (Memᴰ x said → ⊥)
      → EachOnce (xs ++ (x ∷ ys)) (said ++ (x ∷ []))
  each-insert xs ys {l} {said} x e a out =
      record {
        once = once-insert xs ys x (subst Once e a.once) (λ m. out ((a.values x).0 (subst (Memᴰ x) (sym e) m)));
        values = λ y. (
          (λ m.
              ⊎_elim
              (λ k. old y (mathlib.Core.List.Memᴰ.append_left ys k))
              (λ b. ⊎_elim (λ z. mathlib.Core.List.Memᴰ.append_right said (mathlib.Core.List.Memᴰ.head z)) (λ k. old y (mathlib.Core.List.Memᴰ.append_right xs k)) (mathlib.Core.List.Memᴰ.cases_cons b))
              (mathlib.Core.List.Memᴰ.append_cases xs m)),
          (λ m.
              ⊎_elim
              (λ k. beside y (subst (Memᴰ y) e ((a.values y).1 k)))
              (λ z. mathlib.Core.List.Memᴰ.append_right xs (mathlib.Core.List.Memᴰ.head (mathlib.Core.List.Memᴰ.eq_of_singleton z)))
              (mathlib.Core.List.Memᴰ.append_cases said m)),
        );
      }
    where
      old : (y : A) → Memᴰ y (xs ++ ys) → Memᴰ y (said ++ (x ∷ []))
      old y m = mathlib.Core.List.Memᴰ.append_left (x ∷ []) ((a.values y).0 (subst (Memᴰ y) (sym e) m))

      beside : (y : A) → Memᴰ y (xs ++ ys) → Memᴰ y (xs ++ (x ∷ ys))
      beside y m = ⊎_elim (λ k. mathlib.Core.List.Memᴰ.append_left (x ∷ ys) k) (λ k. mathlib.Core.List.Memᴰ.append_right xs (mathlib.Core.List.Memᴰ.tail k)) (mathlib.Core.List.Memᴰ.append_cases xs m)

-- ---- one value more, and two

module _ {A : Type 0} (E : Same A) where
  -- with a new value there is one distinct value more
  each_more : {l said : List A} {x : A} → EachOnce l said → (Memᴰ x said → ⊥) → suc (length l) ≡ length (distinct E.eq (said ++ (x ∷ [])))
  each_more {l} {said} {x} a out = each-length (each-insert [] l x refl a out) (distinct-each E (said ++ (x ∷ [])))

  -- What comes of a value after those said, by the slots before it and after it: it has one of the slots, each value said before keeps its own, and the slots hold them all; or it has
  -- the number of slots for its slot, and is one value too many.
  pub data Arrives (cap slot : ℕ) (said : List A) (x : A) (before after : A → ℕ) (Held : List A → Type 0) : Type 0 where
    fits : slot < cap → slot ≡ after x → ((y : A) → Memᴰ y said → after y ≡ before y) → Held (said ++ (x ∷ [])) → Arrives cap slot said x before after Held
    over : slot ≡ cap → cap < length (distinct E.eq (said ++ (x ∷ []))) → Arrives cap slot said x before after Held

  pub data Two (cap i j : ℕ) (said : List A) (x y : A) (before after : A → ℕ) (Held : List A → Type 0) : Type 0 where
    fit : i < cap → j < cap → i ≡ after x → j ≡ after y → ((z : A) → Memᴰ z said → after z ≡ before z) → Held (said ++ (x ∷ (y ∷ [])))
        → Two cap i j said x y before after Held
    full : (i ≡ cap) ⊎ (j ≡ cap) → cap < length (distinct E.eq (said ++ (x ∷ (y ∷ [])))) → Two cap i j said x y before after Held

  module _ {cap i j : ℕ} {said : List A} {x y : A} {before middle after : A → ℕ} {H₂ : List A → Type 0} where
    then : i < cap → i ≡ middle x → ((z : A) → Memᴰ z said → middle z ≡ before z) → Arrives cap j (said ++ (x ∷ [])) y middle after H₂
        → Two cap i j said x y before after H₂
    then h e k (fits h' e' k' held) =
        fit h h'
        (e ∙ sym (k' x (mathlib.Core.List.Memᴰ.append_right said (mathlib.Core.List.Memᴰ.head refl))))
        e'
        (λ z m. k' z (mathlib.Core.List.Memᴰ.append_left (x ∷ []) m) ∙ k z m)
        (subst H₂ (append_assoc said (x ∷ []) (y ∷ [])) held)
    then h e k (over e' n) = full (inr e') (rw (append_assoc said (x ∷ []) (y ∷ [])) at n)

    pub two : {H₁ : List A → Type 0} → Arrives cap i said x before middle H₁ → (H₁ (said ++ (x ∷ [])) → Arrives cap j (said ++ (x ∷ [])) y middle after H₂)
        → Two cap i j said x y before after H₂
    two (fits h e k held) f = then h e k (f held)
    two (over e n) f =
        let m = distinct-length E (said ++ (x ∷ [])) (y ∷ []) in
        let o = ap (λ (l : List A). length (distinct E.eq l)) (append_assoc said (x ∷ []) (y ∷ [])) in
        full (inl e) (omega arith)

-- ---- frequencies

member-held : (l : List ℕ) (t : ℕ) → 0 < t → Memᴰ t l → Memᴰ t (held_ticks l)
unfolding held_ticks
member-held [] t some m = m
member-held (y ∷ ys) t some m =
    let below = member-held ys t some in
    by-test (Memᴰ t) (eqb y 0) _ _
    (λ z. ⊎_elim (λ e. absurd (let n = eqb-true y 0 z in omega arith)) below (mathlib.Core.List.Memᴰ.cases_cons m))
    (λ _. ⊎_elim (λ e. mathlib.Core.List.Memᴰ.head e) (λ n. mathlib.Core.List.Memᴰ.tail (below n)) (mathlib.Core.List.Memᴰ.cases_cons m))

-- where no slot is free all are held
held-full : (l : List ℕ) → Out Same_ℕ l 0 → length (held_ticks l) ≡ length l
unfolding held_ticks slot_of
held-full [] out = refl
held-full (t ∷ ts) out = go (eqb t 0) (held-full ts) out
  where
    go : (b : Bool) → (Out Same_ℕ ts 0 → length (held_ticks ts) ≡ length ts) → cond b zero (suc (slot_of eqb ts 0)) ≡ suc (length ts)
        → length (cond b (held_ticks ts) (t ∷ held_ticks ts)) ≡ suc (length ts)
    go true f e = absurd (omega arith)
    go false f e = ap suc (f (omega arith))

-- a frequency put in a free slot stands among those held before and behind it
module _ (l : List ℕ) (free : In Same_ℕ l 0) where
  abbrev slot : ℕ
  slot = slot_of eqb l 0

  held-around : held_ticks l ≡ held_ticks (take slot l) ++ held_ticks (drop (suc slot) l)
  unfolding held_ticks
  held-around =
      ap held_ticks (sym (take-append-drop slot l) ∙ ap (λ (m : List ℕ). take slot l ++ m) (drop-cons l slot 0 free))
      ∙ held-append (take slot l) (get_or l slot 0 ∷ drop (suc slot) l)
      ∙ ap (λ (z : ℕ). held_ticks (take slot l) ++ held_ticks (z ∷ drop (suc slot) l)) (get-slot Same_ℕ l 0 0 free)

  held-between : (t : ℕ) → 0 < t → held_ticks (set l slot t) ≡ held_ticks (take slot l) ++ (t ∷ held_ticks (drop (suc slot) l))
  unfolding held_ticks
  held-between t some =
      ap held_ticks (set_split l slot t free)
      ∙ held-append (take slot l) (t ∷ drop (suc slot) l)
      ∙ ap (λ (b : Bool). held_ticks (take slot l) ++ cond b (held_ticks (drop (suc slot) l)) (t ∷ held_ticks (drop (suc slot) l))) (ne_eqb t 0 (λ e. omega arith))

module _ (l said : List ℕ) (s : TickSlots l said) where
  -- what is said has a slot of its own, and is not 0
  pub tick-in : (t : ℕ) → Memᴰ t said → In Same_ℕ l t
  tick-in t m = member-in Same_ℕ (held-member l t ((s.each.values t).1 m))

  pub tick-some : (t : ℕ) → Memᴰ t said → 0 < t
  tick-some t m = held-above l t ((s.each.values t).1 m)

  pub tick-one : (t u : ℕ) → Memᴰ t said → Memᴰ u said → slot_of eqb l t ≡ slot_of eqb l u → t ≡ u
  tick-one t u m n e = slot-injective Same_ℕ l t u (tick-in t m) (tick-in u n) e

  -- a frequency that has a slot is said
  in-said : (t : ℕ) → 0 < t → In Same_ℕ l t → Memᴰ t said
  in-said t some h = (s.each.values t).0 (member-held l t some (in-member Same_ℕ l t h))

  -- one that stands there
  slot-old : (t : ℕ) → In Same_ℕ l t → tick_slot l t ≡ slot_of eqb l t
  unfolding tick_slot
  slot-old t h = rw (lt-ltb (slot_of eqb l t) (length l) h)

  with-old : (t : ℕ) → In Same_ℕ l t → with_tick l t ≡ l
  unfolding with_tick
  with-old t h = ap (λ (i : ℕ). set l i t) (slot-old t h) ∙ set-again Same_ℕ l t h

  -- a new one
  slot-new : (t : ℕ) → Out Same_ℕ l t → tick_slot l t ≡ slot_of eqb l 0
  unfolding tick_slot
  slot-new t h = rw (le-ltb (slot_of eqb l t) (length l) (omega arith))

  pub slot-lowest : (t : ℕ) → 0 < t → (Memᴰ t said → ⊥) → tick_slot l t ≡ slot_of eqb l 0
  slot-lowest t some out = ⊎_elim (λ h. absurd (out (in-said t some h))) (slot-new t) (in-or-out Same_ℕ l t)

  with-new : (t : ℕ) → Out Same_ℕ l t → with_tick l t ≡ set l (slot_of eqb l 0) t
  unfolding with_tick
  with-new t h = ap (λ (i : ℕ). set l i t) (slot-new t h)

  module _ (t : ℕ) (some : 0 < t) where
    old-tick : In Same_ℕ l t → Arrives Same_ℕ 20 (tick_slot l t) said t (slot_of eqb l) (slot_of eqb (with_tick l t)) (TickSlots (with_tick l t))
    old-tick h =
        let n = s.long in
        rw (slot-old t h, with-old t h)
        (fits (omega arith) refl (λ y m. refl) (record { long = s.long; each = each_again s.each (in-said t some h) }))

    new-tick : Out Same_ℕ l t → In Same_ℕ l 0 → Arrives Same_ℕ 20 (tick_slot l t) said t (slot_of eqb l) (slot_of eqb (with_tick l t)) (TickSlots (with_tick l t))
    new-tick h free =
        let n = s.long in
        let out : Memᴰ t said → ⊥ = λ m. let k = tick-in t m in omega arith in
        let i = slot_of eqb l 0 in
        rw (slot-new t h, with-new t h)
        (fits (omega arith)
        (sym (slot-set-new Same_ℕ l i t free h))
        (λ y m.
        slot-set-other Same_ℕ l i t y 0
        (λ e. let z = get-slot Same_ℕ l 0 0 free in let k = tick-some y m in omega arith)
        (λ e. out (subst (λ (z : ℕ). Memᴰ z said) (sym e) m)))
        (record {
          long = length-set l i t ∙ s.long;
          each = rw (held-between l free t some) (each-insert (held_ticks (take i l)) (held_ticks (drop (suc i) l)) t (held-around l free) s.each out);
        }))

    no-tick : Out Same_ℕ l t → Out Same_ℕ l 0 → Arrives Same_ℕ 20 (tick_slot l t) said t (slot_of eqb l) (slot_of eqb (with_tick l t)) (TickSlots (with_tick l t))
    no-tick h none_free =
        let n = s.long in
        let e = slot-new t h in
        let c = held-full l none_free in
        let m = each_more Same_ℕ {x = t} s.each (λ k. let i = tick-in t k in omega arith) in
        over (omega arith) (omega arith)

    pub tick-arrives : Arrives Same_ℕ 20 (tick_slot l t) said t (slot_of eqb l) (slot_of eqb (with_tick l t)) (TickSlots (with_tick l t))
    tick-arrives = ⊎_elim old-tick (λ h. ⊎_elim (new-tick h) (no-tick h) (in-or-out Same_ℕ l 0)) (in-or-out Same_ℕ l t)

-- ---- headings

module _ (l : List ℤ) (held : ℕ) (said : List ℤ) (s : HeadingSlots l held said) where
  held-count : length (take held l) ≡ held
  held-count = length-take-le held l (let n = s.long in let f = s.few in omega arith)

  heading-there : (h : ℤ) → Memᴰ h said → In Same_ℤ (take held l) h
  heading-there h m = member-in Same_ℤ ((s.each.values h).1 m)

  pub heading-in : (h : ℤ) → Memᴰ h said → heading_slot l held h < 4
  unfolding heading_slot
  heading-in h m = let k = heading-there h m in let c = held-count in let f = s.few in omega arith

  pub heading-one : (g h : ℤ) → Memᴰ g said → Memᴰ h said → heading_slot l held g ≡ heading_slot l held h → g ≡ h
  unfolding heading_slot
  heading-one g h m n e = slot-injective Same_ℤ (take held l) g h (heading-there g m) (heading-there h n) e

  -- one that is held
  module _ (h : ℤ) (k : In Same_ℤ (take held l) h) where
    below-held : heading_slot l held h < held
    unfolding heading_slot
    below-held = let c = held-count in omega arith

    with-same : with_heading l held h ≡ l
    unfolding with_heading heading_slot
    with-same =
        let i = slot_of same_ℤ (take held l) h in
        let c = held-count in
        ap (set l i) (sym (sym (get_or-take held l i (pos 0) (omega arith)) ∙ get-slot Same_ℤ (take held l) h (pos 0) k)) ∙ set-get_or l i (pos 0)

    held_same : held_with l held h ≡ held
    unfolding held_with
    held_same = let b = below-held in rw (ne_eqb (heading_slot l held h) held (λ z. omega arith))

    old-heading : Arrives Same_ℤ 4 (heading_slot l held h) said h (heading_slot l held) (heading_slot (with_heading l held h) (held_with l held h)) (HeadingSlots (with_heading l held h) (held_with l held h))
    old-heading =
        let b = below-held in
        let f = s.few in
        rw (with-same, held_same)
        (fits (omega arith) refl (λ y m. refl)
        (record { long = s.long; few = s.few; each = each_again s.each ((s.each.values h).0 (in-member Same_ℤ (take held l) h k)); behind = s.behind }))

  -- a new one
  module _ (h : ℤ) (k : Out Same_ℤ (take held l) h) where
    at_held : heading_slot l held h ≡ held
    unfolding heading_slot
    at_held = let c = held-count in omega arith

    with-next : with_heading l held h ≡ set l held h
    unfolding with_heading
    with-next = ap (λ (i : ℕ). set l i h) at_held

    held_next : held_with l held h ≡ suc held
    unfolding held_with
    held_next = rw (eq-eqb (heading_slot l held h) held at_held, add-one)

    not-said : Memᴰ h said → ⊥
    not-said m = let i = heading-there h m in omega arith

    new-heading : held < 4
        → Arrives Same_ℤ 4 (heading_slot l held h) said h (heading_slot l held) (heading_slot (with_heading l held h) (held_with l held h)) (HeadingSlots (with_heading l held h) (held_with l held h))
    unfolding heading_slot
    new-heading room =
        let a = at_held in
        let c = held-count in
        let n = s.long in
        let more : take (suc held) (set l held h) ≡ take held l ++ (h ∷ []) = take-suc-set l held h (omega arith) in
        rw (with-next, held_next)
        (fits (omega arith)
        (rw more (omega (arith, slot-last Same_ℤ (take held l) h k)))
        (λ y m. rw more (slot-before Same_ℤ (take held l) (h ∷ []) y (heading-there y m)))
        (record {
          long = length-set l held h ∙ s.long;
          few = omega arith;
          each = rw more (each-insert (take held l) [] h (sym (append-nil (take held l))) s.each not-said);
          behind = λ i b. get_or-set_other l held i h (pos 0) (λ z. omega arith) ∙ s.behind i (omega arith);
        }))

    no-heading : 4 ≤ held
        → Arrives Same_ℤ 4 (heading_slot l held h) said h (heading_slot l held) (heading_slot (with_heading l held h) (held_with l held h)) (HeadingSlots (with_heading l held h) (held_with l held h))
    no-heading many =
        let a = at_held in
        let c = held-count in
        let f = s.few in
        let m = each_more Same_ℤ {x = h} s.each not-said in
        over (omega arith) (omega arith)

  pub heading-arrives : (h : ℤ)
      → Arrives Same_ℤ 4 (heading_slot l held h) said h (heading_slot l held) (heading_slot (with_heading l held h) (held_with l held h)) (HeadingSlots (with_heading l held h) (held_with l held h))
  heading-arrives h =
      ⊎_elim (old-heading h) (λ k. elim (dec_lt held 4) [ yes room ↦ new-heading h k room | no many ↦ no-heading h k (omega arith) ])
      (in-or-out Same_ℤ (take held l) h)

-- ---- how many are held

module _ (rows : List Entry) where
  pub ticks-count : {l : List ℕ} → TickSlots l (ticks_said rows) → length (held_ticks l) ≡ length (ticks_of rows)
  ticks-count s = each-length s.each (ticks-distinct rows)

  pub ticks-few : {l : List ℕ} → TickSlots l (ticks_said rows) → length (ticks_of rows) ≤ 20
  ticks-few {l} s = let e = ticks-count s in let h = held-le l in let n = s.long in omega arith

  pub headings-count : {l : List ℤ} {held : ℕ} → HeadingSlots l held (headings_said rows) → held ≡ length (headings_of rows)
  headings-count {l} {held} s = sym (held-count l held (headings_said rows) s) ∙ each-length s.each (headings-distinct rows)

  pub headings-few : {l : List ℤ} {held : ℕ} → HeadingSlots l held (headings_said rows) → length (headings_of rows) ≤ 4
  headings-few s = let e = headings-count s in let f = s.few in omega arith
