-- Slots by index: a value that has a slot stands there and in none before; a value more takes a slot of its own, and all that stood stays. Assumes nothing.
use mathlib.Core.Bool.{true≢false}
use mathlib.Core.List.{List, [], ◌∷◌}
use mathlib.Core.Logic.{⊎_elim}
use mathlib.Core.Path.{◌≡◌, sym, ap, ◌∙◌}
use Prim.Native.Nat.{ℕ, zero, suc, ◌+◌, ◌≤◌, ◌<◌}
use native.Mathlib.Omega.{arith}
use native.Mathlib.Decide.{dec_lt, ℕ_discrete}
use lib.Dec.{eqb}
use lib.IntN.{ℤ, pos}
use lib.ListN.{length, get_or, set, take, length-take}
use lib.Seq.{get_or-set_same, get_or-set_other, set-get_or, get_or-take}
use borrow.Author.Tests.{lt-ltb, le-ltb, eqb-false, eq-eqb, ne_eqb}
use Rattle.whole.specs.Same.{same_ℤ}
use Rattle.row.proofs.Used.{by-test}
use Rattle.grid.specs.Slots.{slot_of, tick_slot, with_tick, heading_slot, with_heading, held_with}
use Rattle.promises_rows.proofs.Equality.{Same, Same_ℕ, Same_ℤ, same_true}
use Rattle.promises_rows.proofs.Arriving.{In, Out, slot-le, in-or-out, get-slot}
use Rattle.promises_written_rows.specs.WrittenRows.{StandsIn, TickTakes, HeadingTakes}

module _ {A : Type 0} (E : Same A) where
  -- no slot before that of a value holds it
  before-slot : (l : List A) (x d : A) (j : ℕ) → j < slot_of E.eq l x → get_or l j d ≡ x → ⊥
  unfolding slot_of
  before-slot [] x d j h e = omega arith
  before-slot (y ∷ ys) x d zero h e =
      by-test (λ (n : ℕ). zero < n → ⊥) (E.eq y x) _ _ (λ _ k. omega arith) (λ f k. true≢false (sym (same_true E y x e) ∙ f)) h
  before-slot (y ∷ ys) x d (suc j) h e =
      let below = before-slot ys x d j in
      by-test (λ (n : ℕ). suc j < n → ⊥) (E.eq y x) _ _ (λ _ k. omega arith) (λ _ k. below (omega arith) e) h

  pub slot-stands : (l : List A) (x d : A) → In E l x → StandsIn l d (slot_of E.eq l x) x
  slot-stands l x d h = record { there = get-slot E l x d h; first = λ j k. before-slot l x d j k }

  pub stands-slot : (l : List A) (x d : A) (i : ℕ) → i < length l → StandsIn l d i x → slot_of E.eq l x ≡ i
  stands-slot l x d i h s =
      let k = slot_of E.eq l x in
      elim (dec_lt k i) [
        | yes low ↦ absurd (s.first k low (get-slot E l x d (omega arith)))
        | no not_low ↦ elim (dec_lt i k) [ yes high ↦ absurd (before-slot l x d i high s.there) | no not-high ↦ omega arith ]
      ]

  -- where no slot holds a value, no index does
  out_none : (l : List A) (x d : A) (i : ℕ) → Out E l x → i < length l → get_or l i d ≡ x → ⊥
  out_none l x d i out h e = before-slot l x d i (omega arith) e

-- ---- frequencies

module _ (l : List ℕ) (t : ℕ) where
  slot-old : In Same_ℕ l t → tick_slot l t ≡ slot_of eqb l t
  unfolding tick_slot
  slot-old h = rw (lt-ltb (slot_of eqb l t) (length l) h)

  slot-new : Out Same_ℕ l t → tick_slot l t ≡ slot_of eqb l 0
  unfolding tick_slot
  slot-new h = rw (le-ltb (slot_of eqb l t) (length l) (omega arith))

  with-old : In Same_ℕ l t → with_tick l t ≡ l
  unfolding with_tick
  with-old h =
      ap (λ (i : ℕ). set l i t) (slot-old h)
      ∙ ap (λ (v : ℕ). set l (slot_of eqb l t) v) (sym (get-slot Same_ℕ l t 0 h))
      ∙ set-get_or l (slot_of eqb l t) 0

  with-new : Out Same_ℕ l t → with_tick l t ≡ set l (slot_of eqb l 0) t
  unfolding with_tick
  with-new h = ap (λ (i : ℕ). set l i t) (slot-new h)

  pub tick-rest : (i : ℕ) → (i ≡ tick_slot l t → ⊥) → get_or (with_tick l t) i 0 ≡ get_or l i 0
  unfolding with_tick
  tick-rest i n = get_or-set_other l (tick_slot l t) i t 0 n

  module _ (room : tick_slot l t < length l) where
    -- it stands in its slot
    pub tick-stands : StandsIn (with_tick l t) 0 (tick_slot l t) t
    tick-stands =
        ⊎_elim
        (λ h. rw (slot-old h, with-old h) (slot-stands Same_ℕ l t 0 h))
        (λ h.
        let k = slot_of eqb l 0 in
        let e = slot-new h in
        rw (e, with-new h)
        record {
          there = get_or-set_same l k t 0 (omega arith);
          first = λ j low same. out_none Same_ℕ l t 0 j h (omega arith) (sym (get_or-set_other l k j t 0 (λ z. omega arith)) ∙ same);
        })
        (in-or-out Same_ℕ l t)

    -- and what stood stays
    pub tick-keeps : (x i : ℕ) → (x ≡ 0 → ⊥) → i < length l → StandsIn l 0 i x → StandsIn (with_tick l t) 0 i x
    tick-keeps x i some h s =
        ⊎_elim
        (λ old. rw (with-old old) s)
        (λ new.
        let k = slot_of eqb l 0 in
        let e = slot-new new in
        let free : get_or l k 0 ≡ 0 = get-slot Same_ℕ l 0 0 (omega arith) in
        rw (with-new new)
        record {
          there = get_or-set_other l k i t 0 (λ z. some (sym s.there ∙ ap (λ (n : ℕ). get_or l n 0) z ∙ free)) ∙ s.there;
          first = λ j low same.
              elim (ℕ_discrete j k) [
                | yes z ↦
                    let is : t ≡ x = sym (get_or-set_same l k t 0 (omega arith)) ∙ ap (λ (n : ℕ). get_or (set l k t) n 0) (sym z) ∙ same in
                    out_none Same_ℕ l t 0 i new h (s.there ∙ sym is)
                | no z ↦ s.first j low (sym (get_or-set_other l k j t 0 z) ∙ same)
              ];
        })
        (in-or-out Same_ℕ l t)

  -- the slot that it takes, by the rule
  pub tick-takes : length l ≡ 20 → tick_slot l t < 20 → TickTakes l t (tick_slot l t)
  tick-takes long room =
      ⊎_elim
      (λ h. let e = slot-old h in rw e (TickTakes.stood (omega arith) (slot-stands Same_ℕ l t 0 h)))
      (λ h.
      let e = slot-new h in
      rw e (TickTakes.lowest-free (λ i low. out_none Same_ℕ l t 0 i h (omega arith)) (omega arith) (slot-stands Same_ℕ l 0 0 (omega arith))))
      (in-or-out Same_ℕ l t)

  pub takes-tick : {f : ℕ} → length l ≡ 20 → TickTakes l t f → tick_slot l t ≡ f
  takes-tick long (TickTakes.stood room s) =
      let e = stands-slot Same_ℕ l t 0 _ (omega arith) s in
      slot-old (omega arith) ∙ e
  takes-tick long (TickTakes.lowest-free out room s) =
      ⊎_elim
      (λ h. absurd (out (slot_of eqb l t) (omega arith) (get-slot Same_ℕ l t 0 h)))
      (λ h. slot-new h ∙ stands-slot Same_ℕ l 0 0 _ (omega arith) s)
      (in-or-out Same_ℕ l t)

-- ---- headings, of which so many are held

module _ (l : List ℤ) (held : ℕ) (h : ℤ) where
  pub heading-rest : (i : ℕ) → (i ≡ heading_slot l held h → ⊥) → get_or (with_heading l held h) i (pos 0) ≡ get_or l i (pos 0)
  unfolding with_heading
  heading-rest i n = get_or-set_other l (heading_slot l held h) i h (pos 0) n

  -- its slot is one of those held, or the next
  slot-most : heading_slot l held h ≤ held
  unfolding heading_slot
  slot-most = omega (arith, slot-le Same_ℤ (take held l) h, length-take held l)

  -- no slot before it holds it
  not-before : (j : ℕ) → j < heading_slot l held h → get_or l j (pos 0) ≡ h → ⊥
  unfolding heading_slot
  not-before j low e =
      let most = slot-le Same_ℤ (take held l) h in
      let n = length-take held l in
      before-slot Same_ℤ (take held l) h (pos 0) j low (get_or-take held l j (pos 0) (omega arith) ∙ e)

  pub held_more : heading_slot l held h < held_with l held h
  unfolding held_with
  held_more =
      let most = slot-most in
      by-test (λ (n : ℕ). heading_slot l held h < n) (eqb (heading_slot l held h) held) _ _
      (λ _. omega arith)
      (λ other. let n = eqb-false (heading_slot l held h) held other in omega arith)

  pub held-least : held ≤ held_with l held h
  unfolding held_with
  held-least = by-test (λ (n : ℕ). held ≤ n) (eqb (heading_slot l held h) held) _ _ (λ _. omega arith) (λ _. omega arith)

  -- where a heading that is held stands first, there it is found
  pub heading-at : (i : ℕ) → i < length l → i < held → StandsIn l (pos 0) i h → heading_slot l held h ≡ i
  unfolding heading_slot
  heading-at i long below s =
      let n = length-take held l in
      stands-slot Same_ℤ (take held l) h (pos 0) i (omega arith)
      record {
        there = get_or-take held l i (pos 0) below ∙ s.there;
        first = λ j low same. s.first j low (sym (get_or-take held l j (pos 0) (omega arith)) ∙ same);
      }

  module _ (room : heading_slot l held h < length l) where
    pub heading-stands : StandsIn (with_heading l held h) (pos 0) (heading_slot l held h) h
    unfolding with_heading
    heading-stands =
        let k = heading_slot l held h in
        record {
          there = get_or-set_same l k h (pos 0) room;
          first = λ j low same. not-before j low (sym (get_or-set_other l k j h (pos 0) (λ z. omega arith)) ∙ same);
        }

    -- one that is held stands there already
    same-there : heading_slot l held h < held → get_or l (heading_slot l held h) (pos 0) ≡ h
    unfolding heading_slot
    same-there low =
        let k = slot_of same_ℤ (take held l) h in
        let n = length-take held l in
        sym (get_or-take held l k (pos 0) low) ∙ get-slot Same_ℤ (take held l) h (pos 0) (omega (arith, room))

    with-same : heading_slot l held h < held → with_heading l held h ≡ l
    unfolding with_heading
    with-same low =
        let k = heading_slot l held h in ap (λ (v : ℤ). set l k v) (sym (same-there low)) ∙ set-get_or l k (pos 0)

    pub heading-keeps : (x : ℤ) (i : ℕ) → i < held → StandsIn l (pos 0) i x → StandsIn (with_heading l held h) (pos 0) i x
    heading-keeps x i below s =
        elim (dec_lt (heading_slot l held h) held) [
          | yes low ↦ rw (with-same low) s
          | no high ↦
              let most = slot-most in
              record {
                there = heading-rest i (λ z. omega arith) ∙ s.there;
                first = λ j low same. s.first j low (sym (heading-rest j (λ z. omega arith)) ∙ same);
              }
        ]

  held_same : heading_slot l held h < held → held_with l held h ≡ held
  unfolding held_with
  held_same low = rw (ne_eqb (heading_slot l held h) held (λ e. omega arith))

  held_next : heading_slot l held h ≡ held → held_with l held h ≡ held + 1
  unfolding held_with
  held_next e = rw (eq-eqb (heading_slot l held h) held e)

  -- the slot that it takes, by the rule
  pub heading-takes : length l ≡ 4 → heading_slot l held h < 4 → HeadingTakes l held h (heading_slot l held h) (held_with l held h)
  heading-takes long room =
      elim (dec_lt (heading_slot l held h) held) [
        | yes low ↦
            HeadingTakes.stood room low
            (record { there = same-there (omega arith) low; first = λ j below. not-before j below })
            (held_same low)
        | no high ↦
            let most = slot-most in
            let e : heading_slot l held h ≡ held = omega arith in
            HeadingTakes.next (λ i below. not-before i (omega arith)) (omega arith) e (held_next e)
      ]

  pub takes-heading : {k more : ℕ} → length l ≡ 4 → HeadingTakes l held h k more → (heading_slot l held h ≡ k) × (held_with l held h ≡ more)
  takes-heading {k} long (HeadingTakes.stood room low s after) =
      let e = heading-at k (omega arith) low s in
      (e, held_same (omega arith) ∙ sym after)
  takes-heading {k} long (HeadingTakes.next out room at after) =
      let most = slot-most in
      elim (dec_lt (heading_slot l held h) held) [
        | yes low ↦ absurd (out (heading_slot l held h) low (same-there (omega arith) low))
        | no high ↦ let e : heading_slot l held h ≡ held = omega arith in (e ∙ sym at, held_next e ∙ sym after)
      ]
