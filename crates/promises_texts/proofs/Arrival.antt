-- Slots in order of arrival: as opening leaves them, and after a row that is taken. Assumes nothing.
use mathlib.Core.List.{List, [], ◌∷◌, ◌++◌, append_assoc, Memᴰ}
use mathlib.Core.Logic.{⊎_elim}
use mathlib.Core.Path.{◌≡◌, refl, sym, ap, ◌∙◌}
use Prim.Native.Nat.{ℕ, zero, suc, ◌+◌, ◌<◌}
use native.Mathlib.Omega.{arith}
use lib.Dec.{eqb}
use lib.IntN.{ℤ, pos}
use lib.ListN.{length, get_or, set, take, replicate, length-append, length-replicate, get_or-append}
use lib.Seq.{set-get_or, set_at, take_at}
use borrow.Author.Tests.{lt-ltb, le-ltb, eq-eqb, ne_eqb}
use Rattle.whole.specs.Same.{same_ℤ}
use Rattle.row.specs.declared.reading.Entry.{Entry}
use Rattle.grid.specs.declared.nodes.Slots.{Slots}
use Rattle.grid.specs.Slots.{slot_of, tick_slot, with_tick, heading_slot, with_heading, held_with}
use Rattle.table.specs.Placing.{Table, tick₁, tick₂, heading₁, heading₂, grown, placed}
use Rattle.promises_rows.specs.Said.{Proper, arrive, arrived, distinct, two_of, ticks_said, ticks_of, headings_of}
use Rattle.promises_tables.specs.Holds.{Holds}
use Rattle.promises_texts.specs.Arrival.{Filled, InArrival, OpenArrival, RowArrival}
use Rattle.promises_rows.proofs.Equality.{Same, Same_ℕ, Same_ℤ}
use Rattle.promises_rows.proofs.Arriving.{In, Out, in-or-out, get-slot, slot-before, slot-behind, slot-other, slot-replicate, in-member, arrive-in, arrive-out, length_more}
use Rattle.promises_rows.proofs.Distinct.{ticks-distinct}
use Rattle.promises_calls.proofs.Slotted.{room-is}
use Rattle.promises_rows.proofs.Said.{ticks_of-more, headings_of-more}
use Rattle.promises_tables.proofs.Held.{tick-some}
use Rattle.promises_tables.proofs.Placed.{taken-room, taken-slots}

-- ---- slots that hold the values xs in turn, and z in those behind them

module _ {A : Type 0} (E : Same A) where
  filled-length : {cap : ℕ} {z : A} {l xs : List A} → Filled cap z l xs → length l ≡ cap
  filled-length {z = z} {xs = xs} f =
      let e = length-append xs (replicate f.free z) in
      let n = length-replicate f.free z in
      let m = ap length f.all in
      let r = f.room in
      omega arith

  -- to store a value where it stands changes nothing
  filled-again : {cap : ℕ} {z : A} {l xs : List A} (x : A) → Filled cap z l xs → In E xs x → set l (slot_of E.eq xs x) x ≡ l
  filled-again {z = z} {l = l} {xs = xs} x f h =
      let i = slot_of E.eq xs x in
      let e : get_or l i x ≡ x =
      ap (λ (m : List A). get_or m i x) f.all ∙ get_or-append xs (replicate f.free z) x i h ∙ get-slot E xs x x h
      in
      ap (λ (v : A). set l i v) (sym e) ∙ set-get_or l i x

  -- to store one in the first free slot
  filled_next : {cap : ℕ} {z : A} {l xs : List A} (x : A) → Filled cap z l xs → length xs < cap
      → Filled cap z (set l (length xs) x) (xs ++ (x ∷ []))
  filled_next {cap} {z} {l} {xs} x f h = go f.free f.room f.all
    where
      go : (n : ℕ) → length xs + n ≡ cap → l ≡ xs ++ replicate n z → Filled cap z (set l (length xs) x) (xs ++ (x ∷ []))
      go zero r e = absurd (omega arith)
      go (suc n) r e =
          record {
            free = n;
            room = let m = length_more E xs x in omega arith;
            all =
                ap (λ (m : List A). set m (length xs) x) e
                ∙ set_at xs z (replicate n z) x (length xs) refl
                ∙ sym (append_assoc xs (x ∷ []) (replicate n z));
          }

-- ---- frequencies

not-zero : (t : ℕ) → 0 < t → t ≡ 0 → ⊥
not-zero t some z = omega arith

module _ (l xs : List ℕ) (f : Filled 20 0 l xs) (named : Out Same_ℕ xs 0) where
  -- one that has come stands where it first came
  slot-in : (t : ℕ) → In Same_ℕ xs t → tick_slot l t ≡ slot_of eqb xs t
  unfolding tick_slot
  slot-in t h =
      let e : slot_of eqb l t ≡ slot_of eqb xs t =
      ap (λ (m : List ℕ). slot_of eqb m t) f.all ∙ slot-before Same_ℕ xs (replicate f.free 0) t h
      in
      let n = filled-length Same_ℕ f in
      let r = f.room in
      rw (lt-ltb (slot_of eqb l t) (length l) (omega arith)) e

  -- the lowest free slot is the next
  slot-out : (t : ℕ) → 0 < t → Out Same_ℕ xs t → tick_slot l t ≡ length xs
  unfolding tick_slot
  slot-out t some h =
      let e = ap (λ (m : List ℕ). slot_of eqb m t) f.all ∙ slot-behind Same_ℕ xs (replicate f.free 0) t h in
      let o = slot-other Same_ℕ f.free 0 t (λ z. omega arith) in
      let d = ap (λ (m : List ℕ). slot_of eqb m 0) f.all ∙ slot-behind Same_ℕ xs (replicate f.free 0) 0 named in
      let p = slot-replicate Same_ℕ f.free 0 in
      let r = f.room in
      let n = filled-length Same_ℕ f in
      rw (le-ltb (slot_of eqb l t) (length l) (omega arith)) (omega arith)

  tick-filled : (t : ℕ) → 0 < t → tick_slot l t < 20 → Filled 20 0 (with_tick l t) (arrive eqb xs t)
  unfolding with_tick
  tick-filled t some room =
      ⊎_elim
      (λ h. rw (arrive-in Same_ℕ xs t h, slot-in t h, filled-again Same_ℕ t f h) f)
      (λ h. let e = slot-out t some h in rw (arrive-out Same_ℕ xs t h, slot-out t some h) (filled_next Same_ℕ t f (omega arith)))
      (in-or-out Same_ℕ xs t)

  -- 0 is none of them
  still-named : (t : ℕ) → 0 < t → Out Same_ℕ (arrive eqb xs t) 0
  still-named t some =
      ⊎_elim
      (λ h. rw (arrive-in Same_ℕ xs t h) named)
      (λ h.
      let e = slot-behind Same_ℕ xs (t ∷ []) 0 named in
      let o = slot-other Same_ℕ 1 t 0 (not-zero t some) in
      let n = length_more Same_ℕ xs t in
      rw (arrive-out Same_ℕ xs t h) (omega arith))
      (in-or-out Same_ℕ xs t)

-- ---- headings

module _ (l : List ℤ) (held : ℕ) (xs : List ℤ) (f : Filled 4 (pos 0) l xs) (count : held ≡ length xs) where
  heading-is : (h : ℤ) → heading_slot l held h ≡ slot_of same_ℤ xs h
  unfolding heading_slot
  heading-is h =
      ap (λ (m : List ℤ). slot_of same_ℤ m h) (ap (λ (m : List ℤ). take held m) f.all ∙ take_at xs (replicate f.free (pos 0)) held (sym count))

  heading-filled : (h : ℤ) → heading_slot l held h < 4
      → Filled 4 (pos 0) (with_heading l held h) (arrive same_ℤ xs h) × (held_with l held h ≡ length (arrive same_ℤ xs h))
  unfolding with_heading held_with
  heading-filled h room =
      let e = heading-is h in
      let n = length_more Same_ℤ xs h in
      ⊎_elim
      (λ k. rw (arrive-in Same_ℤ xs h k, ne_eqb (heading_slot l held h) held (λ z. omega arith), e, filled-again Same_ℤ h f k) (f, count))
      (λ k. rw (arrive-out Same_ℤ xs h k, eq-eqb (heading_slot l held h) held (omega arith), e, k) (filled_next Same_ℤ h f (omega arith), omega arith))
      (in-or-out Same_ℤ xs h)

-- ---- opening, and a row

pub open-arrival : OpenArrival
unfolding ticks_of headings_of distinct arrived two_of
open-arrival =
    record { ticks = record { free = 20; room = refl; all = refl }; headings = record { free = 4; room = refl; all = refl }; held = refl }

module _ (kind : ℕ) (rows : List Entry) (t : Table) (e : Entry) (H : Holds kind rows t) (proper : Proper kind e) (a : InArrival rows t.slots)
    (free : (placed kind e t).number ≡ 0) where
  abbrev s : Slots
  s = t.slots

  -- no frequency is 0
  ticks-named : Out Same_ℕ (ticks_of rows) 0
  ticks-named =
      ⊎_elim
      (λ h.
      let m : Memᴰ 0 (ticks_said rows) = ((ticks-distinct rows).values 0).0 (in-member Same_ℕ (ticks_of rows) 0 h) in
      absurd (let z = tick-some s.ticks (ticks_said rows) H.ticks 0 m in omega arith))
      (λ h. h)
      (in-or-out Same_ℕ (ticks_of rows) 0)

  grown-arrival : InArrival (rows ++ (e ∷ [])) (grown s e)
  unfolding grown tick₁ tick₂ heading₁ heading₂
  grown-arrival =
      let room = room-is s e (taken-room kind e t free) in
      let some₁ : 0 < e.tick1 = let h = proper.tick1.low in omega arith in
      let some₂ : 0 < e.tick2 = let h = proper.tick2.low in omega arith in
      let one = tick-filled s.ticks (ticks_of rows) a.ticks ticks-named e.tick1 some₁ room.first-tick in
      let two = heading-filled s.headings s.held (headings_of rows) a.headings a.held e.heading1 room.first-heading in
      let both = heading-filled _ _ _ two.0 two.1 e.heading2 room.second-heading in
      record {
        ticks =
            rw (ticks_of-more rows e)
            (tick-filled _ _ one (still-named s.ticks (ticks_of rows) a.ticks ticks-named e.tick1 some₁) e.tick2 some₂ room.second-tick);
        headings = rw (headings_of-more rows e) both.0;
        held = rw (headings_of-more rows e) both.1;
      }

  taken-arrival : InArrival (rows ++ (e ∷ [])) (placed kind e t).table.slots
  taken-arrival = rw (taken-slots kind e t free) grown-arrival

pub row-arrival : RowArrival
row-arrival = taken-arrival
