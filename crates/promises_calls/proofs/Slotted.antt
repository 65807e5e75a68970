-- Slots as a valid record has them, whatever its stage, and that a usable row which has room leaves them so: a tick or a heading that stands already changes
-- nothing, and a new one is in range and stands nowhere else. Assumes nothing.
use mathlib.Core.Path.{◌≡◌, refl, sym, ap, ◌∙◌}
use mathlib.Core.Bool.{Bool, true, false, cond, not, ◌&&◌, ◌||◌, false≢true}
use mathlib.Core.List.{List, [], ◌∷◌, ◌++◌}
use Prim.Native.Nat.{ℕ, zero, suc, ◌≤◌, ◌<◌}
use native.Mathlib.Numerals.{add-one}
use native.Mathlib.Omega.{arith}
use lib.Dec.{leb, eqb}
use lib.IntN.{ℤ, pos, neg_ℤ}
use lib.Signed.{le_z, lt_z}
use lib.ListN.{length, take, get_or, set, length-set}
use lib.Seq.{length-take-le, set-get_or, get_or-take, take-suc-set}
use lib.Ieee.Bits.{is_true}
use borrow.Author.Tests.{ltb-true, le-ltb, le-leb, eqb-false, ne_eqb}
use Rattle.whole.specs.Same.{same_ℤ}
use Rattle.whole.proofs.Same.{same_ℤ-yes, same_ℤ-no}
use Rattle.row.specs.declared.reading.Choices.{Choices}
use Rattle.row.specs.declared.reading.Entry.{Entry}
use Rattle.row.proofs.Used.{by-test, TickIn, HeadingIn, Usable}
use Rattle.row.proofs.Deciding.{both}
use Rattle.grid.specs.declared.nodes.Slots.{Slots}
use Rattle.grid.specs.Slots.{slot_of, tick_slot, with_tick, held_ticks, held_headings, heading_slot, with_heading, held_with, among}
use Rattle.grid.specs.Valid.{valid_ticks, valid_headings}
use Rattle.table.specs.Placing.{grown, tick₁, tick₂, heading₁, heading₂, fits}
use Rattle.grid.proofs.Places.{slot-within}
use Rattle.table.proofs.Outcomes.{Room, has_room}
use Rattle.reader.proofs.Kept.{by-eq}
use Rattle.promises_rows.proofs.Among.{not_first, not-after-set, not_behind}
use Rattle.promises_rows.proofs.Equality.{Same_ℕ, Same_ℤ}
use Rattle.promises_rows.proofs.Arriving.{get-slot}

-- frequencies and headings are both present or both absent
pub record Slotted (s : Slots) : Type 0 where
  pub held : s.held ≤ 4
  pub ticks : valid_ticks s.ticks ≡ true
  pub headings : valid_headings (held_headings s) ≡ true
  pub no-heading : s.held ≡ 0 → length (held_ticks s.ticks) ≡ 0
  pub no-tick : length (held_ticks s.ticks) ≡ 0 → s.held ≡ 0

-- ---- a value in range that does not stand in m, and not in n either

apart : (a b m n : Bool) → (m ≡ false → n ≡ false) → (a && (b && not m)) ≡ true → (a && (b && not n)) ≡ true
apart true true true n f e = absurd (false≢true e)
apart true true false n f e = ap not (f refl)
apart true false m n f e = e
apart false b m n f e = e

apart-or : (z a b m n : Bool) → (m ≡ false → n ≡ false) → (z || (a && (b && not m))) ≡ true → (z || (a && (b && not n))) ≡ true
apart-or true a b m n f e = refl
apart-or false a b m n f e = apart a b m n f e

-- ---- ticks

-- the test of a tick y before the slots ys
abbrev sound : ℕ → List ℕ → Bool
sound y ys = eqb y 0 || (leb 100 y && (leb y 10_000 && not (among eqb ys y)))

tick-stored : (ts : List ℕ) (i t : ℕ) → TickIn t → among eqb ts t ≡ false → valid_ticks ts ≡ true → valid_ticks (set ts i t) ≡ true
unfolding valid_ticks
tick-stored [] i t k out v = v
tick-stored (y ∷ ys) zero t k out v =
    rw (ne_eqb t 0 (omega (arith, k.low)), le-leb 100 t k.low, le-leb t 10_000 k.high, (not_first eqb y ys t out).1)
    (both (sound y ys) (valid_ticks ys) v).1
tick-stored (y ∷ ys) (suc i) t k out v =
    let h = both (sound y ys) (valid_ticks ys) v in
    let n = not_first eqb y ys t out in
    let other : eqb t y ≡ false = ne_eqb t y (λ e. eqb-false y t n.0 (sym e)) in
    rw (apart-or (eqb y 0) (leb 100 y) (leb y 10_000) (among eqb ys y) (among eqb (set ys i t) y) (not-after-set eqb ys i t y other) h.0)
    (tick-stored ys i t k n.1 h.1)

tick-held : (ts : List ℕ) (i t : ℕ) → i < length ts → (t ≡ 0 → ⊥) → 0 < length (held_ticks (set ts i t))
unfolding held_ticks
tick-held [] i t h n = absurd (omega arith)
tick-held (y ∷ ys) zero t h n = rw (ne_eqb t 0 n) (omega arith)
tick-held (y ∷ ys) (suc i) t h n = go (eqb y 0) (tick-held ys i t (omega arith) n)
  where
    go : (b : Bool) → 0 < length (held_ticks (set ys i t)) → 0 < length (cond b (held_ticks (set ys i t)) (y ∷ held_ticks (set ys i t)))
    go true f = f
    go false f = omega arith

pub with-tick : (ts : List ℕ) (t : ℕ) → TickIn t → valid_ticks ts ≡ true → valid_ticks (with_tick ts t) ≡ true
unfolding with_tick tick_slot
with-tick ts t k v =
    by-test (λ (i : ℕ). valid_ticks (set ts i t) ≡ true) (among eqb ts t) _ _
    (λ there.
    let i = slot_of eqb ts t in
    let same : set ts i t ≡ ts =
    ap (set ts i) (sym (get-slot Same_ℕ ts t 0 (ltb-true i (length ts) there))) ∙ set-get_or ts i 0
    in
    rw same v)
    (λ out. tick-stored ts (slot_of eqb ts 0) t k out v)

-- ---- headings

heading-behind : (hs : List ℤ) (h : ℤ) → HeadingIn h → among same_ℤ hs h ≡ false → valid_headings hs ≡ true → valid_headings (hs ++ (h ∷ [])) ≡ true
unfolding valid_headings slot_of
heading-behind [] h k out v =
    rw (is_true (lt_z (neg_ℤ (pos 180_000)) h) k.above.lt, is_true (le_z h (pos 180_000)) k.below.le)
heading-behind (y ∷ ys) h k out v =
    let low = lt_z (neg_ℤ (pos 180_000)) y in
    let high = le_z y (pos 180_000) in
    let g = both (low && (high && not (among same_ℤ ys y))) (valid_headings ys) v in
    let n = not_first same_ℤ y ys h out in
    let other : same_ℤ h y ≡ false = same_ℤ-no h y (λ e. false≢true (sym n.0 ∙ same_ℤ-yes y h (sym e))) in
    rw (apart low high (among same_ℤ ys y) (among same_ℤ (ys ++ (h ∷ [])) y) (not_behind same_ℤ ys h y other) g.0)
    (heading-behind ys h k n.1 g.1)

-- so many headings hs, of which n are held
pub record Headings (hs : List ℤ) (n : ℕ) : Type 0 where
  pub few : n ≤ 4
  pub valid : valid_headings (take n hs) ≡ true

pub with-heading :
    (hs : List ℤ) (held : ℕ) (h : ℤ) → length hs ≡ 4 → heading_slot hs held h < 4 → HeadingIn h → Headings hs held
    → Headings (with_heading hs held h) (held_with hs held h) × (0 < held_with hs held h)
unfolding with_heading held_with heading_slot
with-heading hs held h long room k v =
    let first = take held hs in
    let slot = slot_of same_ℤ first h in
    let within = slot-within same_ℤ h first in
    let count : length first ≡ held = length-take-le held hs (omega (arith, v.few)) in
    by-eq (λ (n : ℕ). Headings (set hs slot h) n × (0 < n)) slot held _ _
    (λ new.
    let out : among same_ℤ first h ≡ false = le-ltb slot (length first) (omega arith) in
    let more : take (suc held) (set hs slot h) ≡ first ++ (h ∷ []) = rw new (take-suc-set hs held h (omega arith)) in
    let more-valid : valid_headings (take (suc held) (set hs slot h)) ≡ true = rw more (heading-behind first h k out v.valid) in
    (record { few = omega arith; valid = rw add-one more-valid }, omega arith))
    (λ old.
    let there : slot < length first = omega arith in
    let at : get_or hs slot (pos 0) ≡ h =
    sym (get_or-take held hs slot (pos 0) (omega arith)) ∙ get-slot Same_ℤ first h (pos 0) there
    in
    let same : set hs slot h ≡ hs = ap (set hs slot) (sym at) ∙ set-get_or hs slot (pos 0) in
    (rw same v, omega arith))

-- ---- a row

pub room-is : (s : Slots) (e : Entry) → fits s e ≡ true → Room (tick₁ s e) (tick₂ s e) (heading₁ s e) (heading₂ s e)
unfolding fits
room-is s e room = has_room room

abbrev pub Long : Slots → Type 0
Long s = (length s.ticks ≡ 20) × (length s.headings ≡ 4)

module _ (s : Slots) (e : Entry) (long : Long s) where
  pub grown-long : Long (grown s e)
  unfolding grown with_tick with_heading
  grown-long = (simp length-set long.0, simp length-set long.1)

  module _ (c : Choices) (u : Usable c e) (room : fits s e ≡ true) where
    -- the row's frequencies are held after it
    pub grown-some : 0 < length (held_ticks (grown s e).ticks)
    unfolding grown tick₂ with_tick
    grown-some =
        tick-held (with_tick s.ticks e.tick1) _ e.tick2
        (simp length-set (omega (arith, (room-is s e room).second-tick, long.0)))
        (omega (arith, u.tick2.low))

    pub grown-slotted : Slotted s → Slotted (grown s e)
    unfolding grown heading₁ heading₂ held_headings with_heading
    grown-slotted k =
        let one =
        with-heading s.headings s.held e.heading1 long.1 (room-is s e room).first-heading u.heading1
        (record { few = k.held; valid = k.headings })
        in
        let two = with-heading _ _ e.heading2 (simp length-set long.1) (room-is s e room).second-heading u.heading2 one.0 in
        record {
          held = two.0.few;
          ticks = with-tick _ e.tick2 u.tick2 (with-tick s.ticks e.tick1 u.tick1 k.ticks);
          headings = two.0.valid;
          no-heading = λ none. absurd (omega (arith, two.1));
          no-tick = λ none. absurd (omega (arith, grown-some));
        }
