-- The test of a record is exactly document 01's sentence: each part of the test says its part of the sentence, and the other way round. Assumes nothing.
use mathlib.Core.Path.{◌≡◌, refl, sym, ◌∙◌}
use mathlib.Core.Bool.{Bool, true, false, cond, not, ◌&&◌, ◌||◌}
use mathlib.Core.List.Memᴰ
use mathlib.Core.List.{List, [], ◌∷◌, Memᴰ}
use mathlib.Core.Logic.{⊎_elim}
use Prim.Native.Nat.{ℕ, ◌≤◌}
use native.Mathlib.Omega.{arith}
use lib.Dec.{leb, eqb}
use lib.IntN.{ℤ, pos, neg_ℤ}
use lib.Ieee.Bits.{is_true}
use lib.ListN.{length, take}
use lib.Signed.{le_z, lt_z, <ℤ_irrefl}
use borrow.Author.Tests.{leb-true, eqb-true, eqb-false, not-true, le-leb, lt-leb, ne_eqb}
use Rattle.whole.proofs.OrderLaws.{<ℤ→≤ℤ, ≤ℤ→<ℤ}
use Rattle.whole.specs.Same.{same_ℤ}
use Rattle.row.proofs.Deciding.{both}
use Rattle.grid.specs.Slots.{among, held_ticks, held_headings}
use Rattle.grid.specs.Valid.{valid_ticks, valid_headings}
use Rattle.grid.proofs.Bounds.{held-range, headings-range}
use Rattle.lines.proofs.Answers.{ticks-few}
use Rattle.neighbours.proofs.Neighbours.{held-above}
use Rattle.reader.specs.declared.record.Record.{Record}
use Rattle.reader.specs.Valid.{sticks, valid_stage, clean, valid_of}
use Rattle.promises_calls.specs.Kept.{Shaped}
use Rattle.promises_rows.specs.Said.{Within, Once}
use Rattle.promises_rows.specs.Said.Once.{more}
use Rattle.promises_validity.specs.Validity.{StageAsked, PresenceAsked, ValidRecord, HeldExactly, ValidExactly}
use Rattle.promises_validity.specs.Validity.StageAsked.{never-opened, still_open, accepted, stuck, stuck-17}
use Rattle.promises_validity.specs.Validity.PresenceAsked.{both-present, both-absent}
use Rattle.promises_calls.proofs.Choices.{choices-exactly}
use Rattle.promises_calls.proofs.LineNumbers.{sticks-by-order, stuck-by}
use Rattle.promises_rows.proofs.Members.{tick-mem, heading-mem}
use Rattle.promises_calls.proofs.Valid.{Valid, valid-is, is-valid}
use Rattle.promises_calls.proofs.SlotsOnce.{held-member, slots-distinct, valid-slots}

-- a test that does not hold fails
is_false : (t : Bool) → (t ≡ true → ⊥) → t ≡ false
is_false true n = absurd (n refl)
is_false false n = refl

-- the first of values none of which stands twice, and the others
first-apart : {A : Type 0} {x : A} {xs : List A} → Once (x ∷ xs) → Memᴰ x xs → ⊥
first-apart (more n o) = n

others-once : {A : Type 0} {x : A} {xs : List A} → Once (x ∷ xs) → Once xs
others-once (more n o) = o

-- ---- ticks

-- held is what is not 0
member-held : (ts : List ℕ) (t : ℕ) → Memᴰ t ts → (t ≡ 0 → ⊥) → Memᴰ t (held_ticks ts)
unfolding held_ticks
member-held [] t m n = m
member-held (u ∷ ts) t m n = go (eqb u 0) refl (λ k. member-held ts t k n)
  where
    go : (z : Bool) → eqb u 0 ≡ z → (Memᴰ t ts → Memᴰ t (held_ticks ts)) → Memᴰ t (cond z (held_ticks ts) (u ∷ held_ticks ts))
    go true e f = ⊎_elim (λ s. absurd (n (s ∙ eqb-true u 0 e))) f (Memᴰ.cases_cons m)
    go false e f = ⊎_elim (λ s. Memᴰ.head s) (λ k. Memᴰ.tail (f k)) (Memᴰ.cases_cons m)

pub held-exactly : HeldExactly
held-exactly ts t =
    (λ m. (held-member ts t m, let h = held-above ts t m in λ z. omega arith), λ (m, n). member-held ts t m n)

abbrev InRange : List ℕ → Type 0
InRange ticks = (t : ℕ) → Memᴰ t ticks → (100 ≤ t) × (t ≤ 10_000)

are-ticks : (ts : List ℕ) → InRange (held_ticks ts) → Once (held_ticks ts) → valid_ticks ts ≡ true
unfolding valid_ticks held_ticks
are-ticks [] each once = refl
are-ticks (t ∷ ts) each once = go (eqb t 0) refl (are-ticks ts) each once
  where
    go :
        (z : Bool) → eqb t 0 ≡ z → (InRange (held_ticks ts) → Once (held_ticks ts) → valid_ticks ts ≡ true)
        → InRange (cond z (held_ticks ts) (t ∷ held_ticks ts))
        → Once (cond z (held_ticks ts) (t ∷ held_ticks ts))
        → ((z || (leb 100 t && (leb t 10_000 && not (among eqb ts t)))) && valid_ticks ts) ≡ true
    go true e f each once = f each once
    go false e f each once =
        let own = each t (Memᴰ.head refl) in
        let out : among eqb ts t ≡ false =
        is_false (among eqb ts t) (λ y. first-apart once (member-held ts t (tick-mem ts t y) (eqb-false t 0 e)))
        in
        rw (le-leb 100 t own.0, le-leb t 10_000 own.1, out) (f (λ u m. each u (Memᴰ.tail m)) (others-once once))

-- ---- headings

are-headings :
    (hs : List ℤ) → ((h : ℤ) → Memᴰ h hs → Within 180_000 h) → (Memᴰ (neg_ℤ (pos 180_000)) hs → ⊥) → Once hs → valid_headings hs ≡ true
unfolding valid_headings
are-headings [] each other once = refl
are-headings (h ∷ hs) each other once =
    let own = each h (Memᴰ.head refl) in
    let low = is_true (lt_z (neg_ℤ (pos 180_000)) h) (≤ℤ→<ℤ own.above (λ e. other (Memᴰ.head e))).lt in
    let high = is_true (le_z h (pos 180_000)) own.below.le in
    let out : among same_ℤ hs h ≡ false = is_false (among same_ℤ hs h) (λ y. first-apart once (heading-mem hs h y)) in
    rw (low, high, out) (are-headings hs (λ k m. each k (Memᴰ.tail m)) (λ m. other (Memᴰ.tail m)) (others-once once))

-- ---- kept bytes

clean_is : (s : List ℕ) → clean s ≡ true → Memᴰ 10 s → ⊥
unfolding clean
clean_is [] e m = Memᴰ.not-nil m
clean_is (b ∷ s) e m =
    let f = both (not (eqb b 10)) (clean s) e in
    ⊎_elim (λ s. eqb-false b 10 (not-true (eqb b 10) f.0) (sym s)) (clean_is s f.1) (Memᴰ.cases_cons m)

is-clean : (s : List ℕ) → (Memᴰ 10 s → ⊥) → clean s ≡ true
unfolding clean
is-clean [] n = refl
is-clean (b ∷ s) n = rw (ne_eqb b 10 (λ e. n (Memᴰ.head (sym e)))) (is-clean s (λ m. n (Memᴰ.tail m)))

-- ---- stage

module _ (stage : ℕ) where
  stage_is : valid_stage stage ≡ true → StageAsked stage
  unfolding valid_stage sticks
  stage_is e = go (leb stage 2) (eqb stage 0) (eqb stage 1) refl refl refl e
    where
      go :
          (low zero one : Bool) → leb stage 2 ≡ low → eqb stage 0 ≡ zero → eqb stage 1 ≡ one
          → (low || sticks stage) ≡ true
          → StageAsked stage
      go true true one l z o e = never-opened (eqb-true stage 0 z)
      go true false true l z o e = still_open (eqb-true stage 1 o)
      go true false false l z o e =
          let few = leb-true stage 2 l in
          let zero : stage ≡ 0 → ⊥ = eqb-false stage 0 z in
          let one : stage ≡ 1 → ⊥ = eqb-false stage 1 o in
          accepted (omega (arith, zero, one))
      go false zero one l z o e =
          stuck-by StageAsked (λ n. stuck) (stuck-17 refl) stage e

  is-stage : StageAsked stage → valid_stage stage ≡ true
  unfolding valid_stage sticks
  is-stage (never-opened e) = rw (le-leb stage 2 (omega arith))
  is-stage (still_open e) = rw (le-leb stage 2 (omega arith))
  is-stage (accepted e) = rw (le-leb stage 2 (omega arith))
  is-stage (stuck low high) = rw (lt-leb stage 2 (omega arith)) (sticks-by-order stage low high)
  is-stage (stuck-17 e) = rw e

-- ---- the record

module _ (r : Record) where
  abbrev ticks-held : List ℕ
  ticks-held = held_ticks r.slots.ticks

  presence-is : Valid r → PresenceAsked r.marks.stage (length ticks-held) r.slots.held
  presence-is v = go (eqb (length ticks-held) 0) refl
    where
      go : (t : Bool) → eqb (length ticks-held) 0 ≡ t → PresenceAsked r.marks.stage (length ticks-held) r.slots.held
      go true e =
          let absent = eqb-true (length ticks-held) 0 e in both-absent (λ two. v.accepted two absent) absent (v.slots.no-tick absent)
      go false e =
          let some : length ticks-held ≡ 0 → ⊥ = eqb-false (length ticks-held) 0 e in
          let held : r.slots.held ≡ 0 → ⊥ = λ z. some (v.slots.no-heading z) in
          both-present (omega (arith, some)) (omega (arith, held))

  -- the same as three facts, as `Valid` has it
  record Present : Type 0 where
    pub no-heading : r.slots.held ≡ 0 → length ticks-held ≡ 0
    pub no-tick : length ticks-held ≡ 0 → r.slots.held ≡ 0
    pub accepted : r.marks.stage ≡ 2 → length ticks-held ≡ 0 → ⊥

  is-presence : PresenceAsked r.marks.stage (length ticks-held) r.slots.held → Present
  is-presence (both-present t h) = record { no-heading = λ z. absurd (omega arith); no-tick = λ z. absurd (omega arith); accepted = λ two z. omega arith }
  is-presence (both-absent other t h) = record { no-heading = λ z. t; no-tick = λ z. h; accepted = λ two z. other two }

  valid-of : ValidRecord r → Valid r
  valid-of a =
      let p = is-presence a.presence in
      record {
        stage = is-stage r.marks.stage a.stage;
        lines = a.lines;
        choices = (choices-exactly r.choices).1 a.choices;
        slots =
            record {
              held = a.headings.few;
              ticks = are-ticks r.slots.ticks a.ticks.in-range a.ticks.distinct;
              headings = are-headings (held_headings r.slots) a.headings.in-range a.headings.not-minus a.headings.distinct;
              no-heading = p.no-heading;
              no-tick = p.no-tick;
            };
        accepted = p.accepted;
        count = a.kept;
        no-feed = is-clean (take r.marks.count r.kept) a.no-line-feed;
      }

  asked_of : Shaped r → valid_of r ≡ true → ValidRecord r
  asked_of b e =
      let v = valid-is r e in
      let d = slots-distinct r b (valid-slots r e) in
      record {
        ticks =
            record {
              few = omega (arith, ticks-few r.slots.ticks, b.ticks);
              in-range = held-range r.slots.ticks v.slots.ticks;
              distinct = d.ticks;
            };
        headings =
            record {
              few = v.slots.held;
              in-range = λ h m. let (above, below) = headings-range (held_headings r.slots) v.slots.headings h m in record { above = <ℤ→≤ℤ above; below = below };
              not-minus = λ m. <ℤ_irrefl (headings-range (held_headings r.slots) v.slots.headings _ m).0;
              distinct = d.headings;
            };
        kept = v.count;
        no-line-feed = clean_is (take r.marks.count r.kept) v.no-feed;
        lines = v.lines;
        choices = (choices-exactly r.choices).0 v.choices;
        presence = presence-is v;
        stage = stage_is r.marks.stage v.stage;
      }

pub valid-exactly : ValidExactly
valid-exactly r b = (asked_of r b, λ a. is-valid r (valid-of r a))
