-- How a frequency is weighed: one that is held stands by itself, with all the weight; and in a valid record the weights make up the width, which is 1 to 9,900.
-- Both neighbours are held. Assumes nothing.
use Rattle.std.proofs.Common.{◌≡◌, ℕ, zero, suc, ◌+◌, ◌<◌, ◌≤◌, Bool, true, false, cond, not, ◌&&◌, ◌||◌, T, eqb, leb, List, [], ◌∷◌, length, get_or, sym, refl, ap, ◌∙◌, subst, ⊎_elim, le_refl, not-suc-le-zero, le_antisymm, arith, lt-ltb, eq-eqb, ne_eqb, eqb-true, le-leb, Option, Some, None}
use mathlib.Core.List.Memᴰ
use mathlib.Core.List.{Memᴰ}
use lib.Ieee.Bits.{is_true}
use mir.Facts.{and_yes, leb_yes}
use Rattle.whole.proofs.OrderLaws.{cond_ind}
use Rattle.whole.proofs.Same.{eqb_tells}
use Rattle.grid.specs.Slots.{slot_of, held_ticks, among}
use Rattle.grid.specs.Valid.{valid_ticks}
use Rattle.grid.proofs.Members.{among-member, member-slot}
use Rattle.grid.proofs.Bounds.{held-range}
use Rattle.neighbours.specs.Standing.{Standing, low_of, high_of, between, standing, apart}
use Rattle.neighbours.proofs.Neighbours.{OfSome, nearest-of, nearest-self, low-is, high_is}

-- ---- a tick that is held

abbrev pub alone : ℕ → Standing ℕ
alone t = record { low = t; high = t; to_low = 1; to_high = 0; width = 1 }

pub tick-alone : (ticks : List ℕ) (t : ℕ) → among eqb (held_ticks ticks) t ≡ true → standing leb apart (held_ticks ticks) t ≡ Some (alone t)
unfolding standing between
tick-alone ticks t h =
    let m = among-member eqb_tells (held_ticks ticks) t h in
    let low = nearest-self ◌≤◌ t (λ a b h k. le_antisymm h k) (low-is (held_ticks ticks) t) (le_refl t) m in
    let high = nearest-self (λ a b. b ≤ a) t (λ a b h k. le_antisymm k h) (high_is (held_ticks ticks) t) (le_refl t) m in
    (λ i. between leb apart t (low i) (high i)) ∙ rw (le-leb t t (le_refl t))

-- ---- the weights in a valid record

pub record ProperWeights (f : Standing ℕ) : Type 0 where
  pub some : 0 < f.width
  pub most : f.width ≤ 9_900
  pub sum : f.to_low + f.to_high ≡ f.width
  pub weighted : 0 < f.to_low
  pub single : f.to_high ≡ 0 → f.high ≡ f.low

-- what a slot holds but 0 is of the slots, and no other slot holds it
pub slot-below : (ticks : List ℕ) (j : ℕ) → 0 < get_or ticks j 0 → j < length ticks
slot-below [] j h = absurd (not-suc-le-zero h)
slot-below (s ∷ ss) zero h = omega arith
slot-below (s ∷ ss) (suc j) h = let below = slot-below ss j h in omega arith

pub slot_is : (ticks : List ℕ) → T (valid_ticks ticks) → (j : ℕ) → 0 < get_or ticks j 0 → slot_of eqb ticks (get_or ticks j 0) ≡ j
unfolding slot_of valid_ticks
slot_is [] v j h = absurd (not-suc-le-zero h)
slot_is (s ∷ ss) v zero h = rw (eq-eqb s s refl)
slot_is (s ∷ ss) v (suc j) h =
    let both = and_yes (eqb s 0 || (leb 100 s && (leb s 10_000 && not (among eqb ss s)))) (valid_ticks ss) v in
    go (eqb s (get_or ss j 0)) refl both.0 (slot_is ss both.1 j h)
  where
    t : ℕ
    t = get_or ss j 0

    go : (b : Bool) → eqb s t ≡ b → T (eqb s 0 || (leb 100 s && (leb s 10_000 && not (among eqb ss s)))) → slot_of eqb ss t ≡ j → cond b zero (suc (slot_of eqb ss t)) ≡ suc j
    go true e first i =
        let same : s ≡ t = eqb-true s t e in
        let free : eqb s 0 ≡ false = ne_eqb s 0 (λ z. omega (arith, same, z, h)) in
        let held : among eqb ss s ≡ true = lt-ltb (slot_of eqb ss s) (length ss) (omega (arith, ap (slot_of eqb ss) same, i, slot-below ss j h)) in
        let twice : T (leb 100 s && (leb s 10_000 && false)) = rw (free, held) at first in
        absurd (and_yes (leb s 10_000) false (and_yes (leb 100 s) (leb s 10_000 && false) twice).1).1
    go false e first i = ap suc i

module _ (ticks : List ℕ) (f : ℕ) (v : T (valid_ticks ticks)) where
  -- a tick that is not held has its neighbours on both sides
  module _ (free : among eqb (held_ticks ticks) f ≡ false) where
    other : (y : ℕ) → Memᴰ y (held_ticks ticks) → y ≡ f → ⊥
    other y m e =
        let slot = member-slot eqb_tells (subst (λ (n : ℕ). Memᴰ n (held_ticks ticks)) e m) in
        subst T (sym (lt-ltb _ _ slot) ∙ free) tt

    low-range : OfSome (λ z. (100 ≤ z) × (z < f)) (low_of leb (held_ticks ticks) f)
    low-range =
        nearest-of ◌≤◌ f (low-is (held_ticks ticks) f) (λ y m up. ((held-range ticks (is_true (valid_ticks ticks) v) y m).0, omega (arith, other y m)))

    high-range : OfSome (λ z. (f < z) × (z ≤ 10_000)) (high_of leb (held_ticks ticks) f)
    high-range =
        nearest-of (λ a b. b ≤ a) f (high_is (held_ticks ticks) f) (λ y m down. (omega (arith, other y m), (held-range ticks (is_true (valid_ticks ticks) v) y m).1))

  between-proper :
      (low high : Option ℕ)
      → OfSome (λ z. (100 ≤ z) × (z < f)) low
      → OfSome (λ z. (f < z) × (z ≤ 10_000)) high
      → OfSome ProperWeights (between leb apart f low high)
  unfolding between
  between-proper None high h k = tt
  between-proper (Some low) None h k = tt
  between-proper (Some low) (Some high) h k =
      cond_ind (OfSome ProperWeights) (leb high low)
      (λ t. let above : high ≤ low = leb_yes t in let clash : ⊥ = omega arith in absurd clash)
      (λ t. record {
        some = omega arith;
        most = omega arith;
        sum = omega arith;
        weighted = omega arith;
        single = λ e. let clash : ⊥ = omega arith in absurd clash;
      })

  pub standing-proper : OfSome ProperWeights (standing leb apart (held_ticks ticks) f)
  unfolding standing
  standing-proper = go (among eqb (held_ticks ticks) f) refl
    where
      go : (b : Bool) → among eqb (held_ticks ticks) f ≡ b → OfSome ProperWeights (standing leb apart (held_ticks ticks) f)
      go true e =
          subst (OfSome ProperWeights) (sym (tick-alone ticks f e))
          (record { some = omega arith; most = omega arith; sum = refl; weighted = omega arith; single = λ z. refl })
      go false e = between-proper _ _ (low-range e) (high-range e)

-- ---- both neighbours are held

held-mem : (ticks : List ℕ) (t : ℕ) → Memᴰ t (held_ticks ticks) → Memᴰ t ticks
unfolding held_ticks
held-mem [] t m = m
held-mem (s ∷ ss) t m = go (eqb s 0) (held-mem ss t) m
  where
    go : (b : Bool) → (Memᴰ t (held_ticks ss) → Memᴰ t ss) → Memᴰ t (cond b (held_ticks ss) (s ∷ held_ticks ss)) → Memᴰ t (s ∷ ss)
    go true below m = Memᴰ.tail (below m)
    go false below m = ⊎_elim (λ (e : t ≡ s). Memᴰ.head e) (λ k. Memᴰ.tail (below k)) (Memᴰ.cases_cons m)

-- so both have a slot
pub record HeldTicks (ticks : List ℕ) (f : Standing ℕ) : Type 0 where
  pub low : slot_of eqb ticks f.low < length ticks
  pub high : slot_of eqb ticks f.high < length ticks

module _ (ticks : List ℕ) (f : ℕ) where
  has-slot : (y : ℕ) → Memᴰ y (held_ticks ticks) → slot_of eqb ticks y < length ticks
  has-slot y m = member-slot eqb_tells (held-mem ticks y m)

  between-held :
      (low high : Option ℕ)
      → OfSome (λ z. slot_of eqb ticks z < length ticks) low
      → OfSome (λ z. slot_of eqb ticks z < length ticks) high
      → OfSome (HeldTicks ticks) (between leb apart f low high)
  unfolding between
  between-held None high h k = tt
  between-held (Some low) None h k = tt
  between-held (Some low) (Some high) h k =
      cond_ind (OfSome (HeldTicks ticks)) (leb high low) (λ t. record { low = h; high = k }) (λ t. record { low = h; high = k })

  pub standing-held : OfSome (HeldTicks ticks) (standing leb apart (held_ticks ticks) f)
  unfolding standing
  standing-held =
      between-held _ _
      (nearest-of ◌≤◌ f (low-is (held_ticks ticks) f) (λ y m t. has-slot y m))
      (nearest-of (λ a b. b ≤ a) f (high_is (held_ticks ticks) f) (λ y m t. has-slot y m))
