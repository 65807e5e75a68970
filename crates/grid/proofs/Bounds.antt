-- What the tests of bounds say of each tick that is held, and of each heading. Assumes nothing.
use mathlib.Core.Path.{◌≡◌, sym, subst}
use mathlib.Core.Bool.{Bool, true, false, cond, not, ◌&&◌, ◌||◌}
use mathlib.Core.List.Memᴰ
use mathlib.Core.List.{List, [], ◌∷◌, Memᴰ}
use mathlib.Core.Logic.{⊎_elim}
use Prim.Native.Nat.{ℕ, ◌≤◌}
use native.Mathlib.Omega.{arith}
use lib.Dec.{T, leb, eqb}
use lib.IntN.{ℤ, pos, neg_ℤ}
use lib.Signed.{le_z, lt_z, le_z_yes, lt_z_yes, ◌≤ℤ◌, ◌<ℤ◌}
use borrow.Author.Tests.{leb-true}
use Rattle.row.proofs.Deciding.{both}
use Rattle.grid.specs.Slots.{among, held_ticks}
use Rattle.grid.specs.Valid.{valid_ticks, valid_headings}

pub held-range : (ticks : List ℕ) → valid_ticks ticks ≡ true → (t : ℕ) → Memᴰ t (held_ticks ticks) → (100 ≤ t) × (t ≤ 10_000)
unfolding valid_ticks held_ticks
held-range [] e t m = absurd (Memᴰ.not-nil m)
held-range (s ∷ ss) e t m =
    let (here, rest) = both _ (valid_ticks ss) e in
    go (eqb s 0) here (held-range ss rest t) m
  where
    go :
        (b : Bool)
        → (b || (leb 100 s && (leb s 10_000 && not (among eqb ss s)))) ≡ true
        → (Memᴰ t (held_ticks ss) → (100 ≤ t) × (t ≤ 10_000))
        → Memᴰ t (cond b (held_ticks ss) (s ∷ held_ticks ss))
        → (100 ≤ t) × (t ≤ 10_000)
    go true h below n = below n
    go false h below n =
        let (low, more) = both (leb 100 s) _ h in
        let above = leb-true 100 s low in
        let under = leb-true s 10_000 (both (leb s 10_000) _ more).0 in
        ⊎_elim (λ (same : t ≡ s). (omega (arith, above), omega (arith, under))) below (Memᴰ.cases_cons n)

pub headings-range : (hs : List ℤ) → valid_headings hs ≡ true → (h : ℤ) → Memᴰ h hs → (neg_ℤ (pos 180_000) <ℤ h) × (h ≤ℤ pos 180_000)
unfolding valid_headings
headings-range [] e h m = absurd (Memᴰ.not-nil m)
headings-range (y ∷ hs) e h m =
    let (here, rest) = both _ (valid_headings hs) e in
    let (low, more) = both (lt_z (neg_ℤ (pos 180_000)) y) _ here in
    let high = (both (le_z y (pos 180_000)) _ more).0 in
    ⊎_elim
    (λ (same : h ≡ y).
    subst (λ (z : ℤ). (neg_ℤ (pos 180_000) <ℤ z) × (z ≤ℤ pos 180_000)) (sym same) (lt_z_yes (subst T (sym low) tt), le_z_yes (subst T (sym high) tt)))
    (headings-range hs rest h)
    (Memᴰ.cases_cons m)
