-- Where the model's `standing` puts a frequency: by itself where it is held, else between its two neighbours, which are so by what is held alone. Assumes nothing.
use mathlib.Core.Path.{◌≡◌, refl, sym, subst}
use mathlib.Core.List.{List, Memᴰ}
use mathlib.Core.Logic.{◌⊎◌, inl, inr, ⊎_elim}
use Rattle.std.proofs.Common.{Option, None, Some}
use Prim.Native.Nat.{ℕ, ◌-◌, ◌≤◌, ◌<◌}
use native.Mathlib.Decide.{dec_le}
use native.Mathlib.Omega.{arith}
use lib.Dec.{leb, lit<}
use borrow.Author.Tests.{leb-true, leb-false}
use Rattle.row.proofs.Used.{by-test}
use Rattle.reader.specs.declared.record.Record.{Record}
use Rattle.grid.specs.Slots.{held_ticks}
use Rattle.neighbours.specs.Standing.{Standing, low_of, high_of, between, standing, apart}
use Rattle.neighbours.proofs.Neighbours.{Nearest, none_below, nearest, low-is, high_is}
use Rattle.promises_queries.specs.Places.{HoldsTick, Outside, below, above, Neighbours}

-- the two neighbours of a frequency as the model has them, with a second one of weight 0 where the frequency is held
pub data Stands (r : Record) (f : ℕ) : Standing ℕ → Type 0 where
  itself : HoldsTick r f → Stands r f (record { low = f; high = f; to_low = 1; to_high = 0; width = 1 })
  amid : {low high : ℕ} → Neighbours r f low high → Stands r f (record { low = low; high = high; to_low = high - f; to_high = f - low; width = high - low })

pub width_above : {r : Record} {f : ℕ} {s : Standing ℕ} → Stands r f s → 0 < s.width
width_above (itself m) = lit< tt
width_above (amid n) = omega arith

-- ---- where a frequency stands

module _ (r : Record) (f : ℕ) where
  abbrev held : List ℕ
  held = held_ticks r.slots.ticks

  -- nowhere, or where it stands
  pub data Found : Option (Standing ℕ) → Type 0 where
    lost : Outside r f → Found None
    stands : {s : Standing ℕ} → Stands r f s → Found (Some s)

  met : (low high : Option ℕ) → Nearest ◌≤◌ f held low → Nearest (λ a b. b ≤ a) f held high
      → Found (Rattle.neighbours.specs.Standing.between leb apart f low high)
  unfolding Rattle.neighbours.specs.Standing.between
  met None high (none_below h) b = lost (below (λ g m. let n : g ≤ f → ⊥ = h g m in omega (arith, n)))
  met (Some low) None a (none_below h) = lost (above (λ g m. let n : f ≤ g → ⊥ = h g m in omega (arith, n)))
  met (Some low) (Some high) (nearest m s u) (nearest n t v) =
      by-test Found (leb high low) _ _
      (λ e.
      let le = leb-true high low e in
      let l : low ≡ f = omega arith in
      let h : high ≡ f = omega arith in
      subst (λ (x : Standing ℕ). Found (Some x))
      (λ i. record { low = sym l i; high = sym h i; to_low = 1; to_high = 0; width = 1 })
      (stands (itself (subst (λ (k : ℕ). Memᴰ k held) l m))))
      (λ e.
      let lt : low < high = leb-false high low e in
      let over : low < f = strictly low f s (λ h. let k = v low m h in omega arith) in
      let under : f < high = strictly f high t (λ h. let k = u high n h in omega arith) in
      let to_low : high - f ≡ apart f high = omega arith in
      let to_high : f - low ≡ apart low f = omega arith in
      let width : high - low ≡ apart low high = omega arith in
      subst (λ (x : Standing ℕ). Found (Some x))
      (λ i. record { low = low; high = high; to_low = to_low i; to_high = to_high i; width = width i })
      (stands (amid
      (record { low_held = m; high_held = n; above_low = omega arith; below-high = omega arith; none_between = λ g k. side g (dec_le g f) (u g k) (v g k) }))))
    where
      strictly : (a b : ℕ) → a ≤ b → (b ≤ a → ⊥) → a < b
      strictly a b h n = omega (arith, n)

      side : {low high : ℕ} (g : ℕ) → Dec (g ≤ f) → (g ≤ f → g ≤ low) → (f ≤ g → high ≤ g) → (g ≤ low) ⊎ (high ≤ g)
      side g (yes h) a b = inl (a h)
      side g (no h) a b = inr (b (omega (arith, h)))

  pub found : Found (standing leb apart held f)
  unfolding standing
  found = met (low_of leb held f) (high_of leb held f) (low-is held f) (high_is held f)

  -- ---- one answer

  -- a frequency that stands is not beyond
  pub not-outside : {s : Standing ℕ} → Stands r f s → Outside r f → ⊥
  not-outside (itself m) (below h) = let k = h f m in omega arith
  not-outside (itself m) (above h) = let k = h f m in omega arith
  not-outside (amid {low} n) (below h) = let k = h low n.low_held in omega arith
  not-outside (amid {high = high} n) (above h) = let k = h high n.high_held in omega arith

-- two tables that hold the same frequencies have the same neighbours
module _ (r q : Record) (f : ℕ) (same : (g : ℕ) → HoldsTick r g → HoldsTick q g) (back : (g : ℕ) → HoldsTick q g → HoldsTick r g) where
  pub beyond-same : Outside r f → Outside q f
  beyond-same (below h) = below (λ g m. h g (back g m))
  beyond-same (above h) = above (λ g m. h g (back g m))

  pub stands_same : {s : Standing ℕ} → Stands r f s → Stands q f s
  stands_same (itself m) = itself (same f m)
  stands_same (amid n) =
      amid
      (record {
        low_held = same _ n.low_held;
        high_held = same _ n.high_held;
        above_low = n.above_low;
        below-high = n.below-high;
        none_between = λ g k. n.none_between g (back g k);
      })

-- a frequency stands in one way
module _ (r : Record) (f : ℕ) where
  not-held : {low high : ℕ} → Neighbours r f low high → HoldsTick r f → ⊥
  not-held n m = ⊎_elim (λ h. omega arith) (λ h. omega arith) (n.none_between f m)

  closest : {low high a b : ℕ} → Neighbours r f low high → Neighbours r f a b → (a ≤ low) × (high ≤ b)
  closest {low} {high} {a} {b} n m = (
    ⊎_elim (λ (x : a ≤ low). x) (λ x. absurd (omega arith)) (n.none_between a m.low_held),
    ⊎_elim (λ x. absurd (omega arith)) (λ (x : high ≤ b). x) (n.none_between b m.high_held),
  )

  pub stands_one : {s t : Standing ℕ} → Stands r f s → Stands r f t → s ≡ t
  stands_one (itself m) (itself n) = refl
  stands_one (itself m) (amid n) = absurd (not-held n m)
  stands_one (amid n) (itself m) = absurd (not-held n m)
  stands_one (amid {low = low₁} {high = high₁} n) (amid {low = low₂} {high = high₂} m) =
      let (x, y) = closest n m in
      let (z, w) = closest m n in
      let low : low₁ ≡ low₂ = omega arith in
      let high : high₁ ≡ high₂ = omega arith in
      λ i. record { low = low i; high = high i; to_low = high i - f; to_high = f - low i; width = high i - low i }
