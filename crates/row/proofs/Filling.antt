-- An array that a loop fills from its first place on: what holds of each element that was stored; and a test that holds at each place. Assumes nothing.
use mathlib.Core.Path.{◌≡◌, refl, sym, ◌∙◌}
use mathlib.Core.Bool.{Bool, true, false, ◌&&◌, true≢false}
use mathlib.Core.List.{List}
use Prim.Native.Nat.{ℕ, zero, suc, ◌+◌, ◌≤◌, ◌<◌}
use native.Mathlib.Omega.{arith}
use borrow.Author.Tests.{eqb-true, eqb-false}
use lib.Dec.{eqb}
use lib.ListN.{length, get_or, set, length-set}
use lib.Seq.{get_or-set_same, get_or-set_other}
use Rattle.row.specs.own.Values.{all_below}
use Rattle.row.proofs.Deciding.{both}

-- the first i of `size` places of xs hold what P says of each
pub record Filled {A : Type 0} (P : ℕ → A → Type 0) (none : A) (size : ℕ) (xs : List A) (i : ℕ) : Type 0 where
  pub few : i ≤ size
  pub long : length xs ≡ size
  pub each : (k : ℕ) → k < i → P k (get_or xs k none)

pub nothing_yet : {A : Type 0} (P : ℕ → A → Type 0) (none : A) (size : ℕ) (xs : List A) → length xs ≡ size → Filled P none size xs 0
nothing_yet P none size xs long = record { few = omega arith; long = long; each = λ k h. absurd (omega arith) }

pub one_more :
    {A : Type 0} (P : ℕ → A → Type 0) (none : A) (size : ℕ) (xs : List A) (i : ℕ) (x : A)
    → Filled P none size xs i
    → i < size
    → P i x
    → Filled P none size (set xs i x) (i + 1)
one_more P none size xs i x r room e =
    record { few = omega arith; long = length-set xs i x ∙ r.long; each = λ k h. go k h (eqb k i) refl }
  where
    go : (k : ℕ) → k < i + 1 → (t : Bool) → eqb k i ≡ t → P k (get_or (set xs i x) k none)
    go k h true q = rw (eqb-true k i q, get_or-set_same xs i x none (omega (arith, r.long))) e
    go k h false q =
        let ne = eqb-false k i q in
        rw (get_or-set_other xs i k x none ne) (r.each k (omega arith))

-- ---- a test at each place below n

module _ (f : ℕ → Bool) where
  pub all-at : (n : ℕ) → all_below n f ≡ true → (k : ℕ) → k < n → f k ≡ true
  unfolding all_below
  all-at zero e k h = absurd (omega arith)
  all-at (suc n) e k h = let b = both (f n) (all_below n f) e in go (eqb k n) refl b (all-at n b.1 k)
    where
      go : (t : Bool) → eqb k n ≡ t → (f n ≡ true) × (all_below n f ≡ true) → (k < n → f k ≡ true) → f k ≡ true
      go true q b rest = rw (eqb-true k n q) b.0
      go false q b rest = let ne = eqb-false k n q in rest (omega arith)

  pub all_of : (n : ℕ) → ((k : ℕ) → k < n → f k ≡ true) → all_below n f ≡ true
  unfolding all_below
  all_of zero h = refl
  all_of (suc n) h = rw (h n (omega arith)) (all_of n (λ k g. h k (omega arith)))

  -- a place where it fails
  pub not-all : (n k : ℕ) → k < n → f k ≡ false → all_below n f ≡ false
  not-all n k h e = go (all_below n f) refl
    where
      go : (t : Bool) → all_below n f ≡ t → t ≡ false
      go true a = absurd (true≢false (sym (all-at n a k h) ∙ e))
      go false a = refl

  pub some-not : {Q : Type 0} (n : ℕ) → ((k : ℕ) → k < n → f k ≡ false → Q) → all_below n f ≡ false → Q
  unfolding all_below
  some-not zero g e = absurd (true≢false e)
  some-not {Q} (suc n) g e = go (f n) refl e (some-not n (λ k h. g k (omega arith)))
    where
      go : (t : Bool) → f n ≡ t → (t && all_below n f) ≡ false → (all_below n f ≡ false → Q) → Q
      go true q a rest = rest a
      go false q a rest = g n (omega arith) q
