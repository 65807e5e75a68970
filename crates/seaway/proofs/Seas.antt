-- The lines of a sea, from one on: what the loops over them go by. Assumes nothing.
use mathlib.Core.Path.{◌≡◌, refl, sym, ap, ◌∙◌}
use mathlib.Core.Bool.{Bool, true, false, ◌&&◌}
use mathlib.Core.List.{List, ◌∷◌}
use Prim.Native.Nat.{ℕ, zero, suc, ◌+◌, ◌*◌, ◌-◌, ◌^◌, ◌≤◌, ◌<◌}
use native.Mathlib.Numerals.{add-one}
use native.Mathlib.Omega.{arith}
use borrow.Author.Tests.{lt-ltb, le-ltb}
use lib.Dec.{ltb}
use lib.ListN.{get_or, length, take}
use native.Mathlib.Decide.{dec_lt}
use Rattle.std.specs.List.{IsAllAdjacentAnswer}
use Rattle.std.proofs.Math.Bool.{and-false}
use Rattle.std.proofs.lemmas.Bool.{ltb-true, ltb-false}
use Rattle.std.proofs.lemmas.List.{get_or-take, length-take-le}
use Rattle.whole.specs.Complex.{sizes}
use Rattle.whole.specs.Sum.{sum_by}
use Rattle.seaway.specs.Sea.{Line, line_at, lines_from, lines_of, size_of, rises}
use Rattle.seaway.specs.declared.sea.Sea.{Sea}

module _ (s : Sea) where
  abbrev from : ℕ → List Line
  from i = lines_from s i (s.count - i)

  pub next-line : (i : ℕ) → i < s.count → from i ≡ line_at s i ∷ from (suc i)
  unfolding lines_from
  next-line i h = let e : s.count - i ≡ suc (s.count - suc i) = omega arith in ap (lines_from s i) e

  pub all_lines : lines_of s ≡ from 0
  unfolding lines_of
  all_lines = let e : s.count ≡ s.count - 0 = omega arith in ap (lines_from s 0) e

  -- ---- ticks that rise

  -- each line's tick is below the next one's; or one is not
  all-rise : (i n : ℕ) → ((k : ℕ) → k + 1 < i + n → get_or s.ticks k 0 < get_or s.ticks (k + 1) 0) → rises (lines_from s i n) ≡ true
  unfolding rises lines_from line_at
  all-rise i zero up = refl
  all-rise i (suc zero) up = refl
  all-rise i (suc (suc n)) up =
      rw (lt-ltb _ _ (rw add-one at (up i (omega arith)))) (all-rise (suc i) (suc n) (λ k h. up k (omega arith)))

  one-falls : (i n k : ℕ) → i ≤ k → k + 1 < i + n → get_or s.ticks (k + 1) 0 ≤ get_or s.ticks k 0 → rises (lines_from s i n) ≡ false
  unfolding rises lines_from line_at
  one-falls i zero k g h down = absurd (omega arith)
  one-falls i (suc zero) k g h down = absurd (omega arith)
  one-falls i (suc (suc n)) k g h down = go (dec_lt i k) (λ above. one-falls (suc i) (suc n) k above (omega arith) down)
    where
      go :
          Dec (i < k) → (i < k → rises (lines_from s (suc i) (suc n)) ≡ false)
          → (ltb (get_or s.ticks i 0) (get_or s.ticks (suc i) 0) && rises (lines_from s (suc i) (suc n))) ≡ false
      go (yes above) rest = ap (λ b. ltb (get_or s.ticks i 0) (get_or s.ticks (suc i) 0) && b) (rest above) ∙ and-false _
      go (no here) rest = let e : k ≡ i = omega (arith, here) in ap (λ b. b && rises (lines_from s (suc i) (suc n))) (le-ltb _ _ (rw (e, add-one) at down))

  -- so what `is_sorted_by` answers of the first lines' ticks is whether they rise
  pub rising-is : s.count ≤ length s.ticks → (r : Bool) → IsAllAdjacentAnswer (λ x y b. b ≡ ltb x y) (take s.count s.ticks) r → r ≡ rises (lines_of s)
  unfolding lines_of
  rising-is few true up =
      sym
      (all-rise 0 s.count
      (λ k h.
      let pair = up k 0 (rw (length-take-le s.count s.ticks few) (omega arith)) in
      let here = get_or-take s.count s.ticks k 0 (omega arith) in
      let next = get_or-take s.count s.ticks (k + 1) 0 (omega arith) in
      rw (here, next) at (ltb-true _ _ (sym pair))))
  rising-is few false down =
      let k = down.0 in
      let h : k + 1 < s.count = rw (length-take-le s.count s.ticks few) at down.1 in
      let here = get_or-take s.count s.ticks k 0 (omega arith) in
      let next = get_or-take s.count s.ticks (k + 1) 0 (omega arith) in
      sym (one-falls 0 s.count k (omega arith) (omega arith) (rw (here, next) at (ltb-false _ _ (sym (down.2 0)))))

  -- ---- A

  -- at the loop's head: the sizes of the lines before i are in the sum
  pub record Sizing (sum i : ℕ) : Type 0 where
    pub within : i ≤ s.count
    pub small : sum ≤ i * 2 ^ 32
    pub same : sum + size_of (from i) ≡ size_of (lines_of s)

  pub sizing-start : Sizing 0 0
  sizing-start = record { within = omega arith; small = omega arith; same = omega (arith, ap size_of all_lines) }

  module _ (sum i : ℕ) (z : Sizing sum i) where
    pub sizing-on : (size : ℕ) → i < s.count → size ≡ sizes (line_at s i).amplitude → size ≤ 2 ^ 32 → Sizing (sum + size) (i + 1)
    unfolding size_of sum_by
    sizing-on size h e few =
        let split : size_of (from i) ≡ size + size_of (from (suc i)) = ap size_of (next-line i h) ∙ ap (λ (n : ℕ). n + size_of (from (suc i))) (sym e) in
        record { within = omega arith; small = omega (arith, z.small); same = rw add-one (omega (arith, z.same)) }

    pub sizing-end : s.count ≤ i → sum ≡ size_of (lines_of s)
    unfolding size_of sum_by lines_from
    sizing-end h =
        let e : s.count - i ≡ 0 = omega arith in
        let none : size_of (from i) ≡ 0 = ap (λ (n : ℕ). size_of (lines_from s i n)) e in
        omega (arith, z.same)
