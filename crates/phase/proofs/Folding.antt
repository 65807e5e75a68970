-- The phase by folding: where a step falls in the table the cosine is read from the one end and the sine from the other, and each has its sign by where the step
-- stands in the turn. Of any table that has a step, whatever its entries are. Assumes nothing.
use mathlib.Core.Path.{◌≡◌, sym, ◌∙◌, ap}
use mathlib.Core.Bool.{Bool, true, false, cond, not, ◌&&◌}
use Prim.Native.Nat.{ℕ, ◌+◌, ◌*◌, ◌-◌, ◌%◌, ◌≤◌, ◌<◌}
use native.Mathlib.Nat.{mod-lt}
use native.Mathlib.Decide.{dec_le, dec_lt}
use native.Mathlib.Omega.{arith}
use borrow.Author.Tests.{lt-ltb, le-ltb, le-leb, lt-leb}
use lib.Dec.{ltb, leb}
use lib.IntN.{ℤ, pos, neg_ℤ}
use Rattle.phase.specs.Turn.{Quarter, entry, turn, in_turn, cosine, sine}
use Rattle.phase.specs.own.Folding.{folded}
use Rattle.phase.proofs.Turns.{cosine-past, cosine-rest, sine-rest}
use Rattle.phase.proofs.Quarters.{in-first, in-second, in-third, in-fourth, in-none, own}

-- ---- a step above the one end and not above the other

abbrev pub within : ℕ → ℕ → ℕ → Bool
within k low high = ltb low k && leb k high

inside : (k low high : ℕ) → low < k → k ≤ high → within k low high ≡ true
inside k low high g h = simp (lt-ltb _ _ g, le-leb _ _ h)

below : (k low high : ℕ) → k ≤ low → within k low high ≡ false
below k low high h = simp (le-ltb _ _ h)

above : (k low high : ℕ) → low < k → high < k → within k low high ≡ false
above k low high g h = simp (lt-ltb _ _ g, lt-leb _ _ h)

-- ---- an entry with its sign

abbrev pub signed_by : Bool → ℕ → ℤ
signed_by minus size = cond minus (neg_ℤ (pos size)) (pos size)

module _ (q : Quarter) where
  plus : {z : ℤ} {i j : ℕ} {b : Bool} → z ≡ pos (entry q i) → i ≡ j → b ≡ false → z ≡ signed_by b (entry q j)
  plus {z} {i} {j} {b} e f g = e ∙ ap (λ (n : ℕ). pos (entry q n)) f ∙ sym (ap (λ (t : Bool). signed_by t (entry q j)) g)

  minus : {z : ℤ} {i j : ℕ} {b : Bool} → z ≡ neg_ℤ (pos (entry q i)) → i ≡ j → b ≡ true → z ≡ signed_by b (entry q j)
  minus {z} {i} {j} {b} e f g = e ∙ ap (λ (n : ℕ). neg_ℤ (pos (entry q n))) f ∙ sym (ap (λ (t : Bool). signed_by t (entry q j)) g)

-- ---- where a step falls, by its quarter

module _ (n k : ℕ) where
  fall-first : k ≤ n → folded n k ≡ k
  unfolding folded
  fall-first h = omega arith

  fall-second : n ≤ k → k ≤ 2 * n → folded n k ≡ 2 * n - k
  unfolding folded
  fall-second g h = omega arith

  fall-third : 2 * n ≤ k → k ≤ 3 * n → folded n k ≡ k - 2 * n
  unfolding folded
  fall-third g h = omega arith

  fall-fourth : 3 * n ≤ k → folded n k ≡ 4 * n - k
  unfolding folded
  fall-fourth g = omega arith

-- ---- by the quarter in which the step stands

module _ (q : Quarter) (some : 0 < q.steps) (k : ℕ) (h : k < turn q) where
  abbrev n : ℕ
  n = q.steps

  cosine-at : cosine q k ≡ signed_by (within k n (3 * n)) (entry q (folded n k))
  cosine-at = own q k h ∙ go (dec_le k n) (dec_le k (2 * n)) (dec_le k (3 * n))
    where
      go : Dec (k ≤ n) → Dec (k ≤ 2 * n) → Dec (k ≤ 3 * n) → in_turn q k ≡ signed_by (within k n (3 * n)) (entry q (folded n k))
      go (yes a) b d = plus q (in-first q k a) (sym (fall-first n k a)) (below k n (3 * n) a)
      go (no a) (yes b) d = minus q (in-second q k (omega arith) b) (sym (fall-second n k (omega arith) b)) (inside k n (3 * n) (omega arith) (omega arith))
      go (no a) (no b) (yes d) = minus q (in-third q k (omega arith) d) (sym (fall-third n k (omega arith) d)) (inside k n (3 * n) (omega arith) d)
      go (no a) (no b) (no d) = plus q (in-fourth q k (omega arith)) (sym (fall-fourth n k (omega arith))) (above k n (3 * n) (omega arith) (omega arith))

  -- three quarters on, which from the second quarter on is a quarter back
  sine-at : sine q k ≡ signed_by (not (within k 0 (2 * n))) (entry q (n - folded n k))
  unfolding sine
  sine-at = go (dec_lt 0 k) (dec_lt k n) (dec_le k (2 * n)) (dec_le k (3 * n))
    where
      back : n ≤ k → cosine q (k + 3 * n) ≡ cosine q (k - n)
      back a = cosine-past q (k - n) (k + 3 * n) 1 (omega arith)

      go : Dec (0 < k) → Dec (k < n) → Dec (k ≤ 2 * n) → Dec (k ≤ 3 * n) → cosine q (k + 3 * n) ≡ signed_by (not (within k 0 (2 * n))) (entry q (n - folded n k))
      go (no z) a b d = minus q (own q (k + 3 * n) (omega arith) ∙ in-third q (k + 3 * n) (omega arith) (omega arith)) (omega (arith, fall-first n k (omega arith))) (ap not (below k 0 (2 * n) (omega arith)))
      go (yes z) (yes a) b d = plus q (own q (k + 3 * n) (omega arith) ∙ in-fourth q (k + 3 * n) (omega arith)) (omega (arith, fall-first n k (omega arith))) (ap not (inside k 0 (2 * n) z (omega arith)))
      go (yes z) (no a) (yes b) d = plus q (back (omega arith) ∙ own q (k - n) (omega arith) ∙ in-first q (k - n) (omega arith)) (omega (arith, fall-second n k (omega arith) b)) (ap not (inside k 0 (2 * n) z b))
      go (yes z) (no a) (no b) (yes d) = minus q (back (omega arith) ∙ own q (k - n) (omega arith) ∙ in-second q (k - n) (omega arith) (omega arith)) (omega (arith, fall-third n k (omega arith) d)) (ap not (above k 0 (2 * n) z (omega arith)))
      go (yes z) (no a) (no b) (no d) = minus q (back (omega arith) ∙ own q (k - n) (omega arith) ∙ in-third q (k - n) (omega arith) (omega arith)) (omega (arith, fall-fourth n k (omega arith))) (ap not (above k 0 (2 * n) z (omega arith)))

-- ---- at any step, by its place in the turn

module _ (q : Quarter) (some : 0 < q.steps) (k : ℕ) where
  abbrev at : ℕ
  at = k % turn q

  inside-turn : at < turn q
  inside-turn = let h : 0 < turn q = omega arith in mod-lt k h

  pub cosine-folded : cosine q k ≡ signed_by (within at q.steps (3 * q.steps)) (entry q (folded q.steps at))
  cosine-folded = sym (cosine-rest q k) ∙ cosine-at q some at inside-turn

  pub sine-folded : sine q k ≡ signed_by (not (within at 0 (2 * q.steps))) (entry q (q.steps - folded q.steps at))
  sine-folded = sym (sine-rest q k) ∙ sine-at q some at inside-turn

-- a table with no step has its one entry at every step, or 0 where it has none
module _ (q : Quarter) (none : q.steps ≡ 0) (k : ℕ) where
  pub cosine-none : cosine q k ≡ pos (entry q 0)
  unfolding cosine
  cosine-none = in-none q (k % turn q) none

  pub sine-none : sine q k ≡ pos (entry q 0)
  unfolding sine cosine
  sine-none = in-none q ((k + 3 * q.steps) % turn q) none
