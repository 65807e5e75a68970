-- What the cosine is in each quarter of the turn: the table, forwards or backwards, with or without a minus. Once over the number of steps to the quarter
-- turn. Assumes nothing.
use mathlib.Core.Path.{◌≡◌, sym, ◌∙◌, ap, subst}
use Prim.Native.Nat.{ℕ, ◌+◌, ◌*◌, ◌-◌, ◌%◌, ◌≤◌, ◌<◌}
use native.Mathlib.Nat.{mod-lt, mod-eq_of_lt}
use native.Mathlib.Decide.{dec_le, dec_lt}
use native.Mathlib.Omega.{arith}
use borrow.Author.Tests.{le-leb, lt-leb}
use lib.IntN.{pos, neg_ℤ}
use Rattle.phase.specs.Turn.{Quarter, entry, turn, in_turn, cosine}
use Rattle.phase.proofs.Turns.{cosine-past}

-- ---- as the definition has it, and as code takes it

module _ (q : Quarter) (k : ℕ) where
  pub in-first : k ≤ q.steps → in_turn q k ≡ pos (entry q k)
  unfolding in_turn
  in-first h = simp (le-leb _ _ h)

  pub in-second : q.steps < k → k ≤ 2 * q.steps → in_turn q k ≡ neg_ℤ (pos (entry q (2 * q.steps - k)))
  unfolding in_turn
  in-second g h = simp (lt-leb _ _ g, le-leb _ _ h)

  pub in-third : 2 * q.steps < k → k ≤ 3 * q.steps → in_turn q k ≡ neg_ℤ (pos (entry q (k - 2 * q.steps)))
  unfolding in_turn
  in-third g h = let f : q.steps < k = omega arith in simp (lt-leb _ _ f, lt-leb _ _ g, le-leb _ _ h)

  pub in-fourth : 3 * q.steps < k → in_turn q k ≡ pos (entry q (4 * q.steps - k))
  unfolding in_turn
  in-fourth h =
      let f : q.steps < k = omega arith in
      let g : 2 * q.steps < k = omega arith in
      simp (lt-leb _ _ f, lt-leb _ _ g, lt-leb _ _ h)

  -- a table with no step, which no rule knows: its one entry at every step
  pub in-none : q.steps ≡ 0 → in_turn q k ≡ pos (entry q 0)
  in-none e = go (dec_le k 0)
    where
      go : Dec (k ≤ 0) → in_turn q k ≡ pos (entry q 0)
      go (yes h) =
          let f : k ≡ 0 = omega arith in
          in-first (omega arith) ∙ ap (λ (i : ℕ). pos (entry q i)) f
      go (no h) =
          let f : 4 * q.steps - k ≡ 0 = omega arith in
          in-fourth (omega arith) ∙ ap (λ (i : ℕ). pos (entry q i)) f

-- a step below the whole turn is its own place
pub own : (q : Quarter) (k : ℕ) → k < turn q → cosine q k ≡ in_turn q k
unfolding cosine
own q k h = ap (in_turn q) (mod-eq_of_lt h)

-- what the symmetries ask of a table: that it has a step, and that its last entry is 0, where two quarters meet
pub record Closes (q : Quarter) : Type 0 where
  pub some : 0 < q.steps
  pub last : entry q q.steps ≡ 0

module _ (q : Quarter) (c : Closes q) where
  abbrev n : ℕ
  n = q.steps

  -- ---- in each quarter, both ends with it: i steps from the end where the cosine is the largest in size

  pub cosine-first : (i : ℕ) → i ≤ n → cosine q i ≡ pos (entry q i)
  cosine-first i h = own q i (omega (arith, c.some)) ∙ in-first q i h

  pub cosine-second : (i : ℕ) → i ≤ n → cosine q (2 * n - i) ≡ neg_ℤ (pos (entry q i))
  cosine-second i h = own q (2 * n - i) (omega (arith, c.some)) ∙ go (dec_lt i n)
    where
      go : Dec (i < n) → in_turn q (2 * n - i) ≡ neg_ℤ (pos (entry q i))
      go (yes g) =
          let e : 2 * n - (2 * n - i) ≡ i = omega arith in
          in-second q (2 * n - i) (omega arith) (omega arith) ∙ ap (λ (j : ℕ). neg_ℤ (pos (entry q j))) e
      go (no g) =
          let e : i ≡ n = omega arith in
          let f : 2 * n - i ≡ n = omega arith in
          ap (in_turn q) f ∙ in-first q n (omega arith) ∙ ap pos c.last ∙ ap (λ (x : ℕ). neg_ℤ (pos x)) (sym (ap (entry q) e ∙ c.last))

  pub cosine-third : (i : ℕ) → i ≤ n → cosine q (2 * n + i) ≡ neg_ℤ (pos (entry q i))
  cosine-third i h = own q (2 * n + i) (omega (arith, c.some)) ∙ go (dec_lt 0 i)
    where
      go : Dec (0 < i) → in_turn q (2 * n + i) ≡ neg_ℤ (pos (entry q i))
      go (yes g) =
          let e : 2 * n + i - 2 * n ≡ i = omega arith in
          in-third q (2 * n + i) (omega arith) (omega arith) ∙ ap (λ (j : ℕ). neg_ℤ (pos (entry q j))) e
      go (no g) =
          let e : 2 * n - (2 * n + i) ≡ i = omega arith in
          in-second q (2 * n + i) (omega (arith, c.some)) (omega arith) ∙ ap (λ (j : ℕ). neg_ℤ (pos (entry q j))) e

  pub cosine-fourth : (i : ℕ) → i ≤ n → cosine q (4 * n - i) ≡ pos (entry q i)
  cosine-fourth i h = go (dec_lt 0 i) (dec_lt i n)
    where
      inside : 0 < i → Dec (i < n) → in_turn q (4 * n - i) ≡ pos (entry q i)
      inside f (yes g) =
          let e : 4 * n - (4 * n - i) ≡ i = omega arith in
          in-fourth q (4 * n - i) (omega arith) ∙ ap (λ (j : ℕ). pos (entry q j)) e
      inside f (no g) =
          let e : 4 * n - i - 2 * n ≡ n = omega arith in
          let d : i ≡ n = omega arith in
          in-third q (4 * n - i) (omega arith) (omega arith)
          ∙ ap (λ (j : ℕ). neg_ℤ (pos (entry q j))) e
          ∙ ap (λ (x : ℕ). neg_ℤ (pos x)) c.last
          ∙ ap pos (sym (ap (entry q) d ∙ c.last))

      go : Dec (0 < i) → Dec (i < n) → cosine q (4 * n - i) ≡ pos (entry q i)
      go (yes f) g = own q (4 * n - i) (omega (arith, c.some)) ∙ inside f g
      go (no f) g = cosine-past q i (4 * n - i) 1 (omega arith) ∙ cosine-first i h

  -- ---- every step stands in one of the four

  pub by-quarter : (P : ℕ → Type 0) → ((i : ℕ) → i ≤ n → P i) → ((i : ℕ) → i ≤ n → P (2 * n - i)) → ((i : ℕ) → i ≤ n → P (2 * n + i)) → ((i : ℕ) → i ≤ n → P (4 * n - i)) → (k : ℕ) → k ≤ turn q → P k
  by-quarter P f g s t k h = go (dec_le k n) (dec_le k (2 * n)) (dec_le k (3 * n))
    where
      go : Dec (k ≤ n) → Dec (k ≤ 2 * n) → Dec (k ≤ 3 * n) → P k
      go (yes a) b d = f k a
      go (no a) (yes b) d =
          let e : 2 * n - (2 * n - k) ≡ k = omega arith in
          subst P e (g (2 * n - k) (omega arith))
      go (no a) (no b) (yes d) =
          let e : 2 * n + (k - 2 * n) ≡ k = omega arith in
          subst P e (s (k - 2 * n) (omega arith))
      go (no a) (no b) (no d) =
          let e : 4 * n - (4 * n - k) ≡ k = omega arith in
          subst P e (t (4 * n - k) (omega arith))

  -- every step has its place in the turn
  pub within : (k : ℕ) → k % turn q ≤ turn q
  within k = let h : 0 < turn q = omega (arith, c.some) in omega (arith, mod-lt k h)
