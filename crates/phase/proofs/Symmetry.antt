-- The symmetries of cosine and sine, once over the number of steps to the quarter turn: half a turn on, a quarter turn on, and at the mirrored step, where
-- the phase is the conjugate. Assumes nothing.
use mathlib.Core.Path.{◌≡◌, sym, ◌∙◌, ap}
use Prim.Native.Nat.{ℕ, ◌+◌, ◌*◌, ◌-◌, ◌/◌, ◌%◌, ◌≤◌}
use native.Mathlib.Nat.{div-add-mod'}
use native.Mathlib.Omega.{arith}
use lib.IntN.{ℤ, pos, neg_ℤ, nat_abs, neg_ℤ-neg_ℤ}
use Rattle.whole.specs.Complex.{Complex, conj}
use Rattle.whole.proofs.Magnitude.{nat_abs-neg}
use Rattle.phase.specs.Turn.{Quarter, entry, turn, cosine, sine, phase}
use Rattle.phase.proofs.Turns.{cosine-turns, cosine-past, cosine-rest, cosine-shift, sine-rest}
use Rattle.phase.proofs.Quarters.{Closes, cosine-first, cosine-second, cosine-third, cosine-fourth, by-quarter, within}

-- how far a step stands from where the cosine is the largest, and so, by their sizes, the cosine and the sine there
pub record Place (q : Quarter) (k : ℕ) : Type 0 where
  pub from : ℕ
  pub inside : from ≤ q.steps
  pub size-re : nat_abs (cosine q k) ≡ entry q from
  pub size-im : nat_abs (sine q k) ≡ entry q (q.steps - from)

-- i z: z turned by a quarter
abbrev pub quarter : Complex → Complex
quarter z = record { re = neg_ℤ z.im; im = z.re }

module _ (q : Quarter) (c : Closes q) where
  abbrev n : ℕ
  n = q.steps

  -- ---- half a turn on, the cosine changes its sign

  half-on : (k : ℕ) → k ≤ turn q → cosine q (k + 2 * n) ≡ neg_ℤ (cosine q k)
  half-on =
      by-quarter q c (λ (k : ℕ). cosine q (k + 2 * n) ≡ neg_ℤ (cosine q k))
      (λ i h. cosine-past q (2 * n + i) (i + 2 * n) 0 (omega arith) ∙ cosine-third q c i h ∙ ap neg_ℤ (sym (cosine-first q c i h)))
      (λ i h.
      cosine-past q (4 * n - i) (2 * n - i + 2 * n) 0 (omega arith)
      ∙ cosine-fourth q c i h
      ∙ sym (ap neg_ℤ (cosine-second q c i h) ∙ neg_ℤ-neg_ℤ (pos (entry q i))))
      (λ i h.
      cosine-past q i (2 * n + i + 2 * n) 1 (omega arith)
      ∙ cosine-first q c i h
      ∙ sym (ap neg_ℤ (cosine-third q c i h) ∙ neg_ℤ-neg_ℤ (pos (entry q i))))
      (λ i h.
      cosine-past q (2 * n - i) (4 * n - i + 2 * n) 1 (omega arith) ∙ cosine-second q c i h ∙ ap neg_ℤ (sym (cosine-fourth q c i h)))

  pub half-turn : (k : ℕ) → cosine q (k + 2 * n) ≡ neg_ℤ (cosine q k)
  half-turn k = sym (cosine-shift q k (2 * n)) ∙ half-on (k % turn q) (within q c k) ∙ ap neg_ℤ (cosine-rest q k)

  -- ---- the cosine at the mirrored step is the same

  back_on : (k : ℕ) → k ≤ turn q → cosine q (turn q - k) ≡ cosine q k
  back_on =
      by-quarter q c (λ (k : ℕ). cosine q (turn q - k) ≡ cosine q k)
      (λ i h. cosine-fourth q c i h ∙ sym (cosine-first q c i h))
      (λ i h. cosine-past q (2 * n + i) (4 * n - (2 * n - i)) 0 (omega arith) ∙ cosine-third q c i h ∙ sym (cosine-second q c i h))
      (λ i h. cosine-past q (2 * n - i) (4 * n - (2 * n + i)) 0 (omega arith) ∙ cosine-second q c i h ∙ sym (cosine-third q c i h))
      (λ i h. cosine-past q i (4 * n - (4 * n - i)) 0 (omega arith) ∙ cosine-first q c i h ∙ sym (cosine-fourth q c i h))

  pub cosine-mirror : (m k : ℕ) → k ≤ turn q * m → cosine q (turn q * m - k) ≡ cosine q k
  cosine-mirror m k h =
      let u = k / turn q in
      let r = k % turn q in
      let e : turn q * m - k + (u + 1) * turn q ≡ turn q - r + m * turn q = omega (arith, div-add-mod' k (turn q), within q c k) in
      sym (cosine-turns q (turn q * m - k) (u + 1))
      ∙ cosine-past q (turn q - r) (turn q * m - k + (u + 1) * turn q) m e
      ∙ back_on r (within q c k)
      ∙ cosine-rest q k

  -- ---- the sine, which is the cosine three quarters on

  -- a quarter turn on, the sine is the cosine, and the cosine the sine with a minus
  pub sine-on : (k : ℕ) → sine q (k + n) ≡ cosine q k
  unfolding sine
  sine-on k = cosine-past q k (k + n + 3 * n) 1 (omega arith)

  pub cosine-on : (k : ℕ) → cosine q (k + n) ≡ neg_ℤ (sine q k)
  unfolding sine
  cosine-on k =
      sym (neg_ℤ-neg_ℤ (cosine q (k + n)))
      ∙ ap neg_ℤ (sym (half-turn (k + n)) ∙ cosine-past q (k + 3 * n) (k + n + 2 * n) 0 (omega arith))

  -- the sine in each quarter: it is what the cosine is at the other end of it, above 0 in the first two and below 0 in the last two
  pub sine-first : (i : ℕ) → i ≤ n → sine q i ≡ pos (entry q (n - i))
  unfolding sine
  sine-first i h = cosine-past q (4 * n - (n - i)) (i + 3 * n) 0 (omega arith) ∙ cosine-fourth q c (n - i) (omega arith)

  pub sine-second : (i : ℕ) → i ≤ n → sine q (2 * n - i) ≡ pos (entry q (n - i))
  unfolding sine
  sine-second i h = cosine-past q (n - i) (2 * n - i + 3 * n) 1 (omega arith) ∙ cosine-first q c (n - i) (omega arith)

  pub sine-third : (i : ℕ) → i ≤ n → sine q (2 * n + i) ≡ neg_ℤ (pos (entry q (n - i)))
  unfolding sine
  sine-third i h = cosine-past q (2 * n - (n - i)) (2 * n + i + 3 * n) 1 (omega arith) ∙ cosine-second q c (n - i) (omega arith)

  pub sine-fourth : (i : ℕ) → i ≤ n → sine q (4 * n - i) ≡ neg_ℤ (pos (entry q (n - i)))
  unfolding sine
  sine-fourth i h = cosine-past q (2 * n + (n - i)) (4 * n - i + 3 * n) 1 (omega arith) ∙ cosine-third q c (n - i) (omega arith)

  -- the sine at the mirrored step has a minus
  pub sine-mirror : (m k : ℕ) → k ≤ turn q * m → sine q (turn q * m - k) ≡ neg_ℤ (sine q k)
  unfolding sine
  sine-mirror m k h =
      cosine-past q (turn q * (m + 2) - (k + 3 * n + 2 * n)) (turn q * m - k + 3 * n) 0 (omega arith)
      ∙ cosine-mirror (m + 2) (k + 3 * n + 2 * n) (omega arith)
      ∙ half-turn (k + 3 * n)

  -- ---- the phase

  pub quarter-turn : (k : ℕ) → phase q (k + n) ≡ quarter (phase q k)
  quarter-turn k = λ i. record { re = cosine-on k i; im = sine-on k i }

  pub phase-mirror : (m k : ℕ) → k ≤ turn q * m → phase q (turn q * m - k) ≡ conj (phase q k)
  phase-mirror m k h = λ i. record { re = cosine-mirror m k h i; im = sine-mirror m k h i }

  -- ---- where a step stands in its quarter

  pub place : (k : ℕ) → Place q k
  place k =
      moved
      (by-quarter q c (λ (j : ℕ). Place q j)
      (λ i h. record { from = i; inside = h; size-re = ap nat_abs (cosine-first q c i h); size-im = ap nat_abs (sine-first i h) })
      (λ i h. record { from = i; inside = h; size-re = less i (cosine-second q c i h); size-im = ap nat_abs (sine-second i h) })
      (λ i h. record { from = i; inside = h; size-re = less i (cosine-third q c i h); size-im = less (n - i) (sine-third i h) })
      (λ i h. record { from = i; inside = h; size-re = ap nat_abs (cosine-fourth q c i h); size-im = less (n - i) (sine-fourth i h) })
      (k % turn q)
      (within q c k))
    where
      less : {z : ℤ} (i : ℕ) → z ≡ neg_ℤ (pos (entry q i)) → nat_abs z ≡ entry q i
      less i e = ap nat_abs e ∙ nat_abs-neg (pos (entry q i))

      moved : Place q (k % turn q) → Place q k
      moved p =
          record {
            from = p.from;
            inside = p.inside;
            size-re = ap nat_abs (sym (cosine-rest q k)) ∙ p.size-re;
            size-im = ap nat_abs (sym (sine-rest q k)) ∙ p.size-im;
          }
