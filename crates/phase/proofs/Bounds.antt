-- What the rule over the table says at every step of the turn, on and back: how large cosine and sine are, how close to the circle they stay, how
-- close each step is to the one before it turned by step 1, and what stands at step 0. Assumes nothing.
use mathlib.Core.Path.{◌≡◌, ◌∙◌, ap, subst}
use mathlib.Core.List.{[], ◌∷◌}
use Prim.Native.Nat.{ℕ, zero, suc, ◌+◌, ◌*◌, ◌-◌, ◌/◌, ◌%◌, ◌^◌, ◌≤◌, ◌<◌}
use native.Mathlib.Nat.{le_of_eq, mod-lt, mod-add-div'}
use native.Mathlib.Numerals.{add-one}
use native.Mathlib.Decide.{dec_le}
use native.Mathlib.Omega.{arith}
use lib.IntN.{ℤ, pos, negsuc, nat_abs, ◌-ℤ◌, ◌*ℤ◌, -ℤ-+ℤ_cancel}
use lib.ListN.{get_or-eq_default}
use Rattle.whole.specs.Complex.{Complex, ◌*ᶜ◌, squares}
use Rattle.whole.proofs.Ring.{v, num, ◌⊕◌, ◌⊖◌, ◌⊗◌, ⊝◌, ring}
use Rattle.whole.proofs.Magnitude.{nat_abs-neg, triangle}
use Rattle.phase.specs.Turn.{Quarter, entry, cosine, sine, phase, phase_ℤ}
use Rattle.phase.specs.Rule.{Limits, Rule, at_step}
use Rattle.phase.proofs.Quarters.{Closes, cosine-first}
use Rattle.phase.proofs.Symmetry.{place, sine-first, quarter, quarter-turn}

-- a natural that is at most l from b
at_most : (a b l : ℕ) → nat_abs (pos a -ℤ pos b) ≤ l → a ≤ b + l
at_most a b l h = omega (arith, triangle (pos a -ℤ pos b) (pos b), ap nat_abs (-ℤ-+ℤ_cancel (pos a) (pos b)))

-- z follows w by u: the product of w and u is within a limit of 2^30 times z, in each part, as the rule asks of steps i, 1 and i + 1
pub record Follows (limit : ℕ) (w u z : Complex) : Type 0 where
  pub re : nat_abs ((w *ᶜ u).re -ℤ pos (2 ^ 30) *ℤ z.re) ≤ limit
  pub im : nat_abs ((w *ᶜ u).im -ℤ pos (2 ^ 30) *ℤ z.im) ≤ limit

-- a quarter turn on, w and z are turned by a quarter, and so is what is between the product and z
follows-quarter : {limit : ℕ} (w u z : Complex) → Follows limit w u z → Follows limit (quarter w) u (quarter z)
follows-quarter {limit} w u z t =
    let ρ = w.re ∷ w.im ∷ u.re ∷ u.im ∷ z.re ∷ z.im ∷ [] in
    let e = ring ρ (⊝ (v 0 ⊗ v 3 ⊕ v 1 ⊗ v 2 ⊖ num (2 ^ 30) ⊗ v 5)) (⊝ v 1 ⊗ v 2 ⊖ v 0 ⊗ v 3 ⊖ num (2 ^ 30) ⊗ ⊝ v 5) tt in
    let f = ring ρ (v 0 ⊗ v 2 ⊖ v 1 ⊗ v 3 ⊖ num (2 ^ 30) ⊗ v 4) (⊝ v 1 ⊗ v 3 ⊕ v 0 ⊗ v 2 ⊖ num (2 ^ 30) ⊗ v 4) tt in
    record {
      re = subst (λ d. nat_abs d ≤ limit) e (rw nat_abs-neg t.im);
      im = subst (λ d. nat_abs d ≤ limit) f t.re;
    }

module _ {l : Limits} {q : Quarter} (r : Rule l q) where
  pub closes : Closes q
  closes = record { some = r.some; last = r.last }

  -- ---- sizes

  falling : (i : ℕ) → i ≤ q.steps → entry q i ≤ 2 ^ 30
  falling zero h = le_of_eq r.first
  falling (suc i) h = omega (arith, rw add-one at (r.falls i h), falling i (omega arith))

  pub entry-le : (i : ℕ) → entry q i ≤ 2 ^ 30
  entry-le i = go (dec_le i q.steps)
    where
      go : Dec (i ≤ q.steps) → entry q i ≤ 2 ^ 30
      go (yes h) = falling i h
      go (no h) =
          let e : entry q i ≡ 0 = get_or-eq_default q.entries 0 (omega (arith, r.count)) in
          omega (arith, e)

  pub cosine-le : (k : ℕ) → nat_abs (cosine q k) ≤ 2 ^ 30
  cosine-le k = let p = place q closes k in omega (arith, p.size-re, entry-le p.from)

  pub sine-le : (k : ℕ) → nat_abs (sine q k) ≤ 2 ^ 30
  sine-le k = let p = place q closes k in omega (arith, p.size-im, entry-le (q.steps - p.from))

  -- ---- the circle

  pub circle : (k : ℕ) → nat_abs (pos (squares (phase q k)) -ℤ pos (2 ^ 60)) ≤ l.circle
  circle k = let p = place q closes k in rw (p.size-re, p.size-im) (r.circle p.from p.inside)

  pub circle_ℤ : (z : ℤ) → nat_abs (pos (squares (phase_ℤ q z)) -ℤ pos (2 ^ 60)) ≤ l.circle
  circle_ℤ (pos k) = circle k
  circle_ℤ (negsuc k) = rw (nat_abs-neg (sine q (suc k))) (circle (suc k))

  pub circle-le : (z : ℤ) → squares (phase_ℤ q z) ≤ 2 ^ 60 + l.circle
  circle-le z = at_most (squares (phase_ℤ q z)) (2 ^ 60) l.circle (circle_ℤ z)

  -- ---- every step follows the one before it by step 1

  -- in the first quarter the phase is what stands in the table
  phase-first : (i : ℕ) → i ≤ q.steps → phase q i ≡ at_step q i
  phase-first i h = λ j. record { re = cosine-first q closes i h j; im = sine-first q closes i h j }

  follows-first : (i : ℕ) → i < q.steps → Follows l.step (phase q i) (phase q 1) (phase q (i + 1))
  follows-first i h =
      let k : i ≤ q.steps = omega arith in
      let g : i + 1 ≤ q.steps = omega arith in
      rw (phase-first i k, phase-first 1 r.some, phase-first (i + 1) g)
      (record { re = r.step-re i h; im = r.step-im i h })

  follows_on : (k : ℕ) → Follows l.step (phase q k) (phase q 1) (phase q (k + 1)) → Follows l.step (phase q (k + q.steps)) (phase q 1) (phase q (k + q.steps + 1))
  follows_on k t =
      let e : k + q.steps + 1 ≡ k + 1 + q.steps = omega arith in
      rw (e, quarter-turn q closes k, quarter-turn q closes (k + 1)) (follows-quarter (phase q k) (phase q 1) (phase q (k + 1)) t)

  follows-at : (m i : ℕ) → i < q.steps → Follows l.step (phase q (i + m * q.steps)) (phase q 1) (phase q (i + m * q.steps + 1))
  follows-at zero i h = let e : i + 0 * q.steps ≡ i = omega arith in rw e (follows-first i h)
  follows-at (suc m) i h =
      let e : i + suc m * q.steps ≡ i + m * q.steps + q.steps = omega arith in
      rw e (follows_on (i + m * q.steps) (follows-at m i h))

  pub follows : (k : ℕ) → Follows l.step (phase q k) (phase q 1) (phase q (k + 1))
  follows k =
      subst (λ (j : ℕ). Follows l.step (phase q j) (phase q 1) (phase q (j + 1))) (mod-add-div' k q.steps)
      (follows-at (k / q.steps) (k % q.steps) (mod-lt k r.some))

  -- ---- where no time has passed

  pub phase-zero : phase q 0 ≡ record { re = pos (2 ^ 30); im = pos 0 }
  phase-zero =
      let one : cosine q 0 ≡ pos (2 ^ 30) = cosine-first q closes 0 (omega arith) ∙ ap pos r.first in
      let e : q.steps - 0 ≡ q.steps = omega arith in
      let none : sine q 0 ≡ pos 0 = sine-first q closes 0 (omega arith) ∙ ap pos (ap (entry q) e ∙ r.last) in
      λ i. record { re = one i; im = none i }
