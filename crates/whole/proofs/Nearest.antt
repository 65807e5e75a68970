-- Rounding to the nearest, a tie to the even one, once over the divisor: `nearest_ℤ` of specs/Nearest is nearest, nothing else is, it keeps the sign, and
-- one step leads from any quotient and remainder to it (`nearest-step`). Every rounding of the project cites these. Assumes nothing.
use mathlib.Core.Path.{◌≡◌, refl, sym, ◌∙◌, ap}
use mathlib.Core.List.{[], ◌∷◌}
use Prim.Native.Nat.{ℕ, zero, suc, ◌+◌, ◌*◌, ◌-◌, ◌/◌, ◌%◌, ◌≤◌, ◌<◌}
use native.Mathlib.Nat.{div-add-mod', mod-lt, mul-le-mul_right, mul-pos, le_of_mul-le-mul_right, le_antisymm, le_of_eq, le-div_iff_mul-le}
use native.Mathlib.Decide.{dec_lt}
use native.Mathlib.Omega.{arith}
use lib.Dec.{ltb, ltb→lt, nltb→le}
use lib.IntN.{ℤ, pos, negsuc, neg_ℤ, nat_abs, ◌+ℤ◌, ◌-ℤ◌, ◌*ℤ◌, neg_ℤ-neg_ℤ, +ℤ_invr}
use borrow.Author.Tests.{lt-ltb, ne_eqb}
use Rattle.whole.specs.Nearest.{rounds_up, nearest, nearest_ℤ, IsNearest}
use lib.Arith.{digits_div, digits_mod}
use Rattle.whole.proofs.Laws.{eq-of-sub}
use Rattle.whole.proofs.Ring.{v, ◌⊕◌, ◌⊖◌, ◌⊗◌, ⊝◌, ring}
use Rattle.whole.proofs.OrderLaws.{cond_ind, subℕ-ind}
use Rattle.whole.proofs.Magnitude.{nat_abs-neg, nat_abs-zero, nat_abs-*, nat_abs-sub-comm, triangle-via}

-- ---- the distance of two naturals

abbrev dist : ℕ → ℕ → ℕ
dist a b = (a - b) + (b - a)

dist-is : (a b : ℕ) → nat_abs (pos a -ℤ pos b) ≡ dist a b
dist-is a zero = omega arith
dist-is a (suc b) = subℕ-ind (λ z. nat_abs z ≡ dist a (suc b)) a (suc b) (λ h. omega arith) (λ h. omega arith)

-- ---- the step is nearest

-- of a natural: what `IsNearest` says, by the distance of naturals
record Near (n d q : ℕ) : Type 0 where
  close : 2 * dist n (q * d) ≤ d
  tie : 2 * dist n (q * d) ≡ d → q % 2 ≡ 0

-- `omega` multiplies (q + 1) * d out
module _ (n d q r : ℕ) (whole : q * d + r ≡ n) (small : r < d) where
  below : r < d - r → Near n d (q + 0)
  below h = record { close = omega arith; tie = omega arith }

  above : d - r < r → Near n d (q + 1)
  above h = record { close = omega arith; tie = omega arith }

  -- at a tie either neighbour is d / 2 away
  either : (b : ℕ) → b < 2 → 2 * r ≡ d → 2 * dist n ((q + b) * d) ≤ d
  either zero h e = omega arith
  either (suc zero) h e = omega arith
  either (suc (suc b)) h e = absurd (omega arith)

  middle : d - r ≤ r → r ≤ d - r → Near n d (q + q % 2)
  middle h k = record { close = either (q % 2) (omega arith) (omega arith); tie = omega arith }

  step-near : Near n d (q + rounds_up q r d)
  unfolding rounds_up
  step-near =
      cond_ind (λ (u : ℕ). Near n d (q + u)) (ltb r (d - r))
      (λ t. below (ltb→lt r (d - r) t))
      (λ t. cond_ind (λ (u : ℕ). Near n d (q + u)) (ltb (d - r) r)
      (λ s. above (ltb→lt (d - r) r s))
      (λ s. middle (nltb→le r (d - r) t) (nltb→le (d - r) r s)))

-- above a divisor of 0 the definition takes its step
nearest-takes : (n d : ℕ) → 0 < d → nearest n d ≡ n / d + rounds_up (n / d) (n % d) d
unfolding nearest
nearest-takes n d h = simp (ne_eqb d 0 (λ e. omega arith))

nearest-near : (n d : ℕ) → 0 < d → Near n d (nearest n d)
nearest-near n d h = rw (nearest-takes n d h) (step-near n d (n / d) (n % d) (div-add-mod' n d) (mod-lt n h))

-- ---- with a sign

pub nat_abs-nearest : (x : ℤ) (d : ℕ) → nat_abs (nearest_ℤ x d) ≡ nearest (nat_abs x) d
nat_abs-nearest (pos n) d = refl
nat_abs-nearest (negsuc n) d = nat_abs-neg (pos (nearest (suc n) d))

-- the distance of x from q d is that of their sizes
nearest-dist : (x : ℤ) (d : ℕ) → nat_abs (x -ℤ nearest_ℤ x d *ℤ pos d) ≡ dist (nat_abs x) (nearest (nat_abs x) d * d)
nearest-dist (pos n) d = dist-is n (nearest n d * d)
nearest-dist (negsuc n) d =
    ap nat_abs (ring (pos (suc n) ∷ pos (nearest (suc n) d) ∷ pos d ∷ []) (⊝ v 0 ⊖ ⊝ v 1 ⊗ v 2) (⊝ (v 0 ⊖ v 1 ⊗ v 2)) tt)
    ∙ nat_abs-neg (pos (suc n) -ℤ pos (nearest (suc n) d) *ℤ pos d)
    ∙ dist-is (suc n) (nearest (suc n) d * d)

pub nearest-is : (x : ℤ) (d : ℕ) → 0 < d → IsNearest x d (nearest_ℤ x d)
nearest-is x d h =
    let near = nearest-near (nat_abs x) d h in
    record {
      close = omega (arith, nearest-dist x d, near.close);
      tie = λ e. ap (λ (q : ℕ). q % 2) (nat_abs-nearest x d)
          ∙ near.tie (sym (ap (λ (m : ℕ). 2 * m) (nearest-dist x d)) ∙ e);
    }

-- ---- nothing else is

-- two even numbers are not one apart
even-apart : (p q : ℤ) → nat_abs p % 2 ≡ 0 → nat_abs q % 2 ≡ 0 → nat_abs (p -ℤ q) ≡ 1 → ⊥
even-apart (pos a) (pos b) s t e = omega (arith, dist-is a b)
even-apart (pos a) (negsuc b) s t e = omega arith
even-apart (negsuc a) (pos b) s t e = omega (arith, nat_abs-sub-comm (negsuc a) (pos b))
even-apart (negsuc a) (negsuc b) s t e = omega (arith, dist-is (suc b) (suc a))

-- (k is how far p and q are apart, s and t how far p d and q d are from x)
module _ (d : ℕ) (positive : 0 < d) where
  one_apart : (k s t : ℕ) → k * d ≤ s + t → 2 * s ≤ d → 2 * t ≤ d → k ≤ 1
  one_apart zero s t h a b = omega arith
  one_apart (suc zero) s t h a b = omega arith
  one_apart (suc (suc k)) s t h a b = absurd (omega arith)

  pub nearest-unique : {x p q : ℤ} → IsNearest x d p → IsNearest x d q → p ≡ q
  nearest-unique {x} {p} {q} a b =
      let s = nat_abs (x -ℤ p *ℤ pos d) in
      let t = nat_abs (x -ℤ q *ℤ pos d) in
      let k = nat_abs (p -ℤ q) in
      let e : nat_abs (p *ℤ pos d -ℤ q *ℤ pos d) ≡ k * d =
      ap nat_abs (ring (p ∷ q ∷ pos d ∷ []) (v 0 ⊗ v 2 ⊖ v 1 ⊗ v 2) ((v 0 ⊖ v 1) ⊗ v 2) tt) ∙ nat_abs-* (p -ℤ q) (pos d) in
      let h : k * d ≤ s + t =
      omega (arith, e, triangle-via (p *ℤ pos d) x (q *ℤ pos d), nat_abs-sub-comm (p *ℤ pos d) x) in
      by_apart k refl (one_apart k s t h a.close b.close) s t h a.close b.close a.tie b.tie
    where
      by_apart : (k : ℕ) → nat_abs (p -ℤ q) ≡ k → k ≤ 1 → (s t : ℕ) → k * d ≤ s + t → 2 * s ≤ d → 2 * t ≤ d
          → (2 * s ≡ d → nat_abs p % 2 ≡ 0) → (2 * t ≡ d → nat_abs q % 2 ≡ 0) → p ≡ q
      by_apart zero e l s t h c f u w = eq-of-sub p q (nat_abs-zero (p -ℤ q) e)
      by_apart (suc zero) e l s t h c f u w = absurd (even-apart p q (u (omega arith)) (w (omega arith)) e)
      by_apart (suc (suc k)) e l s t h c f u w = absurd (omega arith)

  pub nearest-only : {x q : ℤ} → IsNearest x d q → q ≡ nearest_ℤ x d
  nearest-only {x} a = nearest-unique a (nearest-is x d positive)

-- ---- what rounds to what

-- a multiple of d is exact
pub nearest-whole : (w : ℤ) (d : ℕ) → 0 < d → nearest_ℤ (w *ℤ pos d) d ≡ w
nearest-whole w d h =
    let e : nat_abs (w *ℤ pos d -ℤ w *ℤ pos d) ≡ 0 = ap nat_abs (+ℤ_invr (w *ℤ pos d)) in
    let exact : IsNearest (w *ℤ pos d) d w = record { close = omega arith; tie = λ t. absurd (omega arith) } in
    sym (nearest-only d h exact)

-- a common factor of x and d makes no difference
cancel : (c a b : ℕ) → 0 < c → a * c ≡ b * c → a ≡ b
cancel c a b h e =
    le_antisymm (le_of_mul-le-mul_right (le_of_eq e) h) (le_of_mul-le-mul_right (le_of_eq (sym e)) h)

pub nearest-scale : (x : ℤ) (d c : ℕ) → 0 < d → 0 < c → nearest_ℤ (x *ℤ pos c) (d * c) ≡ nearest_ℤ x d
nearest-scale x d c h k =
    let q = nearest_ℤ x d in
    let m = nat_abs (x -ℤ q *ℤ pos d) in
    let e : nat_abs (x *ℤ pos c -ℤ q *ℤ pos (d * c)) ≡ m * c =
    ap nat_abs (ring (x ∷ q ∷ pos d ∷ pos c ∷ []) (v 0 ⊗ v 3 ⊖ v 1 ⊗ (v 2 ⊗ v 3)) ((v 0 ⊖ v 1 ⊗ v 2) ⊗ v 3) tt)
    ∙ nat_abs-* (x -ℤ q *ℤ pos d) (pos c) in
    let near = nearest-is x d h in
    let scaled : IsNearest (x *ℤ pos c) (d * c) q =
    record {
      close = omega (arith, e, mul-le-mul_right c near.close);
      tie = λ t. near.tie (cancel c (2 * m) d k (omega (arith, e)));
    } in
    sym (nearest-only (d * c) (mul-pos h k) scaled)

-- rounding goes no further than the whole number that bounds x / d
pub nearest-within : (x : ℤ) (d b : ℕ) → 0 < d → nat_abs x ≤ b * d → nat_abs (nearest_ℤ x d) ≤ b
nearest-within x d b h k =
    rw (nat_abs-nearest x d) (bounded (nearest (nat_abs x) d) (dec_lt b (nearest (nat_abs x) d)) (nearest-near (nat_abs x) d h))
  where
    bounded : (q : ℕ) → Dec (b < q) → Near (nat_abs x) d q → q ≤ b
    bounded q (yes l) a = absurd (omega (arith, mul-le-mul_right d l))
    bounded q (no l) a = omega arith

-- the rounded quotient is at most the numerator, over 0 too
pub nearest-le : (n d : ℕ) → nearest n d ≤ n
unfolding nearest
nearest-le n zero = omega arith
nearest-le n (suc d) = nearest-within (pos n) (suc d) n (omega arith) (omega arith)

-- an even number of d more is that number more. An odd one would turn a tie round
pub nearest-shift : (x : ℤ) (d k : ℕ) → 0 < d → k % 2 ≡ 0 → nearest_ℤ (x +ℤ pos (k * d)) d ≡ nearest_ℤ x d +ℤ pos k
nearest-shift x d k h even =
    let q = nearest_ℤ x d in
    let near = nearest-is x d h in
    let e : nat_abs (x +ℤ pos (k * d) -ℤ (q +ℤ pos k) *ℤ pos d) ≡ nat_abs (x -ℤ q *ℤ pos d) =
    ap nat_abs (ring (x ∷ q ∷ pos k ∷ pos d ∷ []) (v 0 ⊕ v 2 ⊗ v 3 ⊖ (v 1 ⊕ v 2) ⊗ v 3) (v 0 ⊖ v 1 ⊗ v 3) tt) in
    let shifted : IsNearest (x +ℤ pos (k * d)) d (q +ℤ pos k) =
    record {
      close = omega (arith, e, near.close);
      tie = λ t. parity q ∙ near.tie (sym (ap (λ (m : ℕ). 2 * m) e) ∙ t);
    } in
    sym (nearest-only d h shifted)
  where
    parity : (q : ℤ) → nat_abs (q +ℤ pos k) % 2 ≡ nat_abs q % 2
    parity (pos n) = omega arith
    parity (negsuc n) = subℕ-ind (λ z. nat_abs z % 2 ≡ suc n % 2) k (suc n) (λ g. omega arith) (λ g. omega arith)

-- a change of sign goes through
pub nearest-neg : (x : ℤ) (d : ℕ) → nearest_ℤ (neg_ℤ x) d ≡ neg_ℤ (nearest_ℤ x d)
nearest-neg (pos zero) d = let e : nearest 0 d ≡ 0 = omega (arith, nearest-le 0 d) in rw e
nearest-neg (pos (suc n)) d = refl
nearest-neg (negsuc n) d = sym (neg_ℤ-neg_ℤ (pos (nearest (suc n) d)))

-- ---- the step, as code takes it

-- from any quotient and remainder, of one word or of two, to the rounded quotient
pub nearest-step : (n d q r : ℕ) → q * d + r ≡ n → r < d → q + rounds_up q r d ≡ nearest n d
nearest-step n d q r e h =
    let f : n / d ≡ q = ap (λ (k : ℕ). k / d) (sym e) ∙ digits_div q h in
    let g : n % d ≡ r = ap (λ (k : ℕ). k % d) (sym e) ∙ digits_mod q h in
    rw (nearest-takes n d (omega arith), f, g)

-- only the quotient's last bit counts, so of two words the lower one is enough
pub rounds_up-parity : (p q r d : ℕ) → p % 2 ≡ q % 2 → rounds_up p r d ≡ rounds_up q r d
unfolding rounds_up
rounds_up-parity p q r d e = rw e

-- less than a half rounds to nothing
pub nearest-nothing : (n d : ℕ) → 2 * n < d → nearest n d ≡ 0
unfolding rounds_up
nearest-nothing n d h =
    let less : n < d - n = omega arith in
    sym (nearest-step n d 0 n (omega arith) (omega arith)) ∙ simp (lt-ltb _ _ less)

-- a whole number that is at most the quotient is at most what it rounds to
pub nearest-above : (n d b : ℕ) → 0 < d → b * d ≤ n → b ≤ nearest n d
nearest-above n d b h k =
    let q : b ≤ n / d = (le-div_iff_mul-le h).1 k in
    let e = nearest-step n d (n / d) (n % d) (div-add-mod' n d) (mod-lt n h) in
    omega arith
