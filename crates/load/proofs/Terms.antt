-- One pair of waves: what its parts come to, and how large they are. Assumes nothing.
use mathlib.Core.Path.{◌≡◌, refl, sym, ap, ◌∙◌, subst}
use mathlib.Core.Bool.{Bool, true, false, cond}
use mathlib.Core.List.{[], ◌∷◌}
use Prim.Native.Nat.{ℕ, ◌+◌, ◌*◌, ◌^◌, ◌≤◌}
use native.Mathlib.Nat.{le_trans, mul-le-mul, mul-le-mul_left, mul-le-mul_right}
use native.Mathlib.Omega.{arith}
use borrow.Author.Tests.{eq-eqb}
use lib.Dec.{eqb}
use lib.IntN.{ℤ, pos, neg_ℤ, nat_abs, ◌+ℤ◌, ◌-ℤ◌, ◌*ℤ◌, +ℤ_invr, +ℤ_idl, zero-*ℤ}
use mir.Syntax.{w32, w64}
use mir.Val.{SFits, to_z, of_z}
use mir.Facts.{to_z-of_z}
use Rattle.whole.specs.Complex.{Complex, ◌+ᶜ◌, ◌*ᶜ◌, conj, sizes}
use Rattle.whole.proofs.Magnitude.{triangle, triangle-sub, nat_abs-*, nat_abs-neg}
use Rattle.whole.proofs.Ring.{v, num, ◌⊕◌, ◌⊖◌, ◌⊗◌, ⊝◌, ring}
use Rattle.whole.proofs.Complex.{ComplexExpr, ◌⊙◌, parts}
use Rattle.whole.proofs.Words.{◌within◌, fits, within-fits, within-neg}
use Rattle.phase.specs.Turn.{Quarter, phase_ℤ}
use Rattle.phase.specs.Rule.{Rule, limits}
use Rattle.phase.proofs.Bounds.{phase-zero}
use Rattle.phase.proofs.Quarters.{Closes}
use Rattle.phase.proofs.Steps.{phase_ℤ-back}
use Rattle.load.specs.Force.{amplitudes, step_of, term_of, mean_term_of}
use Rattle.load.specs.own.Terms.{second_of}
use Rattle.load.specs.own.Waves.{amplitude_of, WaveInRange}
use Rattle.load.specs.declared.waves.Wave.{Wave}
use Rattle.load.proofs.Bilinear.{Raised, to-raised, two-word}
use Rattle.load.proofs.Ranges.{PartsAtMost, sizes-*, times-parts, amplitudes-sizes}

-- ---- words

-- a word of 32 bits as one of 64, and its opposite, which the code has as 0 - z
module _ {z : ℤ} (f : SFits w32 z) where
  pub widened_back : to_z w64 (of_z w64 z) ≡ z
  widened_back = to_z-of_z {w = w64} (fits {w = w64} tt (within-fits f))

  pub less-is : to_z w64 (of_z w64 (pos 0 -ℤ to_z w64 (of_z w64 z))) ≡ neg_ℤ z
  less-is =
      let opposite : SFits w64 (neg_ℤ z) = fits tt (within-neg (within-fits f)) in
      ap (λ y. to_z w64 (of_z w64 y)) (ap (λ y. pos 0 -ℤ y) widened_back ∙ +ℤ_idl (neg_ℤ z)) ∙ to_z-of_z opposite

-- what is at most 9 10^18 in size is a word
pub word_of : (z : ℤ) → nat_abs z ≤ 9_000_000_000_000_000_000 → SFits w64 z
word_of z h =
    let near : z within 9_000_000_000_000_000_001 = record { small = omega arith } in
    fits tt near

-- ---- products

module _ (w z : Complex) where
  module _ (room : sizes w * sizes z ≤ 9_000_000_000_000_000_000) where
    pub re-re : SFits w64 (w.re *ℤ z.re)
    re-re = word_of (w.re *ℤ z.re) (omega (arith, nat_abs-* w.re z.re))

    pub im-im : SFits w64 (w.im *ℤ z.im)
    im-im = word_of (w.im *ℤ z.im) (omega (arith, nat_abs-* w.im z.im))

    pub re-im : SFits w64 (w.re *ℤ z.im)
    re-im = word_of (w.re *ℤ z.im) (omega (arith, nat_abs-* w.re z.im))

    pub im-re : SFits w64 (w.im *ℤ z.re)
    im-re = word_of (w.im *ℤ z.re) (omega (arith, nat_abs-* w.im z.re))

    pub real : SFits w64 (w *ᶜ z).re
    real = word_of (w *ᶜ z).re (omega (arith, sizes-* w z))

    pub imaginary : SFits w64 (w *ᶜ z).im
    imaginary = word_of (w *ᶜ z).im (omega (arith, sizes-* w z))

-- ---- the amplitude that stands second

pub second-sizes : (kind : ℕ) (a : Complex) → sizes (second_of kind a) ≡ sizes a
unfolding second_of
second-sizes kind a = go (eqb kind 0)
  where
    go : (b : Bool) → sizes (cond b (conj a) a) ≡ sizes a
    go true = ap (λ (n : ℕ). nat_abs a.re + n) (nat_abs-neg a.im)
    go false = refl

pub amplitudes-are : (kind : ℕ) (a b : Complex) → a *ᶜ second_of kind b ≡ amplitudes kind a b
unfolding second_of amplitudes
amplitudes-are kind a b = go (eqb kind 0)
  where
    go : (t : Bool) → a *ᶜ cond t (conj b) b ≡ cond t (a *ᶜ conj b) (a *ᶜ b)
    go true = refl
    go false = refl

-- ---- two waves by a coefficient

module _ (kind : ℕ) (m n : Wave) (q : Complex) where
  abbrev both : Complex
  both = amplitudes kind (amplitude_of m) (amplitude_of n)

  module _ (in-range : WaveInRange m × WaveInRange n) where
    pub first-room : (x y : Complex) → x ≡ amplitude_of m → y ≡ second_of kind (amplitude_of n) → sizes x * sizes y ≤ 9_000_000_000_000_000_000
    first-room x y e f =
        let one : sizes x ≤ 40_000 = subst (λ (z : Complex). sizes z ≤ 40_000) (sym e) in-range.0.small in
        let two : sizes y ≤ 40_000 =
        subst (λ (z : Complex). sizes z ≤ 40_000) (sym f) (omega (arith, second-sizes kind (amplitude_of n), in-range.1.small)) in
        omega (arith, mul-le-mul one two)

    pub second-room : PartsAtMost 2_000_000_000 q → (x y : Complex) → x ≡ both → y ≡ q → sizes x * sizes y ≤ 9_000_000_000_000_000_000
    second-room small x y e f =
        let few : sizes both ≤ 1_600_000_000 =
        omega (arith, amplitudes-sizes kind (amplitude_of m) (amplitude_of n), mul-le-mul in-range.0.small in-range.1.small) in
        let parts : sizes q ≤ 4_000_000_000 = omega (arith, small.0, small.1) in
        let one : sizes x ≤ 1_600_000_000 = subst (λ (z : Complex). sizes z ≤ 1_600_000_000) (sym e) few in
        let two : sizes y ≤ 4_000_000_000 = subst (λ (z : Complex). sizes z ≤ 4_000_000_000) (sym f) parts in
        omega (arith, mul-le-mul one two)

  -- both parts of the product, by the bound of the coefficient's
  pub weighed-parts : (B : ℕ) → PartsAtMost B q → (w : Complex) → w ≡ both *ᶜ q → PartsAtMost (sizes (amplitude_of m) * sizes (amplitude_of n) * B) w
  weighed-parts B small w e =
      let few = mul-le-mul_right B (amplitudes-sizes kind (amplitude_of m) (amplitude_of n)) in
      let parts = times-parts both q B small in
      subst (PartsAtMost (sizes (amplitude_of m) * sizes (amplitude_of n) * B)) (sym e) (le_trans parts.0 few, le_trans parts.1 few)

  pub weighed-few : WaveInRange m × WaveInRange n → PartsAtMost 2_000_000_000 q → (w : Complex) → w ≡ both *ᶜ q → PartsAtMost 3_200_000_000_000_000_000 w
  weighed-few in-range small w e =
      let few : sizes (amplitude_of m) * sizes (amplitude_of n) ≤ 1_600_000_000 = mul-le-mul in-range.0.small in-range.1.small in
      let parts = weighed-parts 2_000_000_000 small w e in
      (omega (arith, parts.0), omega (arith, parts.1))

-- ---- by a phase

-- a number that is raised by 2^62
module _ (a : ℤ) (h : nat_abs a ≤ 4_000_000_000_000_000_000) where
  pub lift : Raised a (2 ^ 62)
  lift = to-raised a (2 ^ 62) (omega arith)

  pub lift-small : lift.size ≤ 9_000_000_000_000_000_000
  lift-small = omega (arith, ap nat_abs lift.same, triangle a (pos (2 ^ 62)))

-- by the size of z: with the sign of z it is the product
pub raised-on : (a : ℤ) (r n : ℕ) → pos r ≡ a +ℤ pos (2 ^ 62) → pos r *ℤ pos n ≡ a *ℤ pos n +ℤ pos (2 ^ 62 * n)
raised-on a r n e = ap (λ z. z *ℤ pos n) e ∙ ring (a ∷ pos n ∷ []) ((v 0 ⊕ num (2 ^ 62)) ⊗ v 1) (v 0 ⊗ v 1 ⊕ num (2 ^ 62) ⊗ v 1) tt

pub raised-back : (a : ℤ) (r n : ℕ) → pos r ≡ neg_ℤ a +ℤ pos (2 ^ 62) → pos r *ℤ pos n ≡ a *ℤ neg_ℤ (pos n) +ℤ pos (2 ^ 62 * n)
raised-back a r n e = ap (λ z. z *ℤ pos n) e ∙ ring (a ∷ pos n ∷ []) ((⊝ v 0 ⊕ num (2 ^ 62)) ⊗ v 1) (v 0 ⊗ ⊝ v 1 ⊕ num (2 ^ 62) ⊗ v 1) tt

-- two raised products, lowered by both
pub lowered : (x y z a b c s : ℤ) (m n : ℕ) → x ≡ a *ℤ c +ℤ pos (2 ^ 62 * m) → y ≡ neg_ℤ b *ℤ s +ℤ pos (2 ^ 62 * n) → z ≡ neg_ℤ (pos (2 ^ 62 * (m + n)))
    → x +ℤ y +ℤ z ≡ a *ℤ c -ℤ b *ℤ s
lowered x y z a b c s m n e f g =
    (λ i. e i +ℤ f i +ℤ g i)
    ∙ ring (a ∷ b ∷ c ∷ s ∷ pos m ∷ pos n ∷ [])
    (v 0 ⊗ v 2 ⊕ num (2 ^ 62) ⊗ v 4 ⊕ (⊝ v 1 ⊗ v 3 ⊕ num (2 ^ 62) ⊗ v 5) ⊕ ⊝ (num (2 ^ 62) ⊗ (v 4 ⊕ v 5)))
    (v 0 ⊗ v 2 ⊖ v 1 ⊗ v 3)
    tt

module _ (w : Complex) (c s : ℤ) (few : PartsAtMost 3_200_000_000_000_000_000 w) (hc : nat_abs c ≤ 2 ^ 30) (hs : nat_abs s ≤ 2 ^ 30) where
  along-small : nat_abs (w.re *ℤ c) ≤ nat_abs w.re * 2 ^ 30
  along-small = rw (nat_abs-* w.re c) (mul-le-mul_left (nat_abs w.re) hc)

  across-small : nat_abs (w.im *ℤ s) ≤ nat_abs w.im * 2 ^ 30
  across-small = rw (nat_abs-* w.im s) (mul-le-mul_left (nat_abs w.im) hs)

  pub turned-small : nat_abs (w.re *ℤ c -ℤ w.im *ℤ s) ≤ 2 ^ 93
  turned-small = omega (arith, few.0, few.1, triangle-sub (w.re *ℤ c) (w.im *ℤ s), along-small, across-small)

-- ---- both ways

module _ (a b : ℤ) (few : (nat_abs a ≤ 1_000_000_000) × (nat_abs b ≤ 1_000_000_000)) where
  abbrev back : ℤ → ℤ
  back z = to_z w32 (of_z w32 z)

  a_back : back a ≡ a
  a_back = to_z-of_z (two-word a (omega (arith, few.0)))

  b-back : back b ≡ b
  b-back = to_z-of_z (two-word b (omega (arith, few.1)))

  sum_fits : SFits w32 (a +ℤ b)
  sum_fits = two-word (a +ℤ b) (omega (arith, triangle a b, few.0, few.1))

  gap-fits : SFits w32 (a -ℤ b)
  gap-fits = two-word (a -ℤ b) (omega (arith, triangle-sub a b, few.0, few.1))

  minus-is : back (pos 0 -ℤ back b) ≡ neg_ℤ b
  minus-is =
      ap back (ap (λ z. pos 0 -ℤ z) b-back ∙ +ℤ_idl (neg_ℤ b)) ∙ to_z-of_z (two-word (neg_ℤ b) (rw (nat_abs-neg b) (omega (arith, few.1))))

  pub added-back : (c : ℤ) → c ≡ back b → back (back a +ℤ c) ≡ a +ℤ b
  added-back c e = (λ i. back (a_back i +ℤ (e ∙ b-back) i)) ∙ to_z-of_z sum_fits

  pub taken_back : (c : ℤ) → c ≡ back (pos 0 -ℤ back b) → back (back a +ℤ c) ≡ a -ℤ b
  taken_back c e = (λ i. back (a_back i +ℤ (e ∙ minus-is) i)) ∙ to_z-of_z gap-fits

pub both-few : (kind : ℕ) (q r : Complex) → PartsAtMost 1_000_000_000 q → PartsAtMost 1_000_000_000 r → PartsAtMost 2_000_000_000 (q +ᶜ second_of kind r)
unfolding second_of
both-few kind q r h k = go (eqb kind 0)
  where
    go : (d : Bool) → PartsAtMost 2_000_000_000 (q +ᶜ cond d (conj r) r)
    go true = (omega (arith, triangle q.re r.re, h.0, k.0), omega (arith, triangle-sub q.im r.im, h.1, k.1))
    go false = (omega (arith, triangle q.re r.re, h.0, k.0), omega (arith, triangle q.im r.im, h.1, k.1))

-- for `ring`: the conjugate, and the sum
abbrev bar : ComplexExpr → ComplexExpr
bar z = record { re = z.re; im = ⊝ z.im }

abbrev plus : ComplexExpr → ComplexExpr → ComplexExpr
plus w z = record { re = w.re ⊕ z.re; im = w.im ⊕ z.im }

-- the way back has the conjugate of the phase in a difference table, and the same phase in a sum table
module _ {clock : Quarter} (closes : Closes clock) where
  step_back : (t f g : ℕ) → phase_ℤ clock ((pos g -ℤ pos f) *ℤ pos t) ≡ conj (phase_ℤ clock ((pos f -ℤ pos g) *ℤ pos t))
  step_back t f g =
      ap (phase_ℤ clock) (ring (pos f ∷ pos g ∷ pos t ∷ []) ((v 1 ⊖ v 0) ⊗ v 2) (⊝ ((v 0 ⊖ v 1) ⊗ v 2)) tt)
      ∙ phase_ℤ-back clock closes ((pos f -ℤ pos g) *ℤ pos t)

  -- one term with both coefficients is the terms of both ways
  pub term-both : (kind t : ℕ) (a b : Complex) (f g : ℕ) (q r : Complex)
      → term_of clock kind t a b f g (q +ᶜ second_of kind r) ≡ term_of clock kind t a b f g q +ℤ term_of clock kind t b a g f r
  unfolding term_of second_of amplitudes step_of
  term-both kind t a b f g q r = go (eqb kind 0)
    where
      go : (d : Bool)
          → (cond d (a *ᶜ conj b) (a *ᶜ b) *ᶜ (q +ᶜ cond d (conj r) r) *ᶜ phase_ℤ clock (cond d ((pos f -ℤ pos g) *ℤ pos t) (pos ((f + g) * t)))).re
          ≡ (cond d (a *ᶜ conj b) (a *ᶜ b) *ᶜ q *ᶜ phase_ℤ clock (cond d ((pos f -ℤ pos g) *ℤ pos t) (pos ((f + g) * t)))).re
          +ℤ (cond d (b *ᶜ conj a) (b *ᶜ a) *ᶜ r *ᶜ phase_ℤ clock (cond d ((pos g -ℤ pos f) *ℤ pos t) (pos ((g + f) * t)))).re
      go true =
          let z = phase_ℤ clock ((pos f -ℤ pos g) *ℤ pos t) in
          let A = parts 0 1 in
          let B = parts 2 3 in
          let Q = parts 4 5 in
          let R = parts 6 7 in
          let Z = parts 8 9 in
          ring (a.re ∷ a.im ∷ b.re ∷ b.im ∷ q.re ∷ q.im ∷ r.re ∷ r.im ∷ z.re ∷ z.im ∷ [])
          (A ⊙ bar B ⊙ plus Q (bar R) ⊙ Z).re
          ((A ⊙ bar B ⊙ Q ⊙ Z).re ⊕ (B ⊙ bar A ⊙ R ⊙ bar Z).re)
          tt
          ∙ ap (λ (y : Complex). (a *ᶜ conj b *ᶜ q *ᶜ z).re +ℤ (b *ᶜ conj a *ᶜ r *ᶜ y).re) (sym (step_back t f g))
      go false =
          let z = phase_ℤ clock (pos ((f + g) * t)) in
          let same : (f + g) * t ≡ (g + f) * t = omega arith in
          let A = parts 0 1 in
          let B = parts 2 3 in
          let Q = parts 4 5 in
          let R = parts 6 7 in
          let Z = parts 8 9 in
          ring (a.re ∷ a.im ∷ b.re ∷ b.im ∷ q.re ∷ q.im ∷ r.re ∷ r.im ∷ z.re ∷ z.im ∷ [])
          (A ⊙ B ⊙ plus Q R ⊙ Z).re
          ((A ⊙ B ⊙ Q ⊙ Z).re ⊕ (B ⊙ A ⊙ R ⊙ Z).re)
          tt
          ∙ ap (λ (k : ℕ). (a *ᶜ b *ᶜ q *ᶜ z).re +ℤ (b *ᶜ a *ᶜ r *ᶜ phase_ℤ clock (pos k)).re) same

-- ---- a wave with itself

-- in a difference table the phase is that of step 0, 2^30
unturned : (w : Complex) (P : ℕ) → (w *ᶜ record { re = pos P; im = pos 0 }).re ≡ pos P *ℤ w.re
unturned w P = ring (w.re ∷ w.im ∷ pos P ∷ []) (v 0 ⊗ v 2 ⊖ v 1 ⊗ num 0) (v 2 ⊗ v 0) tt

pub own-term : {clock : Quarter} → Rule limits clock → (kind t : ℕ) → kind ≡ 0 → (a : Complex) (f : ℕ) (q : Complex) → term_of clock kind t a a f f q ≡ pos (2 ^ 30) *ℤ mean_term_of a q
unfolding term_of mean_term_of amplitudes step_of
own-term {clock} keeps kind t difference a f q =
    let w = a *ᶜ conj a *ᶜ q in
    let step : (pos f -ℤ pos f) *ℤ pos t ≡ pos 0 = ap (λ k. k *ℤ pos t) (+ℤ_invr (pos f)) ∙ zero-*ℤ (pos t) in
    rw (eq-eqb kind 0 difference)
    (ap (λ (k : ℤ). (w *ᶜ phase_ℤ clock k).re) step
    ∙ ap (λ (z : Complex). (w *ᶜ z).re) (phase-zero keeps)
    ∙ unturned w (2 ^ 30))
