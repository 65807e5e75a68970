-- Two's complement at any width: what is read from n bits differs from n by whole turns of 2^bits, sums and negations keep that, and only one number of the
-- range does. So a sum or a negation that has room is what is read from its bits. The width stays a variable: omega stops at 2^127. Assumes nothing.
use Rattle.std.proofs.Common.{◌≡◌, ℕ, zero, suc, ◌+◌, ◌-◌, ◌*◌, ◌/◌, ◌%◌, ◌^◌, ◌<◌, ◌≤◌, Bool, true, false, ltb, [], ◌∷◌, ℤ, pos, negsuc, ◌+ℤ◌, ◌-ℤ◌, ◌*ℤ◌, neg_ℤ, nat_abs, sym, ap, ◌∙◌, le_of_lt, mod-lt, div-add-mod', arith, pow_pos, Fits, SFits, to_z, le-ltb}
use lib.Signed.{mag}
use mir.Syntax.{Width}
use mir.Val.{bits, hbits, sel}
use mir.ValLaws.{pow-bits}
use mir.Facts.{sfits_to_z}
use Rattle.whole.proofs.Laws.{eq-of-sub}
use Rattle.whole.proofs.Ring.{v, num, con, ◌⊕◌, ◌⊖◌, ◌⊗◌, ⊝◌, ring, ring-from, times}
use Rattle.whole.proofs.OrderLaws.{subℕ-ind, pos-sub}
use Rattle.whole.proofs.Magnitude.{nat_abs-zero, nat_abs-*, triangle-sub}

-- z and n are one number but for whole turns of M
record Congruent (M : ℕ) (z : ℤ) (n : ℕ) : Type 0 where
  turns : ℤ
  equal : z ≡ pos n +ℤ turns *ℤ pos M

-- what leaves nothing over is that many turns
turns-of : (s M : ℕ) → s % M ≡ 0 → s / M * M ≡ s
turns-of s M e = omega (arith, div-add-mod' s M)

module _ {M : ℕ} where
  sum-congruent : {z w : ℤ} {m n : ℕ} → Congruent M z m → Congruent M w n → Congruent M (z +ℤ w) (m + n)
  sum-congruent {m = m} {n = n} p q = record {
    turns = p.turns +ℤ q.turns;
    equal = (λ i. p.equal i +ℤ q.equal i)
        ∙ ring (pos m ∷ pos n ∷ p.turns ∷ q.turns ∷ pos M ∷ []) (v 0 ⊕ v 2 ⊗ v 4 ⊕ (v 1 ⊕ v 3 ⊗ v 4)) (v 0 ⊕ v 1 ⊕ (v 2 ⊕ v 3) ⊗ v 4) tt;
  }

  mod-congruent : {z : ℤ} {n : ℕ} → Congruent M z n → Congruent M z (n % M)
  mod-congruent {n = n} p = record {
    turns = pos (n / M) +ℤ p.turns;
    equal = p.equal
        ∙ ap (λ (k : ℕ). pos k +ℤ p.turns *ℤ pos M) (sym (div-add-mod' n M))
        ∙ ring (pos (n / M) ∷ pos (n % M) ∷ p.turns ∷ pos M ∷ []) (v 0 ⊗ v 3 ⊕ v 1 ⊕ v 2 ⊗ v 3) (v 1 ⊕ (v 0 ⊕ v 2) ⊗ v 3) tt;
  }

  neg-congruent : {z : ℤ} {m n : ℕ} → (n + m) % M ≡ 0 → Congruent M z m → Congruent M (neg_ℤ z) n
  neg-congruent {m = m} {n = n} e p =
      let d = (n + m) / M in
      record {
        turns = neg_ℤ (pos d +ℤ p.turns);
        equal = ap neg_ℤ p.equal
            ∙ ring-from (pos m ∷ pos n ∷ p.turns ∷ pos d ∷ pos M ∷ []) (times (num 1) (v 3 ⊗ v 4) (v 1 ⊕ v 0) (ap pos (turns-of (n + m) M e)) ∷ [])
            (⊝ (v 0 ⊕ v 2 ⊗ v 4)) (v 1 ⊕ ⊝ (v 3 ⊕ v 2) ⊗ v 4) tt;
      }

-- two numbers of a range are less than a turn apart
apart : {H : ℕ} (z w : ℤ) → mag z < H → mag w < H → nat_abs (z -ℤ w) < H * 2
apart (pos a) (pos b) h k = omega (arith, triangle-sub (pos a) (pos b))
apart (pos a) (negsuc b) h k = omega (arith, triangle-sub (pos a) (negsuc b))
apart (negsuc a) (pos b) h k = omega (arith, triangle-sub (negsuc a) (pos b))
apart {H} (negsuc a) (negsuc b) h k = subℕ-ind (λ z. nat_abs z < H * 2) (suc b) (suc a) (λ l. omega arith) (λ l. omega arith)

-- and so no turn
none : (j M : ℕ) → j * M < M → j * M ≡ 0
none zero M h = omega arith
none (suc j) M h = absurd (omega arith)

module _ (w : Width) where
  -- what is read from n
  read-congruent : {n : ℕ} → Fits w n → Congruent (2 ^ bits w) (to_z w n) n
  read-congruent {n} f = go (ltb n (2 ^ hbits w))
    where
      go : (b : Bool) → Congruent (2 ^ bits w) (sel b (pos n) (negsuc (2 ^ bits w - suc n))) n
      go true = record { turns = pos 0; equal = ring (pos n ∷ pos (2 ^ bits w) ∷ []) (v 0) (v 0 ⊕ num 0 ⊗ v 1) tt }
      go false =
          let e : suc (2 ^ bits w - suc n) ≡ 2 ^ bits w - n = omega arith in
          record {
            turns = negsuc 0;
            equal = ap (λ (k : ℕ). neg_ℤ (pos k)) e
                ∙ ap neg_ℤ (pos-sub (le_of_lt f.fits))
                ∙ ring (pos n ∷ pos (2 ^ bits w) ∷ []) (⊝ (v 1 ⊖ v 0)) (v 0 ⊕ con (negsuc 0) ⊗ v 1) tt;
          }

  -- it is the only number of the range
  read_only : {n : ℕ} {z : ℤ} → Fits w n → SFits w z → Congruent (2 ^ bits w) z n → to_z w n ≡ z
  read_only {n} {z} f g q =
      let p = read-congruent f in
      let k = p.turns -ℤ q.turns in
      let e : to_z w n -ℤ z ≡ k *ℤ pos (2 ^ bits w) =
      (λ i. p.equal i -ℤ q.equal i)
      ∙ ring (pos n ∷ p.turns ∷ q.turns ∷ pos (2 ^ bits w) ∷ []) (v 0 ⊕ v 1 ⊗ v 3 ⊖ (v 0 ⊕ v 2 ⊗ v 3)) ((v 1 ⊖ v 2) ⊗ v 3) tt in
      let size : nat_abs (to_z w n -ℤ z) ≡ nat_abs k * 2 ^ bits w = ap nat_abs e ∙ nat_abs-* k (pos (2 ^ bits w)) in
      let small : nat_abs (to_z w n -ℤ z) < 2 ^ hbits w * 2 = apart (to_z w n) z (sfits_to_z f).sfits g.sfits in
      let less : nat_abs k * 2 ^ bits w < 2 ^ bits w = omega (arith, pow-bits w) in
      eq-of-sub (to_z w n) z (nat_abs-zero (to_z w n -ℤ z) (size ∙ none (nat_abs k) (2 ^ bits w) less))

  -- a sum and a negation that have room are what is read from their bits
  pub read-sum : {x y : ℕ} → Fits w x → Fits w y → SFits w (to_z w x +ℤ to_z w y) → to_z w ((x + y) % 2 ^ bits w) ≡ to_z w x +ℤ to_z w y
  read-sum {x} {y} f g s =
      read_only record { fits = mod-lt (x + y) (pow_pos (bits w)) } s (mod-congruent (sum-congruent (read-congruent f) (read-congruent g)))

  pub read-neg : {x y : ℕ} → Fits w x → Fits w y → (y + x) % 2 ^ bits w ≡ 0 → SFits w (neg_ℤ (to_z w x)) → to_z w y ≡ neg_ℤ (to_z w x)
  read-neg f g e s = read_only g s (neg-congruent e (read-congruent f))

  -- of bits whose first is set, the negation's bits are the size, of the least number too
  pub read-size : {x y : ℕ} → Fits w x → Fits w y → (y + x) % 2 ^ bits w ≡ 0 → 2 ^ hbits w ≤ x → to_z w x ≡ neg_ℤ (pos y)
  read-size {x} {y} f g e h =
      let p : 0 < 2 ^ hbits w = pow_pos (hbits w) in
      let s : y + x ≡ 2 ^ bits w = once ((y + x) / 2 ^ bits w) (turns-of (y + x) (2 ^ bits w) e) f.fits g.fits (omega arith) in
      let k : suc (2 ^ bits w - suc x) ≡ y = omega arith in
      ap (λ (b : Bool). sel b (pos x) (negsuc (2 ^ bits w - suc x))) (le-ltb x (2 ^ hbits w) h) ∙ ap (λ (n : ℕ). neg_ℤ (pos n)) k
    where
      once : {M : ℕ} (d : ℕ) → d * M ≡ y + x → x < M → y < M → 0 < x → y + x ≡ M
      once zero s f g h = absurd (omega arith)
      once (suc zero) s f g h = omega arith
      once (suc (suc d)) s f g h = absurd (omega arith)
