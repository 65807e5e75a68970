-- A whole number held to a word, by its sign and its size, and what a total is rounded to by those. Assumes nothing.
use Rattle.std.proofs.Common.{◌≡◌, ℕ, zero, suc, ◌^◌, ◌<◌, min, leb, ℤ, pos, negsuc, neg_ℤ, nat_abs, refl, ap, ◌∙◌, arith, leb→le}
use lib.Dec.{nleb→lt}
use Rattle.whole.specs.Nearest.{nearest, nearest_ℤ}
use Rattle.whole.proofs.OrderLaws.{cond_ind}
use Rattle.whole.proofs.Nearest.{nearest-neg}
use Rattle.total.specs.declared.words.Total.{Total}
use Rattle.total.specs.Total.{meaning, clipped, rounded_of}

clipped-pos : (n : ℕ) → clipped (pos n) ≡ pos (min n 9_223_372_036_854_775_807)
unfolding clipped
clipped-pos n =
    cond_ind (λ z. z ≡ pos (min n 9_223_372_036_854_775_807)) (leb (2 ^ 63) n)
    (λ t. ap pos (omega (arith, leb→le (2 ^ 63) n t)))
    (λ t. ap pos (omega (arith, nleb→lt (2 ^ 63) n t)))

clipped-neg : (n : ℕ) → clipped (neg_ℤ (pos n)) ≡ neg_ℤ (pos (min n (2 ^ 63)))
unfolding clipped
clipped-neg zero = refl
clipped-neg (suc n) =
    cond_ind (λ z. z ≡ neg_ℤ (pos (min (suc n) (2 ^ 63)))) (leb 9_223_372_036_854_775_807 n)
    (λ t.
    let e : 2 ^ 63 ≡ min (suc n) (2 ^ 63) = omega (arith, leb→le 9_223_372_036_854_775_807 n t) in
    ap (λ (k : ℕ). neg_ℤ (pos k)) e)
    (λ t.
    let e : suc n ≡ min (suc n) (2 ^ 63) = omega (arith, nleb→lt 9_223_372_036_854_775_807 n t) in
    ap (λ (k : ℕ). neg_ℤ (pos k)) e)

-- what has room is kept
pub clipped-small : (z : ℤ) → nat_abs z < 2 ^ 63 → clipped z ≡ z
clipped-small (pos n) h = clipped-pos n ∙ ap pos (omega arith)
clipped-small (negsuc n) h = let e : min (suc n) (2 ^ 63) ≡ suc n = omega arith in clipped-neg (suc n) ∙ ap (λ (k : ℕ). neg_ℤ (pos k)) e

pub rounded-pos : (t : Total) (n : ℕ) → meaning t ≡ pos n → rounded_of t ≡ pos (min (nearest n (2 ^ 30)) 9_223_372_036_854_775_807)
unfolding rounded_of
rounded-pos t n e = ap (λ z. clipped (nearest_ℤ z (2 ^ 30))) e ∙ clipped-pos (nearest n (2 ^ 30))

pub rounded-neg : (t : Total) (n : ℕ) → meaning t ≡ neg_ℤ (pos n) → rounded_of t ≡ neg_ℤ (pos (min (nearest n (2 ^ 30)) (2 ^ 63)))
unfolding rounded_of
rounded-neg t n e =
    ap (λ z. clipped (nearest_ℤ z (2 ^ 30))) e ∙ ap clipped (nearest-neg (pos n) (2 ^ 30)) ∙ clipped-neg (nearest n (2 ^ 30))
