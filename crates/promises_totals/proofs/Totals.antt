-- The facts of the running total's functions leave one answer each. Assumes nothing.
use mathlib.Core.Path.{◌≡◌, sym, ap, ◌∙◌}
use Prim.Native.Nat.{ℕ, suc, ◌+◌, ◌*◌, ◌/◌, ◌%◌, ◌^◌, ◌≤◌, ◌<◌}
use native.Mathlib.Nat.{div-add-mod', mul-le-mul_right}
use native.Mathlib.Decide.{dec_lt}
use native.Mathlib.Omega.{arith}
use lib.Arith.{digits_lt, digits_div, digits_mod}
use mir.Syntax.{w128}
use mir.Val.{Fits}
use mir.Facts.{to_z_inj}
use Rattle.total.specs.declared.words.Total.{Total}
use Rattle.total.specs.Total.{words, meaning}
use Rattle.promises_totals.specs.Totals.{TwoWords, WordsOne, MeaningOne, AddedOne, NegatedOne}

words-fit : {t : Total} → TwoWords t → Fits w128 (words t)
words-fit s = record { fits = digits_lt s.high s.low }

same-words : (r q : Total) → TwoWords r → TwoWords q → words r ≡ words q → r ≡ q
same-words r q s u e =
    let low : r.low ≡ q.low = sym (digits_mod r.high s.low) ∙ ap (λ (n : ℕ). n % 2 ^ 64) e ∙ digits_mod q.high u.low in
    let high : r.high ≡ q.high = sym (digits_div r.high s.low) ∙ ap (λ (n : ℕ). n / 2 ^ 64) e ∙ digits_div q.high u.low in
    λ i. record { low = low i; high = high i }

pub words-one : WordsOne
words-one n r q s u e f = same-words r q s u (e ∙ sym f)

pub meaning-one : MeaningOne
unfolding meaning
meaning-one z r q s u e f = same-words r q s u (to_z_inj {w = w128} (words-fit s) (words-fit u) (e ∙ sym f))

pub added-one : AddedOne
added-one a b r q s u e f = same-words r q s u (e.wraps ∙ sym f.wraps)

-- two numbers below N that each make a multiple of N with a are one
module _ (N a : ℕ) where
  -- no multiple is below the other
  not-below : (x y k l : ℕ) → y < N → k * N ≡ x + a → l * N ≡ y + a → k < l → ⊥
  not-below x y k l h e f b =
      let g : suc k * N ≤ l * N = mul-le-mul_right N b in
      omega (arith, e, f, g)

  multiple : (x : ℕ) → (x + a) % N ≡ 0 → (x + a) / N * N ≡ x + a
  multiple x e = let d = div-add-mod' (x + a) N in omega (arith, d, e)

  opposite-one : (x y : ℕ) → x < N → y < N → (x + a) % N ≡ 0 → (y + a) % N ≡ 0 → x ≡ y
  opposite-one x y h k e f = go ((x + a) / N) ((y + a) / N) (multiple x e) (multiple y f)
    where
      go : (i j : ℕ) → i * N ≡ x + a → j * N ≡ y + a → x ≡ y
      go i j p q =
          elim (dec_lt i j) [
            | yes b ↦ absurd (not-below x y i j k p q b)
            | no b ↦
                elim (dec_lt j i) [
                  | yes c ↦ absurd (not-below y x j i h q p c)
                  | no c ↦
                      let same : i ≡ j = omega (arith, b, c) in
                      omega (arith, p, q, ap (λ (n : ℕ). n * N) same)
                ]
          ]

pub negated-one : NegatedOne
negated-one a r q s u e f =
    same-words r q s u (opposite-one (2 ^ 128) (words a) (words r) (words q) (words-fit s).fits (words-fit u).fits e.wraps f.wraps)
