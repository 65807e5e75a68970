-- The pairs of waves that the code goes through, each with itself and with each later one both ways, are the model's, all ordered pairs. Assumes nothing.
use mathlib.Core.Path.{◌≡◌, refl, sym, ap, ap₂, ◌∙◌}
use mathlib.Core.Bool.{Bool, true, false, cond, ◌||◌}
use mathlib.Core.List.{List}
use Prim.Native.Nat.{ℕ, ◌+◌, ◌-◌, ◌^◌, ◌≤◌, ◌<◌}
use native.Mathlib.Omega.{arith}
use borrow.Author.Tests.{eqb-true}
use lib.Dec.{eqb}
use lib.IntN.{ℤ, pos, nat_abs, ◌+ℤ◌, ◌*ℤ◌, *ℤ_comm}
use lib.ListN.{length, get_or}
use Rattle.std.proofs.Common.{Some}
use Rattle.whole.specs.Sum.{sum_by, sum_ℤ}
use Rattle.whole.specs.Any.{any_of}
use Rattle.whole.proofs.Magnitude.{nat_abs-*}
use Rattle.whole.proofs.Sum.{sum-ext, sum-*}
use Rattle.whole.proofs.Any.{any_same}
use Rattle.phase.specs.Turn.{Quarter}
use Rattle.phase.specs.Rule.{Rule, limits}
use Rattle.phase.proofs.Bounds.{closes}
use Rattle.total.specs.Total.{meaning}
use Rattle.total.specs.declared.words.Total.{Total}
use Rattle.load.specs.own.Brackets.{bracket_coefficient}
use Rattle.load.specs.own.Means.{wave_mean, waves_mean, own_bad, own_mean}
use Rattle.load.specs.own.Loads.{first_partner, OwnTerms, AllTerms}
use Rattle.load.specs.own.Pairs.{pair_bad, pair_coefficient, pair_term}
use Rattle.load.specs.own.Waves.{amplitude_of, wave_bad, wave_term, bad_row, bad_rows, rows_sum, TermsAdded}
use Rattle.load.specs.declared.waves.Wave.{Wave}
use Rattle.load.proofs.Terms.{term-both, own-term}
use Rattle.load.proofs.Unordered.{nowhere, places, places_to, pair_of, waves-unordered, sums, tests, any-is}

module _ (cells : List ℤ) (ws : List Wave) where
  abbrev n : ℕ
  n = length ws

  abbrev wave : ℕ → Wave
  wave i = get_or ws i nowhere

  all-places : places_to n 0 ≡ places 0 n
  all-places = let e : n - 0 ≡ n = omega arith in ap (places 0) e

  -- a row of the code: a wave with each later one, and in a sum table with itself
  abbrev pub row_bad : ℕ → ℕ → Bool
  row_bad kind i = any_of (λ j. pair_bad cells (eqb i j) (wave i).bracket (wave j).bracket) (places_to n (first_partner kind i))

  abbrev pub row_terms : Quarter → ℕ → ℕ → ℕ → ℤ
  row_terms clock kind t i = sum_ℤ (places_to n (first_partner kind i)) (λ j. pair_term clock kind cells t (eqb i j) (wave i) (wave j))

  -- one of the pairs is bad
  abbrev bads : ℕ → ℕ → Bool
  bads i = pair_of ◌||◌ false tests (λ a b. wave_bad cells (wave a) (wave b)) i

  all-bad : (kind : ℕ) → bad_rows cells ws ws ≡ (own_bad kind cells ws || any_of (row_bad kind) (places_to n 0))
  unfolding pair_bad
  all-bad kind =
      any_same (λ m. bad_row cells m ws) (λ m. sum_by ◌||◌ false ws (wave_bad cells m)) ws (λ m i. any-is (wave_bad cells m) ws)
      ∙ any-is (λ m. sum_by ◌||◌ false ws (wave_bad cells m)) ws
      ∙ waves-unordered ◌||◌ false tests ws (wave_bad cells) (eqb kind 0)
      ∙ ap₂ (λ (x y : Bool). cond (eqb kind 0) x false || y)
      (sym (any-is (λ m. wave_bad cells m m) ws))
      (sum-ext ◌||◌ false (places 0 n) (λ i. sum_by ◌||◌ false (places_to n (first_partner kind i)) (bads i)) (row_bad kind) (λ i m. sym (any-is (bads i) (places_to n (first_partner kind i))))
      ∙ sym (any-is (row_bad kind) (places 0 n))
      ∙ ap (any_of (row_bad kind)) (sym all-places))

  pub pairs-bad : {kind : ℕ} {before : Total} → OwnTerms kind cells ws before → any_of (row_bad kind) (places_to n 0) ≡ true → bad_rows cells ws ws ≡ true
  pairs-bad {kind} own e = all-bad kind ∙ rw own.none-bad e

  pub own-bad : (kind : ℕ) → own_bad kind cells ws ≡ true → bad_rows cells ws ws ≡ true
  own-bad kind e = all-bad kind ∙ rw e refl

  -- their terms
  module _ {clock : Quarter} (keeps : Rule limits clock) (kind t : ℕ) where
    abbrev terms : ℕ → ℕ → ℤ
    terms i = pair_of ◌+ℤ◌ (pos 0) sums (λ a b. wave_term clock kind cells t (wave a) (wave b)) i

    pair_is : (i j : ℕ) → terms i j ≡ pair_term clock kind cells t (eqb i j) (wave i) (wave j)
    unfolding pair_term pair_coefficient wave_term
    pair_is i j = go (eqb i j)
      where
        go : (once : Bool)
            → cond once (wave_term clock kind cells t (wave i) (wave j)) (wave_term clock kind cells t (wave i) (wave j) +ℤ wave_term clock kind cells t (wave j) (wave i))
            ≡ pair_term clock kind cells t once (wave i) (wave j)
        go true = refl
        go false = sym (term-both (closes keeps) kind t _ _ _ _ _ _)

    own-terms : cond (eqb kind 0) (sum_ℤ ws (λ m. wave_term clock kind cells t m m)) (pos 0) ≡ pos (2 ^ 30) *ℤ own_mean kind cells ws
    unfolding wave_term wave_mean
    own-terms = go (eqb kind 0) refl
      where
        go : (d : Bool) → eqb kind 0 ≡ d → cond d (sum_ℤ ws (λ m. wave_term clock kind cells t m m)) (pos 0) ≡ pos (2 ^ 30) *ℤ cond d (waves_mean cells ws) (pos 0)
        go true e =
            sum-ext ◌+ℤ◌ (pos 0) ws (λ m. wave_term clock kind cells t m m) (λ m. pos (2 ^ 30) *ℤ wave_mean cells m)
            (λ m i. own-term keeps kind t (eqb-true kind 0 e) (amplitude_of m) m.tick (bracket_coefficient cells m.bracket m.bracket))
            ∙ sum-* (pos (2 ^ 30)) ws (wave_mean cells)
        go false e = refl

    all-terms : rows_sum clock kind cells t ws ws ≡ pos (2 ^ 30) *ℤ own_mean kind cells ws +ℤ sum_ℤ (places_to n 0) (row_terms clock kind t)
    all-terms =
        waves-unordered ◌+ℤ◌ (pos 0) sums ws (wave_term clock kind cells t) (eqb kind 0)
        ∙ ap₂ ◌+ℤ◌ own-terms
        (sum-ext ◌+ℤ◌ (pos 0) (places 0 n) (λ i. sum_ℤ (places_to n (first_partner kind i)) (terms i)) (row_terms clock kind t)
        (λ i m.
        sum-ext ◌+ℤ◌ (pos 0) (places_to n (first_partner kind i)) (terms i) (λ j. pair_term clock kind cells t (eqb i j) (wave i) (wave j)) (λ j k. pair_is i j))
        ∙ ap (λ (l : List ℕ). sum_ℤ l (row_terms clock kind t)) (sym all-places))

    -- so what comes of the code's pairs, once the waves each with itself are in the total, is what comes of all
    pub all-added : (before sum : Total) (k : ℕ) → OwnTerms kind cells ws before
        → TermsAdded (any_of (row_bad kind) (places_to n 0)) before (sum_ℤ (places_to n 0) (row_terms clock kind t)) k (Some sum)
        → AllTerms (bad_rows cells ws ws) (rows_sum clock kind cells t ws ws) (Some sum)
    all-added before sum k own (e, m, g) = (all-bad kind ∙ rw own.none-bad e, m ∙ rw own.value (sym all-terms))

-- the mean by 2^30 is the terms of the waves each with itself
pub own-terms-of : (kind : ℕ) (cells : List ℤ) (ws : List Wave) (mean : ℤ) → own_bad kind cells ws ≡ false → mean ≡ own_mean kind cells ws → nat_abs mean ≤ 1_600_000_000_000_000_000
    → (t : Total) → meaning t ≡ mean *ℤ pos (2 ^ 30) → OwnTerms kind cells ws t
own-terms-of kind cells ws mean good e few t f =
    record {
      none-bad = good;
      value = f ∙ *ℤ_comm mean (pos (2 ^ 30)) ∙ ap (λ (z : ℤ). pos (2 ^ 30) *ℤ z) e;
      held = record { small = omega (arith, ap nat_abs f, nat_abs-* mean (pos (2 ^ 30)), few) };
    }

-- a wave's first partner is no further than the end
pub partner-within : (kind i n : ℕ) → i < n → first_partner kind i ≤ n
partner-within kind i n h = go (eqb kind 0)
  where
    go : (d : Bool) → cond d (i + 1) i ≤ n
    go true = omega arith
    go false = omega arith
