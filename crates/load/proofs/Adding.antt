-- The running total as terms go into it: it has room for all of them, and what the loops over waves go by. Assumes nothing.
use mathlib.Core.Path.{◌≡◌, refl, sym, ap, ◌∙◌}
use mathlib.Core.Bool.{Bool, true}
use mathlib.Core.List.{List, ◌∷◌}
use Prim.Native.Nat.{ℕ, suc, ◌+◌, ◌*◌, ◌-◌, ◌^◌, ◌≤◌, ◌<◌}
use native.Mathlib.Nat.{le_trans, lt_of_le_of_lt, mul-le-mul, mul-le-mul_right}
use native.Mathlib.Numerals.{add-one}
use native.Mathlib.Omega.{arith}
use lib.Dec.{lit<}
use lib.IntN.{ℤ, pos, nat_abs, ◌+ℤ◌, +ℤ_assoc, +ℤ_idr}
use lib.ListN.{get_or}
use Rattle.whole.specs.Sum.{sum_by, sum_ℤ}
use Rattle.whole.specs.Any.{any_of}
use Rattle.whole.proofs.Magnitude.{triangle}
use Rattle.total.specs.Total.{meaning, Added}
use Rattle.total.specs.declared.words.Total.{Total}
use Rattle.total.proofs.Sums.{exact-add}
use Rattle.std.proofs.Common.{Some}
use Rattle.load.specs.own.Waves.{TotalOfTerms, TermsAdded}
use Rattle.load.proofs.Unordered.{places, places_to, next_place, nowhere, waves_from}
use Rattle.load.specs.declared.waves.Wave.{Wave}

-- ---- room

pub of-terms-more : {j k : ℕ} {t : Total} → j ≤ k → TotalOfTerms j t → TotalOfTerms k t
of-terms-more {j} {k} {t} h p = record { small = le_trans p.small (mul-le-mul_right (2 ^ 93) h) }

pub of-terms-none : {t : Total} → meaning t ≡ pos 0 → TotalOfTerms 0 t
of-terms-none {t} e = record { small = omega (arith, ap nat_abs e) }

-- one term more
module _ (before term after : Total) (small : nat_abs (meaning term) ≤ 2 ^ 93) (held : TotalOfTerms 4_096 before) (e : Added before term after) where
  pub added_is : meaning after ≡ meaning before +ℤ meaning term
  added_is =
      let both : nat_abs (meaning before) + nat_abs (meaning term) ≤ 4_097 * 2 ^ 93 = omega (arith, held.small, small) in
      exact-add (lt_of_le_of_lt both (lit< tt)) e

  pub of-terms-one : (k : ℕ) → TotalOfTerms k before → TotalOfTerms (k + 1) after
  of-terms-one k h =
      let sum : nat_abs (meaning after) ≤ nat_abs (meaning before) + nat_abs (meaning term) = rw added_is (triangle (meaning before) (meaning term)) in
      record { small = omega (arith, h.small, small) }

-- ---- waves, from one on

module _ (ws : List Wave) (n : ℕ) where
  abbrev from : ℕ → List Wave
  from i = waves_from ws i (n - i)

  pub next-wave : (i : ℕ) → i < n → from i ≡ get_or ws i nowhere ∷ from (suc i)
  unfolding waves_from
  next-wave i h = let e : n - i ≡ suc (n - suc i) = omega arith in ap (waves_from ws i) e

-- ---- the loops: the sums of `bad` and of `value` over the places from `first` to n, with so many terms for each

module _ (bad : ℕ → Bool) (value : ℕ → ℤ) (each first n : ℕ) (before : Total) where
  -- at the loop's head: what is left is bad where the whole is, and the terms of the places before i are in the sum
  pub record Adding (sum : Total) (i : ℕ) : Type 0 where
    pub within : i ≤ n
    pub left : any_of bad (places_to n first) ≡ any_of bad (places_to n i)
    pub same : meaning sum +ℤ sum_ℤ (places_to n i) value ≡ meaning before +ℤ sum_ℤ (places_to n first) value
    pub held : (k : ℕ) → TotalOfTerms k before → TotalOfTerms (k + i * each) sum

  pub adding-start : first ≤ n → Adding before first
  adding-start h = record { within = h; left = refl; same = refl; held = λ k p. of-terms-more (omega arith) p }

  module _ (sum : Total) (i : ℕ) (a : Adding sum i) where
    module _ (h : i < n) where
      -- the place is bad
      pub adding-stops : bad i ≡ true → any_of bad (places_to n first) ≡ true
      unfolding any_of
      adding-stops e = a.left ∙ ap (any_of bad) (next_place n i h) ∙ rw e refl

      -- it is not, and its terms go into the sum
      pub adding-on : (next : Total) → TermsAdded (bad i) sum (value i) each (Some next) → Adding next (i + 1)
      unfolding any_of sum_by
      adding-on next (e, m, g) =
          let split = next_place n i h in
          rw (add-one i)
          (record {
            within = h;
            left = a.left ∙ ap (any_of bad) split ∙ rw e refl;
            same =
                rw m
                (+ℤ_assoc (meaning sum) (value i) (sum_ℤ (places_to n (suc i)) value)
                ∙ ap (λ (l : List ℕ). meaning sum +ℤ sum_ℤ l value) (sym split)
                ∙ a.same);
            held = λ k p. of-terms-more (omega arith) (g (k + i * each) (a.held k p));
          })

    pub adding-end : n ≤ i → TermsAdded (any_of bad (places_to n first)) before (sum_ℤ (places_to n first) value) (n * each) (Some sum)
    unfolding any_of sum_by places
    adding-end h =
        let none_left : n - i ≡ 0 = omega arith in
        let last = ap (places i) none_left in
        let e : i ≡ n = omega (arith, a.within) in (
          a.left ∙ ap (any_of bad) last,
          sym (+ℤ_idr (meaning sum)) ∙ ap (λ (l : List ℕ). meaning sum +ℤ sum_ℤ l value) (sym last) ∙ a.same,
          λ k p. rw (← e) (a.held k p),
        )

-- ---- all pairs: a row of pairs within the loop over rows

-- of the j-th pair of row i, where there are n waves in all: there is room for its term
pub pair-room : {before start sum : Total} (n i j : ℕ) → n ≤ 64 → i < n → j < n → TotalOfTerms 1 before
    → ((k : ℕ) → TotalOfTerms k before → TotalOfTerms (k + i * n) start)
    → ((k : ℕ) → TotalOfTerms k start → TotalOfTerms (k + j * 1) sum)
    → TotalOfTerms 4_096 sum
pair-room n i j few h k held rows row =
    let up : i ≤ 63 = omega arith in
    let done : i * n ≤ 4_032 = mul-le-mul up few in
    of-terms-more (omega arith) (row (1 + i * n) (rows 1 held))
