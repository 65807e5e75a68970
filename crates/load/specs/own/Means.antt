-- What the crate's own functions say of the mean.
use Rattle.std.specs.Prelude.{Bool, true, false, cond, List, ◌≡◌, ℕ, ◌≤◌, eqb, ℤ, pos, nat_abs, Option, Some, None}
use Rattle.whole.specs.Complex.{sizes}
use Rattle.whole.specs.Sum.{sum_ℤ, sum_ℕ}
use Rattle.whole.specs.Any.{any_of}
use Rattle.load.specs.Force.{mean_term_of}
use Rattle.load.specs.own.Brackets.{bracket_coefficient}
use Rattle.load.specs.own.Waves.{amplitude_of, wave_bad}
use Rattle.load.specs.declared.waves.Wave.{Wave}

-- the part with m = n
unfoldable pub wave_mean : List ℤ → Wave → ℤ
wave_mean cells w = mean_term_of (amplitude_of w) (bracket_coefficient cells w.bracket w.bracket)

abbrev pub waves_mean : List ℤ → List Wave → ℤ
waves_mean cells ws = sum_ℤ ws (λ w. wave_mean cells w)

-- A
abbrev pub waves_size : List Wave → ℕ
waves_size ws = sum_ℕ ws (λ w. sizes (amplitude_of w))

-- of a difference table: a wave with itself needs a cell that is out of bounds, and the mean. Of a sum table no wave is asked, and it is 0
abbrev pub own_bad : ℕ → List ℤ → List Wave → Bool
own_bad kind cells ws = cond (eqb kind 0) (any_of (λ w. wave_bad cells w w) ws) false

abbrev pub own_mean : ℕ → List ℤ → List Wave → ℤ
own_mean kind cells ws = cond (eqb kind 0) (waves_mean cells ws) (pos 0)

-- 15, or a mean, which is at most so large
abbrev pub MeanWorked : Bool → ℤ → ℕ → Option ℤ → Type 0
MeanWorked bad mean most None = bad ≡ true
MeanWorked bad mean most (Some z) = (bad ≡ false) × (z ≡ mean) × (nat_abs z ≤ most)
