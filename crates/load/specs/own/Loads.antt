-- What the crate's own functions `force::add_pairs` and `force::summed` answer of waves in their places.
use Rattle.std.specs.Prelude.{Bool, true, false, cond, List, ◌≡◌, ℕ, ◌+◌, ◌*◌, ◌^◌, ◌≤◌, eqb, ℤ, pos, nat_abs, ◌*ℤ◌, length, Option, Some, None, All}
use Rattle.whole.specs.Nearest.{nearest_ℤ}
use Rattle.phase.specs.Turn.{Quarter}
use Rattle.table.specs.Cells.{cells_lent}
use Rattle.total.specs.Total.{meaning}
use Rattle.total.specs.declared.words.Total.{Total}
use Rattle.load.specs.own.Waves.{WaveInRange, bad_rows, rows_sum, TotalOfTerms}
use Rattle.load.specs.own.Means.{waves_size, own_bad, own_mean}
use Rattle.load.specs.declared.waves.Wave.{Wave}
use Rattle.load.specs.Answers.{Load}

-- the first that the i-th wave is paired with
abbrev pub first_partner : ℕ → ℕ → ℕ
first_partner kind i = cond (eqb kind 0) (i + 1) i

-- a total that has of a difference table the terms of the waves each with itself, which are the mean by 2^30, and of a sum table nothing yet
pub record OwnTerms (kind : ℕ) (cells : List ℤ) (ws : List Wave) (t : Total) : Type 0 where
  pub none-bad : own_bad kind cells ws ≡ false
  pub value : meaning t ≡ pos (2 ^ 30) *ℤ own_mean kind cells ws
  pub held : TotalOfTerms 1 t

-- 15, or the total of all terms
abbrev pub AllTerms : Bool → ℤ → Option Total → Type 0
AllTerms bad sum None = bad ≡ true
AllTerms bad sum (Some t) = (bad ≡ false) × (meaning t ≡ sum)

unfoldable pub summed_load : Quarter → ℕ → List ℤ → ℕ → List Wave → Load
summed_load clock kind cells t ws =
    cond (bad_rows cells ws ws)
    (Load.Refused 15 0)
    (Load.Both (own_mean kind cells ws) (nearest_ℤ (rows_sum clock kind cells t ws ws) (2 ^ 30)))

-- waves for which the whole load has room, and cells enough for them
pub record RoomForLoad (clock : Quarter) (kind : ℕ) (cells : List ℤ) (t : ℕ) (ws : List Wave) : Type 0 where
  pub waves-in-range : All WaveInRange ws
  pub lent : cells_lent ≤ length cells
  pub few : waves_size ws ≤ 40_000
  pub room : bad_rows cells ws ws ≡ false → nat_abs (rows_sum clock kind cells t ws ws) ≤ 3_200_000_000_000_000_000 * 2 ^ 30
