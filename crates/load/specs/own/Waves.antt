-- The lines of a sea as the code holds them, each with its bracket in the table, and what the crate's own functions say of them: for those that stand above them.
use Rattle.std.specs.Prelude.{Bool, true, false, List, [], ◌∷◌, ◌≡◌, ℕ, ◌+◌, ◌*◌, ◌^◌, ◌≤◌, ℤ, nat_abs, ◌+ℤ◌, Option, Some, None, Result, Ok, Err}
use Rattle.refusals.specs.Numbered.{number_of}
use Rattle.load.specs.declared.refused.Refused.{Refused}
use Rattle.whole.specs.Complex.{Complex, sizes}
use Rattle.whole.specs.Sum.{sum_ℤ}
use Rattle.whole.specs.Any.{any_of}
use Rattle.phase.specs.Turn.{Quarter}
use Rattle.total.specs.Total.{meaning}
use Rattle.total.specs.declared.words.Total.{Total}
use Rattle.grid.specs.declared.nodes.Slots.{Slots}
use Rattle.table.specs.Entries.{parts_of, complex_of}
use Rattle.load.specs.Corners.{any_bad}
use Rattle.load.specs.own.Brackets.{bracket_of, bracket_corners, bracket_coefficient, ProperBracket, InTable}
use Rattle.load.specs.Force.{LocatedLine, LocatedSea, all, stopped, term_of}
use Rattle.load.specs.declared.waves.Wave.{Wave}

-- ---- waves

abbrev pub amplitude_of : Wave → Complex
amplitude_of w = complex_of w.amplitude

-- a line that is in its place
abbrev pub wave_of : Slots → LocatedLine → Wave
wave_of s p = record { bracket = bracket_of s p.point; tick = p.line.tick; amplitude = parts_of p.line.amplitude }

-- what every wave of a sea that is not inadmissible keeps
pub record WaveInRange (w : Wave) : Type 0 where
  pub proper : ProperBracket w.bracket
  pub inside : InTable w.bracket
  pub small : sizes (amplitude_of w) ≤ 40_000

-- ---- the outcome of a sea: all lines in their places, or the first that has none

unfoldable pub waves : Slots → List LocatedLine → List Wave
waves s [] = []
waves s (p ∷ ps) = wave_of s p ∷ waves s ps

-- what the walk over the lines has come to: a number with its line, 0 for none, and the waves
pub record LocatedWaves : Type 0 where
  pub number : ℕ
  pub line : ℕ
  pub waves : List Wave

abbrev pub number_given : {A : Type 0} → Result A Refused → ℕ
number_given (Ok _) = 0
number_given (Err e) = number_of e.refusal

abbrev pub line_given : {A : Type 0} → Result A Refused → ℕ
line_given (Ok _) = 0
line_given (Err e) = e.line

abbrev pub located_by : {A : Type 0} → Result A Refused → List Wave → LocatedWaves
located_by r ws = record { number = number_given r; line = line_given r; waves = ws }

-- the number 0 says that all are in their places
pub data SeaLocated (s : Slots) (number line : ℕ) (ws : List Wave) : LocatedSea → Type 0 where
  placed : {ps : List LocatedLine} → number ≡ 0 → ws ≡ waves s ps → SeaLocated s number line ws (all ps)
  refused : {n l : ℕ} → (number ≡ 0 → ⊥) → number ≡ n → line ≡ l → SeaLocated s number line ws (stopped n l)

-- ---- pairs

unfoldable pub wave_term : Quarter → ℕ → List ℤ → ℕ → Wave → Wave → ℤ
wave_term clock kind cells t m n =
    term_of clock kind t (amplitude_of m) (amplitude_of n) m.tick n.tick (bracket_coefficient cells m.bracket n.bracket)

abbrev pub wave_bad : List ℤ → Wave → Wave → Bool
wave_bad cells m n = any_bad (bracket_corners cells m.bracket n.bracket)

abbrev pub bad_row : List ℤ → Wave → List Wave → Bool
bad_row cells m ns = any_of (λ n. wave_bad cells m n) ns

abbrev pub bad_rows : List ℤ → List Wave → List Wave → Bool
bad_rows cells ms ns = any_of (λ m. bad_row cells m ns) ms

abbrev pub row_sum : Quarter → ℕ → List ℤ → ℕ → Wave → List Wave → ℤ
row_sum clock kind cells t m ns = sum_ℤ ns (λ n. wave_term clock kind cells t m n)

abbrev pub rows_sum : Quarter → ℕ → List ℤ → ℕ → List Wave → List Wave → ℤ
rows_sum clock kind cells t ms ns = sum_ℤ ms (λ m. row_sum clock kind cells t m ns)

-- a total that k terms at most have gone into, each of a wave with itself or of two waves both ways: it is at most 2^93 in size
pub record TotalOfTerms (k : ℕ) (t : Total) : Type 0 where
  pub small : nat_abs (meaning t) ≤ k * 2 ^ 93

-- what comes of adding so many terms: 15 where a pair is bad, else the total with their sum
abbrev pub TermsAdded : Bool → Total → ℤ → ℕ → Option Total → Type 0
TermsAdded bad before sum terms None = bad ≡ true
TermsAdded bad before sum terms (Some t) =
    (bad ≡ false) × (meaning t ≡ meaning before +ℤ sum) × ((k : ℕ) → TotalOfTerms k before → TotalOfTerms (k + terms) t)
