-- M-100, the ProteusDS text line by line (document 02; the three names are source document 004's): "Each of the three starts with a line holding its name from 004 with the dollar sign; then
-- comes one line for each list, or one for each ordered pair that the coverage needs, single spaces between. Indexes start at 0, rows go in our ascending order, parts with six decimals ..,
-- headings in degrees with three. Frequencies are in rad/s with nine decimals, ticks times 6,283,185,307 over 10,000 in billionths, rounded as usual."
use mathlib.Core.List.{List, [], ◌∷◌, ◌++◌, map, Memᴰ}
use Rattle.std.specs.Prelude.{◌↔◌, ◌≡◌, ℕ, ◌*◌, ◌<◌, ℤ, pos, length, get_or, replicate, ◌<ℤ◌}
use Rattle.std.proofs.Math.Option.{some}
use Rattle.std.proofs.Math.ListN.{get_elem?}
use Rattle.whole.specs.Nearest.{nearest_ℤ}
use Rattle.field.specs.Text.{bytes}
use Rattle.text.specs.Parts.{text_of}
use Rattle.text.specs.Rows.{row_text}
use Rattle.grid.specs.declared.nodes.Pair.{Pair}
use Rattle.table.specs.Pairs.{nowhere}
use Rattle.hull.specs.Six.{Component}
use Rattle.proteus.specs.Answer.{line_at, proteus_text}
use Rattle.promises_queries.specs.Places.{HoldsTick, HoldsHeading}
use Rattle.promises_proteus.specs.Proteus.{SixTables, SixAsked, says_of, MatrixPairs, of_lined}

-- each is below all that stand behind it, so that none stands twice
abbrev pub Rises : {A : Type 0} → (A → A → Type 0) → List A → Type 0
Rises {A} Below l = (before behind : List A) (x y : A) → l ≡ before ++ (x ∷ behind) → Memᴰ y behind → Below x y

-- ---- the two lists

-- the frequencies and the headings of the six, rising: those that each of its tables holds
pub record TwoLists (six : List Component) (ticks : List ℕ) (hs : List ℤ) : Type 0 where
  pub frequencies : (c : Component) → Memᴰ c six → (f : ℕ) → Memᴰ f ticks ↔ HoldsTick c.table f
  pub frequencies-rise : Rises (λ f g. f < g) ticks
  pub headings : (c : Component) → Memᴰ c six → (h : ℤ) → Memᴰ h hs ↔ HoldsHeading c.table h
  pub headings-rise : Rises ◌<ℤ◌ hs

-- there is but one such list of each
abbrev pub ListsOnce : Type 0
ListsOnce =
    (six : List Component) (ticks ticks' : List ℕ) (hs hs' : List ℤ) → SixTables six → TwoLists six ticks hs → TwoLists six ticks' hs' → (ticks ≡ ticks') × (hs ≡ hs')

-- rounded as usual (`NearestIs`, `NearestOnly`)
abbrev pub in_billionths : ℕ → ℤ
in_billionths tick = nearest_ℤ (pos (tick * 6_283_185_307)) 10_000

-- ---- a row of the matrix

-- its sixteen numbers: where its frequencies and headings stand in the two lists, from 0 on, and then the real and the imaginary part of component 1, of component 2, to 6
pub record RowOf (six : List Component) (ticks : List ℕ) (hs : List ℤ) (p : Pair) (row : List ℤ) : Type 0 where
  pub i : ℕ
  pub j : ℕ
  pub a : ℕ
  pub b : ℕ
  pub tick₁ : get_elem? ticks i ≡ some p.first.tick
  pub tick₂ : get_elem? ticks j ≡ some p.second.tick
  pub heading₁ : get_elem? hs a ≡ some p.first.heading
  pub heading₂ : get_elem? hs b ≡ some p.second.heading
  pub numbers :
      (c₁ c₂ c₃ c₄ c₅ c₆ : Component) → six ≡ c₁ ∷ c₂ ∷ c₃ ∷ c₄ ∷ c₅ ∷ c₆ ∷ []
      → row
      ≡ pos i
      ∷ pos j
      ∷ pos a
      ∷ pos b
      ∷ (says_of c₁ p).re
      ∷ (says_of c₁ p).im
      ∷ (says_of c₂ p).re
      ∷ (says_of c₂ p).im
      ∷ (says_of c₃ p).re
      ∷ (says_of c₃ p).im
      ∷ (says_of c₄ p).re
      ∷ (says_of c₄ p).im
      ∷ (says_of c₅ p).re
      ∷ (says_of c₅ p).im
      ∷ (says_of c₆ p).re
      ∷ (says_of c₆ p).im
      ∷ []

-- ---- the lines

-- so many numbers, each with so many decimals, single spaces between
abbrev pub lines_with : List ℕ → List ℤ → List (List ℤ) → List (List ℕ)
lines_with ticks hs rows =
    bytes "$QTFFrequencies"
    ∷ row_text (replicate (length ticks) 9) (map in_billionths ticks)
    ∷ bytes "$QTFHeadings"
    ∷ row_text (replicate (length hs) 3) hs
    ∷ bytes "$WaveDriftQTFMatrix"
    ∷ map (row_text (replicate 4 0 ++ replicate 12 6)) rows

pub record Laid (six : List Component) (ticks : List ℕ) (hs : List ℤ) (pairs : List Pair) (rows : List (List ℤ)) : Type 0 where
  pub lists : TwoLists six ticks hs
  pub matrix : MatrixPairs six pairs
  pub count : length rows ≡ length pairs
  pub each : (i : ℕ) → i < length pairs → RowOf six ticks hs (get_or pairs i nowhere) (get_or rows i [])
  -- the whole text: every line with a line feed
  pub text : proteus_text six ≡ text_of (lines_with ticks hs rows)
  -- and each line by itself, where it is not refused; past the last there is none
  pub lines : (k : ℕ) → (of_lined (line_at six k)).number ≡ 0 → (of_lined (line_at six k)).value ≡ get_or (lines_with ticks hs rows) k []

abbrev pub TextLaid : Type 0
TextLaid =
    (six : List Component) → SixTables six → SixAsked six
    → (ticks : List ℕ) × (hs : List ℤ) × (pairs : List Pair) × (rows : List (List ℤ)) × Laid six ticks hs pairs rows
