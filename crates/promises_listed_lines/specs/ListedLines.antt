-- The lines of the listing (document 01, "Checked by hand") in bytes, over the grammar of written numbers and words (crates/promises_writing): "QTF difference 1 single 2 1", then "1000 0 1250 0
-- -30000 4000" for each pair, or "refused 7 3107". Which pairs, and in which order, is said by `ListsNeeded` (crates/promises_listings).
use Rattle.std.specs.Prelude.{List, [], ◌∷◌, ◌↔◌, ◌≡◌, ℕ, suc, ℤ, pos}
use Rattle.whole.specs.Complex.{Complex}
use Rattle.grid.specs.declared.nodes.Pair.{Pair}
use Rattle.reader.specs.declared.record.Record.{Record}
use Rattle.reader.specs.declared.reader.Place.{Place}
use Rattle.lines.specs.Listing.{title_text, pair_text}
use Rattle.lines.specs.Refusal.{refusal_text}
use Rattle.promises_writing.specs.WrittenNumbers.{WholeIs}
use Rattle.promises_writing.specs.WrittenLines.{Joined}

-- whole numbers, a word for each
pub data Wholes : List ℤ → List (List ℕ) → Type 0 where
  no_whole : Wholes [] []
  whole : {z : ℤ} {word : List ℕ} {numbers : List ℤ} {words : List (List ℕ)} → WholeIs z word → Wholes numbers words → Wholes (z ∷ numbers) (word ∷ words)

-- ---- a pair's line

-- "tick, heading, tick, heading, real, imaginary"
pub record PairLine (p : Pair) (v : Complex) (text : List ℕ) : Type 0 where
  pub words : List (List ℕ)
  pub numbers : Wholes (pos p.first.tick ∷ p.first.heading ∷ pos p.second.tick ∷ p.second.heading ∷ v.re ∷ v.im ∷ []) words
  pub joined : Joined words text

abbrev pub PairLineExactly : Type 0
PairLineExactly = (p : Pair) (v : Complex) (text : List ℕ) → (pair_text p v ≡ text) ↔ PairLine p v text

-- ---- a refusal

-- its place: 0, the line's number, or "tick, heading, tick, heading"
abbrev pub place_numbers : Place → List ℤ
place_numbers Place.Nowhere = pos 0 ∷ []
place_numbers (Place.Line n) = pos n ∷ []
place_numbers (Place.Pair p) = pos p.first.tick ∷ p.first.heading ∷ pos p.second.tick ∷ p.second.heading ∷ []

-- "`refused`, number and place": r is 114, e 101, f 102, u 117, s 115 and d 100
pub record RefusalLine (number : ℕ) (place : Place) (text : List ℕ) : Type 0 where
  pub words : List (List ℕ)
  pub numbers : Wholes (pos number ∷ place_numbers place) words
  pub joined : Joined ((114 ∷ 101 ∷ 102 ∷ 117 ∷ 115 ∷ 101 ∷ 100 ∷ []) ∷ words) text

abbrev pub RefusalLineExactly : Type 0
RefusalLineExactly = (number : ℕ) (place : Place) (text : List ℕ) → (refusal_text number place ≡ text) ↔ RefusalLine number place text

-- ---- the first line

-- kind 0 is `difference`, and any other `sum`
pub data KindWord (kind : ℕ) (word : List ℕ) : Type 0 where
  difference : kind ≡ 0 → word ≡ 100 ∷ 105 ∷ 102 ∷ 102 ∷ 101 ∷ 114 ∷ 101 ∷ 110 ∷ 99 ∷ 101 ∷ [] → KindWord kind word
  sum : (kind ≡ 0 → ⊥) → word ≡ 115 ∷ 117 ∷ 109 ∷ [] → KindWord kind word

-- coverage 0 is `single`, and any other `full`
pub data CoverageWord (coverage : ℕ) (word : List ℕ) : Type 0 where
  single : coverage ≡ 0 → word ≡ 115 ∷ 105 ∷ 110 ∷ 103 ∷ 108 ∷ 101 ∷ [] → CoverageWord coverage word
  full : (coverage ≡ 0 → ⊥) → word ≡ 102 ∷ 117 ∷ 108 ∷ 108 ∷ [] → CoverageWord coverage word

-- so many slots hold a frequency: those that are not 0
pub data HeldCount : List ℕ → ℕ → Type 0 where
  no_slot : HeldCount [] 0
  free : {slots : List ℕ} {n : ℕ} → HeldCount slots n → HeldCount (0 ∷ slots) n
  held : {tick : ℕ} {slots : List ℕ} {n : ℕ} → (tick ≡ 0 → ⊥) → HeldCount slots n → HeldCount (tick ∷ slots) (suc n)

-- `QTF` (81, 84, 70), kind, component, coverage, how many frequencies and how many headings
pub record FirstLine (r : Record) (text : List ℕ) : Type 0 where
  pub kind : List ℕ
  pub component : List ℕ
  pub coverage : List ℕ
  pub frequencies : List ℕ
  pub headings : List ℕ
  pub count : ℕ
  pub kind-is : KindWord r.choices.kind kind
  pub component-is : WholeIs (pos r.choices.component) component
  pub coverage-is : CoverageWord r.choices.coverage coverage
  pub counted : HeldCount r.slots.ticks count
  pub frequencies-is : WholeIs (pos count) frequencies
  pub headings-is : WholeIs (pos r.slots.held) headings
  pub joined : Joined ((81 ∷ 84 ∷ 70 ∷ []) ∷ kind ∷ component ∷ coverage ∷ frequencies ∷ headings ∷ []) text

abbrev pub FirstLineExactly : Type 0
FirstLineExactly = (r : Record) (text : List ℕ) → (title_text r ≡ text) ↔ FirstLine r text
