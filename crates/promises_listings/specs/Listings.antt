-- Demand 2, the listing (document 01, "Checked by hand"): after its first line it lists every pair that the coverage needs, once and in order; and it reads a table by values
-- alone: two tables that are alike at those pairs, under the same choices, have the same listing, line by line, whatever the slots and the order of arrival.
use Rattle.std.specs.Prelude.{true, ◌↔◌, ◌≡◌, ℕ, suc, ◌≤◌, ◌<◌, ℤ, length, get_or}
use mathlib.Core.List.{List, [], ◌∷◌, ◌++◌, Memᴰ}
use Rattle.grid.specs.declared.nodes.Pair.{Pair}
use Rattle.reader.specs.declared.record.Record.{Record}
use Rattle.grid.specs.Valid.{valid_slots}
use Rattle.reader.specs.Valid.{query_barred}
use Rattle.table.specs.View.{view_of}
use Rattle.table.specs.Pairs.{nowhere}
use Rattle.lines.specs.Listing.{Listed}
use Rattle.lines.specs.Line.{line_of}
use Rattle.lines.specs.Listing.{title_text, pair_text, text_of, listed}
use Rattle.promises_calls.specs.Kept.{Shaped}
use Rattle.promises_tables.specs.Rules.{PairBelow}
use Rattle.promises_rows.specs.ByValue.{AlikeOver}
use Rattle.promises_queries.specs.Places.{HoldsTick, HoldsHeading}
use Rattle.promises_queries.specs.Queries.{Asked}

-- ---- every needed pair, once, in order

-- the table holds both frequencies and both headings of the pair; "in single coverage only pairs with equal headings". Coverage 0 is single
pub record NeededPair (r : Record) (p : Pair) : Type 0 where
  pub tick₁ : HoldsTick r p.first.tick
  pub heading₁ : HoldsHeading r p.first.heading
  pub tick₂ : HoldsTick r p.second.tick
  pub heading₂ : HoldsHeading r p.second.heading
  pub single : r.choices.coverage ≡ 0 → p.first.heading ≡ p.second.heading

-- "Nodes run by heading, then tick": a pair is below all that stand behind it, by its first node, then by its second, so that none stands twice
abbrev pub InOrder : List Pair → Type 0
InOrder pairs = (before behind : List Pair) (p q : Pair) → pairs ≡ before ++ (p ∷ behind) → Memᴰ q behind → PairBelow p q

-- a line with its text, and no refusal
abbrev pub line_with : List ℕ → Listed
line_with text = record { number = 0; line = line_of text }

-- the listing's lines: the first, then one for each of these pairs, "as tick, heading, tick, heading, real, imaginary", then none
pub record Lists (r : Record) (cells : List ℤ) (pairs : List Pair) : Type 0 where
  pub needed : (p : Pair) → Memᴰ p pairs ↔ NeededPair r p
  pub order : InOrder pairs
  pub title : listed r cells 0 ≡ line_with (title_text r)
  pub lines :
      (k : ℕ) → k < length pairs →
      let p = get_or pairs k nowhere in listed r cells (suc k) ≡ line_with (pair_text p ((view_of r.slots cells).entry p.first p.second))
  pub past : (k : ℕ) → length pairs ≤ k → listed r cells (suc k) ≡ line_with []

abbrev pub ListsNeeded : Type 0
ListsNeeded = (r : Record) (cells : List ℤ) → Shaped r → Asked r cells → (pairs : List Pair) × Lists r cells pairs

-- ---- by values alone

-- the text of every line, from the first on; a text past the last line is empty
abbrev pub TextAlike : Type 0
TextAlike =
    (r q : Record) (cells others : List ℤ) → Shaped r → Shaped q → valid_slots r.marks.stage r.slots ≡ true → valid_slots q.marks.stage q.slots ≡ true
    → r.choices ≡ q.choices → AlikeOver r.choices.coverage (view_of r.slots cells) (view_of q.slots others)
    → (k : ℕ) → text_of r cells k ≡ text_of q others k

-- what the listing answers, of tables that are both accepted or refused by one number
abbrev pub ListingAlike : Type 0
ListingAlike =
    (r q : Record) (cells others : List ℤ) → Shaped r → Shaped q → query_barred r (length cells) ≡ query_barred q (length others)
    → r.choices ≡ q.choices → AlikeOver r.choices.coverage (view_of r.slots cells) (view_of q.slots others)
    → (k : ℕ) → listed r cells k ≡ listed q others k
