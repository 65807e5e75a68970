-- Demand 2, the rules that used rows keep (document 01, "The sixteen numbers", 8 to 11), by values alone: no slot, cell or record, and no order in which anything is looked up.
use mathlib.Core.List.{List, [], ◌∷◌, ◌++◌}
use Rattle.std.specs.Prelude.{◌⊎◌, ◌≡◌, ℕ, ◌≤◌, ◌<◌, length, ◌<ℤ◌}
use Rattle.whole.specs.Complex.{Complex}
use Rattle.row.specs.declared.reading.Entry.{Entry}
use Rattle.grid.specs.declared.nodes.Node.{Node}
use Rattle.grid.specs.declared.nodes.Pair.{Pair}
use Rattle.promises_rows.specs.Said.{Over, Says, Said, ticks_of, headings_of}

-- ---- rows among themselves

-- 8: "a 21st frequency or 5th heading"
abbrev pub TooMany : List Entry → Type 0
TooMany rows = (20 < length (ticks_of rows)) ⊎ (4 < length (headings_of rows))

-- 9: a row says, directly or mirrored, something else of two nodes than rows before it do
pub record Differs (kind : ℕ) (rows : List Entry) (e : Entry) : Type 0 where
  pub a : Node
  pub b : Node
  pub before : Complex
  pub now : Complex
  pub said : Said kind rows a b before
  pub says : Says kind e a b now
  pub differ : before ≡ now → ⊥

-- The number that a used row gets after the rows before it, and 0 where it is taken. Numbers are tested in rising order, so 9 says too that 8 does not apply.
pub data RowNumber (kind : ℕ) (rows : List Entry) (e : Entry) : ℕ → Type 0 where
  eight : TooMany (rows ++ (e ∷ [])) → RowNumber kind rows e 8
  nine : (TooMany (rows ++ (e ∷ [])) → ⊥) → Differs kind rows e → RowNumber kind rows e 9
  none : (TooMany (rows ++ (e ∷ [])) → ⊥) → (Differs kind rows e → ⊥) → RowNumber kind rows e 0

-- rows that say one thing of any two nodes
abbrev pub Consistent : ℕ → List Entry → Type 0
Consistent kind rows = (a b : Node) (v w : Complex) → Said kind rows a b v → Said kind rows a b w → v ≡ w

-- the rules of rows among themselves
pub record RowRules (kind : ℕ) (rows : List Entry) : Type 0 where
  pub frequencies : length (ticks_of rows) ≤ 20
  pub headings : length (headings_of rows) ≤ 4
  pub consistent : Consistent kind rows

-- ---- the pairs that the coverage needs

-- "Closing asks for every pair over all frequencies and headings read; in single coverage only pairs with equal headings." Coverage 0 is single
pub record Needed (coverage : ℕ) (rows : List Entry) (a b : Node) : Type 0 where
  pub first : Over rows a
  pub second : Over rows b
  pub single : coverage ≡ 0 → a.heading ≡ b.heading

-- every needed pair is said
abbrev pub Complete : ℕ → ℕ → List Entry → Type 0
Complete kind coverage rows = (a b : Node) → Needed coverage rows a b → (v : Complex) × Said kind rows a b v

-- ---- the place of 11

-- by heading, then by tick
abbrev pub NodeBelow : Node → Node → Type 0
NodeBelow a b = (a.heading <ℤ b.heading) ⊎ ((a.heading ≡ b.heading) × (a.tick < b.tick))

-- by the first node, then by the second
abbrev pub PairBelow : Pair → Pair → Type 0
PairBelow p q = NodeBelow p.first q.first ⊎ ((p.first ≡ q.first) × NodeBelow p.second q.second)

-- a needed pair that no row says, "first node not above the second"
pub record Unsaid (kind coverage : ℕ) (rows : List Entry) (p : Pair) : Type 0 where
  pub needed : Needed coverage rows p.first p.second
  pub order : (p.first ≡ p.second) ⊎ NodeBelow p.first p.second
  pub unsaid : (v : Complex) → Said kind rows p.first p.second v → ⊥

-- 11: "the first missing pair .. in ascending order of heading then tick of the first node, then of the second"
pub record Missing (kind coverage : ℕ) (rows : List Entry) (p : Pair) : Type 0 where
  pub lacking : Unsaid kind coverage rows p
  pub least : (q : Pair) → Unsaid kind coverage rows q → (q ≡ p) ⊎ PairBelow p q
