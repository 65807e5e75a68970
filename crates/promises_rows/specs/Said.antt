-- Demand 2, what rows say (document 01, "Rows" and "The table"), by values alone: the two nodes of a row with its value, the same two swapped with its mirror, and the distinct
-- frequencies and headings of rows in their order of arrival. There is no slot, cell or record here.
use Rattle.std.specs.Prelude.{Bool, cond, ◌↔◌, ◌≡◌, ℕ, ◌≤◌, eqb, ℤ, pos, neg_ℤ, ◌≤ℤ◌}
use mathlib.Core.List.{List, [], ◌∷◌, ◌++◌, Memᴰ}
use Rattle.whole.specs.Same.{same_ℤ}
use Rattle.whole.specs.Complex.{Complex, conj}
use Rattle.row.specs.declared.reading.Entry.{Entry}
use Rattle.grid.specs.declared.nodes.Node.{Node}
use Rattle.grid.specs.Slots.{among}
use Rattle.table.specs.Placing.{value_of}
use Rattle.row.specs.Ranges.{heading_most, part_most, tick_least, tick_most}

-- ---- a row

-- PER1 with BETA1, and PER2 with BETA2
abbrev pub first_of : Entry → Node
first_of e = record { tick = e.tick1; heading = e.heading1 }

abbrev pub second_of : Entry → Node
second_of e = record { tick = e.tick2; heading = e.heading2 }

pub record TickInRange (t : ℕ) : Type 0 where
  pub low : tick_least ≤ t
  pub high : t ≤ tick_most

-- from -n to n
pub record Within (n : ℕ) (z : ℤ) : Type 0 where
  pub above : neg_ℤ (pos n) ≤ℤ z
  pub below : z ≤ℤ pos n

-- a row that is used has passed 4 to 7: its values are in range, and a difference table (kind 0) has no imaginary part at equal nodes
pub record Proper (kind : ℕ) (e : Entry) : Type 0 where
  pub tick1 : TickInRange e.tick1
  pub tick2 : TickInRange e.tick2
  pub heading1 : Within heading_most e.heading1
  pub heading2 : Within heading_most e.heading2
  pub re : Within part_most e.re
  pub im : Within part_most e.im
  pub real : kind ≡ 0 → first_of e ≡ second_of e → e.im ≡ pos 0

-- ---- what it says

-- "The mirror is the conjugate in a difference table, the same in a sum table."
unfoldable pub mirror_of : ℕ → Complex → Complex
mirror_of kind v = cond (eqb kind 0) (conj v) v

-- a row says its value of its two nodes, and the mirror of it of the two swapped
pub data Says (kind : ℕ) (e : Entry) : Node → Node → Complex → Type 0 where
  directly : Says kind e (first_of e) (second_of e) (value_of e)
  mirrored : Says kind e (second_of e) (first_of e) (mirror_of kind (value_of e))

-- some row of the list says v of the nodes a, b
pub record Said (kind : ℕ) (rows : List Entry) (a b : Node) (v : Complex) : Type 0 where
  pub row : Entry
  pub listed : Memᴰ row rows
  pub says : Says kind row a b v

-- ---- frequencies and headings

-- one more, at the end, unless it is there
unfoldable pub arrive : {A : Type 0} → (A → A → Bool) → List A → A → List A
arrive same l x = cond (among same l x) l (l ++ (x ∷ []))

unfoldable pub arrived : {A : Type 0} → (A → A → Bool) → List A → List A → List A
arrived same l [] = l
arrived same l (x ∷ xs) = arrived same (arrive same l x) xs

-- the distinct ones of a list, each where it first stands
unfoldable pub distinct : {A : Type 0} → (A → A → Bool) → List A → List A
distinct same xs = arrived same [] xs

-- no value stands twice
pub data Once {A : Type 0} : List A → Type 0 where
  none : Once []
  more : {x : A} {xs : List A} → (Memᴰ x xs → ⊥) → Once xs → Once (x ∷ xs)

-- the values of one list, each once: so its length is the number of distinct values
pub record EachOnce {A : Type 0} (l xs : List A) : Type 0 where
  pub once : Once l
  pub values : (x : A) → Memᴰ x l ↔ Memᴰ x xs

-- two values of each row, one after the other, as the rows stand
unfoldable pub two_of : {A : Type 0} → (Entry → A) → (Entry → A) → List Entry → List A
two_of first second [] = []
two_of first second (e ∷ es) = first e ∷ (second e ∷ two_of first second es)

-- "PER1 before PER2 and BETA1 before BETA2"
abbrev pub ticks_said : List Entry → List ℕ
ticks_said rows = two_of (λ e. e.tick1) (λ e. e.tick2) rows

abbrev pub headings_said : List Entry → List ℤ
headings_said rows = two_of (λ e. e.heading1) (λ e. e.heading2) rows

-- the distinct ones, in order of arrival
unfoldable pub ticks_of : List Entry → List ℕ
ticks_of rows = distinct eqb (ticks_said rows)

unfoldable pub headings_of : List Entry → List ℤ
headings_of rows = distinct same_ℤ (headings_said rows)

abbrev pub TicksDistinct : Type 0
TicksDistinct = (rows : List Entry) → EachOnce (ticks_of rows) (ticks_said rows)

abbrev pub HeadingsDistinct : Type 0
HeadingsDistinct = (rows : List Entry) → EachOnce (headings_of rows) (headings_said rows)

-- the node's frequency and heading are among those of the rows
pub record Over (rows : List Entry) (a : Node) : Type 0 where
  pub tick : Memᴰ a.tick (ticks_said rows)
  pub heading : Memᴰ a.heading (headings_said rows)
