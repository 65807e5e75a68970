-- For demand 2, tables that are alike by values: what is read of a table (listing, coefficients, forces) is the same for any two of them.
use Rattle.std.specs.Prelude.{true, ◌≡◌, ℕ, ℤ}
use Rattle.grid.specs.declared.nodes.Node.{Node}
use Rattle.table.specs.View.{View}

-- the same ticks, the same headings, and the same value at every pair of nodes that the coverage needs: "in single coverage only pairs with equal headings". Coverage 0 is single
pub record AlikeOver (coverage : ℕ) (v w : View) : Type 0 where
  pub ticks : (f : ℕ) → v.ticks f ≡ w.ticks f
  pub headings : (h : ℤ) → v.headings h ≡ w.headings h
  pub entries : (a b : Node) → v.nodes a ≡ true → v.nodes b ≡ true → (coverage ≡ 0 → a.heading ≡ b.heading) → v.entry a b ≡ w.entry a b

-- the same value at every pair of nodes, needed or not
pub record Alike (v w : View) : Type 0 where
  pub ticks : (f : ℕ) → v.ticks f ≡ w.ticks f
  pub headings : (h : ℤ) → v.headings h ≡ w.headings h
  pub entries : (a b : Node) → v.nodes a ≡ true → v.nodes b ≡ true → v.entry a b ≡ w.entry a b

-- such tables are alike over either coverage, so that all that is promised over the needed pairs is promised of them
abbrev pub AlikeOverEach : Type 0
AlikeOverEach = (coverage : ℕ) (v w : View) → Alike v w → AlikeOver coverage v w
