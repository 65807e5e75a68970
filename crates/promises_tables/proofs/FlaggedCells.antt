-- What stands in a table of two nodes, by their values, is what its rows say of them. Assumes nothing.
use mathlib.Core.List.{List}
use mathlib.Core.Logic.{◌⊎◌, inl, inr, ⊎_elim}
use mathlib.Core.Path.{◌≡◌, subst}
use Prim.Native.Nat.{ℕ}
use Rattle.whole.specs.Complex.{Complex}
use Rattle.row.specs.declared.reading.Entry.{Entry}
use Rattle.grid.specs.declared.nodes.Node.{Node}
use Rattle.table.specs.Cells.{place_of}
use Rattle.table.specs.Placing.{Table}
use Rattle.table.specs.Closing.{node_of}
use Rattle.promises_rows.specs.Said.{Said}
use Rattle.promises_rows.specs.Said.{Over}
use Rattle.promises_tables.specs.Holds.{grid_of, FlaggedCell, flagged_at, marked, blank, Holds}
use Rattle.promises_rows.proofs.Said.{said-over}
use Rattle.promises_tables.proofs.Nodes.{node-small, node-one}

-- the flag and the cell of two nodes
abbrev pub cell_of : Table → Node → Node → FlaggedCell
cell_of t a b = flagged_at (grid_of t) (place_of (node_of t.slots a) (node_of t.slots b))

module _ (kind : ℕ) (rows : List Entry) (t : Table) (H : Holds kind rows t) where
  -- what is said stands there
  pub said-cell : (a b : Node) (v : Complex) → Said kind rows a b v → cell_of t a b ≡ marked v
  said-cell = H.in_cells

  -- of two nodes over the frequencies and headings of the rows: a row says something, or the cell and the flag are 0
  pub said-or-blank : (a b : Node) → Over rows a → Over rows b → ((v : Complex) × Said kind rows a b v) ⊎ (cell_of t a b ≡ blank)
  said-or-blank a b oa ob =
      ⊎_elim
      (λ e. inr e)
      (λ o.
      let over = said-over o.said in
      let is-a : o.a ≡ a = node-one rows t.slots H.ticks H.headings o.a a over.0 oa o.first in
      let is_b : o.b ≡ b = node-one rows t.slots H.ticks H.headings o.b b over.1 ob o.second in
      inl
      (o.v, subst (λ (z : Node). Said kind rows a z o.v) is_b (subst (λ (z : Node). Said kind rows z o.b o.v) is-a o.said)))
      (H.rest _ _ (node-small rows t.slots H.ticks H.headings a oa) (node-small rows t.slots H.ticks H.headings b ob))
