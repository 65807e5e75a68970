-- Demand 2, what queries read of a table: two tables that are alike by values at the pairs that the coverage needs (specs/ByValue) give the same coefficients, forces and
-- displays, whatever the order in which their rows arrived; and so do two records that differ only in what no query reads.
use Rattle.std.specs.Prelude.{true, List, ◌≡◌, ℕ, ◌≤◌, ℤ, Float, length}
use Rattle.grid.specs.declared.nodes.Node.{Node}
use Rattle.phase.specs.Turn.{Quarter}
use Rattle.reader.specs.declared.record.Record.{Record}
use Rattle.reader.specs.Valid.{valid_of}
use Rattle.table.specs.View.{view_of}
use Rattle.load.specs.Coefficient.{coefficient_of}
use Rattle.load.specs.Force.{load_by, force_by}
use Rattle.readout.specs.Display.{display_by}
use Rattle.seaway.specs.declared.sea.Sea.{Sea}
use Rattle.promises_rows.specs.ByValue.{AlikeOver}
use Rattle.table.specs.Cells.{cells_lent}

-- every query of the one is answered as that of the other, by whatever clock
pub record SameQueries (r : Record) (cells : List ℤ) (q : Record) (others : List ℤ) : Type 0 where
  pub coefficients : (a b : Node) → coefficient_of r cells a b ≡ coefficient_of q others a b
  pub loads : (clock : Quarter) (sea : Sea) (t : ℕ) → load_by clock r cells sea t ≡ load_by clock q others sea t
  pub forces : (clock : Quarter) (sea : Sea) (t : ℕ) → force_by clock r cells sea t ≡ force_by clock q others sea t
  pub displays : (clock : Quarter) (sea : Sea) (t : ℕ) (scale : Float) → display_by clock r cells sea t scale ≡ display_by clock q others sea t scale

-- two valid records at one stage and with the same choices, over cells that are long enough, whose tables are alike over their coverage
pub record AlikeTables (r : Record) (cells : List ℤ) (q : Record) (others : List ℤ) : Type 0 where
  pub valid : (valid_of r ≡ true) × (valid_of q ≡ true)
  pub stage : r.marks.stage ≡ q.marks.stage
  pub choices : r.choices ≡ q.choices
  pub long : (cells_lent ≤ length cells) × (cells_lent ≤ length others)
  pub alike : AlikeOver r.choices.coverage (view_of r.slots cells) (view_of q.slots others)

abbrev pub AlikeQueries : Type 0
AlikeQueries = (r : Record) (cells : List ℤ) (q : Record) (others : List ℤ) → AlikeTables r cells q others → SameQueries r cells q others

-- the count of lines begun, the kept bytes and the place of a refusal are read by no query, but for whether the record is valid
pub record SameTable (r q : Record) : Type 0 where
  pub valid : valid_of r ≡ valid_of q
  pub stage : r.marks.stage ≡ q.marks.stage
  pub choices : r.choices ≡ q.choices
  pub slots : r.slots ≡ q.slots

abbrev pub UnreadQueries : Type 0
UnreadQueries = (r q : Record) (cells : List ℤ) → SameTable r q → SameQueries r cells q cells
