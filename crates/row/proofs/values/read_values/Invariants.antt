-- `values::read_values` meets its contract: its loop reads the decimals in the order in which the model takes them, and the first of a wrong form ends the row as
-- it does there. Assumes nothing.
use Rattle.std.specs.Prelude.{Some}
use mathlib.Core.Path.{◌≡◌}
use mathlib.Core.List.{List}
use Prim.Native.Nat.{ℕ}
use lib.ListN.{get_or}
use Rattle.field.specs.declared.decimal.Decimal.{Decimal}
use Rattle.field.specs.Form.{field_of}
use Rattle.row.specs.own.Found.{first_nine}
use Rattle.row.specs.Layout.{column_of}
use Rattle.row.specs.own.Values.{unread}
use Rattle.row.proofs.Filling.{Filled}
use Rattle.row.proofs.values.read_values.Given as goal

-- the decimal at a place was read
abbrev pub Said : List (List ℕ) → List ℕ → ℕ → Decimal → Type 0
Said fields columns k d = field_of (column_of fields (get_or columns k 0)) ≡ Some d

-- the first i of eight were
abbrev pub Read : List (List ℕ) → List ℕ → List Decimal → ℕ → Type 0
Read fields columns = Filled (Said fields columns) unread 8

abbrev pub invariant-loop-i : goal.invariant-loop-i
invariant-loop-i l =
    Read (first_nine l.columns.line.now) l.places l.numbers l.i
