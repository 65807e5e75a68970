-- `reading::in_range` meets its contract: its loop holds one value after the other to its range, and the first out of range ends the row as it does in the
-- model. Assumes nothing.
use mathlib.Core.Path.{◌≡◌}
use mathlib.Core.Bool.{true}
use mathlib.Core.List.{List}
use Prim.Native.Nat.{ℕ}
use lib.IntN.{ℤ, pos}
use lib.ListN.{get_or}
use Rattle.field.specs.declared.decimal.Decimal.{Decimal}
use Rattle.field.specs.Units.{units}
use Rattle.row.specs.declared.ranges.Quantity.{Quantity}
use Rattle.row.specs.own.Values.{unread}
use Rattle.row.specs.own.Rows.{is_in, unasked}
use Rattle.row.proofs.Filling.{Filled}
use Rattle.row.proofs.reading.in_range.Given as goal

-- a value that was found at a place
pub record Value (quantities : List Quantity) (decimals : List Decimal) (k : ℕ) (z : ℤ) : Type 0 where
  pub inside : is_in (get_or quantities k unasked) (get_or decimals k unread) ≡ true
  pub value : z ≡ units (get_or decimals k unread) (get_or quantities k unasked).places

abbrev pub invariant-loop-i : goal.invariant-loop-i
invariant-loop-i l =
    Filled (Value l.quantities l.decimals) (pos 0) 7 l.values l.i
