-- The columns of a row (document 01, "Rows"): "PER1 PER2 BETA1 BETA2 I MOD PHS RE IM". Which column holds which field is a layout, which the rules take.
use Rattle.std.specs.Prelude.{List, [], ℕ, get_or}
use Rattle.row.specs.declared.layout.Layout.{Layout}
use Rattle.row.specs.declared.ranges.Quantity.{Quantity}
use Rattle.row.specs.Ranges.{period, direction, magnitude, part}

-- the nine columns that WAMIT writes
unfoldable pub wamit_layout : Layout
wamit_layout =
    record { columns = 9; per1 = 0; per2 = 1; beta1 = 2; beta2 = 3; component = 4; modulus = 5; phase = 6; re = 7; im = 8 }

-- the field in a column; past the last there is none
abbrev pub column_of : List (List ℕ) → ℕ → List ℕ
column_of fields k = get_or fields k []

-- the columns whose values count: two periods, two headings, the modulus of the entry, and both its parts
pub data Column : Type 0 where
  per1 : Column
  per2 : Column
  beta1 : Column
  beta2 : Column
  modulus : Column
  re : Column
  im : Column

-- where they stand
abbrev pub column_at : Layout → Column → ℕ
column_at layout Column.per1 = layout.per1
column_at layout Column.per2 = layout.per2
column_at layout Column.beta1 = layout.beta1
column_at layout Column.beta2 = layout.beta2
column_at layout Column.modulus = layout.modulus
column_at layout Column.re = layout.re
column_at layout Column.im = layout.im

-- what each is a number of
abbrev pub quantity_of : Column → Quantity
quantity_of Column.per1 = period
quantity_of Column.per2 = period
quantity_of Column.beta1 = direction
quantity_of Column.beta2 = direction
quantity_of Column.modulus = magnitude
quantity_of Column.re = part
quantity_of Column.im = part
