-- Which column of a row offends, as the code finds it: a test of one column for each of the two numbers, and the first column that does not pass it. Offending has the
-- rule.
use Rattle.std.specs.Prelude.{Bool, false, cond, not, Option, Some, None, is_none, option_map, List, [], ◌∷◌, ℕ, ◌+◌, eqb, length, get_or}
use Rattle.std.specs.List.{position_from, find, range_with_len}
use Rattle.field.specs.Form.{field_of}
use Rattle.row.specs.Layout.{column_of}
use Rattle.row.specs.own.Values.{component_of}
use Rattle.row.specs.own.Rows.{is_in, quantities, unasked}
use Rattle.row.specs.declared.ranges.Quantity.{Quantity}
use Rattle.row.specs.declared.layout.Layout.{Layout}
use Rattle.field.specs.declared.decimal.Decimal.{Decimal}

-- ---- 5: the form of a column's field

unfoldable pub is_misformed : Layout → List (List ℕ) → ℕ → Bool
is_misformed layout fields k =
    cond (eqb k layout.component) (is_none (component_of (column_of fields k))) (is_none (field_of (column_of fields k)))

-- ---- 6: the range of a column's value

-- where a column's quantity stands among the seven; none where its value does not count
unfoldable pub place_of : Layout → ℕ → Option ℕ
place_of layout k =
    position_from (λ column. eqb column k) 0
    (layout.per1 ∷ layout.per2 ∷ layout.beta1 ∷ layout.beta2 ∷ layout.modulus ∷ layout.re ∷ layout.im ∷ [])

-- and that quantity
unfoldable pub quantity_at : Layout → ℕ → Option Quantity
quantity_at layout k = option_map (λ place. get_or quantities place unasked) (place_of layout k)

-- a field that is a number out of a quantity's range
unfoldable pub is_out : Quantity → Option Decimal → Bool
is_out q (Some d) = not (is_in q d)
is_out q None = false

-- where there is one
unfoldable pub is_out_of : Option Quantity → Option Decimal → Bool
is_out_of (Some q) f = is_out q f
is_out_of None f = false

unfoldable pub is_outside : Layout → List (List ℕ) → ℕ → Bool
is_outside layout fields k = is_out_of (quantity_at layout k) (field_of (column_of fields k))

-- ---- the first column

unfoldable pub offends : Layout → ℕ → List (List ℕ) → ℕ → Bool
offends layout number fields k =
    cond (eqb number 5) (is_misformed layout fields k) (cond (eqb number 6) (is_outside layout fields k) false)

-- a column as it is named, counted from 1; 0 for none
unfoldable pub named : Option ℕ → ℕ
named (Some k) = k + 1
named None = 0

-- the first that offends of a row of as many fields as columns; 0 of every other
unfoldable pub first_offending : Layout → ℕ → List (List ℕ) → ℕ
first_offending layout number fields =
    cond (eqb (length fields) layout.columns) (named (find (offends layout number fields) (range_with_len 0 layout.columns))) 0
