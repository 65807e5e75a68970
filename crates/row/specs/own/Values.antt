-- The fields of a row by their names, read in the order in which the code tests their forms; LineRules says what comes of them without one.
use Rattle.std.specs.Prelude.{Bool, true, false, cond, ◌&&◌, Option, Some, None, is_some, option_map, unwrap_or, List, [], ◌∷◌, ℕ, zero, suc, ◌-◌, leb, get_or}
use Rattle.field.specs.declared.decimal.Decimal.{Decimal}
use Rattle.field.specs.Form.{field_of}
use Rattle.row.specs.Layout.{column_of}
use Rattle.row.specs.declared.layout.Layout.{Layout}
use Rattle.row.specs.declared.values.Values.{Values}

-- the columns of the decimals, in the order in which their forms are tested
abbrev pub decimals_of : Layout → List ℕ
decimals_of layout =
    layout.per1
    ∷ layout.per2
    ∷ layout.beta1
    ∷ layout.beta2
    ∷ layout.modulus
    ∷ layout.phase
    ∷ layout.re
    ∷ layout.im
    ∷ []

-- "I is a single byte, 1 to 6": its number
unfoldable pub component_of : List ℕ → Option ℕ
component_of [] = None
component_of (b ∷ []) = cond (leb 49 b && leb b 54) (Some (b - 48)) None
component_of (b ∷ c ∷ s) = None

-- what stands where there is no decimal
abbrev pub unread : Decimal
unread = record { negative = false; digits = 0; up = 0; down = 0 }

unfoldable pub decimal_of : Option Decimal → Decimal
decimal_of f = unwrap_or f unread

-- a test that holds at each place below n
unfoldable pub all_below : ℕ → (ℕ → Bool) → Bool
all_below zero test = true
all_below (suc n) test = test n && all_below n test

-- the decimal that is read k-th
abbrev pub read_at : Layout → List (List ℕ) → ℕ → Option Decimal
read_at layout fields k = field_of (column_of fields (get_or (decimals_of layout) k 0))

-- the values of a row of this component
unfoldable pub values_at : Layout → List (List ℕ) → ℕ → Values
values_at layout fields component =
    record {
      component = component;
      per1 = decimal_of (read_at layout fields 0);
      per2 = decimal_of (read_at layout fields 1);
      beta1 = decimal_of (read_at layout fields 2);
      beta2 = decimal_of (read_at layout fields 3);
      modulus = decimal_of (read_at layout fields 4);
      re = decimal_of (read_at layout fields 6);
      im = decimal_of (read_at layout fields 7);
    }

-- all nine fields, each of the right form. PHS, which is read sixth, needs only that
unfoldable pub values_of : Layout → List (List ℕ) → Option Values
values_of layout fields =
    cond (all_below 8 (λ k. is_some (read_at layout fields k)))
    (option_map (values_at layout fields) (component_of (column_of fields layout.component)))
    None
