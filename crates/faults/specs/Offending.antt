-- Which field of a refused row offends (document 02, M-103): for 5 the first field of the wrong form, for 6 the first value out of range after rounding, in the order of the
-- columns and counted from 1: PER1 1, PER2 2, BETA1 3, BETA2 4, I 5, MOD 6, PHS 7, RE 8, IM 9. What breaks a rule is said in the words of LineRules, so that no line is judged a
-- second way. The contract of `offending::field` says what it gives by `offending_field`, which goes through the columns as the code does; by the laws below it is enough to
-- believe `FirstField`, with what offends by each number.
use Rattle.std.specs.Prelude.{Bool, List, ◌≡◌, ℕ, ◌+◌, ◌≤◌, ◌<◌, Some, None}
use Rattle.field.specs.declared.decimal.Decimal.{Decimal}
use Rattle.field.specs.Form.{field_of}
use Rattle.field.specs.Units.{units}
use Rattle.row.specs.declared.layout.Layout.{Layout}
use Rattle.row.specs.declared.reading.Choices.{Choices}
use Rattle.row.specs.Told.{Row}
use Rattle.row.specs.Layout.{wamit_layout, column_of, Column, column_at, quantity_of}
use Rattle.row.specs.LineRules.{fields_of, Component, Between, LineIs}
use Rattle.faults.specs.own.Offends.{first_offending}

-- the field that offends by a number, 5 or 6; 0 where none does, where the line has not nine fields, and for every other number
unfoldable pub offending_field : ℕ → List ℕ → ℕ
offending_field number line = first_offending wamit_layout number (fields_of line)

-- ---- the rule. Columns are counted from 0, as a layout counts them

-- 5: a column whose field has the wrong form: I that is no single byte 1 to 6, or any other that is no number. PHS counts here, as it does for LineRules
pub data FormOffends (layout : Layout) (fields : List (List ℕ)) (k : ℕ) : Type 0 where
  component : k ≡ layout.component → ((n : ℕ) → Component (column_of fields k) n → ⊥) → FormOffends layout fields k
  decimal : (column : Column) → k ≡ column_at layout column → field_of (column_of fields k) ≡ None → FormOffends layout fields k
  phase : k ≡ layout.phase → field_of (column_of fields k) ≡ None → FormOffends layout fields k

-- 6: a column whose value counts, with a number that is out of its range after rounding. PHS has no range, and a field of the wrong form no value
pub record RangeOffends (layout : Layout) (fields : List (List ℕ)) (k : ℕ) : Type 0 where
  pub column : Column
  pub place : k ≡ column_at layout column
  pub decimal : Decimal
  pub number : field_of (column_of fields k) ≡ Some decimal
  pub out : Between (quantity_of column).least (quantity_of column).most (units decimal (quantity_of column).places) → ⊥

-- a field, counted from 1, whose column offends, and none before it does
pub record FirstField (Offends : ℕ → Type 0) (field : ℕ) : Type 0 where
  pub column : ℕ
  pub counted : field ≡ column + 1
  pub offends : Offends column
  pub first : (k : ℕ) → k < column → Offends k → ⊥

-- ---- the laws, which proofs/OffendingField proves

-- a line that is refused by 5, or by 6, has such a field, and it is the one that is named
abbrev pub FieldOfFive : Type 0
FieldOfFive =
    (c : Choices) (first : Bool) (line : List ℕ)
    → LineIs c first line (Row.Refused 5)
    → FirstField (FormOffends wamit_layout (fields_of line)) (offending_field 5 line)

abbrev pub FieldOfSix : Type 0
FieldOfSix =
    (c : Choices) (first : Bool) (line : List ℕ)
    → LineIs c first line (Row.Refused 6)
    → FirstField (RangeOffends wamit_layout (fields_of line)) (offending_field 6 line)

-- there is no more than one
abbrev pub FieldOne : Type 1
FieldOne = (Offends : ℕ → Type 0) (f g : ℕ) → FirstField Offends f → FirstField Offends g → f ≡ g

-- every other number names none
abbrev pub FieldOfNone : Type 0
FieldOfNone = (number : ℕ) (line : List ℕ) → (number ≡ 5 → ⊥) → (number ≡ 6 → ⊥) → offending_field number line ≡ 0

-- a field that is named is one of nine
abbrev pub FieldOfNine : Type 0
FieldOfNine = (number : ℕ) (line : List ℕ) → offending_field number line ≤ 9
