-- What a line may be, by document 01's numbers and in their order ("Rows", "Numbers" and "The sixteen numbers"), with document 02's 17 in its place (M-101): blank, a title,
-- refused 4, refused 5, a row of another component, refused 6, a row of two headings in single coverage, refused 17, refused 7, or a row that is used with what it says.
-- Each case says what a line of it is, and that it is none of those before it. There is no order of processing here but that of the numbers. LineExactly says that the code
-- keeps to it.
use Rattle.std.specs.Prelude.{Bool, true, List, [], ◌∷◌, ◌≡◌, ℕ, ◌+◌, ◌≤◌, ℤ, pos, nat_abs, length, ◌≤ℤ◌, Some, None}
use Rattle.field.specs.declared.decimal.Decimal.{Decimal}
use Rattle.field.specs.Form.{field_of}
use Rattle.field.specs.Units.{units, tick_of}
use Rattle.row.specs.declared.layout.Layout.{Layout}
use Rattle.row.specs.declared.reading.Choices.{Choices}
use Rattle.row.specs.declared.reading.Entry.{Entry}
use Rattle.row.specs.Told.{Row}
use Rattle.row.specs.Line.{without_return, words, starts_letter}
use Rattle.row.specs.Heading.{heading_of}
use Rattle.row.specs.Layout.{wamit_layout, column_of, Column, column_at, quantity_of}
use Rattle.row.specs.Fit.{ModulusFits}

-- ---- form

-- "fields between spaces or tabs", once one carriage return at the line's end is dropped
abbrev pub fields_of : List ℕ → List (List ℕ)
fields_of line = words (without_return line)

-- neither blank nor a title: "The first line is skipped if its first byte after blanks is a letter"
pub record IsRow (first : Bool) (fields : List (List ℕ)) : Type 0 where
  pub some : fields ≡ [] → ⊥
  pub no-title : first ≡ true → starts_letter fields ≡ true → ⊥

-- "I is a single byte, 1 to 6"
pub record Component (field : List ℕ) (n : ℕ) : Type 0 where
  pub byte : field ≡ (48 + n) ∷ []
  pub low : 1 ≤ n
  pub high : n ≤ 6

-- what a row says: its component, and a decimal in each column whose value counts
pub record Written : Type 0 where
  pub component : ℕ
  pub decimal : Column → Decimal

-- every field has the right form. PHS needs no more than that
pub record Right (layout : Layout) (fields : List (List ℕ)) (w : Written) : Type 0 where
  pub count : length fields ≡ layout.columns
  pub component : Component (column_of fields layout.component) w.component
  pub decimal : (k : Column) → field_of (column_of fields (column_at layout k)) ≡ Some (w.decimal k)
  pub phase : field_of (column_of fields layout.phase) ≡ None → ⊥

-- some field has the wrong form
pub data Wrong (layout : Layout) (fields : List (List ℕ)) : Type 0 where
  component : ((n : ℕ) → Component (column_of fields layout.component) n → ⊥) → Wrong layout fields
  decimal : (k : Column) → field_of (column_of fields (column_at layout k)) ≡ None → Wrong layout fields
  phase : field_of (column_of fields layout.phase) ≡ None → Wrong layout fields

-- ---- values

-- from low to high, both ends with it
pub record Between (low high z : ℤ) : Type 0 where
  pub above : low ≤ℤ z
  pub below : z ≤ℤ high

-- a value in its unit: periods in microseconds, headings in millidegrees, the modulus and both parts in millionths
abbrev pub units_of : Written → Column → ℤ
units_of w k = units (w.decimal k) (quantity_of k).places

-- "a value out of range, after rounding" is what breaks this
abbrev pub InRange : Written → Type 0
InRange w = (k : Column) → Between (quantity_of k).least (quantity_of k).most (units_of w k)

-- what a row in range says: two frequencies in ticks, two headings, and both parts
unfoldable pub entry_of : Written → Entry
entry_of w =
    record {
      tick1 = tick_of (nat_abs (units_of w Column.per1));
      tick2 = tick_of (nat_abs (units_of w Column.per2));
      heading1 = heading_of (units_of w Column.beta1);
      heading2 = heading_of (units_of w Column.beta2);
      re = units_of w Column.re;
      im = units_of w Column.im;
    }

-- "In single coverage a row in range with two different headings is passed over too". Coverage 0 is single
pub record TwoHeadings (c : Choices) (e : Entry) : Type 0 where
  pub single : c.coverage ≡ 0
  pub differ : e.heading1 ≡ e.heading2 → ⊥

-- "MOD must now fit RE and IM" (M-101); 17 is for a row in range where it does not
abbrev pub Fitting : Written → Type 0
Fitting w = ModulusFits (nat_abs (units_of w Column.modulus)) (units_of w Column.re) (units_of w Column.im)

-- 7: "difference table, equal nodes, imaginary part not 0". Kind 0 is difference
pub record Imaginary (c : Choices) (e : Entry) : Type 0 where
  pub difference : c.kind ≡ 0
  pub ticks : e.tick1 ≡ e.tick2
  pub headings : e.heading1 ≡ e.heading2
  pub im : e.im ≡ pos 0 → ⊥

-- ---- lines

-- a row of nine fields, all of the right form; of the component that the caller chose; with its values in range
pub record WellFormed (first : Bool) (line : List ℕ) (w : Written) : Type 0 where
  pub row : IsRow first (fields_of line)
  pub right : Right wamit_layout (fields_of line) w

pub record Own (c : Choices) (first : Bool) (line : List ℕ) (w : Written) : Type 0 where
  pub formed : WellFormed first line w
  pub component : w.component ≡ c.component

pub record Ranged (c : Choices) (first : Bool) (line : List ℕ) (w : Written) : Type 0 where
  pub own : Own c first line w
  pub range : InRange w

-- `first` says that it is the text's first line. Numbers are tested in rising order, each "over the whole row before the next"; 17 stands "after the heading pass-over and
-- before 7"
pub data LineIs (c : Choices) (first : Bool) (line : List ℕ) : Row → Type 0 where
  blank : fields_of line ≡ [] → LineIs c first line Row.Blank
  title : first ≡ true → starts_letter (fields_of line) ≡ true → LineIs c first line Row.Title
  breaks-4 : IsRow first (fields_of line) → (length (fields_of line) ≡ wamit_layout.columns → ⊥) → LineIs c first line (Row.Refused 4)
  breaks-5 : IsRow first (fields_of line) → length (fields_of line) ≡ wamit_layout.columns → Wrong wamit_layout (fields_of line) → LineIs c first line (Row.Refused 5)
  other-component : {w : Written} → WellFormed first line w → (w.component ≡ c.component → ⊥) → LineIs c first line Row.PassedOver
  breaks-6 : {w : Written} → Own c first line w → (InRange w → ⊥) → LineIs c first line (Row.Refused 6)
  two-headings : {w : Written} → Ranged c first line w → TwoHeadings c (entry_of w) → LineIs c first line Row.PassedOver
  breaks-17 : {w : Written} → Ranged c first line w → (TwoHeadings c (entry_of w) → ⊥) → (Fitting w → ⊥) → LineIs c first line (Row.Refused 17)
  breaks-7 : {w : Written} → Ranged c first line w → (TwoHeadings c (entry_of w) → ⊥) → Fitting w → Imaginary c (entry_of w) → LineIs c first line (Row.Refused 7)
  used :
      {w : Written} → Ranged c first line w → (TwoHeadings c (entry_of w) → ⊥) → Fitting w → (Imaginary c (entry_of w) → ⊥)
      → LineIs c first line (Row.Used (entry_of w))
