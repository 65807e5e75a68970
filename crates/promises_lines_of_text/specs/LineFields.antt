-- What the fields of a line are (document 01, "Rows"), as a grammar of its bytes: "fields between spaces or tabs", and "one carriage return just before" the line's end "is dropped".
-- Nothing is read from left to right here: a line is a text that can be put together so, and a space is byte 32, a tab 9 and a carriage return 13. The definition that the code is
-- held to, `fields_of`, finds exactly these fields. By the same bytes: which lines are blank, which are a title, and which are refused 4.
use Rattle.std.specs.Prelude.{Bool, true, List, [], ◌∷◌, ◌++◌, ◌↔◌, ◌≡◌, ℕ, ◌≤◌, length}
use Rattle.row.specs.declared.reading.Choices.{Choices}
use Rattle.row.specs.Told.{Row}
use Rattle.row.specs.LineRules.{fields_of, LineIs}

-- ---- blanks and fields

-- spaces and tabs, as many as there are; or none
pub data Blanks : List ℕ → Type 0 where
  no-blank : Blanks []
  space : {s : List ℕ} → Blanks s → Blanks (32 ∷ s)
  tab : {s : List ℕ} → Blanks s → Blanks (9 ∷ s)

-- bytes of which none is a space or a tab
pub data Solid : List ℕ → Type 0 where
  no_byte : Solid []
  byte : {b : ℕ} {s : List ℕ} → (b ≡ 32 → ⊥) → (b ≡ 9 → ⊥) → Solid s → Solid (b ∷ s)

-- a field, whatever it says: one such byte or more
pub record FieldBytes (field : List ℕ) : Type 0 where
  pub some : 1 ≤ length field
  pub solid : Solid field

-- what stands behind a field: blanks or nothing, and no field more; or a blank or more, the next field, and what stands behind that
pub data Behind : List ℕ → List (List ℕ) → Type 0 where
  no_more : {text : List ℕ} → Blanks text → Behind text []
  next :
      {text : List ℕ} (gap field rest : List ℕ) {fields : List (List ℕ)} → text ≡ gap ++ (field ++ rest) → 1 ≤ length gap → Blanks gap → FieldBytes field → Behind rest fields
      → Behind text (field ∷ fields)

-- "fields between spaces or tabs": blanks or nothing, and no field; or blanks or nothing, the first field, and what stands behind it
pub data FieldsBetween (text : List ℕ) : List (List ℕ) → Type 0 where
  no_field : Blanks text → FieldsBetween text []
  some-fields :
      (front field rest : List ℕ) {fields : List (List ℕ)} → text ≡ front ++ (field ++ rest) → Blanks front → FieldBytes field → Behind rest fields
      → FieldsBetween text (field ∷ fields)

-- ---- the line's end

-- a 13 at the very end is dropped, one and no more; a line that does not end in 13 stays as it is
pub data Dropped (line left : List ℕ) : Type 0 where
  one : line ≡ left ++ (13 ∷ []) → Dropped line left
  nothing : line ≡ left → ((front : List ℕ) → line ≡ front ++ (13 ∷ []) → ⊥) → Dropped line left

-- ---- the line

-- the line has these fields, in this order
pub record LineHas (line : List ℕ) (fields : List (List ℕ)) : Type 0 where
  pub left : List ℕ
  pub dropped : Dropped line left
  pub between : FieldsBetween left fields

-- so of each line there is one list of fields, that which `LineIs` speaks of
abbrev pub FieldsExactly : Type 0
FieldsExactly = (line : List ℕ) (fields : List (List ℕ)) → (fields_of line ≡ fields) ↔ LineHas line fields

-- ---- blank lines, titles, and 4

-- blanks or nothing, but for a 13 at the end
pub record OnlyBlanks (line : List ℕ) : Type 0 where
  pub left : List ℕ
  pub dropped : Dropped line left
  pub blanks : Blanks left

abbrev pub BlankExactly : Type 0
BlankExactly = (c : Choices) (first : Bool) (line : List ℕ) → LineIs c first line Row.Blank ↔ OnlyBlanks line

-- A to Z is 65 to 90, and a to z 97 to 122
pub data Letter (b : ℕ) : Type 0 where
  upper : 65 ≤ b → b ≤ 90 → Letter b
  lower : 97 ≤ b → b ≤ 122 → Letter b

-- "its first byte after blanks is a letter"
pub record LetterFirst (line : List ℕ) : Type 0 where
  pub front : List ℕ
  pub b : ℕ
  pub rest : List ℕ
  pub whole : line ≡ front ++ (b ∷ rest)
  pub blanks : Blanks front
  pub letter : Letter b

-- "The first line is skipped if .."
abbrev pub TitleExactly : Type 0
TitleExactly = (c : Choices) (first : Bool) (line : List ℕ) → LineIs c first line Row.Title ↔ ((first ≡ true) × LetterFirst line)

-- 4: "not nine fields", of a line that is neither blank nor a title
pub record NotNine (first : Bool) (line : List ℕ) : Type 0 where
  pub not-blank : OnlyBlanks line → ⊥
  pub no-title : first ≡ true → LetterFirst line → ⊥
  pub not-nine : (fields : List (List ℕ)) → LineHas line fields → length fields ≡ 9 → ⊥

abbrev pub FourExactly : Type 0
FourExactly = (c : Choices) (first : Bool) (line : List ℕ) → LineIs c first line (Row.Refused 4) ↔ NotNine first line
