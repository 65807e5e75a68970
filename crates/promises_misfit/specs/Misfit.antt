-- Demands 1 and 2 with document 02's M-101 in them, "Catch columns that disagree": what MOD is asked, as facts of the paper's own numbers, and that 17 and 6 are given exactly where
-- these are broken. So a wrong number in the rules of crates/row is found here. Rows worked by hand stand behind.
use Rattle.std.specs.Prelude.{Bool, true, false, List, [], ◌∷◌, ◌↔◌, ◌≡◌, ℕ, ◌+◌, ◌*◌, ◌≤◌, ◌<◌, T, ℤ, pos, neg_ℤ, ◌+ℤ◌, ◌*ℤ◌, ◌≤ℤ◌}
use Prim.Native.String.{String}
use Rattle.field.specs.Text.{bytes}
use Rattle.field.specs.Units.{units}
use Rattle.row.specs.declared.reading.Choices.{Choices}
use Rattle.row.specs.declared.reading.Entry.{Entry}
use Rattle.row.specs.Told.{Row}
use Rattle.row.specs.Layout.{Column}
use Rattle.row.specs.LineRules.{Written, Between, entry_of, TwoHeadings, WellFormed, Own, Ranged, LineIs}
use Rattle.row.specs.own.Rows.{row_of}
use Rattle.promises_worked.specs.Starred.{is_refused, every}

-- ---- the fit

-- "MOD must now fit RE and IM", in millionths: k is 2 and the whole hundred thousands of M. Where M is k and d more, d squared is no more than the sum of the squares; where M is less
-- than k nothing is asked on this side. The square of M + k is no less than the sum
pub record FitAsked (m re im : ℤ) : Type 0 where
  pub size : ℕ
  pub not_negative : m ≡ pos size
  pub hundred-thousands : ℕ
  pub whole : hundred-thousands * 100_000 ≤ size
  pub rest : size < hundred-thousands * 100_000 + 100_000
  pub no_less : (d : ℕ) → size ≡ 2 + hundred-thousands + d → pos (d * d) ≤ℤ (re *ℤ re +ℤ im *ℤ im)
  pub no_more : (re *ℤ re +ℤ im *ℤ im) ≤ℤ pos ((size + (2 + hundred-thousands)) * (size + (2 + hundred-thousands)))

-- of a row: MOD, RE and IM, each rounded to millionths
abbrev pub RowFits : Written → Type 0
RowFits w = FitAsked (units (w.decimal Column.modulus) 6) (units (w.decimal Column.re) 6) (units (w.decimal Column.im) 6)

-- 17 is given exactly to a row of the component, in range, at one heading or in full coverage, whose columns do not fit, whatever 7, 8 and 9 would say of it
abbrev pub SeventeenExactly : Type 0
SeventeenExactly =
    (c : Choices) (first : Bool) (line : List ℕ)
    → LineIs c first line (Row.Refused 17)
    ↔ ((w : Written) × Ranged c first line w × (TwoHeadings c (entry_of w) → ⊥) × (RowFits w → ⊥))

-- so the columns of every row that is used fit
abbrev pub UsedFits : Type 0
UsedFits =
    (c : Choices) (first : Bool) (line : List ℕ) (e : Entry) → LineIs c first line (Row.Used e) → (w : Written) × Ranged c first line w × RowFits w × (e ≡ entry_of w)

-- ---- 6

-- "a value out of range, after rounding": periods, headings, MOD and both parts
pub record ValuesAsked (w : Written) : Type 0 where
  pub per1 : Between (pos 1_000_000) (pos 100_000_000) (units (w.decimal Column.per1) 6)
  pub per2 : Between (pos 1_000_000) (pos 100_000_000) (units (w.decimal Column.per2) 6)
  pub beta1 : Between (neg_ℤ (pos 180_000)) (pos 180_000) (units (w.decimal Column.beta1) 3)
  pub beta2 : Between (neg_ℤ (pos 180_000)) (pos 180_000) (units (w.decimal Column.beta2) 3)
  pub modulus : Between (pos 0) (pos 1_415_000_000) (units (w.decimal Column.modulus) 6)
  pub re : Between (neg_ℤ (pos 1_000_000_000)) (pos 1_000_000_000) (units (w.decimal Column.re) 6)
  pub im : Between (neg_ℤ (pos 1_000_000_000)) (pos 1_000_000_000) (units (w.decimal Column.im) 6)

abbrev pub SixExactly : Type 0
SixExactly =
    (c : Choices) (first : Bool) (line : List ℕ)
    → LineIs c first line (Row.Refused 6)
    ↔ ((w : Written) × Own c first line w × (ValuesAsked w → ⊥))

-- ---- rows that are passed over

-- a well-formed row that is refused at all is of the component, and if it has two headings in single coverage it is refused 6: neither 6 nor 17 is for a row of another component,
-- and 17 is not for one of two headings. `OtherComponents` (specs/Others) says the same of texts
abbrev pub PassedUntested : Type 0
PassedUntested =
    (c : Choices) (first : Bool) (line : List ℕ) (w : Written) (number : ℕ) → WellFormed first line w → LineIs c first line (Row.Refused number)
    → (w.component ≡ c.component) × (TwoHeadings c (entry_of w) → number ≡ 6)

-- ---- rows worked by hand, of component 1 for a difference table in single coverage. The checker computes each

pub data RowCase : Type 0 where
  refused : String → ℕ → RowCase
  taken : String → RowCase
  passed_over : String → RowCase

unfoldable pub row_cases : List RowCase
row_cases =
    -- M = 0, k = 2: squares up to 4
    taken "10 8 0 0 1 0 0 0.000002 0"
    ∷ refused "10 8 0 0 1 0 0 0.000002 0.000001" 17
    -- M = 1, k = 2: M - k is below 0, so nothing is too small; up to 9
    ∷ taken "10 8 0 0 1 0.000001 0 0 0"
    ∷ taken "10 8 0 0 1 0.000001 0 -0.000003 0"
    ∷ refused "10 8 0 0 1 0.000001 0 -0.000003 0.000001" 17
    -- M = 3, k = 2: from 1 to 25
    ∷ refused "10 8 0 0 1 0.000003 0 0 0" 17
    ∷ taken "10 8 0 0 1 0.000003 0 0 0.000001"
    ∷ taken "10 8 0 0 1 0.000003 0 0.000003 -0.000004"
    ∷ refused "10 8 0 0 1 0.000003 0 0.000001 -0.000005" 17
    -- M = 99,999, k = 2: from 99,997 squared to 100,001 squared
    ∷ refused "10 8 0 0 1 0.099999 0 0.099996 0" 17
    ∷ taken "10 8 0 0 1 0.099999 0 0.099997 0"
    ∷ taken "10 8 0 0 1 0.099999 0 0.100001 0"
    ∷ refused "10 8 0 0 1 0.099999 0 0.100002 0" 17
    -- M = 100,000, k = 3: from 99,997 squared to 100,003 squared
    ∷ refused "10 8 0 0 1 0.1 0 0.099996 0" 17
    ∷ taken "10 8 0 0 1 0.1 0 0.099997 0"
    ∷ taken "10 8 0 0 1 0.1 0 0 -0.100003"
    ∷ refused "10 8 0 0 1 0.1 0 0 -0.100004" 17
    -- RE = IM = 10^9: 2 10^18 lies between 1,414,213,562 squared and 1,414,213,563 squared. Of M = 1,414,227,706 k is 14,144, of M = 1,414,199,420 it is 14,143
    ∷ taken "10 8 0 0 1 1414.227706 0 1000 1000"
    ∷ refused "10 8 0 0 1 1414.227707 0 1000 1000" 17
    ∷ taken "10 8 0 0 1 1414.199420 0 1000 1000"
    ∷ refused "10 8 0 0 1 1414.199419 0 1000 1000" 17
    -- M = 1,415,000,000 is in range, and no entry fits it; a tie goes to it
    ∷ refused "10 8 0 0 1 1415 0 1000 1000" 17
    ∷ refused "10 8 0 0 1 1415.0000005 0 1000 1000" 17
    ∷ refused "10 8 0 0 1 1415.000001 0 1000 1000" 6
    -- a tie to 0, and a MOD below it
    ∷ taken "10 8 0 0 1 -0.0000005 0 0 0"
    ∷ refused "10 8 0 0 1 -0.000001 0 0 0" 6
    -- 17 comes before 7
    ∷ refused "10 10 0 0 1 0 0 0 1" 17
    ∷ refused "10 10 0 0 1 1 0 0 1" 7
    -- another component is passed over whatever its MOD, two headings where it is in range
    ∷ passed_over "10 8 0 0 2 5000 0 1 0"
    ∷ passed_over "10 8 0 45 1 0 0 1 0"
    ∷ refused "10 8 0 45 1 1500 0 1 0" 6
    ∷ []

-- a row that is used, and what it says is so
unfoldable pub is_used : (Entry → Bool) → Row → Bool
is_used so (Row.Used e) = so e
is_used so Row.Blank = false
is_used so Row.Title = false
is_used so Row.PassedOver = false
is_used so (Row.Refused number) = false

unfoldable pub is_passed : Row → Bool
is_passed Row.PassedOver = true
is_passed Row.Blank = false
is_passed Row.Title = false
is_passed (Row.Refused number) = false
is_passed (Row.Used e) = false

-- a line that is not the text's first
unfoldable pub row_in : String → Row
row_in text = row_of (record { kind = 0; component = 1; coverage = 0 }) false (bytes text)

unfoldable pub as_worked : RowCase → Bool
as_worked (refused text number) = is_refused (row_in text) number
as_worked (taken text) = is_used (λ e. true) (row_in text)
as_worked (passed_over text) = is_passed (row_in text)

abbrev pub MisfitWorked : Type 0
MisfitWorked = T (every as_worked row_cases)
