-- Demands 1 and 2, what a used row says (document 01, "Numbers" and "Rows"), from the bytes of its fields and in the paper's own numbers: the exact decimal of each field, rounded once to
-- microseconds, millidegrees or millionths, and the ticks from the microseconds. So a wrong unit, a wrong rounding or a wrong column in the definitions of crates/field and crates/row is
-- found.
use Rattle.std.specs.Prelude.{Bool, true, false, List, [], ◌≡◌, ℕ, ◌*◌, ◌%◌, ◌^◌, ◌≤◌, ◌<◌, ℤ, pos, neg_ℤ, nat_abs, ◌-ℤ◌, ◌*ℤ◌, length, get_or}
use Rattle.field.specs.declared.decimal.Decimal.{Decimal}
use Rattle.field.specs.Units.{units}
use Rattle.row.specs.declared.reading.Choices.{Choices}
use Rattle.row.specs.declared.reading.Entry.{Entry}
use Rattle.row.specs.Told.{Row}
use Rattle.row.specs.LineRules.{fields_of, LineIs}
use Rattle.promises_fields.specs.Fields.{FieldIs}

-- ---- rounding

-- "All rounding is to the nearest whole unit, a tie to the even one": q is at most half a unit away from x / d, and where it is just half a unit away it is even
pub record Rounds (x : ℤ) (d : ℕ) (q : ℤ) : Type 0 where
  pub half : 2 * nat_abs (x -ℤ q *ℤ pos d) ≤ d
  pub even : 2 * nat_abs (x -ℤ q *ℤ pos d) ≡ d → nat_abs q % 2 ≡ 0

-- which leaves one number
abbrev pub RoundsOnce : Type 0
RoundsOnce = (x : ℤ) (d : ℕ) (p q : ℤ) → 0 < d → Rounds x d p → Rounds x d q → p ≡ q

-- a decimal counted in a unit of which so many make one: its digits times ten to the power up, over ten to the power down, with its sign
pub record Counted (d : Decimal) (unit : ℕ) (q : ℤ) : Type 0 where
  pub plus : d.negative ≡ false → Rounds (pos (d.digits * 10 ^ d.up * unit)) (10 ^ d.down) q
  pub minus : d.negative ≡ true → Rounds (neg_ℤ (pos (d.digits * 10 ^ d.up * unit))) (10 ^ d.down) q

-- that is what `units` is, in whose words `SixExactly`, `SeventeenExactly` (crates/promises_misfit) and `UsedHeadings` (crates/promises_one_direction) are
abbrev pub UnitsCounted : Type 0
UnitsCounted = (d : Decimal) → Counted d 1_000_000 (units d 6) × Counted d 1_000 (units d 3)

-- ---- the fields of a row

-- "Period: microseconds, 1,000,000 to 100,000,000. Frequency: ticks of 0.0001 Hz, 10^10 over the microseconds, rounded"
pub record TickFrom (field : List ℕ) (tick : ℕ) : Type 0 where
  pub decimal : Decimal
  pub says : FieldIs field decimal
  pub microseconds : ℕ
  pub rounded : Counted decimal 1_000_000 (pos microseconds)
  pub least : 1_000_000 ≤ microseconds
  pub most : microseconds ≤ 100_000_000
  pub frequency : Rounds (pos 10_000_000_000) microseconds (pos tick)

-- "Heading: millidegrees", and "-180,000 is read as 180,000" (document 02, M-102)
pub record HeadingFrom (field : List ℕ) (heading : ℤ) : Type 0 where
  pub decimal : Decimal
  pub says : FieldIs field decimal
  pub millidegrees : ℤ
  pub rounded : Counted decimal 1_000 millidegrees
  pub turned : millidegrees ≡ neg_ℤ (pos 180_000) → heading ≡ pos 180_000
  pub kept : (millidegrees ≡ neg_ℤ (pos 180_000) → ⊥) → heading ≡ millidegrees

-- "Real and imaginary part: millionths"
pub record PartFrom (field : List ℕ) (millionths : ℤ) : Type 0 where
  pub decimal : Decimal
  pub says : FieldIs field decimal
  pub rounded : Counted decimal 1_000_000 millionths

-- "Nine fields ..: PER1 PER2 BETA1 BETA2 I MOD PHS RE IM"
pub record SaysFrom (fields : List (List ℕ)) (e : Entry) : Type 0 where
  pub nine : length fields ≡ 9
  pub per1 : TickFrom (get_or fields 0 []) e.tick1
  pub per2 : TickFrom (get_or fields 1 []) e.tick2
  pub beta1 : HeadingFrom (get_or fields 2 []) e.heading1
  pub beta2 : HeadingFrom (get_or fields 3 []) e.heading2
  pub re : PartFrom (get_or fields 7 []) e.re
  pub im : PartFrom (get_or fields 8 []) e.im

-- so of every row that is used
abbrev pub UsedRowSays : Type 0
UsedRowSays = (c : Choices) (first : Bool) (line : List ℕ) (e : Entry) → LineIs c first line (Row.Used e) → SaysFrom (fields_of line) e
