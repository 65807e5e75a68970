-- What a line comes to, by the code's tests one after the other; LineExactly says that it is what LineRules says. In their order: blank; a title, which only the first line can be; 4, not as
-- many fields as columns; 5, a field of the wrong form; a row of another component, passed over; 6, a value out of range; two headings in single coverage,
-- passed over; 17, a modulus that does not fit the parts; 7, an imaginary part at equal nodes of a difference table; and else a row that is used.
use Rattle.std.specs.Prelude.{Bool, cond, not, ◌&&◌, List, [], ◌∷◌, ◌≡◌, ℕ, ◌+◌, ◌-◌, eqb, leb, length, get_or, ℤ, pos, nat_abs, Option, Some, None}
use Rattle.std.specs.Int.Signed.{le_z}
use Rattle.whole.specs.Same.{same_ℤ}
use Rattle.field.specs.declared.decimal.Decimal.{Decimal}
use Rattle.field.specs.Units.{units, tick_of}
use Rattle.row.specs.Line.{without_return, words, starts_letter}
use Rattle.row.specs.Heading.{heading_of}
use Rattle.row.specs.Ranges.{period, direction, magnitude, part}
use Rattle.row.specs.Layout.{wamit_layout}
use Rattle.row.specs.Fit.{slack, square, both_squares}
use Rattle.row.specs.LineRules.{Between}
use Rattle.row.specs.own.Values.{unread, all_below, values_of}
use Rattle.row.specs.declared.ranges.Quantity.{Quantity}
use Rattle.row.specs.declared.layout.Layout.{Layout}
use Rattle.row.specs.declared.values.Values.{Values}
use Rattle.row.specs.declared.reading.Choices.{Choices}
use Rattle.row.specs.declared.reading.Entry.{Entry}
use Rattle.row.specs.Told.{Row}

-- ---- ranges

-- a decimal in a quantity's range, after rounding
unfoldable pub is_in : Quantity → Decimal → Bool
is_in q d = le_z q.least (units d q.places) && le_z (units d q.places) q.most

-- a period in its range, as it must be to have a tick
abbrev pub PeriodIn : ℤ → Type 0
PeriodIn = Between period.least period.most

-- the columns whose values count, in their order
abbrev pub quantities : List Quantity
quantities = period ∷ period ∷ direction ∷ direction ∷ magnitude ∷ part ∷ part ∷ []

abbrev pub decimals_in : Values → List Decimal
decimals_in v = v.per1 ∷ v.per2 ∷ v.beta1 ∷ v.beta2 ∷ v.modulus ∷ v.re ∷ v.im ∷ []

-- what stands where there is no quantity
abbrev pub unasked : Quantity
unasked = record { places = 0; least = pos 0; most = pos 0 }

-- the decimal at place k is in the range of its quantity
abbrev pub is_in_at : Values → ℕ → Bool
is_in_at v k = is_in (get_or quantities k unasked) (get_or (decimals_in v) k unread)

-- ---- a row in range

-- equal nodes: one frequency and one heading
unfoldable pub same_node : Entry → Bool
same_node e = eqb e.tick1 e.tick2 && same_ℤ e.heading1 e.heading2

-- the modulus fits the parts
unfoldable pub is_fit : ℕ → ℤ → ℤ → Bool
is_fit m re im = leb (square (m - slack m)) (both_squares re im) && leb (both_squares re im) (square (m + slack m))

-- a row whose columns fit: 7 is for a difference table (kind 0)
unfoldable pub fitted : Choices → Entry → Row
fitted c e = cond (eqb c.kind 0 && (same_node e && not (same_ℤ e.im (pos 0)))) (Row.Refused 7) (Row.Used e)

-- single coverage (0) passes over two headings; then 17, by the row's modulus, and 7
unfoldable pub judged : Choices → ℕ → Entry → Row
judged c m e =
    cond (eqb c.coverage 0 && not (same_ℤ e.heading1 e.heading2))
    Row.PassedOver
    (cond (is_fit m e.re e.im) (fitted c e) (Row.Refused 17))

-- what the seven values say, by their places; the fifth is the modulus
pub record Says (value : ℕ → ℤ) (e : Entry) : Type 0 where
  pub tick1 : e.tick1 ≡ tick_of (nat_abs (value 0))
  pub tick2 : e.tick2 ≡ tick_of (nat_abs (value 1))
  pub heading1 : e.heading1 ≡ heading_of (value 2)
  pub heading2 : e.heading2 ≡ heading_of (value 3)
  pub re : e.re ≡ value 5
  pub im : e.im ≡ value 6

unfoldable pub entry_in : Values → Entry
entry_in v =
    record {
      tick1 = tick_of (nat_abs (units v.per1 6));
      tick2 = tick_of (nat_abs (units v.per2 6));
      heading1 = heading_of (units v.beta1 3);
      heading2 = heading_of (units v.beta2 3);
      re = units v.re 6;
      im = units v.im 6;
    }

unfoldable pub ranged_row : Choices → Values → Row
ranged_row c v = cond (all_below 7 (is_in_at v)) (judged c (nat_abs (units v.modulus 6)) (entry_in v)) (Row.Refused 6)

-- ---- a line

-- a row whose form is tested: 5, or another component's, or one to be tested for its ranges
unfoldable pub formed_row : Choices → Option Values → Row
formed_row c (Some v) = cond (eqb v.component c.component) (ranged_row c v) Row.PassedOver
formed_row c None = Row.Refused 5

-- the words of a line; `first` says that it is the text's first line
unfoldable pub words_row : Layout → Choices → Bool → List (List ℕ) → Row
words_row layout c first fields =
    cond (eqb (length fields) 0)
    Row.Blank
    (cond (first && starts_letter fields)
    Row.Title
    (cond (eqb (length fields) layout.columns) (formed_row c (values_of layout fields)) (Row.Refused 4)))

-- the bytes of a line, before its line feed
unfoldable pub row_of : Choices → Bool → List ℕ → Row
row_of c first line = words_row wamit_layout c first (words (without_return line))
