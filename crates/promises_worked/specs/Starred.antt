-- The cases that document 01, "Checked by hand", marks with a star, in one list under one statement: every case holds. The checker computes it.
use Rattle.std.specs.Prelude.{Bool, true, false, ◌&&◌, List, [], ◌∷◌, ℕ, T, eqb, ℤ, pos, neg_ℤ, nat_abs, replicate, Option, Some, None}
use Prim.Native.String.{String}
use Rattle.whole.specs.Same.{same_ℤ}
use Rattle.whole.specs.Complex.{Complex}
use Rattle.field.specs.Text.{bytes}
use Rattle.field.specs.Form.{field_of}
use Rattle.field.specs.Units.{tick_of}
use Rattle.field.specs.declared.decimal.Decimal.{Decimal}
use Rattle.row.specs.Told.{Row}
use Rattle.row.specs.Ranges.{period, part, measure}
use Rattle.row.specs.own.Rows.{row_of}
use Rattle.grid.specs.declared.nodes.Node.{Node}
use Rattle.reader.specs.Model.{State, open_of, piece_of, close_of}
use Rattle.load.specs.Coefficient.{coefficient_of}
use Rattle.load.specs.Answers.{Coefficient}
use Rattle.load.specs.Force.{force_of}
use Rattle.seaway.specs.declared.sea.Sea.{Sea}
use Rattle.load.specs.Answers.{Force}
use Rattle.table.specs.Cells.{cells_lent, flags_lent}

-- a case: a text, and what it must give
pub data Case : Type 0 where
  -- a real or imaginary part, in millionths
  part_gives : String → ℤ → Case
  -- a period in seconds, and its ticks
  period_gives : String → ℕ → Case
  -- a row of component 1, for a difference table in single coverage, and the number of its refusal
  row_refused : String → ℕ → Case
  -- two ticks at heading 0 of example H's table, and both parts of their coefficient
  coefficient_gives : ℕ → ℕ → ℤ → ℤ → Case
  -- a second, and the force of example H's sea
  force_gives : ℕ → ℤ → Case

unfoldable pub starred_cases : List Case
starred_cases =
    part_gives "0.0000005" (pos 0)
    ∷ part_gives "0.0000015" (pos 2)
    ∷ part_gives "-0.0000015" (neg_ℤ (pos 2))
    ∷ part_gives "1000.0000005" (pos 1_000_000_000)
    ∷ row_refused "10 8 0 0 1 0 0 1000.000001 0" 6
    ∷ period_gives "6.4" 1_562
    ∷ period_gives "0.628319E+01" 1_592
    ∷ coefficient_gives 1_000 1_100 (neg_ℤ (pos 24_000)) (pos 1_600)
    ∷ coefficient_gives 1_100 1_100 (neg_ℤ (pos 27_360)) (pos 0)
    ∷ force_gives 0 (neg_ℤ (pos 17_240_000_000))
    ∷ force_gives 10 (neg_ℤ (pos 7_040_000_000))
    ∷ force_gives 20 (pos 760_000_000)
    ∷ []

-- the table that opening, one piece and closing make of a text, for component 1 and single coverage
unfoldable pub table_from : ℕ → String → State
table_from kind text =
    let opened = open_of (record { kind = kind; component = 1; coverage = 0 }) (replicate cells_lent (pos 0)) (replicate flags_lent 0) in
    (close_of (piece_of (bytes text) opened.after).after).after

-- a sea of two lines at heading 0, tick 1000 and tick 1250, with these amplitudes
unfoldable pub two_lines : Complex → Complex → Sea
two_lines a b =
    record {
      count = 2;
      ticks = 1_000 ∷ 1_250 ∷ replicate 62 0;
      headings = replicate 64 (pos 0);
      re = a.re ∷ b.re ∷ replicate 62 (pos 0);
      im = a.im ∷ b.im ∷ replicate 62 (pos 0);
    }

-- "Example H, difference, component 1, single"
unfoldable pub example_h : String
example_h = "0.100000E+02 0.100000E+02 0.0 0.0 1 0.020000 180.0 -0.020000 0.0\n0.800000E+01 0.800000E+01 0.0 0.0 1 0.036000 180.0 -0.036000 0.0\n0.100000E+02 0.800000E+01 0.0 0.0 1 0.0302655 172.405 -0.030000 0.004000\n"

unfoldable pub table_h : State
table_h = table_from 0 example_h

-- "Sea: tick 1000 amplitude (500, 0), tick 1250 amplitude (300, 0)"
unfoldable pub sea_h : Sea
sea_h = two_lines (record { re = pos 500; im = pos 0 }) (record { re = pos 300; im = pos 0 })

-- ---- the test of a case

-- what a field comes to; a wrong form counts as out of range
unfoldable pub measured : (Decimal → Option ℤ) → Option Decimal → Option ℤ
measured range (Some d) = range d
measured range None = None

unfoldable pub is_value : Option ℤ → ℤ → Bool
is_value (Some z) wanted = same_ℤ z wanted
is_value None wanted = false

unfoldable pub is_tick : Option ℤ → ℕ → Bool
is_tick (Some z) wanted = eqb (tick_of (nat_abs z)) wanted
is_tick None wanted = false

unfoldable pub is_refused : Row → ℕ → Bool
is_refused Row.Blank wanted = false
is_refused Row.Title wanted = false
is_refused Row.PassedOver wanted = false
is_refused (Row.Refused number) wanted = eqb number wanted
is_refused (Row.Used e) wanted = false

unfoldable pub is_coefficient : Coefficient → ℤ → ℤ → Bool
is_coefficient (Coefficient.Value re im) wantedRe wantedIm = same_ℤ re wantedRe && same_ℤ im wantedIm
is_coefficient (Coefficient.Refused number line) wantedRe wantedIm = false

unfoldable pub is_force : Force → ℤ → Bool
is_force (Force.Value force) wanted = same_ℤ force wanted
is_force (Force.Refused number line) wanted = false

unfoldable pub at_zero : ℕ → Node
at_zero tick = record { tick = tick; heading = pos 0 }

unfoldable pub holds : Case → Bool
holds (part_gives text value) = is_value (measured (measure part) (field_of (bytes text))) value
holds (period_gives text ticks) = is_tick (measured (measure period) (field_of (bytes text))) ticks
holds (row_refused text number) = is_refused (row_of (record { kind = 0; component = 1; coverage = 0 }) false (bytes text)) number
holds (coefficient_gives f g re im) = is_coefficient (coefficient_of table_h.reader table_h.cells (at_zero f) (at_zero g)) re im
holds (force_gives second force) = is_force (force_of table_h.reader table_h.cells sea_h second) force

-- so is each of a list
unfoldable pub every : {A : Type 0} → (A → Bool) → List A → Bool
every so [] = true
every so (x ∷ xs) = so x && every so xs

-- the statement
abbrev pub Starred : Type 0
Starred = T (every holds starred_cases)
