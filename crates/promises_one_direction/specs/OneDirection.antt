-- Demands 1 to 3 with document 02's M-102 in them, "Plus and minus 180": the two ends of the range are one direction, and -180,000 is read as 180,000. Here stand what that asks of a
-- heading, with the paper's numbers; that two texts, seas or coefficient calls which differ only so come to the same; that no record of a chain holds -180,000; and headings worked by hand.
use Rattle.std.specs.Prelude.{Bool, true, false, ◌&&◌, ◌⊎◌, ◌↔◌, ◌≡◌, ℕ, ◌≤◌, ◌<◌, T, ℤ, pos, neg_ℤ, nat_abs, Float, length, Some}
use mathlib.Core.List.{List, [], ◌∷◌, ◌++◌, Memᴰ}
use Prim.Native.String.{String}
use Rattle.whole.specs.Same.{same_ℤ}
use Rattle.phase.specs.Turn.{Quarter}
use Rattle.field.specs.declared.decimal.Decimal.{Decimal}
use Rattle.field.specs.Form.{is_sign, without, field_of}
use Rattle.field.specs.Text.{bytes}
use Rattle.field.specs.Units.{units}
use Rattle.row.specs.declared.reading.Choices.{Choices}
use Rattle.row.specs.declared.reading.Entry.{Entry}
use Rattle.row.specs.Told.{Row}
use Rattle.row.specs.Heading.{heading_of}
use Rattle.row.specs.Layout.{column_of, Column}
use Rattle.row.specs.LineRules.{fields_of, Written, Ranged, LineIs}
use Rattle.row.specs.own.Rows.{row_of}
use Rattle.grid.specs.declared.nodes.Node.{Node}
use Rattle.grid.specs.declared.nodes.Pair.{Pair}
use Rattle.grid.specs.Slots.{held_headings}
use Rattle.reader.specs.declared.record.Record.{Record}
use Rattle.reader.specs.declared.reader.Place.TheVariants as Place
use Rattle.reader.specs.declared.reader.Answer.TheVariants as Answer
use Rattle.reader.specs.Valid.{valid_of}
use Rattle.reader.specs.Model.{State}
use Rattle.load.specs.Coefficient.{coefficient_of}
use Rattle.seaway.specs.Sea.{Line, line_at}
use Rattle.load.specs.Force.{load_by, force_by}
use Rattle.readout.specs.Display.{display_by}
use Rattle.seaway.specs.declared.sea.Sea.{Sea}
use Rattle.promises_calls.specs.Kept.{Shaped}
use Rattle.promises_chains.specs.Chain.{Call, calls_of, Opens, chain}
use Rattle.promises_texts.specs.Accepted.{Reads, Verdict}
use Rattle.promises_agreeing.specs.Agree.{AgreeBy, SamePiecesFrom, SamePieces, SameTextsFrom, SameTexts}
use Rattle.promises_worked.specs.Starred.{is_refused, every}
use Rattle.promises_misfit.specs.Misfit.{is_used}

-- ---- a heading as it is read

-- what is read of a heading of so many millidegrees: 180,000 of -180,000, and of any other itself
pub record ReadAs (millidegrees read : ℤ) : Type 0 where
  pub turned : millidegrees ≡ neg_ℤ (pos 180_000) → read ≡ pos 180_000
  pub kept : (millidegrees ≡ neg_ℤ (pos 180_000) → ⊥) → read ≡ millidegrees

-- of the one definition that every heading passes
abbrev pub HeadingRead : Type 0
HeadingRead = (millidegrees : ℤ) → ReadAs millidegrees (heading_of millidegrees)

-- in rows "after rounding", and after the range, which is that of what is rounded (`SixExactly`, specs/Misfit)
abbrev pub UsedHeadings : Type 0
UsedHeadings =
    (c : Choices) (first : Bool) (line : List ℕ) (e : Entry) → LineIs c first line (Row.Used e)
    → (w : Written)
    × Ranged c first line w
    × ReadAs (units (w.decimal Column.beta1) 3) e.heading1
    × ReadAs (units (w.decimal Column.beta2) 3) e.heading2

-- ---- texts

-- two fields that are the same behind their signs, if they have one, and round to 180 degrees, the one way or the other
pub record EitherSign (field other : List ℕ) : Type 0 where
  pub decimal : Decimal
  pub formed : field_of field ≡ Some decimal
  pub rounds : nat_abs (units decimal 3) ≡ 180_000
  pub behind : without is_sign field ≡ without is_sign other

-- as many fields, the same in every column but that of a heading, BETA1 or BETA2, which may have its other sign. Whatever the other fields are, and however many
pub record SameButSigns (fields others : List (List ℕ)) : Type 0 where
  pub count : length fields ≡ length others
  pub columns : (k : ℕ) → (column_of fields k ≡ column_of others k) ⊎ (((k ≡ 2) ⊎ (k ≡ 3)) × EitherSign (column_of fields k) (column_of others k))

-- two such lines. A sign is a byte, so their lengths may differ; neither is over the limit
pub record SignsDiffer (c : Choices) (n : ℕ) (line other : List ℕ) : Type 0 where
  pub short : length line ≤ 160
  pub other-short : length other ≤ 160
  pub fields : SameButSigns (fields_of line) (fields_of other)

-- texts that agree but for these come to the same: after the last piece, wherever it ends, and so after each line
abbrev pub SignPiecesFrom : Type 0
SignPiecesFrom = SamePiecesFrom SignsDiffer

abbrev pub SignPieces : Type 0
SignPieces = SamePieces SignsDiffer

-- and after closing
abbrev pub SignTextsFrom : Type 0
SignTextsFrom = SameTextsFrom SignsDiffer

abbrev pub SignTexts : Type 0
SignTexts = SameTexts SignsDiffer

-- and their lines bring the same rows
abbrev pub SignRows : Type 0
SignRows =
    (c : Choices) (n : ℕ) (lines others : List (List ℕ)) (rows : List Entry) → AgreeBy SignsDiffer c n lines others → Reads c n lines rows ↔ Reads c n others rows

-- two such lines: one sign is lost, another is gained, and 179.9996 rounds up
unfoldable pub some_signs : String
some_signs = "10 8 -180 179.9996 1 0.02 0 -0.02 0"

unfoldable pub other_signs : String
other_signs = "10 8 180 -179.9996 1 0.02 0 -0.02 0"

abbrev pub SignsWorked : Type 0
SignsWorked = (c : Choices) (n : ℕ) → SignsDiffer c n (bytes some_signs) (bytes other_signs)

-- ---- seas and coefficient calls, of any record over any cells

-- the same heading, or the two ends of the range
pub data OneDirection : ℤ → ℤ → Type 0 where
  itself : {h : ℤ} → OneDirection h h
  plus-minus : OneDirection (pos 180_000) (neg_ℤ (pos 180_000))
  minus_plus : OneDirection (neg_ℤ (pos 180_000)) (pos 180_000)

-- a point of a coefficient call
pub record OnePoint (a b : Node) : Type 0 where
  pub tick : a.tick ≡ b.tick
  pub heading : OneDirection a.heading b.heading

abbrev pub SamePoints : Type 0
SamePoints =
    (r : Record) (cells : List ℤ) (a b first second : Node) → OnePoint a first → OnePoint b second → coefficient_of r cells a b ≡ coefficient_of r cells first second

-- a line of a sea, line 1 too
pub record OneSeaLine (l m : Line) : Type 0 where
  pub tick : l.tick ≡ m.tick
  pub heading : OneDirection l.heading m.heading
  pub amplitude : l.amplitude ≡ m.amplitude

pub record OneSea (sea other : Sea) : Type 0 where
  pub count : sea.count ≡ other.count
  pub lines : (i : ℕ) → i < sea.count → OneSeaLine (line_at sea i) (line_at other i)

-- the mean and the whole load, the force, and the display, by whatever clock
pub record SameLoads (clock : Quarter) (r : Record) (cells : List ℤ) (sea other : Sea) (t : ℕ) : Type 0 where
  pub load : load_by clock r cells sea t ≡ load_by clock r cells other t
  pub force : force_by clock r cells sea t ≡ force_by clock r cells other t
  pub display : (scale : Float) → display_by clock r cells sea t scale ≡ display_by clock r cells other t scale

abbrev pub SameSeas : Type 0
SameSeas = (clock : Quarter) (r : Record) (cells : List ℤ) (sea other : Sea) (t : ℕ) → OneSea sea other → SameLoads clock r cells sea other t

-- ---- records

-- "Records holding -180,000 are not valid" (so `ValidExactly`, specs/Validity, has it too), and no call makes a valid record hold it
abbrev pub HoldsMinus : Record → Type 0
HoldsMinus r = Memᴰ (neg_ℤ (pos 180_000)) (held_headings r.slots)

abbrev pub MinusNotValid : Type 0
MinusNotValid = (r : Record) → HoldsMinus r → valid_of r ≡ false

abbrev pub NoMinusAfter : Type 0
NoMinusAfter = (s : State) (calls : List Call) → Shaped s.reader → valid_of s.reader ≡ true → HoldsMinus (calls_of calls s).reader → ⊥

abbrev pub NoMinusInChain : Type 0
NoMinusInChain =
    (c : Choices) (cells : List ℤ) (flags : List ℕ) (calls : List Call) → Opens c cells flags → HoldsMinus (chain c cells flags calls).reader → ⊥

-- nor has a place of 11, so that all that is shown has 180,000
abbrev pub NoMinusPlace : Type 0
NoMinusPlace =
    (c : Choices) (text : List ℕ) (pair : Pair) → Verdict c text (Answer.Refused 11 (Place.Pair pair))
    → (pair.first.heading ≡ neg_ℤ (pos 180_000) → ⊥) × (pair.second.heading ≡ neg_ℤ (pos 180_000) → ⊥)

-- ---- headings worked by hand, in rows of component 1 for a difference table in full coverage. The checker computes each; whole texts stand in specs/Worked

-- a field of a heading, and what it is read as; or it is refused 6
pub data HeadingCase : Type 0 where
  reads : String → ℤ → HeadingCase
  out_of_range : String → HeadingCase

unfoldable pub heading_cases : List HeadingCase
heading_cases =
    reads "180" (pos 180_000)
    ∷ reads "-180" (pos 180_000)
    ∷ reads "+180.0" (pos 180_000)
    ∷ reads "-1.8E2" (pos 180_000)
    ∷ reads "-180.0004" (pos 180_000)
    ∷ reads "-179.9996" (pos 180_000)
    ∷ reads "179.9996" (pos 180_000)
    -- ties go to the even one: 180,000.5 and 179,999.5 to 180,000
    ∷ reads "180.0005" (pos 180_000)
    ∷ reads "-180.0005" (pos 180_000)
    ∷ reads "-179.9995" (pos 180_000)
    -- the range is of what is rounded, before -180,000 is read as 180,000
    ∷ out_of_range "-180.0006"
    ∷ out_of_range "-180.001"
    ∷ out_of_range "180.0006"
    -- the nearest of all others stay as they are
    ∷ reads "-179.9994" (neg_ℤ (pos 179_999))
    ∷ reads "-179.999" (neg_ℤ (pos 179_999))
    ∷ reads "179.999" (pos 179_999)
    ∷ reads "0" (pos 0)
    ∷ reads "-90" (neg_ℤ (pos 90_000))
    ∷ []

-- a row has that field for BETA1 or for BETA2, and 45 degrees for the other
abbrev pub has_headings : ℤ → ℤ → Entry → Bool
has_headings first second e = same_ℤ e.heading1 first && same_ℤ e.heading2 second

abbrev pub choices_full : Choices
choices_full = record { kind = 0; component = 1; coverage = 1 }

unfoldable pub in_first : String → Row
in_first field = row_of choices_full false (bytes "10 8 " ++ bytes field ++ bytes " 45 1 0.02 0 -0.02 0")

unfoldable pub in_second : String → Row
in_second field = row_of choices_full false (bytes "10 8 45 " ++ bytes field ++ bytes " 1 0.02 0 -0.02 0")

unfoldable pub read_so : HeadingCase → Bool
read_so (reads field h) = is_used (has_headings h (pos 45_000)) (in_first field) && is_used (has_headings (pos 45_000) h) (in_second field)
read_so (out_of_range field) = is_refused (in_first field) 6 && is_refused (in_second field) 6

abbrev pub HeadingsWorked : Type 0
HeadingsWorked = T (every read_so heading_cases)
