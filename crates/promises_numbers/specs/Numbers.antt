-- Demand 1 by number, place and values. Each answer of the code is an enum, and document 01 asks: "a definition gives this paper's number and values for each of its cases, and the
-- promises use that definition". Here stand those definitions, and through them when each number and place is given.
use Rattle.std.specs.Prelude.{List, ◌++◌, ◌↔◌, ◌≡◌, ℕ, zero, suc, ◌<◌, ℤ, pos, Float, length}
use Rattle.whole.specs.Complex.{Complex}
use Rattle.row.specs.declared.reading.Choices.{Choices}
use Rattle.row.specs.declared.reading.Entry.{Entry}
use Rattle.grid.specs.declared.nodes.Node.{Node}
use Rattle.phase.specs.Turn.{Quarter}
use Rattle.phase.specs.Seconds.{seconds}
use Rattle.reader.specs.declared.record.Record.{Record}
use Rattle.reader.specs.declared.reader.Place.{Place}
use Rattle.reader.specs.declared.reader.Answer.{Answer}
use Rattle.reader.specs.Model.{State, number_of}
use Rattle.load.specs.Coefficient.{coefficient_of}
use Rattle.load.specs.Force.{load_by, force_by}
use Rattle.readout.specs.Display.{display_by}
use Rattle.seaway.specs.declared.sea.Sea.{Sea}
use Rattle.load.specs.Answers.{Coefficient}
use Rattle.load.specs.Answers.{Load}
use Rattle.load.specs.Answers.{Force}
use Rattle.readout.specs.declared.display.Reading.{Reading}
use Rattle.readout.specs.Told.{Display}
use Rattle.promises_calls.specs.Given.{Given, given}
use Rattle.promises_calls.specs.Cutting.{joined}
use Rattle.promises_rows.specs.Said.{ticks_of, headings_of}
use Rattle.promises_chains.specs.Chain.{Opens}
use Rattle.promises_texts.specs.Start.{Start, StartsAt}
use Rattle.promises_texts.specs.Accepted.{AcceptsFrom, VerdictFrom, PieceVerdictFrom, Accepts, Verdict, PieceVerdict, answer_from, last_from, answer_to, answer_after}
use Rattle.promises_queries.specs.Queries.{CoefficientRefused, SeaRefused, DisplayRefused}

-- ---- a refused query

-- a query's place is a sea line, or a point of a coefficient call, counted from 1; 0 is no place
unfoldable pub place_at : ℕ → Place
place_at zero = Place.Nowhere
place_at (suc line) = Place.Line (suc line)

-- a refused query gives its number and place, and what stands for no value
abbrev pub refused : {A : Type 0} → A → ℕ → ℕ → Given A
refused nothing number line = record { number = number; place = place_at line; value = nothing }

-- ---- each answer's number, place and values

-- opening, a piece and closing: the two counts of an accepted table, else (0, 0)
pub record Counts : Type 0 where
  pub frequencies : ℕ
  pub headings : ℕ

unfoldable pub of_answer : Answer → Given Counts
of_answer Answer.Going = given (record { frequencies = 0; headings = 0 })
of_answer (Answer.Accepted frequencies headings) = given (record { frequencies = frequencies; headings = headings })
of_answer (Answer.Refused number place) = record { number = number; place = place; value = record { frequencies = 0; headings = 0 } }

-- a coefficient: (0, 0) when refused
unfoldable pub of_coefficient : Coefficient → Given Complex
of_coefficient (Coefficient.Value re im) = given (record { re = re; im = im })
of_coefficient (Coefficient.Refused number line) = refused (record { re = pos 0; im = pos 0 }) number line

-- a force with its mean: both 0 when refused
pub record MeanAndWhole : Type 0 where
  pub mean : ℤ
  pub whole : ℤ

unfoldable pub of_load : Load → Given MeanAndWhole
of_load (Load.Both mean whole) = given (record { mean = mean; whole = whole })
of_load (Load.Refused number line) = refused (record { mean = pos 0; whole = pos 0 }) number line

-- a force: 0 when refused
unfoldable pub of_force : Force → Given ℤ
of_force (Force.Value force) = given force
of_force (Force.Refused number line) = refused (pos 0) number line

-- a display: a force or a moment, and "a refused display gives the number and place alone"
pub data OnDisplay : Type 0 where
  force : Reading → OnDisplay
  moment : Reading → OnDisplay
  nothing : OnDisplay

unfoldable pub of_display : Display → Given OnDisplay
of_display (Display.Force reading) = given (OnDisplay.force reading)
of_display (Display.Moment reading) = given (OnDisplay.moment reading)
of_display (Display.Refused number line) = refused OnDisplay.nothing number line

-- ---- queries

-- a query gives a number above 0 and a place exactly when it is refused with them, and has then no value; it gives 0 exactly when nothing refuses it, and has then no place
pub record RefusedExactly (A : Type 0) (nothing : A) (Refused : ℕ → ℕ → Type 0) (g : Given A) : Type 0 where
  pub with : (number line : ℕ) → ((0 < number) × (g.number ≡ number) × (g.place ≡ place_at line)) ↔ Refused number line
  pub no_value : 0 < g.number → g.value ≡ nothing
  pub otherwise : (g.number ≡ 0) ↔ ((number line : ℕ) → Refused number line → ⊥)
  pub no_place : g.number ≡ 0 → g.place ≡ Place.Nowhere

abbrev pub CoefficientNumber : Type 0
CoefficientNumber =
    (r : Record) (cells : List ℤ) (a b : Node)
    → RefusedExactly Complex (record { re = pos 0; im = pos 0 }) (CoefficientRefused r cells a b) (of_coefficient (coefficient_of r cells a b))

abbrev pub LoadNumberBy : Quarter → Type 0
LoadNumberBy clock =
    (r : Record) (cells : List ℤ) (sea : Sea) (t : ℕ)
    → RefusedExactly MeanAndWhole (record { mean = pos 0; whole = pos 0 }) (SeaRefused r cells sea) (of_load (load_by clock r cells sea t))

abbrev pub LoadNumber : Type 0
LoadNumber = LoadNumberBy seconds

abbrev pub ForceNumberBy : Quarter → Type 0
ForceNumberBy clock = (r : Record) (cells : List ℤ) (sea : Sea) (t : ℕ) → RefusedExactly ℤ (pos 0) (SeaRefused r cells sea) (of_force (force_by clock r cells sea t))

abbrev pub ForceNumber : Type 0
ForceNumber = ForceNumberBy seconds

abbrev pub DisplayNumberBy : Quarter → Type 0
DisplayNumberBy clock =
    (r : Record) (cells : List ℤ) (sea : Sea) (t : ℕ) (scale : Float)
    → RefusedExactly OnDisplay OnDisplay.nothing (DisplayRefused r cells sea scale) (of_display (display_by clock r cells sea t scale))

abbrev pub DisplayNumber : Type 0
DisplayNumber = DisplayNumberBy seconds

-- a query that is answered gives 0 and its value, and nothing else does
abbrev pub CoefficientValue : Type 0
CoefficientValue =
    (r : Record) (cells : List ℤ) (a b : Node) (re im : ℤ)
    → (of_coefficient (coefficient_of r cells a b) ≡ given (record { re = re; im = im })) ↔ (coefficient_of r cells a b ≡ Coefficient.Value re im)

abbrev pub LoadValueBy : Quarter → Type 0
LoadValueBy clock =
    (r : Record) (cells : List ℤ) (sea : Sea) (t : ℕ) (mean whole : ℤ)
    → (of_load (load_by clock r cells sea t) ≡ given (record { mean = mean; whole = whole })) ↔ (load_by clock r cells sea t ≡ Load.Both mean whole)

abbrev pub LoadValue : Type 0
LoadValue = LoadValueBy seconds

abbrev pub ForceValueBy : Quarter → Type 0
ForceValueBy clock =
    (r : Record) (cells : List ℤ) (sea : Sea) (t : ℕ) (force : ℤ)
    → (of_force (force_by clock r cells sea t) ≡ given force) ↔ (force_by clock r cells sea t ≡ Force.Value force)

abbrev pub ForceValue : Type 0
ForceValue = ForceValueBy seconds

pub record DisplayGives (d : Display) (reading : Reading) : Type 0 where
  pub force : (of_display d ≡ given (OnDisplay.force reading)) ↔ (d ≡ Display.Force reading)
  pub moment : (of_display d ≡ given (OnDisplay.moment reading)) ↔ (d ≡ Display.Moment reading)

abbrev pub DisplayValueBy : Quarter → Type 0
DisplayValueBy clock = (r : Record) (cells : List ℤ) (sea : Sea) (t : ℕ) (scale : Float) (reading : Reading) → DisplayGives (display_by clock r cells sea t scale) reading

abbrev pub DisplayValue : Type 0
DisplayValue = DisplayValueBy seconds

-- ---- texts

-- the number is the one that the promises of 1 and 2 name (specs/Answers), and a refused call gives no counts
pub record CallGives (answer : Answer) : Type 0 where
  pub number : (of_answer answer).number ≡ number_of answer
  pub no-counts : 0 < number_of answer → (of_answer answer).value ≡ record { frequencies = 0; headings = 0 }

abbrev pub AnswerNumber : Type 0
AnswerNumber = (answer : Answer) → CallGives answer

-- number, place and counts of closing a text, in any pieces, are those that its lines come to
abbrev pub ClosingNumberFrom : Type 0
ClosingNumberFrom =
    (g : Start) (s : State) (pieces : List (List ℕ)) (w : Given Counts) → StartsAt g s
    → (of_answer (answer_from s pieces) ≡ w) ↔ ((answer : Answer) × VerdictFrom g (joined pieces) answer × (of_answer answer ≡ w))

-- and of its last piece
abbrev pub LastPieceNumberFrom : Type 0
LastPieceNumberFrom =
    (g : Start) (s : State) (pieces : List (List ℕ)) (w : Given Counts) → StartsAt g s
    → (of_answer (last_from s pieces) ≡ w) ↔ ((answer : Answer) × PieceVerdictFrom g (joined pieces) answer × (of_answer answer ≡ w))

-- closing gives 0 exactly when the text is accepted, with the numbers of distinct frequencies and headings
abbrev pub counts_of : List Entry → Counts
counts_of rows = record { frequencies = length (ticks_of rows); headings = length (headings_of rows) }

abbrev pub AcceptedNumberFrom : Type 0
AcceptedNumberFrom =
    (g : Start) (s : State) (pieces : List (List ℕ)) → StartsAt g s
    → ((of_answer (answer_from s pieces)).number ≡ 0)
    ↔ ((rows : List Entry) × AcceptsFrom g (joined pieces) rows × (of_answer (answer_from s pieces) ≡ given (counts_of (g.rows ++ rows))))

-- and a piece gives 0 exactly when the text goes on
abbrev pub GoingNumberFrom : Type 0
GoingNumberFrom =
    (g : Start) (s : State) (pieces : List (List ℕ)) → StartsAt g s → ((of_answer (last_from s pieces)).number ≡ 0) ↔ PieceVerdictFrom g (joined pieces) Answer.Going

-- so it is from opening
abbrev pub ClosingNumber : Type 0
ClosingNumber =
    (c : Choices) (cells : List ℤ) (flags : List ℕ) (pieces : List (List ℕ)) (g : Given Counts) → Opens c cells flags
    → (of_answer (answer_to c cells flags pieces) ≡ g) ↔ ((answer : Answer) × Verdict c (joined pieces) answer × (of_answer answer ≡ g))

abbrev pub LastPieceNumber : Type 0
LastPieceNumber =
    (c : Choices) (cells : List ℤ) (flags : List ℕ) (pieces : List (List ℕ)) (g : Given Counts) → Opens c cells flags
    → (of_answer (answer_after c cells flags pieces) ≡ g) ↔ ((answer : Answer) × PieceVerdict c (joined pieces) answer × (of_answer answer ≡ g))

abbrev pub AcceptedNumber : Type 0
AcceptedNumber =
    (c : Choices) (cells : List ℤ) (flags : List ℕ) (pieces : List (List ℕ)) → Opens c cells flags
    → ((of_answer (answer_to c cells flags pieces)).number ≡ 0)
    ↔ ((rows : List Entry) × Accepts c (joined pieces) rows × (of_answer (answer_to c cells flags pieces) ≡ given (counts_of rows)))

abbrev pub GoingNumber : Type 0
GoingNumber =
    (c : Choices) (cells : List ℤ) (flags : List ℕ) (pieces : List (List ℕ)) → Opens c cells flags
    → ((of_answer (answer_after c cells flags pieces)).number ≡ 0) ↔ PieceVerdict c (joined pieces) Answer.Going
