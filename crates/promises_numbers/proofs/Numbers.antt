-- Numbers, places and values of every answer, from what its enum is. Assumes nothing.
use mathlib.Core.Path.{◌≡◌, refl, sym, ap, ◌∙◌}
use mathlib.Core.Logic.{◌⊎◌, inl, inr, ◌↔◌}
use mathlib.Core.Bool.{Bool}
use mathlib.Core.List.{List, ◌++◌}
use Prim.Native.Nat.{ℕ, zero, suc, ◌<◌}
use native.Mathlib.Omega.{arith}
use lib.Dec.{lit<}
use lib.IntN.{ℤ, pos}
use Rattle.whole.specs.Complex.{Complex}
use Rattle.row.specs.declared.reading.Choices.{Choices}
use Rattle.row.specs.declared.reading.Entry.{Entry}
use Rattle.row.specs.Told.{Row}
use Rattle.row.specs.LineRules.{LineIs}
use Rattle.grid.specs.declared.nodes.Node.{Node}
use Rattle.phase.specs.Turn.{Quarter}
use Rattle.phase.specs.Seconds.{seconds}
use Rattle.reader.specs.declared.record.Record.{Record}
use Rattle.reader.specs.declared.reader.Place.{Place}
use Rattle.reader.specs.declared.reader.Answer.{Answer}
use Rattle.reader.specs.Model.{number_of, close_of}
use Rattle.load.specs.Coefficient.{coefficient_of}
use Rattle.load.specs.Force.{load_by, force_by}
use Rattle.readout.specs.Display.{display_by}
use Rattle.seaway.specs.declared.sea.Sea.{Sea}
use Rattle.load.specs.Answers.{Coefficient}
use Rattle.load.specs.Answers.{Load}
use Rattle.load.specs.Answers.{Force}
use Rattle.readout.specs.Told.{Display}
use Rattle.promises_queries.specs.Places.{Off}
use Rattle.promises_calls.specs.Cutting.{pieces_of, joined}
use Rattle.promises_chains.specs.Chain.{opened}
use Rattle.promises_texts.specs.Start.{Start, from_opening}
use Rattle.promises_texts.specs.Accepted.{Breaks, AcceptsFrom, VerdictFrom, PieceVerdictFrom, Accepts, Verdict, PieceVerdict, answer_from, last_from}
use Rattle.promises_queries.specs.Queries.{CoefficientRefused, SeaRefused, DisplayRefused}
use Rattle.promises_numbers.specs.Numbers.{place_at, refused, Counts, of_answer, of_coefficient, MeanAndWhole, of_load, of_force, OnDisplay, of_display, counts_of}
use Rattle.promises_calls.specs.Given.{Given, given}
use Rattle.promises_numbers.specs.Numbers.{LoadNumberBy, LoadValueBy, ForceNumberBy, ForceValueBy, DisplayNumberBy, DisplayValueBy}
use Rattle.promises_numbers.specs.Numbers.{RefusedExactly, CoefficientNumber, LoadNumber, ForceNumber, DisplayNumber, CoefficientValue, LoadValue, ForceValue, DisplayValue, AnswerNumber, ClosingNumberFrom, LastPieceNumberFrom, AcceptedNumberFrom, GoingNumberFrom, ClosingNumber, LastPieceNumber, AcceptedNumber, GoingNumber}
use Rattle.promises_texts.proofs.Start.{from-opening, open-starts}
use Rattle.promises_texts.proofs.Accepted.{verdict-from-exactly, piece-from-exactly}
use Rattle.promises_queries.proofs.Queries.{coefficient-exactly, load-exactly-by, force-exactly-by, display-exactly-by}

-- ---- every number of a refusal is above 0

off-above : {r : Record} {first : ℤ} {n : Node} {number : ℕ} → Off r first n number → 0 < number
off-above (Off.thirteen o) = lit< tt
off-above (Off.fourteen o f) = lit< tt

coefficient-above : {r : Record} {cells : List ℤ} {a b : Node} {number line : ℕ} → CoefficientRefused r cells a b number line → 0 < number
coefficient-above (CoefficientRefused.one s) = lit< tt
coefficient-above (CoefficientRefused.two s v) = lit< tt
coefficient-above (CoefficientRefused.first_off x o) = off-above o
coefficient-above (CoefficientRefused.second-off x p o) = off-above o
coefficient-above (CoefficientRefused.fifteen x p q n) = lit< tt

sea-above : {r : Record} {cells : List ℤ} {sea : Sea} {number line : ℕ} → SeaRefused r cells sea number line → 0 < number
sea-above (SeaRefused.one s) = lit< tt
sea-above (SeaRefused.two s v) = lit< tt
sea-above (SeaRefused.twelve x i) = lit< tt
sea-above (SeaRefused.line-off before after l x i e p o) = off-above o
sea-above (SeaRefused.fifteen m n x i p a b l) = lit< tt

display-above : {r : Record} {cells : List ℤ} {sea : Sea} {scale : _} {number line : ℕ} → DisplayRefused r cells sea scale number line → 0 < number
display-above (DisplayRefused.as-force s) = sea-above s
display-above (DisplayRefused.sixteen f u) = lit< tt

-- ---- one law for every query

line_of : Place → ℕ
line_of Place.Nowhere = 0
line_of (Place.Line line) = line
line_of (Place.Pair pair) = 0

line-of-place : (line : ℕ) → line_of (place_at line) ≡ line
unfolding line_of place_at
line-of-place zero = refl
line-of-place (suc line) = refl

-- nowhere is no line
pub no_line : (line : ℕ) → place_at line ≡ Place.Nowhere → line ≡ 0
unfolding line_of
no_line line e = sym (line-of-place line) ∙ ap line_of e

-- what a query's answer may be: a refusal, or a value
abbrev Came : {E A : Type 0} → (E → Given A) → (ℕ → ℕ → E) → (A → E) → E → Type 0
Came {A = A} of con back e = ((number : ℕ) × (line : ℕ) × (e ≡ con number line)) ⊎ ((value : A) × (e ≡ back value) × (of e ≡ given value))

-- an enum of answers: its definition, its refusals, its values
record Enum (E A : Type 0) : Type 0 where
  of : E → Given A
  con : ℕ → ℕ → E
  back : A → E
  nothing : A
  shape : (number line : ℕ) → of (con number line) ≡ refused nothing number line
  came : (e : E) → Came of con back e

module _ {E A : Type 0} (q : Enum E A) (Refused : ℕ → ℕ → Type 0) (above : (number line : ℕ) → Refused number line → 0 < number) (e : E)
    (exactly : (number line : ℕ) → (e ≡ q.con number line) ↔ Refused number line) where
  abbrev g : Given A
  g = q.of e

  gives : (number line : ℕ) → Refused number line → g ≡ refused q.nothing number line
  gives number line x = ap q.of ((exactly number line).1 x) ∙ q.shape number line

  not-both : (number line : ℕ) → Refused number line → g.number ≡ 0 → ⊥
  not-both number line x z =
      let low = above number line x in
      let same : g.number ≡ number = ap (λ (h : Given A). h.number) (gives number line x) in
      omega (arith, low, same, z)

  law : RefusedExactly A q.nothing Refused g
  law = go (q.came e)
    where
      go : Came q.of q.con q.back e → RefusedExactly A q.nothing Refused g
      go (inl (m, k, is)) =
          let x = (exactly m k).0 is in
          let all = gives m k x in
          let same : g.number ≡ m = ap (λ (h : Given A). h.number) all in
          record {
            with = λ number line. (
              λ h.
                  let n : m ≡ number = sym same ∙ h.1 in
                  let l : k ≡ line = sym (line-of-place k) ∙ ap line_of (sym (ap (λ (h : Given A). h.place) all) ∙ h.2) ∙ line-of-place line in
                  (exactly number line).0 (is ∙ (λ i. q.con (n i) (l i))),
              λ y. (above number line y, ap (λ (h : Given A). h.number) (gives number line y), ap (λ (h : Given A). h.place) (gives number line y)),
            );
            no_value = λ low. ap (λ (h : Given A). h.value) all;
            otherwise = (λ z. absurd (not-both m k x z), λ none. absurd (none m k x));
            no_place = λ z. absurd (not-both m k x z);
          }
      go (inr (value, is, all)) =
          let zero_is : g.number ≡ 0 = ap (λ (h : Given A). h.number) all in
          record {
            with = λ number line. (
              λ h. let low = h.0 in let same = h.1 in absurd (omega (arith, low, same, zero_is)),
              λ y. absurd (not-both number line y zero_is),
            );
            no_value = λ low. absurd (omega (arith, low, zero_is));
            otherwise = (λ z number line y. not-both number line y z, λ none. zero_is);
            no_place = λ z. ap (λ (h : Given A). h.place) all;
          }

  answered : (value : A) → g ≡ given value → e ≡ q.back value
  answered value h = go (q.came e)
    where
      go : Came q.of q.con q.back e → e ≡ q.back value
      go (inl (m, k, is)) = absurd (not-both m k ((exactly m k).0 is) (ap (λ (h : Given A). h.number) h))
      go (inr (u, is, all)) = is ∙ ap q.back (ap (λ (h : Given A). h.value) (sym all ∙ h))

-- ---- coefficients

coefficients : Enum Coefficient Complex
unfolding of_coefficient
coefficients = record {
  of = of_coefficient;
  con = Coefficient.Refused;
  back = λ z. Coefficient.Value z.re z.im;
  nothing = record { re = pos 0; im = pos 0 };
  shape = λ number line. refl;
  came = went;
}
  where
    went : (e : Coefficient) → Came of_coefficient Coefficient.Refused (λ z. Coefficient.Value z.re z.im) e
    went (Coefficient.Value re im) = inr (record { re = re; im = im }, refl, refl)
    went (Coefficient.Refused number line) = inl (number, line, refl)

pub coefficient-number : CoefficientNumber
unfolding coefficients
coefficient-number r cells a b =
    law coefficients (CoefficientRefused r cells a b) (λ number line x. coefficient-above x) (coefficient_of r cells a b) (coefficient-exactly r cells a b)

pub coefficient-value : CoefficientValue
unfolding coefficients of_coefficient
coefficient-value r cells a b re im = (
  answered coefficients (CoefficientRefused r cells a b) (λ number line x. coefficient-above x) (coefficient_of r cells a b) (coefficient-exactly r cells a b)
      (record { re = re; im = im }),
  λ e. ap of_coefficient e,
)

-- ---- forces with their means

loads : Enum Load MeanAndWhole
unfolding of_load
loads = record {
  of = of_load;
  con = Load.Refused;
  back = λ m. Load.Both m.mean m.whole;
  nothing = record { mean = pos 0; whole = pos 0 };
  shape = λ number line. refl;
  came = went;
}
  where
    went : (e : Load) → Came of_load Load.Refused (λ m. Load.Both m.mean m.whole) e
    went (Load.Both mean whole) = inr (record { mean = mean; whole = whole }, refl, refl)
    went (Load.Refused number line) = inl (number, line, refl)

pub load-number-by : (clock : Quarter) → LoadNumberBy clock
unfolding loads
load-number-by clock r cells sea t = law loads (SeaRefused r cells sea) (λ number line x. sea-above x) (load_by clock r cells sea t) (load-exactly-by clock r cells sea t)

pub load-value-by : (clock : Quarter) → LoadValueBy clock
unfolding loads of_load
load-value-by clock r cells sea t mean whole = (
  answered loads (SeaRefused r cells sea) (λ number line x. sea-above x) (load_by clock r cells sea t) (load-exactly-by clock r cells sea t) (record { mean = mean; whole = whole }),
  λ e. ap of_load e,
)

-- ---- forces

forces : Enum Force ℤ
unfolding of_force
forces = record { of = of_force; con = Force.Refused; back = Force.Value; nothing = pos 0; shape = λ number line. refl; came = went }
  where
    went : (e : Force) → Came of_force Force.Refused Force.Value e
    went (Force.Value force) = inr (force, refl, refl)
    went (Force.Refused number line) = inl (number, line, refl)

pub force-number-by : (clock : Quarter) → ForceNumberBy clock
unfolding forces
force-number-by clock r cells sea t = law forces (SeaRefused r cells sea) (λ number line x. sea-above x) (force_by clock r cells sea t) (force-exactly-by clock r cells sea t)

pub force-value-by : (clock : Quarter) → ForceValueBy clock
unfolding forces of_force
force-value-by clock r cells sea t force = (
  answered forces (SeaRefused r cells sea) (λ number line x. sea-above x) (force_by clock r cells sea t) (force-exactly-by clock r cells sea t) force,
  λ e. ap of_force e,
)

-- ---- displays

-- no answer shows nothing, so what stands for it here may be any
shown_by : OnDisplay → Display
shown_by (OnDisplay.force reading) = Display.Force reading
shown_by (OnDisplay.moment reading) = Display.Moment reading
shown_by OnDisplay.nothing = Display.Refused 0 0

displays : Enum Display OnDisplay
unfolding of_display shown_by
displays = record { of = of_display; con = Display.Refused; back = shown_by; nothing = OnDisplay.nothing; shape = λ number line. refl; came = went }
  where
    went : (e : Display) → Came of_display Display.Refused shown_by e
    went (Display.Force reading) = inr (OnDisplay.force reading, refl, refl)
    went (Display.Moment reading) = inr (OnDisplay.moment reading, refl, refl)
    went (Display.Refused number line) = inl (number, line, refl)

pub display-number-by : (clock : Quarter) → DisplayNumberBy clock
unfolding displays
display-number-by clock r cells sea t scale =
    law displays (DisplayRefused r cells sea scale) (λ number line x. display-above x) (display_by clock r cells sea t scale) (display-exactly-by clock r cells sea t scale)

pub display-value-by : (clock : Quarter) → DisplayValueBy clock
unfolding displays of_display shown_by
display-value-by clock r cells sea t scale reading =
    let back = answered displays (DisplayRefused r cells sea scale) (λ number line x. display-above x) (display_by clock r cells sea t scale) (display-exactly-by clock r cells sea t scale) in
    record {
      force = (back (OnDisplay.force reading), λ e. ap of_display e);
      moment = (back (OnDisplay.moment reading), λ e. ap of_display e);
    }

-- ---- at whole seconds

pub load-number : LoadNumber
load-number = load-number-by seconds

pub load_value : LoadValue
load_value = load-value-by seconds

pub force-number : ForceNumber
force-number = force-number-by seconds

pub force-value : ForceValue
force-value = force-value-by seconds

pub display-number : DisplayNumber
display-number = display-number-by seconds

pub display-value : DisplayValue
display-value = display-value-by seconds

-- ---- texts

pub answer-number : AnswerNumber
unfolding of_answer number_of
answer-number Answer.Going = record { number = refl; no-counts = λ low. refl }
answer-number (Answer.Accepted frequencies headings) = record { number = refl; no-counts = λ low. absurd (omega (arith, low)) }
answer-number (Answer.Refused number place) = record { number = refl; no-counts = λ low. refl }

pub closing-number-from : ClosingNumberFrom
closing-number-from g s pieces w at = (
  λ e. (answer_from s pieces, (verdict-from-exactly g s pieces (answer_from s pieces) at).0 refl, e),
  λ x. ap of_answer ((verdict-from-exactly g s pieces x.0 at).1 x.1) ∙ x.2,
)

pub last-piece-number-from : LastPieceNumberFrom
last-piece-number-from g s pieces w at = (
  λ e. (last_from s pieces, (piece-from-exactly g s pieces (last_from s pieces) at).0 refl, e),
  λ x. ap of_answer ((piece-from-exactly g s pieces x.0 at).1 x.1) ∙ x.2,
)

-- a row's number, 1 for one that is not refused
row_number : Row → ℕ
row_number Row.Blank = 1
row_number Row.Title = 1
row_number Row.PassedOver = 1
row_number (Row.Used entry) = 1
row_number (Row.Refused number) = number

line-above : {c : Choices} {first : Bool} {line : List ℕ} {row : Row} → LineIs c first line row → 0 < row_number row
unfolding row_number
line-above (LineIs.blank b) = lit< tt
line-above (LineIs.title f l) = lit< tt
line-above (LineIs.breaks-4 i n) = lit< tt
line-above (LineIs.breaks-5 i n w) = lit< tt
line-above (LineIs.other-component w o) = lit< tt
line-above (LineIs.breaks-6 o n) = lit< tt
line-above (LineIs.two-headings r t) = lit< tt
line-above (LineIs.breaks-17 r t f) = lit< tt
line-above (LineIs.breaks-7 r t f i) = lit< tt
line-above (LineIs.used r t f i) = lit< tt

breaks-above : {c : Choices} {n number : ℕ} {rows : List Entry} {line : List ℕ} → Breaks c n rows line number → 0 < number
unfolding row_number
breaks-above (Breaks.over-limits o) = lit< tt
breaks-above (Breaks.by_itself l i) = line-above i
breaks-above (Breaks.against-rows l i r low) = low

accepted-by : {g : Start} {text : List ℕ} {answer : Answer} → VerdictFrom g text answer → (of_answer answer).number ≡ 0
    → (rows : List Entry) × AcceptsFrom g text rows × (of_answer answer ≡ given (counts_of (g.rows ++ rows)))
unfolding of_answer
accepted-by (VerdictFrom.refused before line after e r k b) z = let low = breaks-above b in absurd (omega (arith, low, z))
accepted-by (VerdictFrom.no_row r e) z = absurd (omega (arith, z))
accepted-by (VerdictFrom.lacks r k m) z = absurd (omega (arith, z))
accepted-by (VerdictFrom.accepted {rows = rows} a) z = (rows, a, refl)

pub accepted-number-from : AcceptedNumberFrom
accepted-number-from g s pieces at = (
  λ z. accepted-by ((verdict-from-exactly g s pieces (answer_from s pieces) at).0 refl) z,
  λ x. ap (λ (w : Given Counts). w.number) x.2,
)

going-by : {g : Start} {text : List ℕ} {answer : Answer} → PieceVerdictFrom g text answer → (of_answer answer).number ≡ 0 → PieceVerdictFrom g text Answer.Going
unfolding of_answer
going-by (PieceVerdictFrom.refused before line after e r k b) z = let low = breaks-above b in absurd (omega (arith, low, z))
going-by (PieceVerdictFrom.over-limits line u r k o) z = absurd (omega (arith, z))
going-by (PieceVerdictFrom.going r k l) z = PieceVerdictFrom.going r k l

pub going-number-from : GoingNumberFrom
unfolding of_answer
going-number-from g s pieces at = (
  λ z. going-by ((piece-from-exactly g s pieces (last_from s pieces) at).0 refl) z,
  λ v. ap (λ (a : Answer). (of_answer a).number) ((piece-from-exactly g s pieces Answer.Going at).1 v),
)

-- from opening

pub closing-number : ClosingNumber
closing-number c cells flags pieces w o =
    from-opening c cells flags o
    (λ z. (of_answer (close_of (pieces_of pieces z).after).answer ≡ w) ↔ ((answer : Answer) × Verdict c (joined pieces) answer × (of_answer answer ≡ w)))
    (closing-number-from (from_opening c) (opened c cells flags) pieces w (open-starts c cells flags o))

pub last-piece-number : LastPieceNumber
last-piece-number c cells flags pieces w o =
    from-opening c cells flags o
    (λ z. (of_answer (pieces_of pieces z).answer ≡ w) ↔ ((answer : Answer) × PieceVerdict c (joined pieces) answer × (of_answer answer ≡ w)))
    (last-piece-number-from (from_opening c) (opened c cells flags) pieces w (open-starts c cells flags o))

pub accepted-number : AcceptedNumber
accepted-number c cells flags pieces o =
    from-opening c cells flags o
    (λ z.
    let given_back = of_answer (close_of (pieces_of pieces z).after).answer in
    (given_back.number ≡ 0) ↔ ((rows : List Entry) × Accepts c (joined pieces) rows × (given_back ≡ given (counts_of rows))))
    (accepted-number-from (from_opening c) (opened c cells flags) pieces (open-starts c cells flags o))

pub going-number : GoingNumber
going-number c cells flags pieces o =
    from-opening c cells flags o
    (λ z. ((of_answer (pieces_of pieces z).answer).number ≡ 0) ↔ PieceVerdict c (joined pieces) Answer.Going)
    (going-number-from (from_opening c) (opened c cells flags) pieces (open-starts c cells flags o))
