-- Document 02, M-103: why a text was refused. Whoever answers a mate who rings with a refusal names lines and fields, and each of them is what it is said to be, over the text's lines
-- and their used rows: a named line exists, comes before the refused one, brings that frequency or heading or sets that cell, directly or as its mirror, and no earlier line does;
-- the values are what the two lines say, and differ; a named field offends, and none before it does. An accepted text is never explained.
use Rattle.std.specs.Prelude.{cond, List, [], ◌∷◌, ◌++◌, ◌⊎◌, ◌↔◌, ◌≡◌, ℕ, ◌+◌, ◌≤◌, ◌<◌, eqb, ℤ, pos, length, get_or, drop}
use Rattle.whole.specs.Complex.{Complex}
use Rattle.row.specs.declared.reading.Choices.{Choices}
use Rattle.row.specs.declared.reading.Entry.{Entry}
use Rattle.row.specs.Told.{Row}
use Rattle.row.specs.Layout.{wamit_layout}
use Rattle.row.specs.LineRules.{LineIs, fields_of}
use Rattle.faults.specs.Offending.{FormOffends, RangeOffends, FirstField}
use Rattle.grid.specs.declared.nodes.Node.{Node}
use Rattle.grid.specs.declared.nodes.Pair.{Pair}
use Rattle.table.specs.Placing.{value_of}
use Rattle.table.specs.Entries.{complex_of}
use Rattle.reader.specs.declared.reader.Place.{Place}
use Rattle.reader.specs.declared.reader.Answer.TheVariants as Answer
use Rattle.reader.specs.Model.{out, never, number_of, open_of, close_of}
use Rattle.origins.specs.declared.memory.Origins.{Origins}
use Rattle.origins.specs.Memory.{lines_lent}
use Rattle.reasons.specs.declared.explanation.Stated.{Stated}
use Rattle.reasons.specs.declared.explanation.Clash.{Clash}
use Rattle.reasons.specs.declared.explanation.Bringers.{Bringers}
use Rattle.reasons.specs.Told.{Explanation}
use Rattle.explain.specs.Model.{Reading, Stepped, Explained, reading_of, fresh_with, open_for, piece_for, close_for}
use Rattle.promises_calls.specs.Cutting.{pieces_of, joined}
use Rattle.promises_calls.specs.Lines.{text_lines}
use Rattle.promises_rows.specs.Said.{first_of, second_of, Says, ticks_of, headings_of}
use Rattle.promises_chains.specs.Chain.{Opens}
use Rattle.promises_texts.specs.Accepted.{Reads, Accepts}

-- ---- a line and those before it

-- a line of a text with these lines before it is a used row that says this
abbrev pub UsedAfter : Choices → List (List ℕ) → List ℕ → Entry → Type 0
UsedAfter c before line e = LineIs c (eqb (length before) 0) line (Row.Used e)

-- the first of these lines whose row does something: the line with this number, "Lines count from 1", and no line before it
pub record FirstLine (c : Choices) (lines : List (List ℕ)) (Does : Entry → Type 0) (number : ℕ) : Type 0 where
  pub before : List (List ℕ)
  pub line : List ℕ
  pub after : List (List ℕ)
  pub there : lines ≡ before ++ (line ∷ after)
  pub counted : number ≡ length before + 1
  pub row : Entry
  pub used : UsedAfter c before line row
  pub does : Does row
  pub first : (b : List (List ℕ)) (l : List ℕ) (a : List (List ℕ)) (e : Entry) → before ≡ b ++ (l ∷ a) → UsedAfter c b l e → Does e → ⊥

-- so it is one of them
abbrev pub FirstLineAmong : Type 1
FirstLineAmong =
    (c : Choices) (lines : List (List ℕ)) (Does : Entry → Type 0) (number : ℕ) → FirstLine c lines Does number
    → (1 ≤ number) × (number ≤ length lines)

-- and there is no other
abbrev pub FirstLineOne : Type 1
FirstLineOne =
    (c : Choices) (lines : List (List ℕ)) (Does : Entry → Type 0) (m n : ℕ) → FirstLine c lines Does m → FirstLine c lines Does n → m ≡ n

-- what a row may do: bring a frequency, bring a heading, set the cell of two nodes, "directly or as its mirror"
abbrev pub BringsTick : ℕ → Entry → Type 0
BringsTick t e = (e.tick1 ≡ t) ⊎ (e.tick2 ≡ t)

abbrev pub BringsHeading : ℤ → Entry → Type 0
BringsHeading h e = (e.heading1 ≡ h) ⊎ (e.heading2 ≡ h)

abbrev pub SetsCell : ℕ → Node → Node → Entry → Type 0
SetsCell kind a b e = (v : Complex) × Says kind e a b v

-- ---- what explains a refusal

-- 8: for each frequency and heading of the rows before, in order of arrival, the line that brought it; nothing for a slot behind them
pub record BroughtBy {A : Type 0} (c : Choices) (lines : List (List ℕ)) (Brings : A → Entry → Type 0) (slots : ℕ) (none : A) (held : List A) (l : List ℕ) : Type 0 where
  pub long : length l ≡ slots
  pub brought : (k : ℕ) → k < length held → FirstLine c lines (Brings (get_or held k none)) (get_or l k 0)
  pub behind : (k : ℕ) → length held ≤ k → get_or l k 0 ≡ 0

pub record SlotsBrought (c : Choices) (lines : List (List ℕ)) (rows : List Entry) (o : Origins) : Type 0 where
  pub ticks : BroughtBy c lines BringsTick 20 0 (ticks_of rows) o.ticks
  pub headings : BroughtBy c lines BringsHeading 4 (pos 0) (headings_of rows) o.headings

-- 9: the line that first set the cell of the refused row's two nodes, what it says of them, and what the refused row says
pub record Stands (c : Choices) (lines : List (List ℕ)) (e : Entry) (x : Clash) : Type 0 where
  pub set : FirstLine c lines (SetsCell c.kind (first_of e) (second_of e)) x.line
  pub held : Says c.kind set.row (first_of e) (second_of e) (complex_of x.held)
  pub said : Says c.kind e (first_of e) (second_of e) (complex_of x.said)
  pub own : complex_of x.said ≡ value_of e
  pub differ : x.held ≡ x.said → ⊥

-- 11: who brought the two frequencies and the two headings of the missing pair
pub record PairBrought (c : Choices) (lines : List (List ℕ)) (p : Pair) (x : Bringers) : Type 0 where
  pub tick1 : FirstLine c lines (BringsTick p.first.tick) x.tick1
  pub heading1 : FirstLine c lines (BringsHeading p.first.heading) x.heading1
  pub tick2 : FirstLine c lines (BringsTick p.second.tick) x.tick2
  pub heading2 : FirstLine c lines (BringsHeading p.second.heading) x.heading2

-- a line of the text that a place names, with the lines before it
pub record LineAt (text : List ℕ) (place : Place) : Type 0 where
  pub before : List (List ℕ)
  pub line : List ℕ
  pub after : List (List ℕ)
  pub there : text_lines text ≡ before ++ (line ∷ after)
  pub named : place ≡ Place.Line (length before + 1)

-- 5 and 6: "the first offending field" of the refused line
pub record FieldNamed (c : Choices) (text : List ℕ) (number : ℕ) (Offends : List (List ℕ) → ℕ → Type 0) (place : Place) (x : Explanation) (o : Origins) : Type 0 where
  pub at : LineAt text place
  pub refused : LineIs c (eqb (length at.before) 0) at.line (Row.Refused number)
  pub field : ℕ
  pub told : x ≡ Explanation.Field field
  pub first : FirstField (Offends (fields_of at.line)) field

-- 8: the lines of all slots that are held before the refused line
pub record SlotsNamed (c : Choices) (text : List ℕ) (place : Place) (x : Explanation) (o : Origins) : Type 0 where
  pub at : LineAt text place
  pub rows : List Entry
  pub reads : Reads c 0 at.before rows
  pub told : x ≡ Explanation.Held
  pub brought : SlotsBrought c at.before rows o

-- 9: what the refused line stands against
pub record ClashNamed (c : Choices) (text : List ℕ) (place : Place) (x : Explanation) (o : Origins) : Type 0 where
  pub at : LineAt text place
  pub row : Entry
  pub used : UsedAfter c at.before at.line row
  pub clash : Clash
  pub told : x ≡ Explanation.Set clash
  pub stands : Stands c at.before row clash

-- 11: the lines behind the missing pair, over the whole text
pub record PairNamed (c : Choices) (text : List ℕ) (place : Place) (x : Explanation) (o : Origins) : Type 0 where
  pub pair : Pair
  pub missing : place ≡ Place.Pair pair
  pub bringers : Bringers
  pub told : x ≡ Explanation.Brought bringers
  pub brought : PairBrought c (text_lines text) pair bringers

-- "other numbers nothing"
abbrev pub NothingNamed : Place → Explanation → Origins → Type 0
NothingNamed place x o = x ≡ Explanation.Nothing

-- what explains a refusal of a text, by its number. The lines of 8 are the origins that come back with the explanation
unfoldable pub Explains : Choices → List ℕ → ℕ → Place → Explanation → Origins → Type 0
Explains c text number =
    cond (eqb number 5)
    (FieldNamed c text 5 (FormOffends wamit_layout))
    (cond (eqb number 6)
    (FieldNamed c text 6 (RangeOffends wamit_layout))
    (cond (eqb number 8) (SlotsNamed c text) (cond (eqb number 9) (ClashNamed c text) (cond (eqb number 11) (PairNamed c text) NothingNamed))))

-- "the explanation of a text is one": the explanation itself, and the lines of 8
abbrev pub ExplainsOne : Type 0
ExplainsOne =
    (c : Choices) (text : List ℕ) (number : ℕ) (place : Place) (x y : Explanation) (o p : Origins) → Explains c text number place x o → Explains c text number place y p
    → (x ≡ y) × (number ≡ 8 → o ≡ p)

-- ---- the laws

-- what an explainer is opened with
pub record Asked : Type 0 where
  pub choices : Choices
  pub stated : Stated
  pub cells : List ℤ
  pub flags : List ℕ
  pub lines : List ℕ

-- "lent what the reader is lent and 6,400 line numbers"
pub record Lent (q : Asked) : Type 0 where
  pub opens : Opens q.choices q.cells q.flags
  pub lines : lines_lent ≤ length q.lines

abbrev pub asked : Asked → Reading
asked q = (open_for q.choices q.stated q.cells q.flags q.lines).after

-- pieces one after the other
unfoldable pub pieces_for : List (List ℕ) → Reading → Reading
pieces_for [] x = x
pieces_for (p ∷ ps) x = pieces_for ps (piece_for p x).after

-- opened, fed the text in any pieces, and closed
abbrev pub explained : Asked → List (List ℕ) → Explained
explained q pieces = close_for (pieces_for pieces (asked q))

-- opening goes on exactly when the reader's does and the lines are enough
abbrev pub OpensFor : Type 0
OpensFor =
    (q : Asked) → ((open_for q.choices q.stated q.cells q.flags q.lines).answer ≡ Answer.Going) ↔ Lent q

-- "refusals 1 and 2 as the reader's": 1 without enough lines, whatever else there is; with enough the answer is the reader's; and a refused opening leaves all that is lent as it was
pub record OpensAs (q : Asked) (s : Stepped) : Type 0 where
  pub short : length q.lines < lines_lent → s.answer ≡ Answer.Refused 1 Place.Nowhere
  pub enough : lines_lent ≤ length q.lines → s.answer ≡ (open_of q.choices q.cells q.flags).answer
  pub unchanged : 0 < number_of s.answer → s.after ≡ reading_of (fresh_with never q.stated) q.cells q.flags q.lines

abbrev pub OpensAsReader : Type 0
OpensAsReader = (q : Asked) → OpensAs q (open_for q.choices q.stated q.cells q.flags q.lines)

-- what the text gives, and the record, cells and flags that are left, are the reader's own, whatever is stated: no text is judged a second way
abbrev pub ReadsAsReader : Type 0
ReadsAsReader =
    (q : Asked) (pieces : List (List ℕ)) → Lent q →
    let x = explained q pieces in
    out x.after.state x.given ≡ close_of (pieces_of pieces (open_of q.choices q.cells q.flags)).after

-- "where the text is cut makes no difference": not to what is explained, nor to anything that is left
abbrev pub ExplainedCut : Type 0
ExplainedCut = (q : Asked) (p r : List (List ℕ)) → Lent q → joined p ≡ joined r → explained q p ≡ explained q r

-- the lent lines past the 6,400th are never written
abbrev pub LinesBeyond : Type 0
LinesBeyond =
    (q : Asked) (pieces : List (List ℕ)) → Lent q → drop lines_lent (explained q pieces).after.memory.lines ≡ drop lines_lent q.lines

-- a refusal that is stated as the text gives it is explained, and the explanation is right
abbrev pub ExplainedRight : Type 0
ExplainedRight =
    (q : Asked) (pieces : List (List ℕ)) → Lent q →
    let x = explained q pieces in x.given ≡ Answer.Refused q.stated.number q.stated.place
    → Explains q.choices (joined pieces) q.stated.number q.stated.place x.explanation x.after.memory.origins

-- "2 exactly when the stated number and place are not what the text gives"
abbrev pub TwoExactly : Type 0
TwoExactly =
    (q : Asked) (pieces : List (List ℕ)) → Lent q →
    let x = explained q pieces in
    (x.explanation ≡ Explanation.Refused 2) ↔ (x.given ≡ Answer.Refused q.stated.number q.stated.place → ⊥)

-- "an accepted text is never explained, whatever is stated"
abbrev pub AcceptedNever : Type 0
AcceptedNever =
    (q : Asked) (pieces : List (List ℕ)) (rows : List Entry) → Lent q → Accepts q.choices (joined pieces) rows
    → (explained q pieces).explanation ≡ Explanation.Refused 2
