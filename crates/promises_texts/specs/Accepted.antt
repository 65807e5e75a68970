-- Demand 2, which texts are accepted, and demand 1, what every other text is refused, by rules over the text's lines: document 01, "Rows", "The table" and "The sixteen numbers".
-- There is no record, slot or cell in the rules, and no order of processing but that of the lines and of the numbers. They are stated from any start (specs/Start): the rows of the
-- start come before those that the lines bring, and its lines are counted before them. From opening there are none of either.
use Rattle.std.specs.Prelude.{List, [], ◌∷◌, ◌++◌, ◌↔◌, ◌≡◌, ℕ, suc, ◌+◌, ◌≤◌, ◌<◌, eqb, ℤ, length}
use Rattle.row.specs.declared.reading.Choices.{Choices}
use Rattle.row.specs.declared.reading.Entry.{Entry}
use Rattle.row.specs.Told.{Row}
use Rattle.row.specs.LineRules.{LineIs}
use Rattle.grid.specs.declared.nodes.Pair.{Pair}
use Rattle.reader.specs.declared.reader.Place.TheVariants as Place
use Rattle.reader.specs.declared.reader.Answer.{Answer}
use Rattle.reader.specs.Model.{State, out, open_of, bytes_of, close_of}
use Rattle.promises_calls.specs.Cutting.{pieces_of, joined}
use Rattle.promises_calls.specs.Lines.{text_lines, ended_lines, unfinished}
use Rattle.promises_rows.specs.Said.{ticks_of, headings_of}
use Rattle.promises_tables.specs.Rules.{RowNumber, RowRules, Complete, Missing}
use Rattle.promises_chains.specs.Chain.{Opens}
use Rattle.promises_texts.specs.Start.{Start, StartsAt, further, from_opening}

-- ---- a line

-- 3 does not apply to a line with n lines before it: it is one of the first 1,000,000, and holds at most 160 bytes
pub record Limits (n : ℕ) (line : List ℕ) : Type 0 where
  pub few : n < 1_000_000
  pub short : length line ≤ 160

-- and where it does: "line over 160 bytes, or past line 1,000,000"
pub data OverLimits (n : ℕ) (line : List ℕ) : Type 0 where
  past-lines : 1_000_000 ≤ n → OverLimits n line
  too_long : 160 < length line → OverLimits n line

-- blank, a title, or passed over
pub data Silent : Row → Type 0 where
  blank : Silent Row.Blank
  title : Silent Row.Title
  passed_over : Silent Row.PassedOver

-- a line that breaks none of 3 to 7 and 17, with n lines before it, and the rows that it brings: itself if it is used, else none
pub data Brings (c : Choices) (n : ℕ) (line : List ℕ) : List Entry → Type 0 where
  nothing : {row : Row} → Limits n line → LineIs c (eqb n 0) line row → Silent row → Brings c n line []
  a-row : {e : Entry} → Limits n line → LineIs c (eqb n 0) line (Row.Used e) → Brings c n line (e ∷ [])

-- a line that is refused, with n lines before it that brought these rows: 3; 4 to 7 and 17 by itself; 8 and 9 against the rows before it
pub data Breaks (c : Choices) (n : ℕ) (rows : List Entry) (line : List ℕ) : ℕ → Type 0 where
  over-limits : OverLimits n line → Breaks c n rows line 3
  by_itself : {number : ℕ} → Limits n line → LineIs c (eqb n 0) line (Row.Refused number) → Breaks c n rows line number
  against-rows :
      {e : Entry} {number : ℕ} → Limits n line → LineIs c (eqb n 0) line (Row.Used e) → RowNumber c.kind rows e number → 0 < number
      → Breaks c n rows line number

-- ---- lines

-- lines with n lines before them, none of which breaks 3 to 7 or 17, and the rows that they bring, in order
pub data Reads (c : Choices) : ℕ → List (List ℕ) → List Entry → Type 0 where
  end : {n : ℕ} → Reads c n [] []
  then : {n : ℕ} {line : List ℕ} {lines : List (List ℕ)} {more rows : List Entry} → Brings c n line more → Reads c (suc n) lines rows
      → Reads c n (line ∷ lines) (more ++ rows)

-- ---- lines from a start

-- lines from a start, and the rows that they bring
abbrev pub ReadsFrom : Start → List (List ℕ) → List Entry → Type 0
ReadsFrom g lines rows = Reads g.choices g.lines lines rows

-- 8 and 9 apply to none of the rows that the table then holds: those of the start, and these
abbrev pub RulesFrom : Start → List Entry → Type 0
RulesFrom g rows = RowRules g.choices.kind (g.rows ++ rows)

-- a line that is refused, after lines from the start that brought these rows
abbrev pub BreaksFrom : Start → List (List ℕ) → List Entry → List ℕ → ℕ → Type 0
BreaksFrom g before rows line number = Breaks g.choices (g.lines + length before) (g.rows ++ rows) line number

-- its number, by which it is refused
abbrev pub line_after : Start → List (List ℕ) → ℕ
line_after g before = g.lines + length before + 1

-- "Lines count from 1"
abbrev pub LinesFromOne : Type 0
LinesFromOne = (c : Choices) (before : List (List ℕ)) → line_after (from_opening c) before ≡ length before + 1

-- ---- a text

-- the rules of an accepted text, whose used rows are these: no line breaks 3 to 7 or 17; at most 20 frequencies and 4 headings (8), and no two rows that say different things of a
-- pair, directly or mirrored (9); some row is used (10); and every needed pair is said (11)
pub record AcceptsFrom (g : Start) (text : List ℕ) (rows : List Entry) : Type 0 where
  pub reads : ReadsFrom g (text_lines text) rows
  pub rules : RulesFrom g rows
  pub some-row : g.rows ++ rows ≡ [] → ⊥
  pub complete : Complete g.choices.kind g.choices.coverage (g.rows ++ rows)

-- the answer to a text: the number and the line of the first line that breaks a rule; 10; 11 with the first missing pair; or accepted, with the numbers of distinct
-- frequencies and headings
pub data VerdictFrom (g : Start) (text : List ℕ) : Answer → Type 0 where
  refused :
      (before : List (List ℕ)) (line : List ℕ) (after : List (List ℕ)) {rows : List Entry} {number : ℕ} → text_lines text ≡ before ++ (line ∷ after)
      → ReadsFrom g before rows
      → RulesFrom g rows
      → BreaksFrom g before rows line number
      → VerdictFrom g text (Answer.Refused number (Place.Line (line_after g before)))
  no_row : {rows : List Entry} → ReadsFrom g (text_lines text) rows → g.rows ++ rows ≡ [] → VerdictFrom g text (Answer.Refused 10 Place.Nowhere)
  lacks :
      {rows : List Entry} {pair : Pair} → ReadsFrom g (text_lines text) rows → RulesFrom g rows
      → Missing g.choices.kind g.choices.coverage (g.rows ++ rows) pair
      → VerdictFrom g text (Answer.Refused 11 (Place.Pair pair))
  accepted :
      {rows : List Entry} → AcceptsFrom g text rows → VerdictFrom g text (Answer.Accepted (length (ticks_of (g.rows ++ rows))) (length (headings_of (g.rows ++ rows))))

-- the answer after pieces of it, before any closing: the number and the line of the first ended line that breaks a rule; 3 at a line that is not ended; or it goes on
pub data PieceVerdictFrom (g : Start) (text : List ℕ) : Answer → Type 0 where
  refused :
      (before : List (List ℕ)) (line : List ℕ) (after : List (List ℕ)) {rows : List Entry} {number : ℕ} → ended_lines text ≡ before ++ (line ∷ after)
      → ReadsFrom g before rows
      → RulesFrom g rows
      → BreaksFrom g before rows line number
      → PieceVerdictFrom g text (Answer.Refused number (Place.Line (line_after g before)))
  over-limits :
      (line : List ℕ) {rows : List Entry} → unfinished text ≡ line ∷ [] → ReadsFrom g (ended_lines text) rows → RulesFrom g rows
      → OverLimits (g.lines + length (ended_lines text)) line
      → PieceVerdictFrom g text (Answer.Refused 3 (Place.Line (line_after g (ended_lines text))))
  going :
      {rows : List Entry} → ReadsFrom g (ended_lines text) rows → RulesFrom g rows
      → ((line : List ℕ) → unfinished text ≡ line ∷ [] → Limits (g.lines + length (ended_lines text)) line)
      → PieceVerdictFrom g text Answer.Going

-- from opening
abbrev pub Accepts : Choices → List ℕ → List Entry → Type 0
Accepts c = AcceptsFrom (from_opening c)

abbrev pub Verdict : Choices → List ℕ → Answer → Type 0
Verdict c = VerdictFrom (from_opening c)

abbrev pub PieceVerdict : Choices → List ℕ → Answer → Type 0
PieceVerdict c = PieceVerdictFrom (from_opening c)

-- ---- the laws

-- a reader at a start, the text in any pieces, and closing: the answer is given exactly when the rules say
abbrev pub answer_from : State → List (List ℕ) → Answer
answer_from s pieces = (close_of (pieces_of pieces (out s Answer.Going)).after).answer

abbrev pub VerdictFromExactly : Type 0
VerdictFromExactly =
    (g : Start) (s : State) (pieces : List (List ℕ)) (answer : Answer) → StartsAt g s → (answer_from s pieces ≡ answer) ↔ VerdictFrom g (joined pieces) answer

-- and so is the last piece's answer
abbrev pub last_from : State → List (List ℕ) → Answer
last_from s pieces = (pieces_of pieces (out s Answer.Going)).answer

abbrev pub PieceFromExactly : Type 0
PieceFromExactly =
    (g : Start) (s : State) (pieces : List (List ℕ)) (answer : Answer) → StartsAt g s → (last_from s pieces ≡ answer) ↔ PieceVerdictFrom g (joined pieces) answer

-- a text that ends with a line feed, and none of whose lines breaks a rule, leads to a start again: line numbers go on, and its rows are held with those before
abbrev pub LinesStart : Type 0
LinesStart =
    (g : Start) (s : State) (text : List ℕ) (rows : List Entry) → StartsAt g s → unfinished text ≡ [] → ReadsFrom g (text_lines text) rows → RulesFrom g rows
    → StartsAt (further g (text_lines text) rows) (bytes_of text s)

-- the rules leave one answer
abbrev pub VerdictFromOne : Type 0
VerdictFromOne = (g : Start) (text : List ℕ) (a b : Answer) → VerdictFrom g text a → VerdictFrom g text b → a ≡ b

abbrev pub PieceFromOne : Type 0
PieceFromOne = (g : Start) (text : List ℕ) (a b : Answer) → PieceVerdictFrom g text a → PieceVerdictFrom g text b → a ≡ b

-- accepted exactly when
abbrev pub AcceptedFromIff : Type 0
AcceptedFromIff =
    (g : Start) (s : State) (pieces : List (List ℕ)) (frequencies headings : ℕ) → StartsAt g s
    → (answer_from s pieces ≡ Answer.Accepted frequencies headings)
    ↔ ((rows : List Entry)
    × AcceptsFrom g (joined pieces) rows
    × (frequencies ≡ length (ticks_of (g.rows ++ rows)))
    × (headings ≡ length (headings_of (g.rows ++ rows))))

-- ---- from opening

-- opening with valid choices and slices that are long enough, the text in any pieces, and closing: the answer is given exactly when the rules say
abbrev pub answer_to : Choices → List ℤ → List ℕ → List (List ℕ) → Answer
answer_to c cells flags pieces = (close_of (pieces_of pieces (open_of c cells flags)).after).answer

abbrev pub VerdictExactly : Type 0
VerdictExactly =
    (c : Choices) (cells : List ℤ) (flags : List ℕ) (pieces : List (List ℕ)) (answer : Answer) → Opens c cells flags
    → (answer_to c cells flags pieces ≡ answer) ↔ Verdict c (joined pieces) answer

-- and so is the last piece's answer
abbrev pub answer_after : Choices → List ℤ → List ℕ → List (List ℕ) → Answer
answer_after c cells flags pieces = (pieces_of pieces (open_of c cells flags)).answer

abbrev pub PieceExactly : Type 0
PieceExactly =
    (c : Choices) (cells : List ℤ) (flags : List ℕ) (pieces : List (List ℕ)) (answer : Answer) → Opens c cells flags
    → (answer_after c cells flags pieces ≡ answer) ↔ PieceVerdict c (joined pieces) answer

-- the rules leave one answer
abbrev pub VerdictOne : Type 0
VerdictOne = (c : Choices) (text : List ℕ) (a b : Answer) → Verdict c text a → Verdict c text b → a ≡ b

abbrev pub PieceOne : Type 0
PieceOne = (c : Choices) (text : List ℕ) (a b : Answer) → PieceVerdict c text a → PieceVerdict c text b → a ≡ b

-- accepted exactly when
abbrev pub AcceptedIff : Type 0
AcceptedIff =
    (c : Choices) (cells : List ℤ) (flags : List ℕ) (pieces : List (List ℕ)) (frequencies headings : ℕ) → Opens c cells flags
    → (answer_to c cells flags pieces ≡ Answer.Accepted frequencies headings)
    ↔ ((rows : List Entry) × Accepts c (joined pieces) rows × (frequencies ≡ length (ticks_of rows)) × (headings ≡ length (headings_of rows)))
