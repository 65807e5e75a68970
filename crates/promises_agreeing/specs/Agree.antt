-- Two texts that agree line by line, but for lines that differ in some way, and what it is that they come to the same (document 01, "Rows"): the same record, cells and flags, but for
-- the bytes kept of an unfinished line, and the same answer and place, after every piece and after closing, however each text is cut. Which lines may differ is said where it is
-- promised: rows that are passed over (specs/Others), and the sign of a heading (specs/OneDirection).
use Rattle.std.specs.Prelude.{List, [], ◌∷◌, ◌≡◌, ℕ, suc, ◌≤◌, ℤ, length}
use Rattle.row.specs.declared.reading.Choices.{Choices}
use Rattle.reader.specs.declared.reader.Answer.TheVariants as Answer
use Rattle.reader.specs.Model.{counting, with_marks, State, Out, out, open_of, close_of}
use Rattle.promises_calls.specs.Cutting.{pieces_of, joined}
use Rattle.promises_calls.specs.Lines.{text_lines, feeds_in, ended_lines, unfinished}
use Rattle.promises_chains.specs.Chain.{Opens}
use Rattle.promises_texts.specs.Start.{Start, StartsAt, from_opening}

-- ---- texts

-- how a line with n lines before it may differ from another on the same line, by the caller's choices
abbrev pub Difference : Type 1
Difference = Choices → ℕ → List ℕ → List ℕ → Type 0

-- lines with n lines before them that agree but for such lines
pub data AgreeBy (Differ : Difference) (c : Choices) : ℕ → List (List ℕ) → List (List ℕ) → Type 0 where
  end : {n : ℕ} → AgreeBy Differ c n [] []
  same : {n : ℕ} {line : List ℕ} {lines others : List (List ℕ)} → AgreeBy Differ c (suc n) lines others → AgreeBy Differ c n (line ∷ lines) (line ∷ others)
  differ : {n : ℕ} {line other : List ℕ} {lines others : List (List ℕ)} → Differ c n line other → AgreeBy Differ c (suc n) lines others
      → AgreeBy Differ c n (line ∷ lines) (other ∷ others)

-- texts that agree so, read from a start
pub record AgreeTextsBy (Differ : Difference) (g : Start) (text other : List ℕ) : Type 0 where
  pub lines : AgreeBy Differ g.choices g.lines (text_lines text) (text_lines other)
  pub feeds : feeds_in text ≡ feeds_in other

-- what is read of lines that are not ended: of neither, the same of both, or of each so much as fits a line, of which nothing is heard yet
pub data BegunAlike : List (List ℕ) → List (List ℕ) → Type 0 where
  no_line : BegunAlike [] []
  one_line : {line : List ℕ} → BegunAlike (line ∷ []) (line ∷ [])
  two-lines : {line other : List ℕ} → length line ≤ 160 → length other ≤ 160 → BegunAlike (line ∷ []) (other ∷ [])

-- texts that agree as far as they have come, though a piece ends inside a line that differs
pub record AgreeSoFarBy (Differ : Difference) (g : Start) (text other : List ℕ) : Type 0 where
  pub ended : AgreeBy Differ g.choices g.lines (ended_lines text) (ended_lines other)
  pub begun : BegunAlike (unfinished text) (unfinished other)

-- ---- what they come to

-- a record with its cells and flags, but for the bytes that it keeps of an unfinished line
unfoldable pub unkept : State → State
unkept s = with_marks (counting 0 s.reader.marks) [] s

pub record SameOut (o p : Out) : Type 0 where
  pub answer : o.answer ≡ p.answer
  pub after : unkept o.after ≡ unkept p.after

-- after the last piece, however each text is cut, and wherever it ends
abbrev pub SamePiecesFrom : Difference → Type 0
SamePiecesFrom Differ =
    (g : Start) (s : State) (pieces others : List (List ℕ)) → StartsAt g s → AgreeSoFarBy Differ g (joined pieces) (joined others)
    → SameOut (pieces_of pieces (out s Answer.Going)) (pieces_of others (out s Answer.Going))

abbrev pub SamePieces : Difference → Type 0
SamePieces Differ =
    (c : Choices) (cells : List ℤ) (flags : List ℕ) (pieces others : List (List ℕ)) → Opens c cells flags
    → AgreeSoFarBy Differ (from_opening c) (joined pieces) (joined others)
    → SameOut (pieces_of pieces (open_of c cells flags)) (pieces_of others (open_of c cells flags))

-- after the last piece, however each text is cut, and after closing
abbrev pub SameTextsFrom : Difference → Type 0
SameTextsFrom Differ =
    (g : Start) (s : State) (pieces others : List (List ℕ)) → StartsAt g s → AgreeTextsBy Differ g (joined pieces) (joined others) →
    let o = pieces_of pieces (out s Answer.Going) in
    let p = pieces_of others (out s Answer.Going) in
    SameOut o p × SameOut (close_of o.after) (close_of p.after)

abbrev pub SameTexts : Difference → Type 0
SameTexts Differ =
    (c : Choices) (cells : List ℤ) (flags : List ℕ) (pieces others : List (List ℕ)) → Opens c cells flags → AgreeTextsBy Differ (from_opening c) (joined pieces) (joined others) →
    let o = pieces_of pieces (open_of c cells flags) in
    let p = pieces_of others (open_of c cells flags) in
    SameOut o p × SameOut (close_of o.after) (close_of p.after)
