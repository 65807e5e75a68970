-- One piece and one closing of an explainer, whoever made it and whatever is lent (document 02, M-103: "refusals 1 and 2 as the reader's"): 1 where a lent buffer is too short, the lines among them, 2 where
-- nothing is open, the number that the record is stuck with, each exactly when; what a refusal leaves; and what is answered where nothing refuses it, which is the reader's own.
use Rattle.std.specs.Prelude.{List, ◌⊎◌, ◌↔◌, ◌≡◌, ℕ, ◌≤◌, ◌<◌, length}
use Rattle.reader.specs.declared.reader.Place.{Place}
use Rattle.reader.specs.declared.reader.Answer.TheVariants as Answer
use Rattle.reader.specs.Model.{out, number_of, piece_of, close_of}
use Rattle.reasons.specs.Told.{Explanation}
use Rattle.explain.specs.Model.{Reading, Stepped, Explained, piece_for, close_for}
use Rattle.promises_calls.specs.Kept.{Shaped}
use Rattle.promises_calls.specs.Answers.{Stuck, Short, Open, HeldPlace}

-- 1: too few cells, flags or lines
abbrev pub ShortFor : Reading → Type 0
ShortFor x = Short x.state ⊎ (length x.memory.lines < 6_400)

-- ---- a piece

pub record PieceWhen (text : List ℕ) (x : Reading) (s : Stepped) : Type 0 where
  pub one : (number_of s.answer ≡ 1) ↔ ((Stuck x.state.reader → ⊥) × ShortFor x)
  pub two : (number_of s.answer ≡ 2) ↔ ((Stuck x.state.reader → ⊥) × (ShortFor x → ⊥) × (Open x.state.reader → ⊥))
  -- both have no place, and change nothing: not the record, nor cells, flags, lines and what is remembered
  pub refused : (number : ℕ) → (number ≡ 1) ⊎ (number ≡ 2) → number_of s.answer ≡ number → s ≡ record { after = x; answer = Answer.Refused number Place.Nowhere }
  -- a valid record that is stuck gives its number and place, ahead of every other test, and nothing changes
  pub stuck : (place : Place) → Stuck x.state.reader → HeldPlace x.state.reader place → s ≡ record { after = x; answer = Answer.Refused x.state.reader.marks.stage place }
  -- with enough lines the answer, the record, the cells and the flags are the reader's own
  pub reads : 6_400 ≤ length x.memory.lines → out s.after.state s.answer ≡ piece_of text x.state

abbrev pub ExplainerPiece : Type 0
ExplainerPiece = (text : List ℕ) (x : Reading) → PieceWhen text x (piece_for text x)

-- ---- closing

-- refused, with no place, and with nothing changed
abbrev pub refused_by : ℕ → Reading → Explained
refused_by number x = record { after = x; given = Answer.Refused number Place.Nowhere; explanation = Explanation.Refused number }

-- an explanation is read from all three buffers, so that 1 comes before the number that a record is stuck with
pub record CloseWhen (x : Reading) (y : Explained) : Type 0 where
  pub one : ShortFor x → y ≡ refused_by 1 x
  pub two : (ShortFor x → ⊥) → (Stuck x.state.reader → ⊥) → (Open x.state.reader → ⊥) → y ≡ refused_by 2 x
  -- a valid record that is stuck gives its number and place, and nothing changes
  pub stuck :
      (place : Place) → (ShortFor x → ⊥) → Stuck x.state.reader → HeldPlace x.state.reader place
      → (y.given ≡ Answer.Refused x.state.reader.marks.stage place) × (y.after ≡ x)
  -- an open one gives what the reader gives, which leaves the record, the cells and the flags as they then are
  pub reads : (ShortFor x → ⊥) → Shaped x.state.reader → Open x.state.reader → out y.after.state y.given ≡ close_of x.state

abbrev pub ExplainerClose : Type 0
ExplainerClose = (x : Reading) → CloseWhen x (close_for x)
