-- How words make a line and lines a text, and where a text goes in a slice, in bytes: a space is 32 and a line feed 10.
use Rattle.std.specs.Prelude.{List, [], ◌∷◌, ◌++◌, ◌↔◌, ◌≡◌, ℕ, ◌+◌, ◌≤◌, ℤ, length}
use Rattle.text.specs.Spaced.{spaced}
use Rattle.text.specs.Parts.{text_of}
use Rattle.text.specs.Rows.{row_text}
use Rattle.text.specs.Put.{Placed, put}
use Rattle.promises_writing.specs.WrittenNumbers.{NumberIs}

-- ---- words of a line

-- between two words one byte 32, and none before the first or behind the last
pub data Joined : List (List ℕ) → List ℕ → Type 0 where
  no_word : Joined [] []
  one_word : {word : List ℕ} → Joined (word ∷ []) word
  more-words :
      {word second : List ℕ} {words : List (List ℕ)} {rest text : List ℕ} → text ≡ word ++ (32 ∷ rest) → Joined (second ∷ words) rest → Joined (word ∷ second ∷ words) text

abbrev pub WordsExactly : Type 0
WordsExactly = (words : List (List ℕ)) (text : List ℕ) → (spaced words ≡ text) ↔ Joined words text

-- each number with its places
pub data NumbersAre : List ℕ → List ℤ → List (List ℕ) → Type 0 where
  no_number : NumbersAre [] [] []
  number :
      {k : ℕ} {z : ℤ} {word : List ℕ} {places : List ℕ} {row : List ℤ} {words : List (List ℕ)} → NumberIs k z word → NumbersAre places row words
      → NumbersAre (k ∷ places) (z ∷ row) (word ∷ words)

-- a line of numbers
pub record RowIs (places : List ℕ) (row : List ℤ) (text : List ℕ) : Type 0 where
  pub words : List (List ℕ)
  pub numbers : NumbersAre places row words
  pub joined : Joined words text

abbrev pub NumbersExactly : Type 0
NumbersExactly = (places : List ℕ) (row : List ℤ) (text : List ℕ) → length places ≡ length row → (row_text places row ≡ text) ↔ RowIs places row text

-- ---- lines of a text

-- behind each line one byte 10, the last too
pub data Fed : List (List ℕ) → List ℕ → Type 0 where
  no_line : Fed [] []
  more-lines : {line : List ℕ} {lines : List (List ℕ)} {rest text : List ℕ} → text ≡ line ++ (10 ∷ rest) → Fed lines rest → Fed (line ∷ lines) text

abbrev pub FeedsExactly : Type 0
FeedsExactly = (lines : List (List ℕ)) (text : List ℕ) → (text_of lines ≡ text) ↔ Fed lines text

-- ---- a text in a slice, from a place on

-- what the slice holds then, and the next place
pub record Holds (p : Placed) (out : List ℕ) (at : ℕ) : Type 0 where
  pub bytes : p.out ≡ out
  pub next : p.at ≡ at

-- where there is room the text stands in the place of as many bytes, and all the others stay. The next place is behind it
abbrev pub PutWhole : Type 0
PutWhole =
    (front old back text : List ℕ) → length old ≡ length text
    → Holds (put (front ++ (old ++ back)) (length front) text) (front ++ (text ++ back)) (length front + length text)

-- where there is room for a part of it alone, that part stands there
abbrev pub PutPart : Type 0
PutPart =
    (front old part rest : List ℕ) → length old ≡ length part
    → Holds (put (front ++ old) (length front) (part ++ rest)) (front ++ part) (length front + length part)

-- and from a place beyond the end nothing is written
abbrev pub PutBeyond : Type 0
PutBeyond = (out : List ℕ) (at : ℕ) (text : List ℕ) → length out ≤ at → Holds (put out at text) out at
