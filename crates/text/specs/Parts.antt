-- A text taken apart: what stands between separators, the words of a line, the lines of a text. `spaced` (Spaced) makes a line of words, and `text_of` a text of lines.
use Rattle.std.specs.Prelude.{cond, List, [], ◌∷◌, ◌++◌, ℕ, eqb}

-- a byte put before the first part
unfoldable pub onto : ℕ → List (List ℕ) → List (List ℕ)
onto b [] = (b ∷ []) ∷ []
onto b (w ∷ ws) = (b ∷ w) ∷ ws

-- what stands between separators: one part more than there are separators
unfoldable pub parts : ℕ → List ℕ → List (List ℕ)
parts separator [] = [] ∷ []
parts separator (b ∷ s) = cond (eqb b separator) ([] ∷ parts separator s) (onto b (parts separator s))

-- the words of a line, which are what stands between its spaces; a line of no bytes has no word
unfoldable pub words_of : List ℕ → List (List ℕ)
words_of [] = []
words_of (b ∷ s) = parts 32 (b ∷ s)

-- each line ends in a line feed
unfoldable pub text_of : List (List ℕ) → List ℕ
text_of [] = []
text_of (line ∷ lines) = line ++ (10 ∷ text_of lines)

-- all but the last
unfoldable pub but_last : List (List ℕ) → List (List ℕ)
but_last [] = []
but_last (l ∷ []) = []
but_last (l ∷ m ∷ ls) = l ∷ but_last (m ∷ ls)

-- the lines of a text: what stands behind its last line feed is no line
unfoldable pub lines_of : List ℕ → List (List ℕ)
lines_of text = but_last (parts 10 text)
