-- A line's bytes as words (document 01, "Rows"): "fields between spaces or tabs", and "one carriage return just before" the line's end is dropped.
use Rattle.std.specs.Prelude.{Bool, true, false, cond, ◌&&◌, ◌||◌, List, [], ◌∷◌, ℕ, eqb, leb}

-- a space or a tab
abbrev pub is_blank : ℕ → Bool
is_blank b = eqb b 32 || eqb b 9

-- A to Z or a to z
abbrev pub is_letter : ℕ → Bool
is_letter b = (leb 65 b && leb b 90) || (leb 97 b && leb b 122)

-- the line without a carriage return at its end
unfoldable pub without_return : List ℕ → List ℕ
without_return [] = []
without_return (b ∷ []) = cond (eqb b 13) [] (b ∷ [])
without_return (b ∷ c ∷ s) = b ∷ without_return (c ∷ s)

-- a word ends where a blank or nothing follows
unfoldable pub ends : List ℕ → Bool
ends [] = true
ends (b ∷ s) = is_blank b

-- a byte put before the first word
unfoldable pub before : ℕ → List (List ℕ) → List (List ℕ)
before b [] = (b ∷ []) ∷ []
before b (w ∷ ws) = (b ∷ w) ∷ ws

-- the words of a line, from left to right
unfoldable pub words : List ℕ → List (List ℕ)
words [] = []
words (b ∷ s) = cond (is_blank b) (words s) (cond (ends s) ((b ∷ []) ∷ words s) (before b (words s)))

-- the first byte after blanks, with which the first word starts, is a letter
unfoldable pub starts_letter : List (List ℕ) → Bool
starts_letter [] = false
starts_letter ([] ∷ ws) = false
starts_letter ((b ∷ w) ∷ ws) = is_letter b
