-- A command line as words: they are what stands between its spaces, so there is one word more than there are spaces, and between two spaces next to
-- each other, or in a line of no bytes, there is a word of none.
use Rattle.std.specs.Prelude.{cond, List, [], ◌∷◌, ℕ, eqb}
use Rattle.std.specs.List.{slice_split}
use Rattle.std.specs.Str.{bytes_eq}
use Prim.Native.String.{String}
use Rattle.field.specs.Text.{bytes}

unfoldable pub words_of : List ℕ → List (List ℕ)
words_of line = slice_split (λ b. eqb b 32) line

-- what a word names: what stands beside it in a table, or something else where it stands there not
unfoldable pub named : {A : Type 0} → List ℕ → List (String × A) → A → A
named w [] other = other
named w (entry ∷ table) other = cond (bytes_eq w (bytes entry.0)) entry.1 (named w table other)
