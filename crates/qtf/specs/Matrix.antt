-- The text that ProteusDS reads (document 02, M-100; names and columns are source document 004's): the frequency list, the heading list and the matrix rows, each
-- behind a line with its name, single spaces between numbers.
use Rattle.std.specs.Prelude.{List, [], ◌∷◌, ◌++◌, map, ℕ, ◌*◌, eqb, ℤ, pos, length, replicate}
use Rattle.whole.specs.Complex.{Complex}
use Rattle.whole.specs.Nearest.{nearest}
use Rattle.whole.specs.Same.{same_ℤ}
use Rattle.field.specs.Text.{bytes}
use Rattle.text.specs.Rows.{row_text}
use Rattle.grid.specs.declared.nodes.Pair.{Pair}
use Rattle.grid.specs.Slots.{slot_of}

-- "rad/s with nine decimals, ticks times 6,283,185,307 over 10,000 in billionths, rounded as usual"
unfoldable pub billionths : ℕ → ℕ
billionths tick = nearest (tick * 6_283_185_307) 10_000

-- numbers that all have the same decimals, in one line
unfoldable pub list_text : ℕ → List ℤ → List ℕ
list_text places numbers = row_text (replicate (length numbers) places) numbers

unfoldable pub frequency_text : List ℕ → List ℕ
frequency_text ticks = list_text 9 (map (λ t. pos (billionths t)) ticks)

-- "headings in degrees with three"
unfoldable pub heading_text : List ℤ → List ℕ
heading_text hs = list_text 3 hs

-- "Indexes start at 0": where a pair's frequencies stand in the one list, and then where its headings stand in the other
unfoldable pub indexes : List ℕ → List ℤ → Pair → List ℤ
indexes ticks hs p =
    pos (slot_of eqb ticks p.first.tick)
    ∷ pos (slot_of eqb ticks p.second.tick)
    ∷ pos (slot_of same_ℤ hs p.first.heading)
    ∷ pos (slot_of same_ℤ hs p.second.heading)
    ∷ []

-- the real and the imaginary part of each component
unfoldable pub parts_in : List Complex → List ℤ
parts_in [] = []
parts_in (z ∷ zs) = z.re ∷ z.im ∷ parts_in zs

-- the decimals of a matrix row's sixteen columns: four indexes, and twelve parts "with six decimals and still divided by the force scale"
abbrev pub matrix_places : List ℕ
matrix_places = replicate 4 0 ++ replicate 12 6

unfoldable pub matrix_line : List ℕ → List ℤ → Pair → List Complex → List ℕ
matrix_line ticks hs p values = row_text matrix_places (indexes ticks hs p ++ parts_in values)

-- the lines before the matrix
unfoldable pub head_lines : List ℕ → List ℤ → List (List ℕ)
head_lines ticks hs =
    bytes "$QTFFrequencies" ∷ frequency_text ticks ∷ bytes "$QTFHeadings" ∷ heading_text hs ∷ bytes "$WaveDriftQTFMatrix" ∷ []
