-- The lines of a sea's record, by index: "a list of lines: tick, heading, two amplitude parts", as many as it counts, the first of which is line 1, and A, "the sum over the lines of the
-- sizes of both parts" (document 01, "Numbers" and refusals 12 and 14). Said of the record's own lists, so that a wrong line, a wrong line 1 or another A in the model's definitions is found.
use Rattle.std.specs.Prelude.{List, ◌∷◌, ◌++◌, ◌≡◌, ℕ, zero, suc, ◌+◌, ◌<◌, pos, nat_abs, length, get_or}
use Rattle.seaway.specs.Sea.{Line, lines_of, size_of}
use Rattle.seaway.specs.declared.sea.Sea.{Sea}
use Rattle.promises_queries.specs.Queries.{first_heading_of}

-- the sea has as many lines as it counts
abbrev pub LinesCounted : Type 0
LinesCounted = (sea : Sea) → length (lines_of sea) ≡ sea.count

-- each with what stands at its place in the record
pub record StandsAt (sea : Sea) (i : ℕ) (l : Line) : Type 0 where
  pub tick : l.tick ≡ get_or sea.ticks i 0
  pub heading : l.heading ≡ get_or sea.headings i (pos 0)
  pub re : l.amplitude.re ≡ get_or sea.re i (pos 0)
  pub im : l.amplitude.im ≡ get_or sea.im i (pos 0)

abbrev pub LinesInOrder : Type 0
LinesInOrder = (sea : Sea) (before after : List Line) (l : Line) → lines_of sea ≡ before ++ (l ∷ after) → StandsAt sea (length before) l

-- 14, "in single coverage not that of line 1": line 1 is the first line of the sea
abbrev pub LineOne : Type 0
LineOne = (sea : Sea) → 0 < sea.count → first_heading_of sea ≡ get_or sea.headings 0 (pos 0)

-- the sizes of both parts of the first so many lines
unfoldable pub sizes_of_first : Sea → ℕ → ℕ
sizes_of_first sea zero = 0
sizes_of_first sea (suc n) = sizes_of_first sea n + (nat_abs (get_or sea.re n (pos 0)) + nat_abs (get_or sea.im n (pos 0)))

-- A of 12 and of demand 3 is that of all the lines that are counted
abbrev pub SizesCounted : Type 0
SizesCounted = (sea : Sea) → size_of (lines_of sea) ≡ sizes_of_first sea sea.count
