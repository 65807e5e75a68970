-- The lines of the text that ProteusDS reads (document 02, M-100): those before the matrix, and a matrix row for each pair.
use Rattle.std.specs.Prelude.{List, [], ◌∷◌, ◌++◌, map, ℕ}
use Rattle.table.specs.Pairs.{pairs_of}
use Rattle.reader.specs.declared.record.Record.{Record}
use Rattle.hull.specs.Six.{Component, frequencies, headings, values_at}
use Rattle.qtf.specs.Matrix.{matrix_line, head_lines}

-- a line for each ordered pair that the coverage needs, in the listing's order; the first of the six says which they are
unfoldable pub lines_from : Record → List Component → List (List ℕ)
lines_from first six =
    head_lines (frequencies first) (headings first)
    ++ map (λ p. matrix_line (frequencies first) (headings first) p (values_at six p)) (pairs_of first.choices.coverage first.slots)

unfoldable pub proteus_lines : List Component → List (List ℕ)
proteus_lines [] = []
proteus_lines (c ∷ cs) = lines_from c.table (c ∷ cs)
