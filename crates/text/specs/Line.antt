-- A line (src/line.rt).
use Rattle.std.specs.Prelude.{List, ◌++◌, ℕ, ◌-◌, length, replicate}
use Rattle.text.specs.declared.line.Line.{Line}

-- a text in the n bytes of a line
unfoldable pub line_of : (n : ℕ) → List ℕ → Line n
line_of n text = record { bytes = text ++ replicate (n - length text) 0; len = length text }
