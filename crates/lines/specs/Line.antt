-- A line of at most 80 bytes.
use Rattle.std.specs.Prelude.{List, ℕ}
use Rattle.text.specs.declared.line.Line.{Line}
use Rattle.text.specs.Line as text

-- a text in the 80 bytes of a line
abbrev pub line_of : List ℕ → Line 80
line_of = text.line_of 80
