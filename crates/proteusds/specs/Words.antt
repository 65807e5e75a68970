-- The word that says the coverage.
use Rattle.std.specs.Prelude.{cond, List, ℕ, Option, Some, None}
use Rattle.std.specs.Str.{bytes_eq}
use Rattle.field.specs.Text.{bytes}

unfoldable pub coverage_of : List ℕ → Option ℕ
coverage_of word = cond (bytes_eq word (bytes "single")) (Some 0) (cond (bytes_eq word (bytes "full")) (Some 1) None)
