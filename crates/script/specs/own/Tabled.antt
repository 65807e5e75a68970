-- A table of names as the code has it, where each name is text that is lent.
use Rattle.std.specs.Prelude.{cond, List, [], ◌∷◌, ℕ}
use denote.Ref.{Bor}
use Rattle.std.specs.Str.{bytes_eq}

-- what stands beside a word in the table, or something else where it stands there not
unfoldable pub tabled : {A : Type 0} → List ℕ → List (Bor (List ℕ) × A) → A → A
tabled w [] other = other
tabled w (entry ∷ table) other = cond (bytes_eq w entry.0.now) entry.1 (tabled w table other)
