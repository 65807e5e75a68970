-- Words that go on in a line.
use Rattle.std.specs.Prelude.{List, [], ◌∷◌, ◌++◌, ℕ}

-- each word behind a space
unfoldable pub behind : List (List ℕ) → List ℕ
behind [] = []
behind (w ∷ ws) = (32 ∷ w) ++ behind ws
