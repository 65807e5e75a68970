-- A text put into a slice from a place on, a byte at a time. What has no room is left out, and the place stays: a slice that is too short holds the front of the
-- text, and nothing of it is written elsewhere.
use Rattle.std.specs.Prelude.{cond, List, [], ◌∷◌, ℕ, ◌+◌, ltb, length, set}

-- a slice, and the place in it where the next byte goes
pub record Placed : Type 0 where
  pub out : List ℕ
  pub at : ℕ

abbrev pub placed : List ℕ → ℕ → Placed
placed out at = record { out = out; at = at }

unfoldable pub put : List ℕ → ℕ → List ℕ → Placed
put out at [] = placed out at
put out at (b ∷ bs) = cond (ltb at (length out)) (put (set out at b) (at + 1) bs) (placed out at)
