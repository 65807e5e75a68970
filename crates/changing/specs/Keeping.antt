-- What `keep` leaves in the six places: the cells of one place stand behind those of the other.
use Rattle.std.specs.Prelude.{cond, ◌&&◌, List, ◌++◌, ℕ, ◌+◌, ◌*◌, ◌-◌, leb, ℤ, length, take, drop, Option, Some, None}
use Rattle.replies.specs.declared.reply.Reply.{Reply}

-- cells copied to those from a place on, where there is room for all of them; where there is none, nothing is copied
unfoldable pub laid : List ℤ → ℕ → List ℤ → List ℤ
laid kept at cells = cond (leb (at + length cells) (length kept)) (take at kept ++ cells ++ drop (at + length cells) kept) kept

-- what `keep` leaves: where the record goes, the cells of the places, and the reply
pub record Keeping : Type 0 where
  pub place : Option ℕ
  pub cells : List ℤ
  pub reply : Reply

abbrev pub keeping : Option ℕ → List ℤ → Reply → Keeping
keeping place cells reply = record { place = place; cells = cells; reply = reply }

-- `keep N` with these cells: N is 1 to 6, and a place, counted from 0, has 12,900 cells
unfoldable pub keep_as : Option ℕ → List ℤ → List ℤ → Keeping
keep_as None cells kept = keeping None kept Reply.Unknown
keep_as (Some n) cells kept =
    cond (leb 1 n && leb n 6) (keeping (Some (n - 1)) (laid kept (12_900 * (n - 1)) cells) (Reply.Kept n)) (keeping None kept Reply.Unknown)
