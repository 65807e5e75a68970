-- A point of the table as the code holds it: the numbers of its two nodes, with their weights and the width. What the crate's own functions say of brackets, for those
-- that stand above them.
use Rattle.std.specs.Prelude.{List, [], ◌∷◌, ◌≡◌, ℕ, ◌+◌, ◌*◌, ◌≤◌, ◌<◌, ℤ, Result, Ok, Err}
use Rattle.whole.specs.Complex.{Complex}
use Rattle.grid.specs.declared.nodes.Slots.{Slots}
use Rattle.table.specs.Closing.{node_of}
use Rattle.table.specs.Entries.{entry_of}
use Rattle.load.specs.Corners.{Point, Corner, interpolated}
use Rattle.load.specs.Locating.{Located, at, outside}
use Rattle.load.specs.declared.locating.Bracket.{Bracket}
use Rattle.load.specs.declared.refused.Refused.{Refused as AtLine}
use Rattle.refusals.specs.Numbered.{number_of}

unfoldable pub bracket_of : Slots → Point → Bracket
bracket_of s p =
    record {
      low = node_of s (record { tick = p.frequency.low; heading = p.heading });
      high = node_of s (record { tick = p.frequency.high; heading = p.heading });
      to_low = p.frequency.to_low;
      to_high = p.frequency.to_high;
      width = p.frequency.width;
    }

-- a point in its place, or 13 or 14; and what the code answers, read so
pub data Bracketed : Type 0 where
  At : Bracket → Bracketed
  Refused : ℕ → Bracketed

abbrev pub bracketed_in : Result Bracket AtLine → Bracketed
bracketed_in (Ok p) = Bracketed.At p
bracketed_in (Err e) = Bracketed.Refused (number_of e.refusal)

unfoldable pub bracketed : Slots → Located → Bracketed
bracketed s (at p) = Bracketed.At (bracket_of s p)
bracketed s (outside number) = Bracketed.Refused number

-- the four corners of two brackets, in the order of `corners`
unfoldable pub bracket_corners : List ℤ → Bracket → Bracket → List Corner
bracket_corners cells p q =
    record { weight = p.to_low * q.to_low; value = entry_of cells p.low q.low }
    ∷ record { weight = p.to_low * q.to_high; value = entry_of cells p.low q.high }
    ∷ record { weight = p.to_high * q.to_low; value = entry_of cells p.high q.low }
    ∷ record { weight = p.to_high * q.to_high; value = entry_of cells p.high q.high }
    ∷ []

unfoldable pub bracket_coefficient : List ℤ → Bracket → Bracket → Complex
bracket_coefficient cells p q = interpolated (bracket_corners cells p q) (p.width * q.width)

-- what the weights of every bracket of a valid record keep: they make up the width, which is 1 to 9,900, the lower node has some, and where the upper one has none
-- the two are one
pub record ProperBracket (p : Bracket) : Type 0 where
  pub some : 0 < p.width
  pub most : p.width ≤ 9_900
  pub sum : p.to_low + p.to_high ≡ p.width
  pub weighted : 0 < p.to_low
  pub single : p.to_high ≡ 0 → p.high ≡ p.low

-- and its nodes: both are of the table's 80
pub record InTable (p : Bracket) : Type 0 where
  pub low : p.low < 80
  pub high : p.high < 80
