-- The four corners of two brackets as the code holds them, two by two: the rows go by the nodes of the first bracket, the columns by those of the second.
use Rattle.std.specs.Prelude.{Bool, ◌||◌, List, [], ◌∷◌, ℕ, ◌*◌, ◌≤◌, ℤ, pos, nat_abs, ◌+ℤ◌, ◌*ℤ◌, get_or}
use Rattle.whole.specs.Complex.{Complex}
use Rattle.whole.specs.Nearest.{nearest_ℤ}
use Rattle.table.specs.declared.entries.Parts.{Parts}
use Rattle.table.specs.Entries.{entry_of, parts_of, complex_of, is_out}
use Rattle.load.specs.declared.locating.Bracket.{Bracket}

unfoldable pub square_of : List ℤ → Bracket → Bracket → List (List Parts)
square_of cells p q =
    (parts_of (entry_of cells p.low q.low) ∷ parts_of (entry_of cells p.low q.high) ∷ [])
    ∷ (parts_of (entry_of cells p.high q.low) ∷ parts_of (entry_of cells p.high q.high) ∷ [])
    ∷ []

-- what stands in a row and a column of it
abbrev pub stands_at : List (List Parts) → ℕ → ℕ → Parts
stands_at s i j = get_or (get_or s i []) j (record { re = pos 0; im = pos 0 })

-- one of the four is out of bounds
abbrev pub any_out : List (List Parts) → Bool
any_out s =
    is_out (complex_of (stands_at s 0 0))
    || (is_out (complex_of (stands_at s 0 1)) || (is_out (complex_of (stands_at s 1 0)) || is_out (complex_of (stands_at s 1 1))))

-- two values by the weights of a bracket; one part of the four corners, by the weights of both brackets, over the product of their widths, rounded once
unfoldable pub along_of : Bracket → ℤ → ℤ → ℤ
along_of p low high = pos p.to_low *ℤ low +ℤ pos p.to_high *ℤ high

unfoldable pub part_of : Bracket → Bracket → ℤ → ℤ → ℤ → ℤ → ℤ
part_of p q a b c d = nearest_ℤ (along_of p (along_of q a b) (along_of q c d)) (p.width * q.width)

-- both parts of the square
abbrev pub interpolated_of : Bracket → Bracket → List (List Parts) → Complex
interpolated_of p q s =
    record {
      re = part_of p q (stands_at s 0 0).re (stands_at s 0 1).re (stands_at s 1 0).re (stands_at s 1 1).re;
      im = part_of p q (stands_at s 0 0).im (stands_at s 0 1).im (stands_at s 1 0).im (stands_at s 1 1).im;
    }

-- four parts that are in bounds
pub record CornersInBounds (a b c d : ℤ) : Type 0 where
  pub low-low : nat_abs a ≤ 1_000_000_000
  pub low-high : nat_abs b ≤ 1_000_000_000
  pub high-low : nat_abs c ≤ 1_000_000_000
  pub high-high : nat_abs d ≤ 1_000_000_000
