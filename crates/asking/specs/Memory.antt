-- The bench's own cells and flags, looked at: those of one pair of nodes, and the sum of all.
use Rattle.std.specs.Prelude.{cond, ◌&&◌, List, map, ℕ, ◌+◌, ◌*◌, ◌-◌, ◌/◌, ◌%◌, leb, eqb, ℤ, pos, negsuc, get_or, Option, Some, None}
use Rattle.std.specs.List.{fold}
use Rattle.script.specs.declared.numbers.Numbers.{Numbers}
use Rattle.script.specs.Place.{number_at, natural_of}
use Rattle.table.specs.Entries.{entry_of}
use Rattle.replies.specs.declared.reply.Reply.{Reply}
use Rattle.asking.specs.Queries.{bare_as}

-- a pair of nodes, 0 to 79 each: 80 times the row and the column
unfoldable pub place_of : Option ℕ → Option ℕ → Option ℕ
place_of (Some row) (Some column) = cond (leb row 79 && leb column 79) (Some (80 * row + column)) None
place_of None column = None
place_of (Some row) None = None

-- ---- `cell ROW COLUMN`

unfoldable pub cell_as : List ℤ → List ℕ → Option ℕ → Reply
cell_as cells flags (Some p) = let z = entry_of cells (p / 80) (p % 80) in Reply.Cell z.re z.im (get_or flags p 0)
cell_as cells flags None = Reply.Unknown

unfoldable pub cell_asked : Numbers → List ℤ → List ℕ → Reply
cell_asked n cells flags = cond (eqb n.count 2) (cell_as cells flags (place_of (natural_of (number_at n 0)) (natural_of (number_at n 1)))) Reply.Unknown

-- ---- `sum`

-- one number more in the sum
unfoldable pub added : ℕ → ℕ → ℕ
added s v = (31 * s + v) % 1_000_000_007

-- a cell and 2^31
unfoldable pub raised : ℤ → ℕ
raised (pos n) = 2_147_483_648 + n
raised (negsuc n) = 2_147_483_647 - n

unfoldable pub summed : ℕ → List ℕ → ℕ
summed s vs = fold added s vs

-- all cells, and then all flags
unfoldable pub sum_of : List ℤ → List ℕ → ℕ
sum_of cells flags = summed (summed 0 (map raised cells)) flags

unfoldable pub sum_asked : Numbers → List ℤ → List ℕ → Reply
sum_asked n cells flags = bare_as n (Reply.Sum (sum_of cells flags))
