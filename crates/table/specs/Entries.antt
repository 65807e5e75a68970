-- The entry of two nodes (document 01, "The table"): "the cell of nodes r, c is at 2(80r + c): real, then imaginary". What stands past the end of the lent cells is 0.
use Rattle.std.specs.Prelude.{Bool, not, ◌&&◌, List, ℕ, ℤ, pos, neg_ℤ}
use Rattle.std.specs.Int.Signed.{le_z}
use Rattle.whole.specs.Complex.{Complex}
use Rattle.row.specs.Ranges.{part_most}
use Rattle.grid.specs.declared.nodes.Node.{Node}
use Rattle.grid.specs.declared.nodes.Slots.{Slots}
use Rattle.table.specs.declared.entries.Parts.{Parts}
use Rattle.table.specs.Cells.{place_of, cell_at}
use Rattle.table.specs.Closing.{node_of}

-- of two nodes by their numbers
abbrev pub entry_of : List ℤ → ℕ → ℕ → Complex
entry_of cells row column = cell_at cells (place_of row column)

-- what the table says of two of its nodes
unfoldable pub entry_at : Slots → List ℤ → Node → Node → Complex
entry_at s cells a b = entry_of cells (node_of s a) (node_of s b)

-- a complex number as the code holds it, and back
abbrev pub parts_of : Complex → Parts
parts_of z = record { re = z.re; im = z.im }

abbrev pub complex_of : Parts → Complex
complex_of p = record { re = p.re; im = p.im }

-- 15: a part lies outside -10^9 to 10^9
unfoldable pub in_bounds : ℤ → Bool
in_bounds z = le_z (neg_ℤ (pos part_most)) z && le_z z (pos part_most)

abbrev pub is_out : Complex → Bool
is_out z = not (in_bounds z.re && in_bounds z.im)
