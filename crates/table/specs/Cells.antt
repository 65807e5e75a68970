-- Cells and flags (document 01, "The table"): a node is 20 times its heading's slot plus its frequency's, "the cell of nodes r, c is at 2(80r + c): real, then
-- imaginary", and their flag is byte 80r + c; "any byte but 0 is set".
use Rattle.std.specs.Prelude.{Bool, cond, not, ◌&&◌, List, ℕ, ◌+◌, ◌*◌, eqb, ℤ, pos, neg_ℤ, get_or, set}
use Rattle.whole.specs.Same.{same_ℤ}
use Rattle.whole.specs.Complex.{Complex}

-- "The caller lends 12,800 signed 32-bit numbers and 6,400 flag bytes"
abbrev pub cells_lent : ℕ
cells_lent = 12_800

abbrev pub flags_lent : ℕ
flags_lent = 6_400

unfoldable pub node_at : ℕ → ℕ → ℕ
node_at heading tick = 20 * heading + tick

-- the place of two nodes' flag; their cell is at twice that
unfoldable pub place_of : ℕ → ℕ → ℕ
place_of r c = 80 * r + c

unfoldable pub cell_at : List ℤ → ℕ → Complex
cell_at cells p = record { re = get_or cells (2 * p) (pos 0); im = get_or cells (2 * p + 1) (pos 0) }

unfoldable pub is_set : List ℕ → ℕ → Bool
is_set flags p = not (eqb (get_or flags p 0) 0)

unfoldable pub with_cell : List ℤ → ℕ → Complex → List ℤ
with_cell cells p v = set (set cells (2 * p) v.re) (2 * p + 1) v.im

unfoldable pub with_flag : List ℕ → ℕ → List ℕ
with_flag flags p = set flags p 1

unfoldable pub same_value : Complex → Complex → Bool
same_value v w = same_ℤ v.re w.re && same_ℤ v.im w.im

-- "The mirror is the conjugate in a difference table, the same in a sum table." Kind 0 is difference. The least word of 32 bits, which no row in range holds, has
-- no opposite in a cell, and stays.
unfoldable pub opposite : ℤ → ℤ
opposite z = cond (same_ℤ z (neg_ℤ (pos 2_147_483_648))) z (neg_ℤ z)

unfoldable pub mirror : ℕ → Complex → Complex
mirror kind v = record { re = v.re; im = cond (eqb kind 0) (opposite v.im) v.im }
