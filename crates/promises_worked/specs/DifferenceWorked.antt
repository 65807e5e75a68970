-- A difference table worked by hand: where example H's rows stand (document 01, "The table"), and its force where the second amplitude is imaginary, so that it shows which of the two is conjugated
-- (document 01, "Coefficients and forces"). The checker computes both.
use Rattle.std.specs.Prelude.{Bool, true, false, ◌&&◌, List, [], ◌∷◌, ◌++◌, ℕ, T, eqb, ℤ, pos, neg_ℤ, replicate}
use Rattle.whole.specs.Same.{same_ℤ}
use Rattle.load.specs.Force.{force_of}
use Rattle.seaway.specs.declared.sea.Sea.{Sea}
use Rattle.promises_worked.specs.Starred.{table_h, two_lines, is_force, every}

-- ---- where the rows stand

-- Tick 1000 is node 0 and tick 1250 node 1. The cell of nodes 0, 0 is at 0, of 0, 1 at 2, of 1, 0 at 160, of 1, 1 at 162: real, then imaginary, of all 12,800 numbers
unfoldable pub cells_of_h : List ℤ
cells_of_h =
    neg_ℤ (pos 20_000) ∷ pos 0 ∷ neg_ℤ (pos 30_000) ∷ pos 4_000
    ∷ (replicate 156 (pos 0)
    ++ (neg_ℤ (pos 30_000) ∷ neg_ℤ (pos 4_000) ∷ neg_ℤ (pos 36_000) ∷ pos 0 ∷ replicate 12_636 (pos 0)))

-- their flags are 0, 1, 80 and 81 of all 6,400
unfoldable pub flags_of_h : List ℕ
flags_of_h = 1 ∷ 1 ∷ (replicate 78 0 ++ (1 ∷ 1 ∷ replicate 6_318 0))

-- the two lists hold the same, place by place, and are as long
unfoldable pub same : {A : Type 0} → (A → A → Bool) → List A → List A → Bool
same eq [] [] = true
same eq [] (y ∷ ys) = false
same eq (x ∷ xs) [] = false
same eq (x ∷ xs) (y ∷ ys) = eq x y && same eq xs ys

abbrev pub CellsWorked : Type 0
CellsWorked = T (same same_ℤ table_h.cells cells_of_h && same eqb table_h.flags flags_of_h)

-- ---- the force

-- tick 1000 with amplitude (500, 0), tick 1250 with (0, 300)
unfoldable pub sea_turned : Sea
sea_turned = two_lines (record { re = pos 500; im = pos 0 }) (record { re = pos 0; im = pos 300 })

-- a second, and the force. a(1) conj(a(1)) Q(1,1) and a(2) conj(a(2)) Q(2,2) give -5,000,000,000 and -3,240,000,000; a(1) conj(a(2)) Q(1,2) is 600,000,000 + 4,500,000,000 i, once for each way, turned back by 250 steps a second
pub record ForceAt : Type 0 where
  pub second : ℕ
  pub force : ℤ

unfoldable pub forces_turned : List ForceAt
forces_turned =
    record { second = 0; force = neg_ℤ (pos 7_040_000_000) }
    ∷ record { second = 1; force = neg_ℤ (pos 5_646_863_805) }
    ∷ record { second = 10; force = pos 760_000_000 }
    ∷ []

unfoldable pub turns : ForceAt → Bool
turns f = is_force (force_of table_h.reader table_h.cells sea_turned f.second) f.force

abbrev pub DifferenceWorked : Type 0
DifferenceWorked = T (every turns forces_turned)
