-- Cells and flags by places: what a write changes, and that two pairs of nodes have two places. The lists of 12,800 and 6,400 stay symbolic: of them only their
-- lengths are known, and the laws of `get_or` and `set`. Assumes nothing.
use mathlib.Core.List.{List, ◌++◌}
use mathlib.Core.Path.{◌≡◌, refl, ap, ◌∙◌}
use Prim.Native.Nat.{ℕ, zero, suc, ◌+◌, ◌*◌, ◌≤◌, ◌<◌}
use native.Mathlib.Omega.{arith}
use native.Mathlib.Decide.{ℕ_discrete}
use lib.IntN.{ℤ, pos}
use lib.ListN.{length, get_or, set, replicate, length-set, length-append, length-replicate}
use lib.Seq.{get_or-set_same, get_or-set_other}
use Rattle.whole.specs.Complex.{Complex}
use Rattle.table.specs.Cells.{node_at, place_of, cell_at, with_cell, with_flag}
use Rattle.promises_tables.specs.Holds.{Grid, Enough, flagged_at, marked, blank}

-- a cell and its flag
unfoldable pub write : Grid → ℕ → Complex → Grid
write g p v = record { cells = with_cell g.cells p v; flags = with_flag g.flags p }

pub write-enough : (g : Grid) (p : ℕ) (v : Complex) → Enough g → Enough (write g p v)
unfolding write with_cell with_flag
write-enough g p v z = record { cells = simp length-set z.cells; flags = simp length-set z.flags }

pub write_same : (g : Grid) (p : ℕ) (v : Complex) → Enough g → p < 6_400 → flagged_at (write g p v) p ≡ marked v
unfolding write with_cell with_flag flagged_at cell_at
write_same g p v z h =
    let c = z.cells in
    let f = z.flags in
    let one = set g.cells (2 * p) v.re in
    let n : length one ≡ length g.cells = length-set g.cells (2 * p) v.re in
    let fl : get_or (set g.flags p 1) p 0 ≡ 1 = get_or-set_same g.flags p 1 0 (omega arith) in
    let re : get_or (set one (2 * p + 1) v.im) (2 * p) (pos 0) ≡ v.re =
    get_or-set_other one (2 * p + 1) (2 * p) v.im (pos 0) (λ e. omega arith)
    ∙ get_or-set_same g.cells (2 * p) v.re (pos 0) (omega arith)
    in
    let im : get_or (set one (2 * p + 1) v.im) (2 * p + 1) (pos 0) ≡ v.im =
    get_or-set_same one (2 * p + 1) v.im (pos 0) (omega arith)
    in
    λ i. record { flag = fl i; value = record { re = re i; im = im i } }

pub write-other : (g : Grid) (p q : ℕ) (v : Complex) → (q ≡ p → ⊥) → flagged_at (write g p v) q ≡ flagged_at g q
unfolding write with_cell with_flag flagged_at cell_at
write-other g p q v ne =
    let one = set g.cells (2 * p) v.re in
    let fl : get_or (set g.flags p 1) q 0 ≡ get_or g.flags q 0 = get_or-set_other g.flags p q 1 0 ne in
    let re : get_or (set one (2 * p + 1) v.im) (2 * q) (pos 0) ≡ get_or g.cells (2 * q) (pos 0) =
    get_or-set_other one (2 * p + 1) (2 * q) v.im (pos 0) (λ e. omega arith)
    ∙ get_or-set_other g.cells (2 * p) (2 * q) v.re (pos 0) (λ e. ne (omega arith))
    in
    let im : get_or (set one (2 * p + 1) v.im) (2 * q + 1) (pos 0) ≡ get_or g.cells (2 * q + 1) (pos 0) =
    get_or-set_other one (2 * p + 1) (2 * q + 1) v.im (pos 0) (λ e. ne (omega arith))
    ∙ get_or-set_other g.cells (2 * p) (2 * q + 1) v.re (pos 0) (λ e. omega arith)
    in
    λ i. record { flag = fl i; value = record { re = re i; im = im i } }

-- Two writes, at p and then at q: where the two places are one, the two values are one. Then the order of the two does not show.
pub data Twice (g g' : Grid) (p q : ℕ) (v w : Complex) (at : ℕ) : Type 0 where
  first : at ≡ p → flagged_at g' at ≡ marked v → Twice g g' p q v w at
  second : at ≡ q → flagged_at g' at ≡ marked w → Twice g g' p q v w at
  neither : (at ≡ p → ⊥) → (at ≡ q → ⊥) → flagged_at g' at ≡ flagged_at g at → Twice g g' p q v w at

module _ (g : Grid) (p q : ℕ) (v w : Complex) (z : Enough g) (hp : p < 6_400) (hq : q < 6_400) where
  abbrev twice : Grid
  twice = write (write g p v) q w

  second-write : flagged_at twice q ≡ marked w
  second-write = write_same (write g p v) q w (write-enough g p v z) hq

  pub write-twice : (p ≡ q → w ≡ v) → (at : ℕ) → Twice g (write (write g p v) q w) p q v w at
  write-twice one at =
      elim (ℕ_discrete at q) [
        | yes e ↦ second e (ap (flagged_at twice) e ∙ second-write)
        | no not-q ↦
            let other = write-other (write g p v) q at w not-q in
            elim (ℕ_discrete at p) [
              | yes e ↦ first e (other ∙ ap (flagged_at (write g p v)) e ∙ write_same g p v z hp)
              | no not-p ↦ neither not-p not-q (other ∙ write-other g p at v not-p)
            ]
      ]

-- ---- places

pub place-injective : {r c r' c' : ℕ} → c < 80 → c' < 80 → place_of r c ≡ place_of r' c' → (r ≡ r') × (c ≡ c')
unfolding place_of
place-injective hc hc' e = (omega arith, omega arith)

pub place-lt : (r c : ℕ) → r < 80 → c < 80 → place_of r c < 6_400
unfolding place_of
place-lt r c hr hc = omega arith

pub node-injective : {i j i' j' : ℕ} → i < 20 → i' < 20 → node_at j i ≡ node_at j' i' → (i ≡ i') × (j ≡ j')
unfolding node_at
node-injective hi hi' e = (omega arith, omega arith)

pub node-lt : (i j : ℕ) → i < 20 → j < 4 → node_at j i < 80
unfolding node_at
node-lt i j hi hj = omega arith

-- ---- opened

module _ {A : Type 0} (z : A) (l : List A) where
  pub long-enough : (n : ℕ) → n ≤ length (replicate n z ++ l)
  long-enough n = let e = length-append (replicate n z) l in let m = length-replicate n z in omega arith

  pub get_d_front : (n i : ℕ) → i < n → get_or (replicate n z ++ l) i z ≡ z
  get_d_front zero i h = absurd (omega arith)
  get_d_front (suc n) zero h = refl
  get_d_front (suc n) (suc i) h = get_d_front n i (omega arith)

module _ (cells : List ℤ) (flags : List ℕ) where
  abbrev pub open_grid : Grid
  open_grid = record { cells = replicate 12_800 (pos 0) ++ cells; flags = replicate 6_400 0 ++ flags }

  pub open-enough : Enough open_grid
  open-enough = record { cells = long-enough (pos 0) cells 12_800; flags = long-enough 0 flags 6_400 }

  pub open-blank : (p : ℕ) → p < 6_400 → flagged_at open_grid p ≡ blank
  unfolding flagged_at cell_at
  open-blank p h =
      let f = get_d_front 0 flags 6_400 p h in
      let r = get_d_front (pos 0) cells 12_800 (2 * p) (omega arith) in
      let j = get_d_front (pos 0) cells 12_800 (2 * p + 1) (omega arith) in
      λ i. record { flag = f i; value = record { re = r i; im = j i } }
