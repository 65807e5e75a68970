-- A piece and closing write below 12,800 cells and 6,400 flags only, and leave every list as long as it was. Assumes nothing.
use mathlib.Core.Path.{◌≡◌, refl, ◌∙◌}
use mathlib.Core.Bool.{true}
use mathlib.Core.List.{List}
use Prim.Native.Nat.{ℕ, ◌+◌, ◌*◌, ◌<◌}
use native.Mathlib.Omega.{arith}
use lib.IntN.{ℤ}
use lib.ListN.{length, drop, set, length-set}
use lib.Seq.{drop-set-lt}
use Rattle.whole.specs.Complex.{Complex}
use Rattle.row.specs.declared.reading.Entry.{Entry}
use Rattle.grid.specs.declared.nodes.Slots.{Slots}
use Rattle.reader.specs.declared.record.Record.{Record}
use Rattle.table.specs.Cells.{node_at, place_of, with_cell, with_flag}
use Rattle.table.specs.Placing.{fits, node₁, node₂, here, there, written}
use Rattle.reader.specs.declared.record.Marks.{Marks}
use Rattle.reader.specs.Model.{with_marks, State, state_of, stuck_at, begun, keeping, passed}
use Rattle.promises_calls.specs.Kept.{Shaped, Beyond, PieceKeeps, CloseKeeps, PieceShaped, CloseShaped}
use Rattle.promises_calls.proofs.Slotted.{room-is, grown-long}
use Rattle.promises_calls.proofs.Moves.{Keeps, piece-keeps-all, KeptByClosing, close-keeps-all}

-- ---- places

module _ (s : Slots) (e : Entry) (room : fits s e ≡ true) where
  pub here-below : here s e < 6_400
  unfolding here node₁ node₂ node_at place_of
  here-below = let r = room-is s e room in omega arith

  pub there-below : there s e < 6_400
  unfolding there node₁ node₂ node_at place_of
  there-below = let r = room-is s e room in omega arith

module _ (cells : List ℤ) (p : ℕ) (v : Complex) where
  pub cell-long : length (with_cell cells p v) ≡ length cells
  unfolding with_cell
  cell-long = simp length-set

  cell-past : p < 6_400 → drop 12_800 (with_cell cells p v) ≡ drop 12_800 cells
  unfolding with_cell
  cell-past h = drop-set-lt 12_800 (set cells (2 * p) v.re) (2 * p + 1) v.im (omega arith) ∙ drop-set-lt 12_800 cells (2 * p) v.re (omega arith)

module _ (flags : List ℕ) (p : ℕ) where
  pub flag-long : length (with_flag flags p) ≡ length flags
  unfolding with_flag
  flag-long = length-set flags p 1

  flag-past : p < 6_400 → drop 6_400 (with_flag flags p) ≡ drop 6_400 flags
  unfolding with_flag
  flag-past h = drop-set-lt 6_400 flags p 1 h

-- ---- what is past the lent cells and flags

module _ (before : State) where
  -- a change of the record alone
  carried : {s : State} (r : Record) → Beyond before s → Beyond before (state_of r s.cells s.flags)
  carried r b = record { cells = b.cells; flags = b.flags; past-cells = b.past-cells; past-flags = b.past-flags }

  pub beyond-keeps : Keeps (Beyond before)
  unfolding stuck_at begun keeping passed written
  beyond-keeps =
      record {
        stuck = λ number line s of-line b. carried _ b;
        line-begun = λ s more b. carried _ b;
        byte-kept = λ x s other room b. carried _ b;
        line-passed = λ s b. carried _ b;
        row-used = λ e s row f b.
            let p = here-below s.reader.slots e f.room in
            let q = there-below s.reader.slots e f.room in
            record {
              cells = cell-long _ _ _ ∙ cell-long _ _ _ ∙ b.cells;
              flags = flag-long _ _ ∙ flag-long _ _ ∙ b.flags;
              past-cells = cell-past _ _ _ q ∙ cell-past _ _ _ p ∙ b.past-cells;
              past-flags = flag-past _ _ q ∙ flag-past _ _ p ∙ b.past-flags;
            };
      }

  pub beyond-closes : KeptByClosing (Beyond before)
  beyond-closes =
      record {
        refused = λ stage pair s low high b. carried _ b;
        accepted = λ s some b. carried _ b;
      }

  pub beyond-none : Beyond before before
  beyond-none = record { cells = refl; flags = refl; past-cells = refl; past-flags = refl }

pub piece-keeps : PieceKeeps
piece-keeps text s = piece-keeps-all (Beyond s) (beyond-keeps s) text s (beyond-none s)

pub close-keeps : CloseKeeps
close-keeps s = close-keeps-all (beyond-closes s) (beyond-keeps s) s (beyond-none s)

-- ---- the record's arrays

abbrev pub ShapedIn : State → Type 0
ShapedIn s = Shaped s.reader

-- other marks, and as many bytes in the array
marked-shaped : (s : State) (m : Marks) (kept : List ℕ) → length kept ≡ 160 → ShapedIn s → ShapedIn (with_marks m kept s)
marked-shaped s m kept long b = record { ticks = b.ticks; headings = b.headings; kept = long }

pub shaped-keeps : Keeps ShapedIn
unfolding stuck_at begun keeping passed written
shaped-keeps =
    record {
      stuck = λ number line s of-line b. marked-shaped s _ _ b.kept b;
      line-begun = λ s more b. marked-shaped s _ _ b.kept b;
      byte-kept = λ x s other room b. marked-shaped s _ _ (length-set s.reader.kept s.reader.marks.count x ∙ b.kept) b;
      line-passed = λ s b. marked-shaped s _ _ b.kept b;
      row-used = λ e s row f b.
          let long = grown-long s.reader.slots e (b.ticks, b.headings) in
          record { ticks = long.0; headings = long.1; kept = b.kept };
    }

pub shaped-closes : KeptByClosing ShapedIn
shaped-closes =
    record {
      refused = λ stage pair s low high b. record { ticks = b.ticks; headings = b.headings; kept = b.kept };
      accepted = λ s some b. record { ticks = b.ticks; headings = b.headings; kept = b.kept };
    }

pub piece-shaped : PieceShaped
piece-shaped text s b = piece-keeps-all ShapedIn shaped-keeps text s b

pub close-shaped : CloseShaped
close-shaped s b = close-keeps-all shaped-closes shaped-keeps s b
