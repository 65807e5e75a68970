-- A table with a free slot in front of one that is held takes a new frequency there, and holds what it held: worked. Assumes nothing.
use mathlib.Core.List.Memᴰ
use mathlib.Core.List.{[], ◌∷◌, ◌++◌}
use mathlib.Core.Logic.{⊎_elim}
use mathlib.Core.Bool.{false}
use mathlib.Core.Path.{◌≡◌, refl, ap, ◌∙◌}
use Prim.Native.Nat.{ℕ, zero, suc, ◌≤◌}
use native.Mathlib.Omega.{arith}
use lib.Dec.{lit≤}
use lib.IntN.{pos}
use lib.ListN.{get_or, replicate}
use Rattle.whole.specs.Complex.{Complex}
use Rattle.grid.specs.declared.nodes.Slots.{Slots}
use Rattle.grid.specs.Slots.{slot_of, tick_slot, with_tick, held_ticks}
use Rattle.table.specs.Cells.{cells_lent, flags_lent, place_of}
use Rattle.table.specs.Placing.{value_of, Table, table_of, grown, placed}
use Rattle.table.specs.Closing.{node_of}
use Rattle.reader.specs.Model.{free_slots}
use Rattle.promises_rows.specs.Said.{first_of, Proper, mirror_of, arrive, arrived, distinct, Once, EachOnce, two_of, ticks_said, headings_said, ticks_of, headings_of}
use Rattle.promises_tables.specs.Rules.{TooMany, Differs, RowNumber}
use Rattle.promises_tables.specs.Holds.{TickSlots, HeadingSlots, Grid, grid_of, flagged_at, Holds}
use Rattle.promises_texts.specs.Arrival.{row_at, FreeSlotTaken}
use Rattle.promises_rows.proofs.Said.{says-cases, said-over, over_last}
use Rattle.promises_tables.proofs.Nodes.{node-small}
use Rattle.promises_tables.proofs.Placed.{open-holds, row-placed, row-exactly, taken-slots, taken-holds}
use Rattle.promises_tables.proofs.Taken.{clash, clash-blank, holds_more}
use Rattle.promises_tables.proofs.Grid.{write, open-blank, place-lt}

-- ---- the row of 500, in the second slot

abbrev slots : Slots
slots = record { ticks = 0 ∷ (500 ∷ replicate 18 0); headings = pos 30_000 ∷ replicate 3 (pos 0); held = 1 }

proper : (f : ℕ) → 100 ≤ f → f ≤ 10_000 → Proper 0 (row_at f)
proper f low high =
    record {
      tick1 = record { low = low; high = high };
      tick2 = record { low = low; high = high };
      heading1 = record { above = record { le = tt }; below = record { le = tt } };
      heading2 = record { above = record { le = tt }; below = record { le = tt } };
      re = record { above = record { le = tt }; below = record { le = tt } };
      im = record { above = record { le = tt }; below = record { le = tt } };
      real = λ _ _. refl;
    }

-- one value said twice
once-said : {A : Type 0} (x : A) → EachOnce (x ∷ []) (x ∷ (x ∷ []))
once-said x =
    record {
      once = Once.more Memᴰ.not-nil Once.none;
      values = λ y. (
        (λ m. Memᴰ.tail m),
        (λ m. ⊎_elim (λ e. Memᴰ.head e) (λ k. k) (Memᴰ.cases_cons m)),
      );
    }

ticks-are : TickSlots slots.ticks (ticks_said (row_at 500 ∷ []))
unfolding held_ticks two_of
ticks-are = record { long = refl; each = once-said 500 }

headings-are : HeadingSlots slots.headings slots.held (headings_said (row_at 500 ∷ []))
unfolding two_of
headings-are = record { long = refl; few = lit≤ tt; each = once-said (pos 30_000); behind = zeros }
  where
    zeros : (i : ℕ) → 1 ≤ i → get_or slots.headings i (pos 0) ≡ pos 0
    zeros zero h = absurd (omega arith)
    zeros (suc zero) h = refl
    zeros (suc (suc zero)) h = refl
    zeros (suc (suc (suc zero))) h = refl
    zeros (suc (suc (suc (suc i)))) h = refl

-- put into an opened table

abbrev opened : Table
opened = table_of free_slots (replicate cells_lent (pos 0) ++ []) (replicate flags_lent 0 ++ [])

abbrev place : ℕ
place = place_of (node_of slots (first_of (row_at 500))) (node_of slots (first_of (row_at 500)))

abbrev grid : Grid
grid = write (write (grid_of opened) place (value_of (row_at 500))) place (mirror_of 0 (value_of (row_at 500)))

unfoldable table : Table
table = table_of slots grid.cells grid.flags

place-free : (v : Complex) → clash (flagged_at (grid_of opened) place) v ≡ false
place-free v =
    let n = node-small (row_at 500 ∷ []) slots ticks-are headings-are (first_of (row_at 500)) (over_last [] (row_at 500)).0 in
    clash-blank _ v (open-blank [] [] place (place-lt _ _ n n))

holds-one : Holds 0 (row_at 500 ∷ []) table
unfolding table two_of
holds-one =
    holds_more 0 [] opened (open-holds 0 [] []) (row_at 500) slots ticks-are headings-are (λ a o. absurd (Memᴰ.not-nil o.tick))
    (proper 500 (lit≤ tt) (lit≤ tt))
    (place-free _)
    (place-free _)

-- ---- the row of 600, in the first

not-many : TooMany (row_at 500 ∷ (row_at 600 ∷ [])) → ⊥
unfolding ticks_of headings_of distinct arrived arrive two_of slot_of
not-many = ⊎_elim (λ h. omega arith) (λ h. omega arith)

no-differs : Differs 0 (row_at 500 ∷ []) (row_at 600) → ⊥
unfolding two_of
no-differs d =
    let new : d.a.tick ≡ 600 = says-cases {kind = 0} {e = row_at 600} (λ a b v. a.tick ≡ 600) refl refl d.says in
    ⊎_elim
    (λ e. omega arith)
    (λ m. ⊎_elim (λ e. omega arith) Memᴰ.not-nil (Memᴰ.cases_cons m))
    (Memᴰ.cases_cons (said-over d.said).0.tick)

is-taken : (placed 0 (row_at 600) table).number ≡ 0
is-taken =
    (row-exactly 0 (row_at 500 ∷ []) table (row_at 600) holds-one (proper 600 (lit≤ tt) (lit≤ tt)) 0).1 (RowNumber.none not-many no-differs)

takes_first : (grown table.slots (row_at 600)).ticks ≡ 600 ∷ (500 ∷ replicate 18 0)
unfolding table grown with_tick tick_slot slot_of
takes_first = refl

second-held : table.slots.ticks ≡ 0 ∷ (500 ∷ replicate 18 0)
unfolding table
second-held = refl

pub free-slot-taken : FreeSlotTaken
free-slot-taken = (
  table,
  record {
    second = second-held;
    holds = holds-one;
    taken = is-taken;
    first = ap (λ (s : Slots). s.ticks) (taken-slots 0 (row_at 600) table is-taken) ∙ takes_first;
    holds-both = taken-holds (row-placed 0 (row_at 500 ∷ []) table (row_at 600) holds-one (proper 600 (lit≤ tt) (lit≤ tt))) is-taken;
  },
)
