-- One row keeps the table what the rows say: if it holds the rows taken, and the row clashes with nothing there, then it holds the rows with this one. Assumes nothing.
use mathlib.Core.Bool.{Bool, false, not, ◌&&◌}
use mathlib.Core.List.Memᴰ
use mathlib.Core.List.{List, [], ◌∷◌, ◌++◌}
use mathlib.Core.Logic.{◌⊎◌, inl, inr, ⊎_elim}
use mathlib.Core.Path.{◌≡◌, refl, sym, ap, ap₂, ◌∙◌, subst}
use Prim.Native.Nat.{ℕ, ◌<◌}
use lib.Dec.{eqb}
use borrow.Author.Tests.{not-false}
use Rattle.whole.specs.Complex.{Complex}
use Rattle.row.specs.declared.reading.Entry.{Entry}
use Rattle.grid.specs.declared.nodes.Node.{Node}
use Rattle.grid.specs.declared.nodes.Slots.{Slots}
use Rattle.table.specs.Cells.{place_of, same_value}
use Rattle.table.specs.Placing.{value_of, Table, table_of}
use Rattle.table.specs.Closing.{node_of}
use Rattle.promises_rows.specs.Said.{first_of, second_of, Proper, mirror_of, Says, Said, ticks_said, headings_said}
use Rattle.promises_rows.specs.Said.Says.{directly, mirrored}
use Rattle.promises_rows.specs.Said.{Over}
use Rattle.promises_tables.specs.Holds.{TickSlots, HeadingSlots, Grid, grid_of, FlaggedCell, flagged_at, marked, blank, SaidAt, Holds}
use Rattle.promises_rows.proofs.Equality.{same_value-true, same_value-self}
use Rattle.promises_tables.proofs.Grid.{write, write-enough, Twice, first, second, neither as untouched, write-twice, place-injective, place-lt}
use Rattle.promises_tables.proofs.Nodes.{node-small, node-one}
use Rattle.promises_rows.proofs.Said.{proper-mirror, says-cases, said-before, said-last, said-cases, said-over, over_last}

-- ---- the test of 9

unfoldable pub clash : FlaggedCell → Complex → Bool
clash s v = not (eqb s.flag 0) && not (same_value s.value v)

-- where a value stands and there is no clash, it is the row's
pub no-clash : (s : FlaggedCell) (v w : Complex) → clash s v ≡ false → s ≡ marked w → w ≡ v
unfolding clash
no-clash s v w c m = same_value-true w v (not-false (same_value w v) (subst (λ (d : FlaggedCell). clash d v ≡ false) m c))

pub clash-blank : (s : FlaggedCell) (v : Complex) → s ≡ blank → clash s v ≡ false
unfolding clash
clash-blank s v m = subst (λ (d : FlaggedCell). clash d v ≡ false) (sym m) refl

pub clash-same : (s : FlaggedCell) (v : Complex) → s ≡ marked v → clash s v ≡ false
unfolding clash
clash-same s v m = subst (λ (d : FlaggedCell). clash d v ≡ false) (sym m) (rw (same_value-self v))

-- ---- a row that is put

-- the slots that hold the row too, where each node over the rows before it keeps its number
module _ (kind : ℕ) (rows : List Entry) (t : Table) (H : Holds kind rows t) (e : Entry) (s : Slots)
    (T : TickSlots s.ticks (ticks_said (rows ++ (e ∷ [])))) (U : HeadingSlots s.headings s.held (headings_said (rows ++ (e ∷ []))))
    (stays : (a : Node) → Over rows a → node_of s a ≡ node_of t.slots a) (proper : Proper kind e) where
  abbrev place : Node → Node → ℕ
  place a b = place_of (node_of s a) (node_of s b)

  abbrev p : ℕ
  p = place (first_of e) (second_of e)

  abbrev q : ℕ
  q = place (second_of e) (first_of e)

  abbrev before : Grid
  before = grid_of t

  abbrev after : Grid
  after = write (write before p (value_of e)) q (mirror_of kind (value_of e))

  abbrev Wrote : ℕ → Type 0
  Wrote at = Twice before after p q (value_of e) (mirror_of kind (value_of e)) at

  small_one : node_of s (first_of e) < 80
  small_one = node-small (rows ++ (e ∷ [])) s T U (first_of e) (over_last rows e).0

  small-two : node_of s (second_of e) < 80
  small-two = node-small (rows ++ (e ∷ [])) s T U (second_of e) (over_last rows e).1

  -- where the cell is its own mirror, the two values are one
  one_place : p ≡ q → mirror_of kind (value_of e) ≡ value_of e
  one_place same =
      proper-mirror proper
      (node-one (rows ++ (e ∷ [])) s T U (first_of e) (second_of e) (over_last rows e).0 (over_last rows e).1
      (place-injective small-two small_one same).0)

  wrote : (at : ℕ) → Wrote at
  wrote =
      write-twice before p q (value_of e) (mirror_of kind (value_of e)) H.enough (place-lt _ _ small_one small-two)
      (place-lt _ _ small-two small_one)
      one_place

  -- what the row says
  new-in-cells : (a b : Node) (v : Complex) → Says kind e a b v → flagged_at after (place a b) ≡ marked v
  new-in-cells a b v = says-cases (λ c d w. flagged_at after (place c d) ≡ marked w) (direct (wrote p)) (reverse (wrote q))
    where
      direct : Wrote p → flagged_at after p ≡ marked (value_of e)
      direct (first same f) = f
      direct (second same f) = f ∙ ap marked (one_place same)
      direct (untouched n m f) = absurd (n refl)

      reverse : Wrote q → flagged_at after q ≡ marked (mirror_of kind (value_of e))
      reverse (first same f) = f ∙ ap marked (sym (one_place (sym same)))
      reverse (second same f) = f
      reverse (untouched n m f) = absurd (m refl)

  module _ (here-free : clash (flagged_at before p) (value_of e) ≡ false) (there-free : clash (flagged_at before q) (mirror_of kind (value_of e)) ≡ false) where
    -- what rows before it say
    old-in-cells : (a b : Node) (v : Complex) → Said kind rows a b v → flagged_at after (place a b) ≡ marked v
    old-in-cells a b v o = go (wrote (place a b))
      where
        stood : flagged_at before (place a b) ≡ marked v
        stood = let n = said-over o in ap₂ (λ (i j : ℕ). flagged_at before (place_of i j)) (stays a n.0) (stays b n.1) ∙ H.in_cells a b v o

        go : Wrote (place a b) → flagged_at after (place a b) ≡ marked v
        go (first same f) = f ∙ ap marked (sym (no-clash _ (value_of e) v here-free (ap (flagged_at before) (sym same) ∙ stood)))
        go (second same f) =
            f ∙ ap marked (sym (no-clash _ (mirror_of kind (value_of e)) v there-free (ap (flagged_at before) (sym same) ∙ stood)))
        go (untouched n m f) = f ∙ stood

    rest-new : (n m : ℕ) → n < 80 → m < 80 → (flagged_at after (place_of n m) ≡ blank) ⊎ SaidAt kind (rows ++ (e ∷ [])) s n m
    rest-new n m hn hm = go (wrote (place_of n m))
      where
        go : Wrote (place_of n m) → (flagged_at after (place_of n m) ≡ blank) ⊎ SaidAt kind (rows ++ (e ∷ [])) s n m
        go (first same f) =
            let i = place-injective small-two hm (sym same) in
            inr (record { a = first_of e; b = second_of e; v = value_of e; said = said-last rows directly; first = i.0; second = i.1 })
        go (second same f) =
            let i = place-injective small_one hm (sym same) in
            inr
            (record {
              a = second_of e;
              b = first_of e;
              v = mirror_of kind (value_of e);
              said = said-last rows mirrored;
              first = i.0;
              second = i.1;
            })
        go (untouched _ _ f) =
            ⊎_elim
            (λ z. inl (f ∙ z))
            (λ o.
            let over = said-over o.said in
            inr
            (record {
              a = o.a;
              b = o.b;
              v = o.v;
              said = said-before (e ∷ []) o.said;
              first = stays o.a over.0 ∙ o.first;
              second = stays o.b over.1 ∙ o.second;
            }))
            (H.rest n m hn hm)

    pub holds_more :
        Holds kind (rows ++ (e ∷ []))
        (table_of s
        (write (write (grid_of t) (place_of (node_of s (first_of e)) (node_of s (second_of e))) (value_of e)) (place_of (node_of s (second_of e)) (node_of s (first_of e))) (mirror_of kind (value_of e))).cells
        (write (write (grid_of t) (place_of (node_of s (first_of e)) (node_of s (second_of e))) (value_of e)) (place_of (node_of s (second_of e)) (node_of s (first_of e))) (mirror_of kind (value_of e))).flags)
    holds_more =
        record {
          ticks = T;
          headings = U;
          enough = write-enough _ q (mirror_of kind (value_of e)) (write-enough before p (value_of e) H.enough);
          in_cells = λ a b v o. ⊎_elim (old-in-cells a b v) (new-in-cells a b v) (said-cases rows e o);
          rest = rest-new;
          proper = λ u m.
              ⊎_elim (H.proper u) (λ l. subst (Proper kind) (sym (Memᴰ.eq_of_singleton l)) proper) (Memᴰ.append_cases rows m);
        }
