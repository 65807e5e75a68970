-- What a row comes to, in the words of the rules: 8 and 9 exactly when the row breaks them among the rows taken, else the table holds one row more. Assumes nothing.
use mathlib.Core.Bool.{Bool, true, false, ◌&&◌, ◌||◌, true≢false}
use mathlib.Core.List.Memᴰ
use mathlib.Core.List.{List, [], ◌∷◌, ◌++◌, Memᴰ}
use mathlib.Core.Logic.{◌⊎◌, inl, inr, ⊎_elim}
use mathlib.Core.Path.{◌≡◌, refl, sym, ap, ap₂, ◌∙◌, subst}
use Prim.Native.Nat.{ℕ, ◌<◌}
use native.Mathlib.Omega.{arith}
use native.Mathlib.Decide.{dec_lt}
use lib.Dec.{eqb, ltb, lit≤}
use lib.IntN.{ℤ, pos}
use lib.ListN.{length, get_or, get_or-replicate, get_or-eq_default}
use borrow.Author.Tests.{lt-ltb, le-ltb}
use Rattle.whole.specs.Same.{same_ℤ}
use Rattle.whole.specs.Complex.{Complex}
use Rattle.whole.proofs.Any.{either, neither}
use Rattle.row.specs.declared.reading.Entry.{Entry}
use Rattle.row.proofs.Used.{by-test}
use Rattle.grid.specs.declared.nodes.Node.{Node}
use Rattle.grid.specs.declared.nodes.Slots.{Slots}
use Rattle.grid.specs.Slots.{slot_of, held_ticks, heading_slot}
use Rattle.table.specs.Cells.{node_at, place_of, is_set, mirror}
use Rattle.table.specs.Placing.{
  tick₁,
  tick₂,
  heading₁,
  heading₂,
  fits,
  node₁,
  node₂,
  here,
  there,
  value_of,
  Table,
  clashes,
  grown,
  written,
  Placed,
  placed,
}
use Rattle.table.specs.Closing.{node_of}
use Rattle.reader.specs.Model.{free_slots}
use Rattle.promises_rows.specs.Said.{first_of, second_of, Proper, mirror_of, Says, Said, distinct, Once, two_of, ticks_said, headings_said, ticks_of, headings_of}
use Rattle.promises_rows.specs.Said.Says.{directly, mirrored}
use Rattle.promises_tables.specs.Rules.{TooMany, Differs, RowNumber, Consistent, RowRules}
use Rattle.promises_rows.specs.Said.{Over}
use Rattle.promises_tables.specs.Rules.RowNumber.{eight, nine, none}
use Rattle.promises_tables.specs.Holds.{TickSlots, HeadingSlots, grid_of, FlaggedCell, flagged_at, marked, Holds, OpenHolds, Outcome, RowPlaced, RowExactly, RowKeeps, LowestFree}
use Rattle.promises_tables.specs.Holds.Outcome.{refused, taken}
use Rattle.promises_rows.proofs.Equality.{Same_ℕ, Same_ℤ}
use Rattle.promises_calls.proofs.Moves.{by-placed}
use Rattle.promises_tables.proofs.Held.{Two, fit, full, two, slot-lowest, tick-arrives, heading-arrives, ticks-few, headings-few}
use Rattle.promises_rows.proofs.Said.{mirror-is, said-before, said-last, said-over, ticks_said-more, headings_said-more, over-before, over_last}
use Rattle.promises_tables.proofs.Nodes.{node-small, node-one}
use Rattle.promises_tables.proofs.Grid.{write, open-enough, open-blank, place-lt}
use Rattle.promises_tables.proofs.Taken.{clash, clash-blank, clash-same, holds_more}

-- ---- opening

free-heading : (i : ℕ) → get_or free_slots.headings i (pos 0) ≡ pos 0
free-heading i =
    elim (dec_lt i 4) [
      | yes h ↦ get_or-replicate 4 i (pos 0) (pos 0) h
      | no h ↦ get_or-eq_default free_slots.headings (pos 0) {n = i} (omega arith)
    ]

pub open-holds : OpenHolds
unfolding held_ticks two_of
open-holds kind cells flags =
    record {
      ticks = record { long = refl; each = record { once = Once.none; values = λ x. ((λ m. m), (λ m. m)) } };
      headings =
          record {
            long = refl;
            few = omega arith;
            each = record { once = Once.none; values = λ x. ((λ m. m), (λ m. m)) };
            behind = λ i h. free-heading i;
          };
      enough = open-enough cells flags;
      in_cells = λ a b v s. absurd (Memᴰ.not-nil s.listed);
      rest = λ n m hn hm. inl (open-blank cells flags (place_of n m) (place-lt n m hn hm));
      proper = λ e m. absurd (Memᴰ.not-nil m);
    }

-- ---- the rows that a table has taken keep the rules among themselves

pub row-rules : {kind : ℕ} {rows : List Entry} {t : Table} → Holds kind rows t → RowRules kind rows
row-rules {rows = rows} H =
    record {
      frequencies = let n = ticks-few rows H.ticks in omega arith;
      headings = let n = headings-few rows H.headings in omega arith;
      consistent = λ a b v w o u. ap (λ (s : FlaggedCell). s.value) (sym (H.in_cells a b v o) ∙ H.in_cells a b w u);
    }

-- so a row that is taken differs from none before it
pub no-differs : {kind : ℕ} {rows : List Entry} {e : Entry} → Consistent kind (rows ++ (e ∷ [])) → Differs kind rows e → ⊥
no-differs {rows = rows} {e = e} c d = d.differ (c _ _ _ _ (said-before (e ∷ []) d.said) (said-last rows d.says))

pub not-too-many : {kind : ℕ} {rows : List Entry} → RowRules kind rows → TooMany rows → ⊥
not-too-many r = ⊎_elim (λ h. let k = r.frequencies in omega arith) (λ h. let k = r.headings in omega arith)

-- a row gets one number
pub row-number-one : {kind : ℕ} {rows : List Entry} {e : Entry} {m n : ℕ} → RowNumber kind rows e m → RowNumber kind rows e n → m ≡ n
row-number-one (eight w) (eight u) = refl
row-number-one (eight w) (nine f d) = absurd (f w)
row-number-one (eight w) (none f g) = absurd (f w)
row-number-one (nine f d) (eight u) = absurd (f u)
row-number-one (nine f d) (nine g u) = refl
row-number-one (nine f d) (none g h) = absurd (h d)
row-number-one (none f g) (eight u) = absurd (f u)
row-number-one (none f g) (nine h d) = absurd (g d)
row-number-one (none f g) (none h k) = refl

-- ---- tests

and-false : (a b c d : Bool) → (a ≡ false) ⊎ (b ≡ false) → (a && (b && (c && d))) ≡ false
and-false false b c d e = refl
and-false true false c d e = refl
and-false true true c d e = absurd (⊎_elim true≢false true≢false e)

and-false' : (a b c d : Bool) → (c ≡ false) ⊎ (d ≡ false) → (a && (b && (c && d))) ≡ false
and-false' false b c d e = refl
and-false' true false c d e = refl
and-false' true true false d e = refl
and-false' true true true d e = ⊎_elim (λ x. absurd (true≢false x)) (λ x. x) e

-- the model's test of 9 is that of the flag with its cell
clashes-is : (t : Table) (p : ℕ) (v : Complex) → clashes t p v ≡ clash (flagged_at (grid_of t) p) v
unfolding clashes is_set clash flagged_at
clashes-is t p v = refl

-- ---- a row that is taken

module _ (kind : ℕ) (e : Entry) (t : Table) where
  -- has room, and the table has the slots that hold it too
  taken-both : (placed kind e t).number ≡ 0 → (fits t.slots e ≡ true) × ((placed kind e t).table.slots ≡ grown t.slots e)
  unfolding written
  taken-both =
      by-placed (λ (p : Placed). p.number ≡ 0 → (fits t.slots e ≡ true) × (p.table.slots ≡ grown t.slots e)) kind e t
      (λ f z. (f.room, refl))
      (λ z. absurd (omega arith))
      (λ z. absurd (omega arith))

  pub taken-room : (placed kind e t).number ≡ 0 → fits t.slots e ≡ true
  taken-room free = (taken-both free).0

  pub taken-slots : (placed kind e t).number ≡ 0 → (placed kind e t).table.slots ≡ grown t.slots e
  taken-slots free = (taken-both free).1

-- ---- one row more

module _ (kind : ℕ) (rows : List Entry) (t : Table) (e : Entry) (H : Holds kind rows t) (proper : Proper kind e) where
  abbrev s : Slots
  s = t.slots

  abbrev after : Slots
  after = grown s e

  abbrev all : List Entry
  all = rows ++ (e ∷ [])

  -- ---- the slots

  abbrev TicksTwo : Type 0
  TicksTwo =
      Two Same_ℕ 20 (tick₁ s e) (tick₂ s e) (ticks_said rows) e.tick1 e.tick2 (slot_of eqb s.ticks) (slot_of eqb after.ticks) (TickSlots after.ticks)

  abbrev HeadingsTwo : Type 0
  HeadingsTwo =
      Two Same_ℤ 4 (heading₁ s e) (heading₂ s e) (headings_said rows) e.heading1 e.heading2
      (heading_slot s.headings s.held)
      (heading_slot after.headings after.held)
      (HeadingSlots after.headings after.held)

  ticks-two : TicksTwo
  unfolding tick₁ tick₂ grown
  ticks-two =
      two Same_ℕ
      (tick-arrives s.ticks (ticks_said rows) H.ticks e.tick1 (let h = proper.tick1.low in omega arith))
      (λ h. tick-arrives _ _ h e.tick2 (let h = proper.tick2.low in omega arith))

  headings-two : HeadingsTwo
  unfolding heading₁ heading₂ grown
  headings-two =
      two Same_ℤ
      (heading-arrives s.headings s.held (headings_said rows) H.headings e.heading1)
      (λ h. heading-arrives _ _ _ h e.heading2)

  -- the test of 8, by the slots
  no-tick : (tick₁ s e ≡ 20) ⊎ (tick₂ s e ≡ 20) → fits s e ≡ false
  unfolding fits
  no-tick w =
      and-false (ltb (tick₁ s e) 20) (ltb (tick₂ s e) 20) (ltb (heading₁ s e) 4) (ltb (heading₂ s e) 4)
      (⊎_elim (λ z. inl (le-ltb (tick₁ s e) 20 (omega arith))) (λ z. inr (le-ltb (tick₂ s e) 20 (omega arith))) w)

  no-heading : (heading₁ s e ≡ 4) ⊎ (heading₂ s e ≡ 4) → fits s e ≡ false
  unfolding fits
  no-heading w =
      and-false' (ltb (tick₁ s e) 20) (ltb (tick₂ s e) 20) (ltb (heading₁ s e) 4) (ltb (heading₂ s e) 4)
      (⊎_elim (λ z. inl (le-ltb (heading₁ s e) 4 (omega arith))) (λ z. inr (le-ltb (heading₂ s e) 4 (omega arith))) w)

  -- ---- one value too many

  abbrev Result : Placed → Type 0
  Result = Outcome kind rows e t

  abbrev eighth : Placed
  eighth = record { number = 8; table = t }

  many-ticks : 20 < length (distinct eqb (ticks_said rows ++ (e.tick1 ∷ (e.tick2 ∷ [])))) → TooMany all
  unfolding ticks_of
  many-ticks h = inl (rw (ticks_said-more rows e) h)

  many-headings : 4 < length (distinct same_ℤ (headings_said rows ++ (e.heading1 ∷ (e.heading2 ∷ [])))) → TooMany all
  unfolding headings_of
  many-headings h = inr (rw (headings_said-more rows e) h)

  no_room : fits s e ≡ false → TooMany all → Result (placed kind e t)
  unfolding placed
  no_room w o = rw w (refused (lit≤ tt) (eight o))

  -- ---- room for the row: the slots hold it too, and a node over the rows before it keeps its number

  module _ (T : TickSlots after.ticks (ticks_said all)) (U : HeadingSlots after.headings after.held (headings_said all))
      (stays : (a : Node) → Over rows a → node_of after a ≡ node_of s a) where
    abbrev place : Node → Node → ℕ
    place a b = place_of (node_of after a) (node_of after b)

    room-left : TooMany all → ⊥
    room-left w = ⊎_elim (λ k. let n = ticks-few all T in omega arith) (λ k. let n = headings-few all U in omega arith) w

    -- a clash is two rows that differ
    differs :
        (a b : Node) (w : Complex) → Says kind e a b w → Over all a → Over all b → clash (flagged_at (grid_of t) (place a b)) w ≡ true
        → Differs kind rows e
    differs a b w says oa ob c =
        ⊎_elim
        (λ z. absurd (true≢false (sym c ∙ clash-blank _ w z)))
        (λ o.
        let over = said-over o.said in
        let is-a : o.a ≡ a = node-one all after T U o.a a (over-before rows e over.0) oa (stays o.a over.0 ∙ o.first) in
        let is_b : o.b ≡ b = node-one all after T U o.b b (over-before rows e over.1) ob (stays o.b over.1 ∙ o.second) in
        let stands : flagged_at (grid_of t) (place a b) ≡ marked o.v =
        ap₂ (λ (i j : ℕ). flagged_at (grid_of t) (place_of i j)) (sym o.first) (sym o.second) ∙ H.in_cells o.a o.b o.v o.said
        in
        record {
          a = a;
          b = b;
          before = o.v;
          now = w;
          said = subst (λ (z : Node). Said kind rows a z o.v) is_b (subst (λ (z : Node). Said kind rows z o.b o.v) is-a o.said);
          says = says;
          differ = λ same. true≢false (sym c ∙ clash-same _ w (stands ∙ ap marked same));
        })
        (H.rest _ _ (node-small all after T U a oa) (node-small all after T U b ob))

    module _ (here-is : here s e ≡ place (first_of e) (second_of e)) (there-is : there s e ≡ place (second_of e) (first_of e)) where
      abbrev clash-here : Bool
      clash-here = clash (flagged_at (grid_of t) (place (first_of e) (second_of e))) (value_of e)

      abbrev clash-there : Bool
      clash-there = clash (flagged_at (grid_of t) (place (second_of e) (first_of e))) (mirror_of kind (value_of e))

      -- the model's two tests are those at the places of the rules
      tests-are : clashes t (here s e) (value_of e) || clashes t (there s e) (mirror kind (value_of e)) ≡ clash-here || clash-there
      tests-are =
          λ i.
          (clashes-is t (here s e) (value_of e) ∙ ap (λ (p : ℕ). clash (flagged_at (grid_of t) p) (value_of e)) here-is) i
          || (clashes-is t (there s e) (mirror kind (value_of e)) ∙ (λ j. clash (flagged_at (grid_of t) (there-is j)) (mirror-is proper j))) i

      clash-case : clash-here || clash-there ≡ true → Result (record { number = 9; table = t })
      clash-case c =
          let (one, two) = over_last rows e in
          refused (lit≤ tt)
          (nine room-left
          (⊎_elim
          (differs (first_of e) (second_of e) (value_of e) directly one two)
          (differs (second_of e) (first_of e) (mirror_of kind (value_of e)) mirrored two one)
          (either _ _ c)))

      holds_after : clash-here || clash-there ≡ false → Holds kind all (written kind e t)
      unfolding written write
      holds_after c =
          let d = neither clash-here clash-there c in
          rw (here-is, there-is, mirror-is proper) (holds_more kind rows t H e after T U stays proper d.0 d.1)

      fine-case : clash-here || clash-there ≡ false → Result (record { number = 0; table = written kind e t })
      fine-case c = let held = holds_after c in taken (none room-left (no-differs (row-rules held).consistent)) held

      put_in : fits s e ≡ true → Result (placed kind e t)
      unfolding placed
      put_in room = rw (room, tests-are) (by-test Result (clash-here || clash-there) _ _ clash-case fine-case)

  -- ---- the outcome

  fits-true : tick₁ s e < 20 → tick₂ s e < 20 → heading₁ s e < 4 → heading₂ s e < 4 → fits s e ≡ true
  unfolding fits
  fits-true t₁ t₂ h₁ h₂ = rw (lt-ltb _ _ t₁, lt-ltb _ _ t₂, lt-ltb _ _ h₁, lt-ltb _ _ h₂)

  module _ (e₁ : tick₁ s e ≡ slot_of eqb after.ticks e.tick1) (e₂ : tick₂ s e ≡ slot_of eqb after.ticks e.tick2)
      (d₁ : heading₁ s e ≡ heading_slot after.headings after.held e.heading1)
      (d₂ : heading₂ s e ≡ heading_slot after.headings after.held e.heading2) where
    is-here : here s e ≡ place_of (node_of after (first_of e)) (node_of after (second_of e))
    unfolding here node₁ node₂ node_of
    is-here = ap₂ place_of (ap₂ node_at d₁ e₁) (ap₂ node_at d₂ e₂)

    is-there : there s e ≡ place_of (node_of after (second_of e)) (node_of after (first_of e))
    unfolding there node₁ node₂ node_of
    is-there = ap₂ place_of (ap₂ node_at d₂ e₂) (ap₂ node_at d₁ e₁)

  stay :
      ((z : ℕ) → Memᴰ z (ticks_said rows) → slot_of eqb after.ticks z ≡ slot_of eqb s.ticks z)
      → ((z : ℤ) → Memᴰ z (headings_said rows) → heading_slot after.headings after.held z ≡ heading_slot s.headings s.held z)
      → (a : Node) → Over rows a
      → node_of after a ≡ node_of s a
  unfolding node_of
  stay f g a o = ap₂ node_at (g a.heading o.heading) (f a.tick o.tick)

  by_slots : TicksTwo → HeadingsTwo → Result (placed kind e t)
  by_slots (full w n) headings = no_room (no-tick w) (many-ticks n)
  by_slots (fit t₁ t₂ e₁ e₂ f T) (full w n) = no_room (no-heading w) (many-headings n)
  by_slots (fit t₁ t₂ e₁ e₂ f T) (fit h₁ h₂ d₁ d₂ g U) =
      put_in
      (subst (TickSlots after.ticks) (sym (ticks_said-more rows e)) T)
      (subst (HeadingSlots after.headings after.held) (sym (headings_said-more rows e)) U)
      (stay f g)
      (is-here e₁ e₂ d₁ d₂)
      (is-there e₁ e₂ d₁ d₂)
      (fits-true t₁ t₂ h₁ h₂)

  placed_row : Outcome kind rows e t (placed kind e t)
  placed_row = by_slots ticks-two headings-two

  -- ---- what a row that is taken leaves as it was, and where a new frequency goes

  module _ (free : (placed kind e t).number ≡ 0) where
    has_room : fits s e ≡ false → ⊥
    has_room w = true≢false (sym (taken-room kind e t free) ∙ w)

    kept_by : TicksTwo → HeadingsTwo → (a : Node) → Over rows a → node_of after a ≡ node_of s a
    kept_by (full w n) headings = absurd (has_room (no-tick w))
    kept_by (fit t₁ t₂ e₁ e₂ f T) (full w n) = absurd (has_room (no-heading w))
    kept_by (fit t₁ t₂ e₁ e₂ f T) (fit h₁ h₂ d₁ d₂ g U) = stay f g

    lowest_by : (Memᴰ e.tick1 (ticks_said rows) → ⊥) → TicksTwo → slot_of eqb after.ticks e.tick1 ≡ slot_of eqb s.ticks 0
    unfolding tick₁
    lowest_by new (full w n) = absurd (has_room (no-tick w))
    lowest_by new (fit t₁ t₂ e₁ e₂ f T) =
        sym e₁ ∙ slot-lowest s.ticks (ticks_said rows) H.ticks e.tick1 (let h = proper.tick1.low in omega arith) new

    keeps-row : (a : Node) → Over rows a → node_of (placed kind e t).table.slots a ≡ node_of s a
    keeps-row = rw (taken-slots kind e t free) (kept_by ticks-two headings-two)

    lowest-row : (Memᴰ e.tick1 (ticks_said rows) → ⊥) → slot_of eqb (placed kind e t).table.slots.ticks e.tick1 ≡ slot_of eqb s.ticks 0
    lowest-row new = rw (taken-slots kind e t free) (lowest_by new ticks-two)

pub row-placed : RowPlaced
row-placed = placed_row

pub row_keeps : RowKeeps
row_keeps = keeps-row

pub lowest-free : LowestFree
lowest-free = lowest-row

-- ---- exactly when

number_is : {kind : ℕ} {rows : List Entry} {e : Entry} {t : Table} {p : Placed} → Outcome kind rows e t p → RowNumber kind rows e p.number
number_is (refused some w) = w
number_is (taken w held) = w

pub row-exactly : RowExactly
row-exactly kind rows t e H proper n =
    let w = number_is (row-placed kind rows t e H proper) in
    ((λ z. subst (RowNumber kind rows e) z w), (λ u. row-number-one w u))

-- so where it gets none the table holds it too
pub taken-holds : {kind : ℕ} {rows : List Entry} {e : Entry} {t : Table} {p : Placed} → Outcome kind rows e t p → p.number ≡ 0 → Holds kind (rows ++ (e ∷ [])) p.table
taken-holds (refused some w) z = absurd (omega arith)
taken-holds (taken w held) z = held
