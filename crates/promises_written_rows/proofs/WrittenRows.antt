-- What a used row writes and what is read, by index. The lists of 12,800 and 6,400 stay symbolic: of them only their lengths are known, and the laws of `get_or` and `set`. Assumes nothing.
use mathlib.Core.Bool.{Bool, true, false, cond, not, ◌&&◌, ◌||◌, true≢false, false≢true}
use mathlib.Core.List.{List}
use mathlib.Core.Logic.{◌⊎◌, inl, inr, ⊎_elim}
use mathlib.Core.Path.{◌≡◌, refl, sym, ap, ap₂, subst, ◌∙◌}
use Prim.Native.Nat.{ℕ, ◌+◌, ◌*◌, ◌≤◌, ◌<◌}
use native.Mathlib.Omega.{arith}
use native.Mathlib.Decide.{ℕ_discrete}
use lib.Dec.{eqb}
use lib.IntN.{ℤ, pos, neg_ℤ}
use lib.ListN.{length, get_or, set, length-set}
use lib.Seq.{get_or-set_same, get_or-set_other}
use borrow.Author.Tests.{lt-ltb, eqb-true, eq-eqb, ne_eqb, not-true, not-false}
use Rattle.whole.specs.Complex.{Complex}
use Rattle.whole.proofs.Any.{either, neither}
use Rattle.row.specs.declared.reading.Entry.{Entry}
use Rattle.row.proofs.Used.{by-test}
use Rattle.row.proofs.Deciding.{both}
use Rattle.grid.specs.declared.nodes.Node.{Node}
use Rattle.grid.specs.declared.nodes.Slots.{Slots}
use Rattle.grid.specs.Slots.{slot_of, tick_slot, with_tick, heading_slot, with_heading, held_with}
use Rattle.table.specs.Cells.{node_at, place_of, cell_at, is_set, with_cell, with_flag, same_value, mirror}
use Rattle.table.specs.Placing.{tick₁, tick₂, heading₁, heading₂, node₁, node₂, here, there, fits, value_of, Table, clashes, grown, written, Placed, placed}
use Rattle.table.specs.Closing.{node_of}
use Rattle.table.specs.Entries.{entry_at}
use Rattle.table.proofs.Outcomes.{Room, has_room}
use Rattle.promises_rows.specs.Said.{first_of, second_of, Proper, mirror_of}
use Rattle.promises_rows.proofs.Equality.{Same_ℕ, node-path, value-path, same_value-true, same_value-self}
use Rattle.promises_rows.proofs.Said.{mirror-is, proper-mirror}
use Rattle.promises_written_rows.specs.WrittenRows.{Wide, StandsIn, NodeIn, Lent, FlagsAfter, SlotsAfter, TickTakes, HeadingTakes, RowTakes, SetToOther, Contradicts, NumberIs, NumberExactly, RowWrote, UsedRowWrites, RefusedRowWrites, QueryReads, FlagPlaced}
use Rattle.promises_written_rows.proofs.Slots.{
  stands-slot,
  tick-takes,
  takes-tick,
  heading-at,
  heading-takes,
  takes-heading,
  tick-rest,
  tick-stands,
  tick-keeps,
  heading-rest,
  held_more,
  held-least,
  heading-stands,
  heading-keeps,
}

-- ---- one cell, one flag

module _ (l : List ℤ) (p : ℕ) (v : Complex) where
  cell-long : length (with_cell l p v) ≡ length l
  unfolding with_cell
  cell-long = simp length-set

  cell-re : 2 * p < length l → get_or (with_cell l p v) (2 * p) (pos 0) ≡ v.re
  unfolding with_cell
  cell-re h =
      get_or-set_other (set l (2 * p) v.re) (2 * p + 1) (2 * p) v.im (pos 0) (λ e. omega arith)
      ∙ get_or-set_same l (2 * p) v.re (pos 0) h

  cell-im : 2 * p + 1 < length l → get_or (with_cell l p v) (2 * p + 1) (pos 0) ≡ v.im
  unfolding with_cell
  cell-im h =
      let n = length-set l (2 * p) v.re in
      get_or-set_same (set l (2 * p) v.re) (2 * p + 1) v.im (pos 0) (omega arith)

  cell-rest : (i : ℕ) → (i ≡ 2 * p → ⊥) → (i ≡ 2 * p + 1 → ⊥) → get_or (with_cell l p v) i (pos 0) ≡ get_or l i (pos 0)
  unfolding with_cell
  cell-rest i m n =
      get_or-set_other (set l (2 * p) v.re) (2 * p + 1) i v.im (pos 0) n
      ∙ get_or-set_other l (2 * p) i v.re (pos 0) m

-- ---- two cells and two flags, at p and then at q: where the two places are one, the two values are one

module _ (l : List ℤ) (p q : ℕ) (v w : Complex) (long : 12_800 ≤ length l) (hp : p < 6_400) (hq : q < 6_400) (one : p ≡ q → w ≡ v) where
  abbrev twice : List ℤ
  twice = with_cell (with_cell l p v) q w

  twice-long : length twice ≡ length l
  twice-long = cell-long (with_cell l p v) q w ∙ cell-long l p v

  second-re : get_or twice (2 * q) (pos 0) ≡ w.re
  second-re = let n = cell-long l p v in cell-re (with_cell l p v) q w (omega arith)

  second-im : get_or twice (2 * q + 1) (pos 0) ≡ w.im
  second-im = let n = cell-long l p v in cell-im (with_cell l p v) q w (omega arith)

  first-re : get_or twice (2 * p) (pos 0) ≡ v.re
  first-re =
      elim (ℕ_discrete p q) [
        | yes e ↦ ap (λ (n : ℕ). get_or twice (2 * n) (pos 0)) e ∙ second-re ∙ ap (λ (z : Complex). z.re) (one e)
        | no n ↦ cell-rest (with_cell l p v) q w (2 * p) (λ z. n (omega arith)) (λ z. omega arith) ∙ cell-re l p v (omega arith)
      ]

  first-im : get_or twice (2 * p + 1) (pos 0) ≡ v.im
  first-im =
      elim (ℕ_discrete p q) [
        | yes e ↦ ap (λ (n : ℕ). get_or twice (2 * n + 1) (pos 0)) e ∙ second-im ∙ ap (λ (z : Complex). z.im) (one e)
        | no n ↦ cell-rest (with_cell l p v) q w (2 * p + 1) (λ z. omega arith) (λ z. n (omega arith)) ∙ cell-im l p v (omega arith)
      ]

  twice-rest :
      (i : ℕ) → (i ≡ 2 * p → ⊥) → (i ≡ 2 * p + 1 → ⊥) → (i ≡ 2 * q → ⊥) → (i ≡ 2 * q + 1 → ⊥) → get_or twice i (pos 0) ≡ get_or l i (pos 0)
  twice-rest i a b c d = cell-rest (with_cell l p v) q w i c d ∙ cell-rest l p v i a b

module _ (l : List ℕ) (r c : ℕ) (long : 6_400 ≤ length l) (hr : r < 80) (hc : c < 80) where
  flags-after : FlagsAfter r c l (with_flag (with_flag l (80 * r + c)) (80 * c + r))
  unfolding with_flag
  flags-after =
      let p = 80 * r + c in
      let q = 80 * c + r in
      let n = length-set l p 1 in
      let second : get_or (set (set l p 1) q 1) q 0 ≡ 1 = get_or-set_same (set l p 1) q 1 0 (omega arith) in
      record {
        flag =
            elim (ℕ_discrete p q) [
              | yes e ↦ ap (λ (k : ℕ). get_or (set (set l p 1) q 1) k 0) e ∙ second
              | no z ↦ get_or-set_other (set l p 1) q p 1 0 z ∙ get_or-set_same l p 1 0 (omega arith)
            ];
        mirror-flag = second;
        rest = λ i a b. get_or-set_other (set l p 1) q i 1 0 b ∙ get_or-set_other l p i 1 0 a;
        as_many = length-set (set l p 1) q 1 ∙ n;
      }

-- ---- the mirror

module _ (kind : ℕ) (e : Entry) (proper : Proper kind e) where
  mirror-same-re : (mirror kind (value_of e)).re ≡ e.re
  unfolding mirror
  mirror-same-re = refl

  mirror-difference : kind ≡ 0 → (mirror kind (value_of e)).im ≡ neg_ℤ e.im
  unfolding mirror_of
  mirror-difference z = ap (λ (v : Complex). v.im) (mirror-is proper) ∙ by_kind (eq-eqb kind 0 z)
    where
      by_kind : eqb kind 0 ≡ true → (cond (eqb kind 0) (record { re = e.re; im = neg_ℤ e.im }) (value_of e)).im ≡ neg_ℤ e.im
      by_kind t = rw t

  mirror-sum : (kind ≡ 0 → ⊥) → (mirror kind (value_of e)).im ≡ e.im
  unfolding mirror
  mirror-sum z = rw (ne_eqb kind 0 z)

-- ---- the slots of a row that has room

module _ (s : Slots) (e : Entry) (wide : Wide s) (some1 : e.tick1 ≡ 0 → ⊥) (some2 : e.tick2 ≡ 0 → ⊥) (room : Room (tick₁ s e) (tick₂ s e) (heading₁ s e) (heading₂ s e)) where
  abbrev ticks-one : List ℕ
  ticks-one = with_tick s.ticks e.tick1

  abbrev headings-one : List ℤ
  headings-one = with_heading s.headings s.held e.heading1

  abbrev held_one : ℕ
  held_one = held_with s.headings s.held e.heading1

  ticks-long : length ticks-one ≡ 20
  unfolding with_tick
  ticks-long = length-set s.ticks _ e.tick1 ∙ wide.ticks

  headings-long : length headings-one ≡ 4
  unfolding with_heading
  headings-long = length-set s.headings _ e.heading1 ∙ wide.headings

  node-one : NodeIn (grown s e) e.tick1 e.heading1 (tick₁ s e) (heading₁ s e)
  unfolding grown tick₁ tick₂ heading₁ heading₂
  node-one =
      let t = ticks-long in
      let w = wide.ticks in
      let u = wide.headings in
      let v = headings-long in
      let r1 = room.first-tick in
      let r2 = room.second-tick in
      let r3 = room.first-heading in
      let r4 = room.second-heading in
      let more = held_more s.headings s.held e.heading1 in
      let least = held-least headings-one held_one e.heading2 in
      record {
        one-of-twenty = r1;
        one-of-four = r3;
        among-held = omega arith;
        tick-stands = tick-keeps ticks-one e.tick2 (omega arith) e.tick1 _ some1 (omega arith) (tick-stands s.ticks e.tick1 (omega arith));
        heading-stands =
            heading-keeps headings-one held_one e.heading2 (omega arith) e.heading1 _ more
            (heading-stands s.headings s.held e.heading1 (omega arith));
      }

  node-two : NodeIn (grown s e) e.tick2 e.heading2 (tick₂ s e) (heading₂ s e)
  unfolding grown tick₁ tick₂ heading₁ heading₂
  node-two =
      let t = ticks-long in
      let v = headings-long in
      let r2 = room.second-tick in
      let r4 = room.second-heading in
      record {
        one-of-twenty = r2;
        one-of-four = r4;
        among-held = held_more headings-one held_one e.heading2;
        tick-stands = tick-stands ticks-one e.tick2 (omega arith);
        heading-stands = heading-stands headings-one held_one e.heading2 (omega arith);
      }

  row-takes : RowTakes s e (tick₁ s e) (heading₁ s e) (tick₂ s e) (heading₂ s e)
  unfolding tick₁ tick₂ heading₁ heading₂ with_tick with_heading
  row-takes =
      record {
        per1 = tick-takes s.ticks e.tick1 wide.ticks room.first-tick;
        per2 = tick-takes ticks-one e.tick2 ticks-long room.second-tick;
        held_first = held_one;
        held-second = held_with headings-one held_one e.heading2;
        beta1 = heading-takes s.headings s.held e.heading1 wide.headings room.first-heading;
        beta2 = heading-takes headings-one held_one e.heading2 headings-long room.second-heading;
      }

  ticks-after : SlotsAfter 0 (tick₁ s e) (tick₂ s e) s.ticks (grown s e).ticks
  unfolding grown tick₁ tick₂ with_tick
  ticks-after =
      record {
        rest = λ i m n. tick-rest (with_tick s.ticks e.tick1) e.tick2 i n ∙ tick-rest s.ticks e.tick1 i m;
        as_many = simp length-set;
      }

  headings-after : SlotsAfter (pos 0) (heading₁ s e) (heading₂ s e) s.headings (grown s e).headings
  unfolding grown heading₁ heading₂ with_heading
  headings-after =
      record {
        rest = λ i m n.
            heading-rest (with_heading s.headings s.held e.heading1) (held_with s.headings s.held e.heading1) e.heading2 i n
            ∙ heading-rest s.headings s.held e.heading1 i m;
        as_many = simp length-set;
      }

-- ---- a row

room_of : (s : Slots) (e : Entry) → fits s e ≡ true → Room (tick₁ s e) (tick₂ s e) (heading₁ s e) (heading₂ s e)
unfolding fits
room_of s e fit = has_room fit

-- two nodes with one number are in the same slots, and two places that are one have one node twice
one-slot : {f1 h1 f2 h2 : ℕ} → f1 < 20 → f2 < 20 → 20 * h1 + f1 ≡ 20 * h2 + f2 → (f1 ≡ f2) × (h1 ≡ h2)
one-slot a b e = (omega arith, omega arith)

one-node : (r c : ℕ) → 80 * r + c ≡ 80 * c + r → r ≡ c
one-node r c e = omega arith

module _ (kind : ℕ) (e : Entry) (t : Table) (proper : Proper kind e) (lent : Lent t) (fit : fits t.slots e ≡ true) where
  abbrev s : Slots
  s = t.slots

  room : Room (tick₁ s e) (tick₂ s e) (heading₁ s e) (heading₂ s e)
  room = room_of s e fit

  first-in : NodeIn (grown s e) e.tick1 e.heading1 (tick₁ s e) (heading₁ s e)
  first-in = node-one s e lent.slots (λ z. omega (arith, z, proper.tick1.low)) (λ z. omega (arith, z, proper.tick2.low)) room

  second-in : NodeIn (grown s e) e.tick2 e.heading2 (tick₂ s e) (heading₂ s e)
  second-in = node-two s e lent.slots (λ z. omega (arith, z, proper.tick1.low)) (λ z. omega (arith, z, proper.tick2.low)) room

  abbrev r : ℕ
  r = 20 * heading₁ s e + tick₁ s e

  abbrev c : ℕ
  c = 20 * heading₂ s e + tick₂ s e

  r_small : r < 80
  r_small = omega (arith, room.first-tick, room.first-heading)

  c-small : c < 80
  c-small = omega (arith, room.second-tick, room.second-heading)

  -- one place for both is one node twice
  same-node : 80 * r + c ≡ 80 * c + r → first_of e ≡ second_of e
  same-node z =
      let (f, h) = one-slot room.first-tick room.second-tick (one-node r c z) in
      node-path
      (sym first-in.tick-stands.there ∙ ap (λ (i : ℕ). get_or (grown s e).ticks i 0) f ∙ second-in.tick-stands.there)
      (sym first-in.heading-stands.there ∙ ap (λ (i : ℕ). get_or (grown s e).headings i (pos 0)) h ∙ second-in.heading-stands.there)

  one_value : 80 * r + c ≡ 80 * c + r → mirror kind (value_of e) ≡ value_of e
  one_value z = mirror-is proper ∙ proper-mirror proper (same-node z)

  wrote : RowWrote kind e t (written kind e t)
  unfolding written grown row-takes here there node₁ node₂ place_of node_at
  wrote =
      let l = t.cells in
      let p = 80 * r + c in
      let q = 80 * c + r in
      let v = value_of e in
      let w = mirror kind v in
      let m = r_small in
      let n = c-small in
      let hp : p < 6_400 = omega arith in
      let hq : q < 6_400 = omega arith in
      record {
        f1 = tick₁ s e;
        h1 = heading₁ s e;
        f2 = tick₂ s e;
        h2 = heading₂ s e;
        takes = row-takes s e lent.slots (λ z. omega (arith, z, proper.tick1.low)) (λ z. omega (arith, z, proper.tick2.low)) room;
        first-node = first-in;
        second-node = second-in;
        ticks = ticks-after s e lent.slots (λ z. omega (arith, z, proper.tick1.low)) (λ z. omega (arith, z, proper.tick2.low)) room;
        headings = headings-after s e lent.slots (λ z. omega (arith, z, proper.tick1.low)) (λ z. omega (arith, z, proper.tick2.low)) room;
        held = refl;
        cells =
            record {
              re = first-re l p q v w lent.cells hp hq one_value;
              im = first-im l p q v w lent.cells hp hq one_value;
              mirror-re = second-re l p q v w lent.cells hp hq one_value ∙ mirror-same-re kind e proper;
              mirror-in-difference = λ z. second-im l p q v w lent.cells hp hq one_value ∙ mirror-difference kind e proper z;
              mirror-in-sum = λ z. second-im l p q v w lent.cells hp hq one_value ∙ mirror-sum kind e proper z;
              rest = twice-rest l p q v w lent.cells hp hq one_value;
              as_many = twice-long l p q v w lent.cells hp hq one_value;
            };
        flags = flags-after t.flags r c lent.flags m n;
      }

-- ---- outcomes, with the tests that lead to them

module _ (kind : ℕ) (e : Entry) (t : Table) where
  abbrev tests : Bool
  tests = clashes t (here t.slots e) (value_of e) || clashes t (there t.slots e) (mirror kind (value_of e))

  by_tests :
      (Q : Placed → Type 0) → (fits t.slots e ≡ true → tests ≡ true → Q (record { number = 9; table = t }))
      → (fits t.slots e ≡ true → tests ≡ false → Q (record { number = 0; table = written kind e t }))
      → (fits t.slots e ≡ false → Q (record { number = 8; table = t }))
      → Q (placed kind e t)
  unfolding placed
  by_tests Q nine taken eight = by-test Q (fits t.slots e) _ _ (λ fit. by-test Q tests _ _ (nine fit) (taken fit)) eight

pub used-row-writes : UsedRowWrites
used-row-writes kind e t proper lent =
    by_tests kind e t (λ (p : Placed). p.number ≡ 0 → RowWrote kind e t p.table)
    (λ fit clash z. absurd (omega arith))
    (λ fit free z. wrote kind e t proper lent fit)
    (λ full z. absurd (omega arith))

pub refused-row-writes : RefusedRowWrites
refused-row-writes kind e t =
    by_tests kind e t (λ (p : Placed). (p.number ≡ 0 → ⊥) → p.table ≡ t) (λ fit clash n. refl) (λ fit free n. absurd (n refl)) (λ full n. refl)

-- ---- 8 and 9

-- one of two fails
lacks-one : (a b : Bool) → (a && b) ≡ false → (a ≡ false) ⊎ (b ≡ false)
lacks-one true b e = inr e
lacks-one false b e = inl refl

module _ (t : Table) (r c : ℕ) (v : Complex) where
  abbrev place : ℕ
  place = 80 * r + c

  clash-is : clashes t (80 * r + c) v ≡ true → SetToOther t r c v.re v.im
  unfolding clashes is_set cell_at
  clash-is e =
      let f = both (is_set t.flags place) (not (same_value (cell_at t.cells place) v)) e in
      record {
        set = λ z. false≢true (sym (not-true (eqb (get_or t.flags place 0) 0) f.0) ∙ eq-eqb (get_or t.flags place 0) 0 z);
        other = λ a b.
            false≢true
            (sym (not-true (same_value (cell_at t.cells place) v) f.1)
            ∙ subst (λ (w : Complex). same_value (cell_at t.cells place) w ≡ true) (value-path {v = cell_at t.cells place} {w = v} a b)
            (same_value-self (cell_at t.cells place)));
      }

  no-clash : clashes t (80 * r + c) v ≡ false → SetToOther t r c v.re v.im → ⊥
  unfolding clashes is_set cell_at
  no-clash e h =
      ⊎_elim
      (λ f. h.set (eqb-true (get_or t.flags place 0) 0 (not-false (eqb (get_or t.flags place 0) 0) f)))
      (λ f.
      let same = same_value-true (cell_at t.cells place) v (not-false (same_value (cell_at t.cells place) v) f) in
      h.other (ap (λ (w : Complex). w.re) same) (ap (λ (w : Complex). w.im) same))
      (lacks-one (is_set t.flags place) (not (same_value (cell_at t.cells place) v)) e)

-- the slots by the rule are those by the definitions
tick-below : {l : List ℕ} {t f : ℕ} → TickTakes l t f → f < 20
tick-below (TickTakes.stood room s) = room
tick-below (TickTakes.lowest-free out room s) = room

heading-below : {l : List ℤ} {held : ℕ} {z : ℤ} {h more : ℕ} → HeadingTakes l held z h more → h < 4
heading-below (HeadingTakes.stood room low s after) = room
heading-below (HeadingTakes.next out room at after) = omega arith

module _ (s : Slots) (e : Entry) (wide : Wide s) (f1 h1 f2 h2 : ℕ) (k : RowTakes s e f1 h1 f2 h2) where
  is-tick₁ : tick₁ s e ≡ f1
  unfolding tick₁
  is-tick₁ = takes-tick s.ticks e.tick1 wide.ticks k.per1

  is-tick₂ : tick₂ s e ≡ f2
  unfolding tick₁ tick₂ with_tick
  is-tick₂ =
      ap (λ (i : ℕ). tick_slot (set s.ticks i e.tick1) e.tick2) is-tick₁
      ∙ takes-tick (set s.ticks f1 e.tick1) e.tick2 (length-set s.ticks f1 e.tick1 ∙ wide.ticks) k.per2

  is-heading₁ : heading₁ s e ≡ h1
  unfolding heading₁
  is-heading₁ = (takes-heading s.headings s.held e.heading1 wide.headings k.beta1).0

  is-heading₂ : heading₂ s e ≡ h2
  unfolding heading₁ heading₂ with_heading
  is-heading₂ =
      ap₂ (λ (i n : ℕ). heading_slot (set s.headings i e.heading1) n e.heading2) is-heading₁
      (takes-heading s.headings s.held e.heading1 wide.headings k.beta1).1
      ∙ (takes-heading (set s.headings h1 e.heading1) k.held_first e.heading2 (length-set s.headings h1 e.heading1 ∙ wide.headings) k.beta2).0

  takes-fits : fits s e ≡ true
  unfolding fits
  takes-fits =
      rw (
        lt-ltb (tick₁ s e) 20 (omega (arith, is-tick₁, tick-below k.per1)),
        lt-ltb (tick₂ s e) 20 (omega (arith, is-tick₂, tick-below k.per2)),
        lt-ltb (heading₁ s e) 4 (omega (arith, is-heading₁, heading-below k.beta1)),
      )
      (lt-ltb (heading₂ s e) 4 (omega (arith, is-heading₂, heading-below k.beta2)))

  same_nodes : (P : ℕ → ℕ → Type 0) → P (20 * h1 + f1) (20 * h2 + f2) → P (20 * heading₁ s e + tick₁ s e) (20 * heading₂ s e + tick₂ s e)
  same_nodes P p =
      subst (λ (i : ℕ). P i (20 * heading₂ s e + tick₂ s e)) (sym (ap₂ (λ (i j : ℕ). 20 * i + j) is-heading₁ is-tick₁))
      (subst (P (20 * h1 + f1)) (sym (ap₂ (λ (i j : ℕ). 20 * i + j) is-heading₂ is-tick₂)) p)

module _ (kind : ℕ) (e : Entry) (t : Table) (proper : Proper kind e) (wide : Wide t.slots) where
  abbrev first : ℕ
  first = 20 * heading₁ t.slots e + tick₁ t.slots e

  abbrev second : ℕ
  second = 20 * heading₂ t.slots e + tick₂ t.slots e

  -- the mirror's part by its kind
  as-mirror : (im : ℤ) → (mirror kind (value_of e)).im ≡ im
      → (SetToOther t second first (mirror kind (value_of e)).re (mirror kind (value_of e)).im → SetToOther t second first e.re im)
      × (SetToOther t second first e.re im → SetToOther t second first (mirror kind (value_of e)).re (mirror kind (value_of e)).im)
  unfolding mirror
  as-mirror im z = (subst (λ (w : ℤ). SetToOther t second first e.re w) z, subst (λ (w : ℤ). SetToOther t second first e.re w) (sym z))

  contradicts : tests kind e t ≡ true → Contradicts kind e t first second
  unfolding here there node₁ node₂ place_of node_at
  contradicts x =
      ⊎_elim
      (λ h. Contradicts.its-cell (clash-is t first second (value_of e) h))
      (λ h.
      let o = clash-is t second first (mirror kind (value_of e)) h in
      elim (ℕ_discrete kind 0) [
        | yes z ↦ Contradicts.mirror-of-difference z ((as-mirror _ (mirror-difference kind e proper z)).0 o)
        | no z ↦ Contradicts.mirror-of-sum z ((as-mirror _ (mirror-sum kind e proper z)).0 o)
      ])
      (either (clashes t (80 * first + second) (value_of e)) (clashes t (80 * second + first) (mirror kind (value_of e))) x)

  agrees : tests kind e t ≡ false → Contradicts kind e t first second → ⊥
  unfolding here there node₁ node₂ place_of node_at
  agrees x k =
      let n = neither (clashes t (80 * first + second) (value_of e)) (clashes t (80 * second + first) (mirror kind (value_of e))) x in
      go (no-clash t first second (value_of e) n.0) (no-clash t second first (mirror kind (value_of e)) n.1) k
    where
      go :
          (SetToOther t first second e.re e.im → ⊥)
          → (SetToOther t second first (mirror kind (value_of e)).re (mirror kind (value_of e)).im → ⊥)
          → Contradicts kind e t first second → ⊥
      go a b (Contradicts.its-cell o) = a o
      go a b (Contradicts.mirror-of-difference z o) = b ((as-mirror _ (mirror-difference kind e proper z)).1 o)
      go a b (Contradicts.mirror-of-sum z o) = b ((as-mirror _ (mirror-sum kind e proper z)).1 o)

  takes-so : fits t.slots e ≡ true → RowTakes t.slots e (tick₁ t.slots e) (heading₁ t.slots e) (tick₂ t.slots e) (heading₂ t.slots e)
  takes-so fit = row-takes t.slots e wide (λ z. omega (arith, z, proper.tick1.low)) (λ z. omega (arith, z, proper.tick2.low)) (room_of t.slots e fit)

  number-as : NumberIs kind e t (placed kind e t).number
  number-as =
      by_tests kind e t (λ (p : Placed). NumberIs kind e t p.number)
      (λ fit x. NumberIs.nine _ _ _ _ (takes-so fit) (contradicts x))
      (λ fit x. NumberIs.none _ _ _ _ (takes-so fit) (agrees x))
      (λ full. NumberIs.eight (λ f1 h1 f2 h2 k. true≢false (sym (takes-fits t.slots e wide f1 h1 f2 h2 k) ∙ full)))

  as_number : {n : ℕ} → NumberIs kind e t n → (placed kind e t).number ≡ n
  as_number (NumberIs.eight no-slots) =
      by_tests kind e t (λ (p : Placed). p.number ≡ 8)
      (λ fit x. absurd (no-slots _ _ _ _ (takes-so fit)))
      (λ fit x. absurd (no-slots _ _ _ _ (takes-so fit)))
      (λ full. refl)
  as_number (NumberIs.nine f1 h1 f2 h2 k con) =
      by_tests kind e t (λ (p : Placed). p.number ≡ 9)
      (λ fit x. refl)
      (λ fit x. absurd (agrees x (same_nodes t.slots e wide f1 h1 f2 h2 k (Contradicts kind e t) con)))
      (λ full. absurd (true≢false (sym (takes-fits t.slots e wide f1 h1 f2 h2 k) ∙ full)))
  as_number (NumberIs.none f1 h1 f2 h2 k con) =
      by_tests kind e t (λ (p : Placed). p.number ≡ 0)
      (λ fit x. absurd (same_nodes t.slots e wide f1 h1 f2 h2 k (λ (i j : ℕ). Contradicts kind e t i j → ⊥) con (contradicts x)))
      (λ fit x. refl)
      (λ full. absurd (true≢false (sym (takes-fits t.slots e wide f1 h1 f2 h2 k) ∙ full)))

pub number-exactly : NumberExactly
number-exactly kind e t proper wide n = ((λ z. subst (NumberIs kind e t) z (number-as kind e t proper wide)), as_number kind e t proper wide)

-- ---- what is read

module _ (s : Slots) (wide : Wide s) where
  -- the slot that is searched is the one where the value stands
  tick_is : (t f : ℕ) → f < 20 → StandsIn s.ticks 0 f t → slot_of eqb s.ticks t ≡ f
  tick_is t f h n = stands-slot Same_ℕ s.ticks t 0 f (omega (arith, wide.ticks, h)) n

  heading-is : (z : ℤ) (h : ℕ) → h < 4 → h < s.held → StandsIn s.headings (pos 0) h z → heading_slot s.headings s.held z ≡ h
  heading-is z h four held n = heading-at s.headings s.held z h (omega (arith, wide.headings, four)) held n

  node-is : (a : Node) (f h : ℕ) → NodeIn s a.tick a.heading f h → node_of s a ≡ 20 * h + f
  unfolding node_of node_at
  node-is a f h n =
      ap₂ (λ (i j : ℕ). 20 * i + j)
      (heading-is a.heading h n.one-of-four n.among-held n.heading-stands)
      (tick_is a.tick f n.one-of-twenty n.tick-stands)

pub flag-placed : FlagPlaced
unfolding place_of
flag-placed s a b f1 h1 f2 h2 wide m n = ap₂ (λ (i j : ℕ). 80 * i + j) (node-is s wide a f1 h1 m) (node-is s wide b f2 h2 n)

pub query-reads : QueryReads
unfolding entry_at cell_at
query-reads s cells a b f1 h1 f2 h2 wide m n =
    let e = flag-placed s a b f1 h1 f2 h2 wide m n in
    record { re = ap (λ (p : ℕ). get_or cells (2 * p) (pos 0)) e; im = ap (λ (p : ℕ). get_or cells (2 * p + 1) (pos 0)) e }
