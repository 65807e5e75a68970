-- What an explainer remembers, line after line: who brought each slot, and which line first set each cell. One row more that the table takes keeps it so, wherever its slots are; of the
-- cells nothing is used but that the table holds what the rows say, before and after. Assumes nothing.
use mathlib.Core.Path.{◌≡◌, refl, sym, ap, subst, ◌∙◌}
use mathlib.Core.Logic.{◌⊎◌, inl, inr, ⊎_elim}
use mathlib.Core.List.{List, [], ◌∷◌, ◌++◌}
use Prim.Native.Nat.{ℕ, ◌+◌, ◌≤◌, ◌<◌}
use native.Mathlib.Omega.{arith}
use native.Mathlib.Decide.{ℕ_discrete}
use lib.Dec.{eqb}
use lib.IntN.{ℤ, pos}
use lib.ListN.{length, get_or, drop, take, replicate}
use lib.Seq.{take-append_seam}
use Rattle.whole.specs.Same.{same_ℤ}
use Rattle.whole.specs.Complex.{Complex}
use Rattle.row.specs.declared.reading.Choices.{Choices}
use Rattle.row.specs.declared.reading.Entry.{Entry}
use Rattle.grid.specs.declared.nodes.Node.{Node}
use Rattle.grid.specs.declared.nodes.Slots.{Slots}
use Rattle.grid.specs.Slots.{slot_of, heading_slot}
use Rattle.table.specs.Cells.{place_of}
use Rattle.table.specs.Placing.{Table}
use Rattle.table.specs.Closing.{node_of}
use Rattle.origins.specs.Memory.{lines_lent, Memory, noted, tick_in, heading_in, pair_in, pair_of, turned, remembered}
use Rattle.promises_rows.specs.Said.{first_of, second_of, Says, Said, arrive, ticks_of, headings_of}
use Rattle.promises_rows.specs.Said.{Over}
use Rattle.promises_tables.specs.Holds.{Holds, flagged_at, grid_of, FlaggedCell, blank, marked}
use Rattle.promises_texts.specs.Arrival.{InArrival}
use Rattle.promises_texts.specs.Accepted.{Reads}
use Rattle.promises_explained.specs.Explained.{UsedAfter, FirstLine, BringsTick, BringsHeading, SetsCell, BroughtBy, SlotsBrought}
use Rattle.promises_rows.proofs.Equality.{Same, Same_ℕ, Same_ℤ}
use Rattle.promises_rows.proofs.Arriving.{In, Out, slot-before, arrive-slot, arrive-has, arrive-keeps, distinct-has, in-or-out, arrive-length}
use Rattle.promises_rows.proofs.Said.{says-cases, said-before, said-last, said-cases, said-over, ticks_of-more, headings_of-more, over-before, over_last}
use Rattle.promises_tables.proofs.Grid.{place-lt}
use Rattle.promises_tables.proofs.Nodes.{node-small, node-one}
use Rattle.promises_explained.proofs.FirstLines.{brings-tick-said, brings-heading-said, first_more, first-here, first_some}
use Rattle.promises_explained.proofs.Noting.{noted-long, noted-stays, noted_other, noted_here, noted-past, brought-more, one-arrives}

-- the place of two nodes in a table
abbrev place_in : Table → Node → Node → ℕ
place_in t a b = place_of (node_of t.slots a) (node_of t.slots b)

-- what is remembered after lines that brought these rows into a table
pub record Recalls (c : Choices) (lines : List (List ℕ)) (rows : List Entry) (t : Table) (m : Memory) (beyond : List ℕ) : Type 0 where
  pub slots : SlotsBrought c lines rows m.origins
  -- of two nodes that a row says something of, the first line that does
  pub cells : (a b : Node) (v : Complex) → Said c.kind rows a b v → FirstLine c lines (SetsCell c.kind a b) (get_or m.lines (place_in t a b) 0)
  -- and no line where nothing is said
  pub blanks : (n k : ℕ) → n < 80 → k < 80 → flagged_at (grid_of t) (place_of n k) ≡ blank → get_or m.lines (place_of n k) 0 ≡ 0
  pub long : lines_lent ≤ length m.lines
  -- what is lent past the 6,400th line
  pub past : drop lines_lent m.lines ≡ beyond

-- a line more that brings nothing
pub recalls-more :
    {c : Choices} {lines : List (List ℕ)} {rows : List Entry} {t : Table} {m : Memory} {beyond : List ℕ} (more : List (List ℕ)) → Recalls c lines rows t m beyond
    → Recalls c (lines ++ more) rows t m beyond
recalls-more more r =
    record {
      slots = record { ticks = brought-more more r.slots.ticks; headings = brought-more more r.slots.headings };
      cells = λ a b v s. first_more more (r.cells a b v s);
      blanks = r.blanks;
      long = r.long;
      past = r.past;
    }

-- ---- slots

-- a value's slot among those filled in order of arrival
pub tick-slot : {rows : List Entry} {s : Slots} → InArrival rows s → (t : ℕ) → In Same_ℕ (ticks_of rows) t → tick_in s t ≡ slot_of eqb (ticks_of rows) t
tick-slot {rows} a t h = ap (λ (l : List ℕ). slot_of eqb l t) a.ticks.all ∙ slot-before Same_ℕ (ticks_of rows) _ t h

pub heading-slot : {rows : List Entry} {s : Slots} → InArrival rows s → (h : ℤ) → heading_in s h ≡ slot_of same_ℤ (headings_of rows) h
unfolding heading_slot
heading-slot {rows} {s} a h =
    let held = headings_of rows in
    let same : take s.held s.headings ≡ held =
    (λ i. take (a.held i) (a.headings.all i)) ∙ take-append_seam held (replicate a.headings.free (pos 0))
    in
    ap (λ (l : List ℤ). slot_of same_ℤ l h) same

-- two values of a row arrive
module _ {A : Type 0} (E : Same A) {c : Choices} {lines : List (List ℕ)} {Brings : A → Entry → Type 0} {slots : ℕ} {none : A} {held : List A} {l : List ℕ}
    (b : BroughtBy c lines Brings slots none held l) (x y : A) (line : ℕ)
    (room : length (arrive E.eq (arrive E.eq held x) y) ≤ slots)
    (fx : Out E held x → FirstLine c lines (Brings x) line) (fy : Out E held y → FirstLine c lines (Brings y) line) where
  two-arrive :
      let all = arrive E.eq (arrive E.eq held x) y in
      BroughtBy c lines Brings slots none all (noted line (slot_of E.eq all y) (noted line (slot_of E.eq all x) l))
  two-arrive =
      let one = arrive E.eq held x in
      let few : length one ≤ slots = omega (arith, (arrive-length E one y).0) in
      let first = one-arrives E b x line few fx in
      let same : slot_of E.eq (arrive E.eq one y) x ≡ slot_of E.eq one x = arrive-slot E one y x (arrive-has E held x) in
      let outside : Out E one y → Out E held y =
      λ o. ⊎_elim (λ h. let k = arrive-keeps E held x y h in absurd (omega arith)) (λ h. h) (in-or-out E held y)
      in
      subst (λ (n : ℕ). BroughtBy c lines Brings slots none (arrive E.eq one y) (noted line (slot_of E.eq (arrive E.eq one y) y) (noted line n l))) (sym same)
      (one-arrives E first y line room (λ o. fy (outside o)))

-- ---- one row more

module _ {c : Choices} {before : List (List ℕ)} {rows : List Entry} {e : Entry} {t t' : Table} {m : Memory} {beyond : List ℕ} (line : List ℕ)
    (reads : Reads c 0 before rows) (used : UsedAfter c before line e)
    (r : Recalls c before rows t m beyond)
    (h : Holds c.kind rows t) (h' : Holds c.kind (rows ++ (e ∷ [])) t')
    (arrival : InArrival (rows ++ (e ∷ [])) t'.slots)
    (keeps : (a : Node) → Over rows a → node_of t'.slots a ≡ node_of t.slots a) where
  abbrev here : List (List ℕ)
  here = before ++ (line ∷ [])

  abbrev number : ℕ
  number = length before + 1

  abbrev next : Memory
  next = remembered t'.slots e number m

  -- a value that no row before brought
  new-tick : (x : ℕ) → BringsTick x e → Out Same_ℕ (ticks_of rows) x → FirstLine c here (BringsTick x) number
  unfolding ticks_of
  new-tick x brings o = first-here line reads used brings (λ d k does. let z = distinct-has Same_ℕ (brings-tick-said k does) in omega arith)

  new-heading : (x : ℤ) → BringsHeading x e → Out Same_ℤ (headings_of rows) x → FirstLine c here (BringsHeading x) number
  unfolding headings_of
  new-heading x brings o = first-here line reads used brings (λ d k does. let z = distinct-has Same_ℤ (brings-heading-said k does) in omega arith)

  abbrev all-rows : List Entry
  all-rows = rows ++ (e ∷ [])

  ticks-next : BroughtBy c here BringsTick 20 0 (ticks_of all-rows) next.origins.ticks
  unfolding remembered ticks_of
  ticks-next =
      let o = over_last rows e in
      let one = tick-slot arrival e.tick1 (distinct-has Same_ℕ o.0.tick) in
      let two = tick-slot arrival e.tick2 (distinct-has Same_ℕ o.1.tick) in
      let all = ticks_of-more rows e in
      let Next : List ℕ → Type 0 =
      λ z. BroughtBy c here BringsTick 20 0 z (noted number (slot_of eqb z e.tick2) (noted number (slot_of eqb z e.tick1) m.origins.ticks))
      in
      let came : Next (ticks_of all-rows) =
      subst Next (sym all)
      (two-arrive Same_ℕ (brought-more (line ∷ []) r.slots.ticks) e.tick1 e.tick2 number (omega (arith, arrival.ticks.room, ap length all))
      (new-tick e.tick1 (inl refl)) (new-tick e.tick2 (inr refl)))
      in
      subst (BroughtBy c here BringsTick 20 0 (ticks_of all-rows)) (λ i. noted number (sym two i) (noted number (sym one i) m.origins.ticks)) came

  headings-next : BroughtBy c here BringsHeading 4 (pos 0) (headings_of all-rows) next.origins.headings
  unfolding remembered
  headings-next =
      let one = heading-slot arrival e.heading1 in
      let two = heading-slot arrival e.heading2 in
      let all = headings_of-more rows e in
      let Next : List ℤ → Type 0 =
      λ z.
      BroughtBy c here BringsHeading 4 (pos 0) z (noted number (slot_of same_ℤ z e.heading2) (noted number (slot_of same_ℤ z e.heading1) m.origins.headings))
      in
      let came : Next (headings_of all-rows) =
      subst Next (sym all)
      (two-arrive Same_ℤ (brought-more (line ∷ []) r.slots.headings) e.heading1 e.heading2 number (omega (arith, arrival.headings.room, ap length all))
      (new-heading e.heading1 (inl refl)) (new-heading e.heading2 (inr refl)))
      in
      subst (BroughtBy c here BringsHeading 4 (pos 0) (headings_of all-rows)) (λ i. noted number (sym two i) (noted number (sym one i) m.origins.headings)) came

  -- ---- the cells: the row's own place, and its mirror's

  abbrev own : ℕ
  own = pair_in t'.slots (pair_of e)

  abbrev mirrored : ℕ
  mirrored = pair_in t'.slots (turned (pair_of e))

  stays : (k : ℕ) → (get_or m.lines k 0 ≡ 0 → ⊥) → get_or next.lines k 0 ≡ get_or m.lines k 0
  unfolding remembered
  stays k n =
      let one = noted-stays number own k m.lines n in
      noted-stays number mirrored k (noted number own m.lines) (λ z. n (sym one ∙ z)) ∙ one

  others : (k : ℕ) → (k ≡ own → ⊥) → (k ≡ mirrored → ⊥) → get_or next.lines k 0 ≡ get_or m.lines k 0
  unfolding remembered
  others k a b = noted_other number mirrored k (noted number own m.lines) b ∙ noted_other number own k m.lines a

  set_here : (k : ℕ) → k < length m.lines → get_or m.lines k 0 ≡ 0 → (k ≡ own) ⊎ (k ≡ mirrored) → get_or next.lines k 0 ≡ number
  unfolding remembered
  set_here k low none at =
      let once = noted number own m.lines in
      elim (ℕ_discrete k own) [
        | yes p ↦
            let one : get_or once k 0 ≡ number =
            subst (λ (j : ℕ). get_or (noted number j m.lines) k 0 ≡ number) p (noted_here number k m.lines low none)
            in
            noted-stays number mirrored k once (λ z. omega arith) ∙ one
        | no n ↦
            let other : k ≡ mirrored = ⊎_elim (λ p. absurd (n p)) (λ q. q) at in
            let none_yet : get_or once k 0 ≡ 0 = noted_other number own k m.lines n ∙ none in
            let room : k < length once = omega (arith, noted-long number own m.lines) in
            subst (λ (j : ℕ). get_or (noted number j once) k 0 ≡ number) other (noted_here number k once room none_yet)
      ]

  cell-before : (a b : Node) (v : Complex) → Said c.kind rows a b v → FirstLine c here (SetsCell c.kind a b) (get_or next.lines (place_in t' a b) 0)
  cell-before a b v s =
      let o = said-over s in
      let f = r.cells a b v s in
      let same : place_in t' a b ≡ place_in t a b = λ i. place_of (keeps a o.0 i) (keeps b o.1 i) in
      let line_same : get_or next.lines (place_in t' a b) 0 ≡ get_or m.lines (place_in t a b) 0 =
      ap (λ (k : ℕ). get_or next.lines k 0) same ∙ stays (place_in t a b) (first_some f)
      in
      subst (FirstLine c here (SetsCell c.kind a b)) (sym line_same) (first_more (line ∷ []) f)

  says-over : {a b : Node} {v : Complex} → Says c.kind e a b v → Over all-rows a × Over all-rows b
  says-over = let o = over_last rows e in says-cases (λ a b v. Over all-rows a × Over all-rows b) o (o.1, o.0)

  says_at : {a b : Node} {v : Complex} → Says c.kind e a b v → (place_in t' a b ≡ own) ⊎ (place_in t' a b ≡ mirrored)
  unfolding pair_in
  says_at = says-cases (λ a b v. (place_in t' a b ≡ place_in t' (first_of e) (second_of e)) ⊎ (place_in t' a b ≡ place_in t' (second_of e) (first_of e))) (inl refl) (inr refl)

  not-both : {g : FlaggedCell} {v : Complex} → g ≡ blank → g ≡ marked v → ⊥
  not-both p q = let z : ◌≡◌ {A = ℕ} 0 1 = ap (λ (x : FlaggedCell). x.flag) (sym p ∙ q) in omega arith

  cell-new : (a b : Node) (v : Complex) → Says c.kind e a b v → FirstLine c here (SetsCell c.kind a b) (get_or next.lines (place_in t' a b) 0)
  cell-new a b v s =
      let o = says-over s in
      let low = node-small all-rows t'.slots h'.ticks h'.headings a o.0 in
      let low' = node-small all-rows t'.slots h'.ticks h'.headings b o.1 in
      ⊎_elim
      (λ none.
      let room : place_in t' a b < length m.lines = omega (arith, place-lt (node_of t'.slots a) (node_of t'.slots b) low low', r.long) in
      subst (FirstLine c here (SetsCell c.kind a b)) (sym (set_here (place_in t' a b) room (r.blanks _ _ low low' none) (says_at s)))
      (first-here line reads used (v, s)
      (λ d k does.
      let said : Said c.kind rows a b does.0 = record { row = d; listed = k; says = does.1 } in
      let over = said-over said in
      let same : place_in t' a b ≡ place_in t a b = λ i. place_of (keeps a over.0 i) (keeps b over.1 i) in
      not-both (ap (flagged_at (grid_of t)) (sym same) ∙ none) (h.in_cells a b does.0 said))))
      (λ x.
      let over = said-over x.said in
      let one : x.a ≡ a = node-one all-rows t'.slots h'.ticks h'.headings x.a a (over-before rows e over.0) o.0 (keeps x.a over.0 ∙ x.first) in
      let two : x.b ≡ b = node-one all-rows t'.slots h'.ticks h'.headings x.b b (over-before rows e over.1) o.1 (keeps x.b over.1 ∙ x.second) in
      cell-before a b x.v (subst (λ (z : Node). Said c.kind rows z b x.v) one (subst (λ (z : Node). Said c.kind rows x.a z x.v) two x.said)))
      (h.rest (node_of t'.slots a) (node_of t'.slots b) low low')

  blanks-next : (n k : ℕ) → n < 80 → k < 80 → flagged_at (grid_of t') (place_of n k) ≡ blank → get_or next.lines (place_of n k) 0 ≡ 0
  unfolding pair_in
  blanks-next n k low low' none =
      let marks : (a b : Node) (v : Complex) → Said c.kind all-rows a b v → place_of n k ≡ place_in t' a b → ⊥ =
      λ a b v s p. not-both (ap (flagged_at (grid_of t')) (sym p) ∙ none) (h'.in_cells a b v s)
      in
      ⊎_elim
      (λ was.
      others (place_of n k) (marks (first_of e) (second_of e) _ (said-last rows Says.directly)) (marks (second_of e) (first_of e) _ (said-last rows Says.mirrored))
      ∙ r.blanks n k low low' was)
      (λ x.
      let over = said-over x.said in
      let same : place_of n k ≡ place_in t' x.a x.b =
      λ i. place_of (sym (keeps x.a over.0 ∙ x.first) i) (sym (keeps x.b over.1 ∙ x.second) i)
      in
      absurd (marks x.a x.b x.v (said-before (e ∷ []) x.said) same))
      (h.rest n k low low')

  long-next : length next.lines ≡ length m.lines
  unfolding remembered
  long-next = noted-long number mirrored (noted number own m.lines) ∙ noted-long number own m.lines

  past_next : drop lines_lent next.lines ≡ drop lines_lent m.lines
  unfolding remembered pair_in
  past_next =
      let o = over_last rows e in
      let low = node-small all-rows t'.slots h'.ticks h'.headings (first_of e) o.0 in
      let low' = node-small all-rows t'.slots h'.ticks h'.headings (second_of e) o.1 in
      noted-past number _ lines_lent (noted number (place_in t' (first_of e) (second_of e)) m.lines) (place-lt (node_of t'.slots (second_of e)) (node_of t'.slots (first_of e)) low' low)
      ∙ noted-past number _ lines_lent m.lines (place-lt (node_of t'.slots (first_of e)) (node_of t'.slots (second_of e)) low low')

  pub recalls-row : Recalls c here all-rows t' next beyond
  recalls-row =
      record {
        slots = record { ticks = ticks-next; headings = headings-next };
        cells = λ a b v s. ⊎_elim (λ was. cell-before a b v was) (λ is. cell-new a b v is) (said-cases rows e s);
        blanks = blanks-next;
        long = omega (arith, r.long, long-next);
        past = past_next ∙ r.past;
      }
