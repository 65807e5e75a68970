-- Why a text was refused: what an explainer says of the text that it read from opening on, by what its lines came to. Assumes nothing.
use mathlib.Core.Path.{◌≡◌, refl, sym, ap, subst, ◌∙◌}
use mathlib.Core.Bool.{Bool, true, false, cond, false≢true}
use mathlib.Core.Logic.{inl}
use mathlib.Core.List.Memᴰ
use mathlib.Core.List.{List, [], ◌∷◌, ◌++◌, Memᴰ}
use Prim.Native.Nat.{ℕ, ◌+◌, ◌≤◌, ◌<◌}
use native.Mathlib.Omega.{arith}
use native.Mathlib.Decide.{ℕ_discrete, dec_lt}
use lib.Dec.{eqb, ltb}
use lib.IntN.{ℤ}
use lib.ListN.{length, get_or, drop, replicate, length-replicate, get_or-replicate, get_or-eq_default}
use lib.Seq.{drop-append_seam}
use borrow.Author.Tests.{eqb-true, ltb-true, ltb-false, eq-eqb, ne_eqb, le-ltb}
use Rattle.whole.specs.Complex.{Complex}
use Rattle.whole.proofs.Same.{same_ℤ-tells, list_tells}
use Rattle.row.specs.declared.reading.Choices.{Choices}
use Rattle.row.specs.declared.reading.Entry.{Entry}
use Rattle.row.specs.Told.{Row}
use Rattle.row.specs.LineRules.{LineIs, breaks-4, breaks-5, breaks-6, breaks-7, breaks-17}
use Rattle.row.specs.Layout.{wamit_layout}
use Rattle.row.specs.LineRules.{fields_of}
use Rattle.faults.specs.Offending.{FormOffends, RangeOffends, FirstField, offending_field}
use Rattle.row.proofs.Deciding.{both}
use Rattle.row.proofs.Used.{by-test}
use Rattle.row.proofs.LineRules.{line_gives}
use Rattle.faults.proofs.OffendingField.{field-of-five, field-of-six}
use Rattle.grid.specs.declared.nodes.Pair.{Pair}
use Rattle.table.specs.declared.closing.Closed.{Closed}
use Rattle.table.specs.Placing.{value_of}
use Rattle.table.specs.Cells.{place_of}
use Rattle.grid.specs.Slots.{slot_of}
use Rattle.table.specs.Entries.{entry_at, parts_of, complex_of}
use Rattle.reader.specs.declared.reader.Place.{Place}
use Rattle.reader.specs.declared.reader.Answer.{Answer}
use Rattle.reader.specs.Model.{State, Out, out, table_at, refusal, refusal_place, repeated, settled_by, closing, close_of, bytes_of, open_of, never, number_of}
use Rattle.reader.proofs.Kept.{by-eq}
use Rattle.origins.specs.declared.memory.Origins.{Origins}
use Rattle.reasons.specs.declared.explanation.Stated.{Stated}
use Rattle.reasons.specs.declared.explanation.Clash.{Clash}
use Rattle.reasons.specs.Told.{Explanation}
use Rattle.origins.specs.Memory.{lines_lent, Memory, memory_of, no_origins, tick_in, heading_in, pair_in, pair_of}
use Rattle.explain.specs.Model.{Reading, Explained, Stepped, reading_of, fresh_with, open_for, closed_for, close_for}
use Rattle.reasons.specs.Reasons.{line_kept, values_of, same_place, is_stated, clash_of, bringers_of, reason_of, explanation_of}
use Rattle.promises_calls.specs.Cutting.{pieces_of, joined}
use Rattle.promises_calls.specs.Lines.{text_lines, line_read, in_turn, AtLineStart}
use Rattle.promises_rows.specs.Said.{first_of, second_of, mirror_of, Says, Said, arrived, distinct, two_of, ticks_of, headings_of, ticks_said, headings_said}
use Rattle.promises_tables.specs.Rules.{Differs, RowNumber, Missing}
use Rattle.promises_tables.specs.Holds.{Holds}
use Rattle.promises_tables.specs.Closing.{Closes}
use Rattle.promises_chains.specs.Chain.{Opens}
use Rattle.promises_texts.specs.Start.{StartsAt, from_opening}
use Rattle.promises_texts.specs.Arrival.{InArrival}
use Rattle.promises_texts.specs.Accepted.{Breaks, Reads, VerdictFrom, line_after}
use Rattle.promises_texts.specs.Accepted.Breaks.{over-limits, by_itself, against-rows}
use Rattle.promises_explained.specs.Explained.{FirstLine, BringsTick, BringsHeading, BroughtBy, Stands, PairBrought, LineAt, FieldNamed, Explains, Asked, Lent, asked, pieces_for, explained, OpensFor, OpensAs, OpensAsReader, ReadsAsReader, ExplainedCut, LinesBeyond, ExplainedRight, TwoExactly, AcceptedNever}
use Rattle.promises_rows.proofs.Equality.{Same, Same_ℕ, Same_ℤ}
use Rattle.promises_rows.proofs.Arriving.{In, get-slot, distinct-has}
use Rattle.promises_rows.proofs.Said.{mirror_of-twice, said-swap, says-cases}
use Rattle.promises_tables.proofs.Grid.{get_d_front, long-enough, place-lt}
use Rattle.promises_tables.proofs.Lookup.{entry-said}
use Rattle.promises_calls.proofs.Answers.{open-unchanged}
use Rattle.promises_texts.proofs.Arrival.{open-arrival}
use Rattle.promises_texts.proofs.Verdicts.{breaks-number}
use Rattle.promises_calls.proofs.Lines.{Feedless, lines-feedless, lines_keep, lines-at-line, turn-open, turn-shut, close_open, close-shut, nothing-finished, closing-is-lines}
use Rattle.promises_calls.proofs.Kept.{beyond-keeps, beyond-none}
use Rattle.promises_calls.proofs.Valid.{sound-keeps, sound-is, is-valid}
use Rattle.promises_calls.proofs.Cutting.{live-keeps}
use Rattle.promises_chains.proofs.Chain.{Opening, shut, starts, start_of, opening-is, opened-whole}
use Rattle.promises_texts.proofs.Start.{start-starts}
use Rattle.promises_texts.proofs.Accepted.{stops-shut, closes_here, closing-halted, not-further, pieces-after, refused-accepted, verdict-exactly}
use Rattle.promises_explained.proofs.FirstLines.{used-read}
use Rattle.promises_explained.proofs.Recalled.{Recalls, tick-slot, heading-slot}
use Rattle.promises_explained.proofs.Telling.{line_told, lines_told, told-open, told-shut, closing-told}
use Rattle.promises_explained.proofs.ToldLines.{KeepsLine, ToldEnded, all_told, stopped, lines-told}

-- ---- a line that is refused

module _ {c : Choices} (text : List ℕ) {beyond : List ℕ} (before : List (List ℕ)) (line : List ℕ) (after : List (List ℕ)) {rows : List Entry} (s : State) {m : Memory}
    (there : text_lines text ≡ before ++ (line ∷ after)) (reads : Reads c 0 before rows) (holds : Holds c.kind rows (table_at s))
    (r : Recalls c before rows (table_at s) m beyond) (kept : KeepsLine c (length before) line s) where
  abbrev its-place : Place
  its-place = Place.Line (0 + length before + 1)

  its-number : 0 + length before + 1 ≡ length before + 1
  its-number = omega arith

  abbrev its-line : LineAt text its-place
  its-line = record { before = before; line = line; after = after; there = there; named = ap Place.Line its-number }

  at_first : {row : Row} → LineIs c (eqb (0 + length before) 0) line row → LineIs c (eqb (length before) 0) line row
  at_first {row} l = let count : 0 + length before ≡ length before = omega arith in subst (λ (n : ℕ). LineIs c (eqb n 0) line row) count l

  -- 5 and 6: the field that is named is that of the line
  field-named :
      (number : ℕ) (Offends : List (List ℕ) → ℕ → Type 0) → (s.reader.marks.stage ≡ 3 → ⊥) → LineIs c (eqb (0 + length before) 0) line (Row.Refused number)
      → FirstField (Offends (fields_of line)) (offending_field number line)
      → FieldNamed c text number Offends its-place (Explanation.Field (offending_field number (line_kept s.reader))) m.origins
  field-named number Offends other l first =
      record {
        at = its-line;
        refused = at_first l;
        field = offending_field number (line_kept s.reader);
        told = refl;
        first = subst (λ (b : List ℕ). FirstField (Offends (fields_of line)) (offending_field number b)) (sym (kept.text other)) first;
      }

  five-named : s.reader.marks.stage ≡ 5 → LineIs c (eqb (0 + length before) 0) line (Row.Refused 5) → Explains c text 5 its-place (reason_of 5 s m) m.origins
  unfolding Explains reason_of
  five-named stage l = field-named 5 (FormOffends wamit_layout) (λ e. omega arith) l (field-of-five c (eqb (length before) 0) line (at_first l))

  six-named : s.reader.marks.stage ≡ 6 → LineIs c (eqb (0 + length before) 0) line (Row.Refused 6) → Explains c text 6 its-place (reason_of 6 s m) m.origins
  unfolding Explains reason_of
  six-named stage l = field-named 6 (RangeOffends wamit_layout) (λ e. omega arith) l (field-of-six c (eqb (length before) 0) line (at_first l))

  -- 8
  eight-named : Explains c text 8 its-place (reason_of 8 s m) m.origins
  unfolding Explains reason_of
  eight-named = record { at = its-line; rows = rows; reads = reads; told = refl; brought = r.slots }

  -- 9
  module _ {e : Entry} (l : LineIs c (eqb (0 + length before) 0) line (Row.Used e)) where
    -- the rows before say something else of the row's own two nodes
    own-differs : Differs c.kind rows e → (v : Complex) × Said c.kind rows (first_of e) (second_of e) v × (v ≡ value_of e → ⊥)
    own-differs d =
        says-cases (λ a b now. Said c.kind rows a b d.before → (d.before ≡ now → ⊥) → (v : Complex) × Said c.kind rows (first_of e) (second_of e) v × (v ≡ value_of e → ⊥))
        (λ said n. (d.before, said, n))
        (λ said n. (
          mirror_of c.kind d.before,
          said-swap said,
          λ same. n (sym (mirror_of-twice c.kind d.before) ∙ ap (mirror_of c.kind) same),
        ))
        d.says d.said d.differ

    abbrev clash : Clash
    clash =
        record {
          line = get_or m.lines (pair_in s.reader.slots (pair_of e)) 0;
          held = parts_of (entry_at s.reader.slots s.cells (first_of e) (second_of e));
          said = record { re = e.re; im = e.im };
        }

    stands-so : Differs c.kind rows e → Stands c before e clash
    unfolding pair_in
    stands-so d =
        let (v, said, differ) = own-differs d in
        let set = r.cells (first_of e) (second_of e) v said in
        let listed = used-read reads set.before set.line set.after set.row set.there (in_count set.before set.used) in
        let first_said : Said c.kind rows (first_of e) (second_of e) set.does.0 = record { row = set.row; listed = listed; says = set.does.1 } in
        let cell = entry-said c.kind rows (table_at s) holds (first_of e) (second_of e) in
        record {
          set = set;
          held = subst (Says c.kind set.row (first_of e) (second_of e)) (sym (cell set.does.0 first_said)) set.does.1;
          said = Says.directly;
          own = refl;
          differ = λ same. differ (sym (cell v said) ∙ ap complex_of same);
        }
      where
        in_count : (b : List (List ℕ)) {k : List ℕ} {d : Entry} → LineIs c (eqb (length b) 0) k (Row.Used d) → LineIs c (eqb (0 + length b) 0) k (Row.Used d)
        in_count b {k} {d} u = let count : length b ≡ 0 + length b = omega arith in subst (λ (n : ℕ). LineIs c (eqb n 0) k (Row.Used d)) count u

    nine-named : s.reader.marks.stage ≡ 9 → Differs c.kind rows e → Explains c text 9 its-place (reason_of 9 s m) m.origins
    unfolding Explains reason_of clash_of
    nine-named stage d =
        let row = kept.row (λ z. omega arith) ∙ line_gives c (eqb (length before) 0) line (at_first l) in
        record {
          at = its-line;
          row = e;
          used = at_first l;
          clash = clash;
          told = ap (λ (w : Row). clash_of w s m) row;
          stands = stands-so d;
        }

  -- by the rule that the line breaks
  itself-named :
      {number : ℕ} → s.reader.marks.stage ≡ number → LineIs c (eqb (0 + length before) 0) line (Row.Refused number)
      → Explains c text number its-place (reason_of number s m) m.origins
  unfolding Explains reason_of
  itself-named stage (breaks-4 row other) = refl
  itself-named stage (breaks-5 row count wrong) = five-named stage (breaks-5 row count wrong)
  itself-named stage (breaks-6 own out) = six-named stage (breaks-6 own out)
  itself-named stage (breaks-17 range one other) = refl
  itself-named stage (breaks-7 range one fits im) = refl

  row_named :
      {e : Entry} {number : ℕ} → s.reader.marks.stage ≡ number → LineIs c (eqb (0 + length before) 0) line (Row.Used e) → RowNumber c.kind rows e number → 0 < number
      → Explains c text number its-place (reason_of number s m) m.origins
  row_named stage l (RowNumber.eight many) some = eight-named
  row_named stage l (RowNumber.nine few d) some = nine-named l stage d
  row_named stage l (RowNumber.none few d) some = absurd (omega arith)

  break-named : {number : ℕ} → s.reader.marks.stage ≡ number → Breaks c (0 + length before) rows line number → Explains c text number its-place (reason_of number s m) m.origins
  unfolding Explains reason_of
  break-named stage (over-limits o) = refl
  break-named stage (by_itself limits l) = itself-named stage l
  break-named stage (against-rows limits l k some) = row_named stage l k some

-- ---- closing

-- accepted, or refused and explained
data Finding (c : Choices) (text : List ℕ) (o : Origins) (answer : Answer) (reason : ℕ → Explanation) : Type 0 where
  accepted : {f h : ℕ} → answer ≡ Answer.Accepted f h → Finding c text o answer reason
  refused : {number : ℕ} {place : Place} → answer ≡ Answer.Refused number place → Explains c text number place (reason number) o → Finding c text o answer reason

-- who brought a value that is held
brought-at :
    {A : Type 0} (E : Same A) {c : Choices} {lines : List (List ℕ)} {Brings : A → Entry → Type 0} {slots : ℕ} {none : A} {held : List A} {l : List ℕ}
    → BroughtBy c lines Brings slots none held l
    → (x : A)
    → In E held x
    → FirstLine c lines (Brings x) (get_or l (slot_of E.eq held x) 0)
brought-at {A = A} E {c} {lines} {Brings} {none = none} {held} {l} b x h =
    subst (λ (z : A). FirstLine c lines (Brings z) (get_or l (slot_of E.eq held x) 0)) (get-slot E held x none h) (b.brought (slot_of E.eq held x) h)

module _ {c : Choices} {lines : List (List ℕ)} {rows : List Entry} (s : State) {m : Memory} {beyond : List ℕ} (arrival : InArrival rows s.reader.slots)
    (r : Recalls c lines rows (table_at s) m beyond) where
  tick-brought : (t : ℕ) → Memᴰ t (ticks_said rows) → FirstLine c lines (BringsTick t) (get_or m.origins.ticks (tick_in s.reader.slots t) 0)
  unfolding ticks_of
  tick-brought t k =
      let h = distinct-has Same_ℕ k in
      subst (λ (n : ℕ). FirstLine c lines (BringsTick t) (get_or m.origins.ticks n 0)) (sym (tick-slot arrival t h)) (brought-at Same_ℕ r.slots.ticks t h)

  heading-brought : (h : ℤ) → Memᴰ h (headings_said rows) → FirstLine c lines (BringsHeading h) (get_or m.origins.headings (heading_in s.reader.slots h) 0)
  unfolding headings_of
  heading-brought h k =
      subst (λ (n : ℕ). FirstLine c lines (BringsHeading h) (get_or m.origins.headings n 0)) (sym (heading-slot arrival h))
      (brought-at Same_ℤ r.slots.headings h (distinct-has Same_ℤ k))

  pair-brought : {kind coverage : ℕ} {p : Pair} → Missing kind coverage rows p → PairBrought c lines p (bringers_of s.reader.slots p m.origins)
  pair-brought {p = p} missing =
      let needed = missing.lacking.needed in
      record {
        tick1 = tick-brought p.first.tick needed.first.tick;
        heading1 = heading-brought p.first.heading needed.first.heading;
        tick2 = tick-brought p.second.tick needed.second.tick;
        heading2 = heading-brought p.second.heading needed.second.heading;
      }

module _ (c : Choices) (text : List ℕ) (x : Reading) where
  abbrev Found : Out → Type 0
  Found o = Finding c text x.memory.origins o.answer (λ n. reason_of n o.after x.memory)

  settled-found :
      {beyond : List ℕ} {rows : List Entry} {w : Closed} → InArrival rows x.state.reader.slots → Recalls c (text_lines text) rows (table_at x.state) x.memory beyond
      → Closes c.kind c.coverage rows w
      → Found (settled_by w x.state)
  unfolding settled_by refusal refusal_place Explains reason_of
  settled-found arrival r (Closes.no_row none) = refused {number = 10} {place = Place.Nowhere} refl refl
  settled-found arrival r (Closes.lacks {p = p} missing) =
      refused {number = 11} {place = Place.Pair p} refl
      (record { pair = p; missing = refl; bringers = bringers_of x.state.reader.slots p x.memory.origins; told = refl; brought = pair-brought x.state arrival r missing })
  settled-found arrival r (Closes.every-pair some all) = accepted refl

  closing-found : {beyond : List ℕ} → ToldEnded c beyond (text_lines text) x → Found (closing x.state)
  unfolding closing repeated
  closing-found (all_told {rows = rows} reads at arrival r) =
      rw (eq-eqb x.state.reader.marks.stage 1 at.ready.stage) (settled-found arrival r (closes_here (from_opening c) (text_lines text) rows x.state at))
  closing-found (stopped before line after {rows = rows} there reads stop holds r kept) =
      let s = x.state in
      let answer = closing-halted s stop.number (line_after (from_opening c) before) stop.stuck (breaks-number stop.breaks) in
      let still : (closing s).after ≡ s = closing-still s (stops-shut stop) in
      refused {number = stop.number} {place = Place.Line (0 + length before + 1)} answer
      (subst (λ (z : State). Explains c text stop.number (Place.Line (0 + length before + 1)) (reason_of stop.number z x.memory) x.memory.origins) (sym still)
      (break-named text before line after x.state there reads holds r kept stop.stuck.stage stop.breaks))
    where
      closing-still : (s : State) → (s.reader.marks.stage ≡ 1 → ⊥) → (closing s).after ≡ s
      closing-still s n = rw (ne_eqb s.reader.marks.stage 1 n)

-- ---- what is stated

place-one : (a b : Place) → values_of a ≡ values_of b → a ≡ b
unfolding values_of
place-one Place.Nowhere Place.Nowhere e = refl
place-one Place.Nowhere (Place.Line n) e = let w : ◌≡◌ {A = ℕ} 0 1 = cc in absurd (omega arith)
place-one Place.Nowhere (Place.Pair p) e = let w : ◌≡◌ {A = ℕ} 0 1 = cc in absurd (omega arith)
place-one (Place.Line m) Place.Nowhere e = let w : ◌≡◌ {A = ℕ} 0 1 = cc in absurd (omega arith)
place-one (Place.Line m) (Place.Line n) e = let same : m ≡ n = cc in ap Place.Line same
place-one (Place.Line m) (Place.Pair p) e = let w : ◌≡◌ {A = ℕ} 0 1 = cc in absurd (omega arith)
place-one (Place.Pair p) Place.Nowhere e = let w : ◌≡◌ {A = ℕ} 0 1 = cc in absurd (omega arith)
place-one (Place.Pair p) (Place.Line n) e = let w : ◌≡◌ {A = ℕ} 0 1 = cc in absurd (omega arith)
place-one (Place.Pair p) (Place.Pair q) e =
    let a : p.first.tick ≡ q.first.tick = cc in
    let b : p.first.heading ≡ q.first.heading = cc in
    let c : p.second.tick ≡ q.second.tick = cc in
    let d : p.second.heading ≡ q.second.heading = cc in
    λ i. Place.Pair record { first = record { tick = a i; heading = b i }; second = record { tick = c i; heading = d i } }

stated-yes : (w : Stated) (a : Answer) → a ≡ Answer.Refused w.number w.place → is_stated w a ≡ true
unfolding is_stated
stated-yes w a e =
    ap (is_stated w) e ∙ rw (eq-eqb w.number w.number refl) (((list_tells same_ℤ-tells).exactly (values_of w.place) (values_of w.place)).1 refl)

stated-is : (w : Stated) (a : Answer) → is_stated w a ≡ true → a ≡ Answer.Refused w.number w.place
unfolding is_stated
stated-is w Answer.Going e = absurd (false≢true e)
stated-is w (Answer.Accepted f h) e = absurd (false≢true e)
stated-is w (Answer.Refused number place) e =
    let k = both (eqb w.number number) (same_place w.place place) e in
    let one = eqb-true w.number number k.0 in
    let two = place-one w.place place (((list_tells same_ℤ-tells).exactly (values_of w.place) (values_of place)).0 k.1) in
    λ i. Answer.Refused (sym one i) (sym two i)

module _ (w : Stated) (a : Answer) (s : State) (m : Memory) where
  explained-yes : a ≡ Answer.Refused w.number w.place → explanation_of w a s m ≡ reason_of w.number s m
  unfolding explanation_of
  explained-yes e = rw (stated-yes w a e)

  explained-no : (a ≡ Answer.Refused w.number w.place → ⊥) → explanation_of w a s m ≡ Explanation.Refused 2
  unfolding explanation_of
  explained-no n = go (is_stated w a) refl
    where
      go : (t : Bool) → is_stated w a ≡ t → cond t (reason_of w.number s m) (Explanation.Refused 2) ≡ Explanation.Refused 2
      go true e = absurd (n (stated-is w a e))
      go false e = refl

-- no reason is a refusal
abbrev Never : (Place → Explanation → Origins → Type 0) → Type 0
Never Named = (place : Place) (x : Explanation) (o : Origins) → Named place x o → x ≡ Explanation.Refused 2 → ⊥

not-two : (c : Choices) (text : List ℕ) (number : ℕ) → Never (Explains c text number)
unfolding Explains
not-two c text number =
    by-eq Never number 5 _ _ (λ e place x o k p. let told = k.told in let w : ◌≡◌ {A = ℕ} 0 1 = cc in omega arith)
    (λ n₅.
    by-eq Never number 6 _ _ (λ e place x o k p. let told = k.told in let w : ◌≡◌ {A = ℕ} 0 1 = cc in omega arith)
    (λ n₆.
    by-eq Never number 8 _ _ (λ e place x o k p. let told = k.told in let w : ◌≡◌ {A = ℕ} 0 1 = cc in omega arith)
    (λ n₈.
    by-eq Never number 9 _ _ (λ e place x o k p. let told = k.told in let w : ◌≡◌ {A = ℕ} 0 1 = cc in omega arith)
    (λ n₉.
    by-eq Never number 11 _ _ (λ e place x o k p. let told = k.told in let w : ◌≡◌ {A = ℕ} 0 1 = cc in omega arith) (λ n₁₁ place x o k p. let w : ◌≡◌ {A = ℕ} 0 1 = cc in omega arith)))))

-- ---- lines

-- the state is the reader's
told-state : (lines : List (List ℕ)) (x : Reading) → (lines_told lines x).state ≡ in_turn line_read lines x.state
unfolding lines_told in_turn line_told
told-state [] x = refl
told-state (line ∷ lines) x =
    elim (ℕ_discrete x.state.reader.marks.stage 1) [
      | yes o ↦
          ap (λ (y : Reading). y.state) (told-open line lines x o) ∙ told-state lines (line_told line x) ∙ sym (turn-open line_read line lines x.state o)
      | no n ↦ ap (λ (y : Reading). y.state) (told-shut (line ∷ lines) x n) ∙ sym (turn-shut line_read (line ∷ lines) x.state n)
    ]

told-stated : (lines : List (List ℕ)) (x : Reading) → (lines_told lines x).stated ≡ x.stated
unfolding lines_told line_told
told-stated [] x = refl
told-stated (line ∷ lines) x =
    elim (ℕ_discrete x.state.reader.marks.stage 1) [
      | yes o ↦ ap (λ (y : Reading). y.stated) (told-open line lines x o) ∙ told-stated lines (line_told line x)
      | no n ↦ ap (λ (y : Reading). y.stated) (told-shut (line ∷ lines) x n)
    ]

-- closing a reader between two lines, or one that has stopped
close-lines : {lines : List (List ℕ)} → Feedless lines → (s : State) → AtLineStart s → close_of (in_turn line_read lines s) ≡ closing (in_turn line_read lines s)
close-lines {lines} f s at =
    let m = in_turn line_read lines s in
    let sound = lines_keep sound-keeps f s at (sound-is s at.shaped at.valid) in
    let long = lines_keep (beyond-keeps s) f s at (beyond-none s) in
    let valid = is-valid m.reader sound.valid in
    let cells : 12_800 ≤ length m.cells = omega (arith, at.cells, long.cells) in
    let flags : 6_400 ≤ length m.flags = omega (arith, at.flags, long.flags) in
    elim (ℕ_discrete m.reader.marks.stage 1) [
      | yes o ↦ close_open m valid o cells flags ∙ ap closing (nothing-finished m (lines-at-line f s at o).count)
      | no n ↦ close-shut m record { valid = valid; live = lines_keep live-keeps f s at (inl at.stage); cells = cells; flags = flags } n
    ]

-- ---- opening

-- as opening leaves it
abbrev fresh_for : Asked → Reading
fresh_for q =
    record {
      state = start_of q.choices q.cells q.flags;
      stated = q.stated;
      memory = memory_of no_origins (replicate lines_lent 0 ++ drop lines_lent q.lines);
    }

zeros : (n k : ℕ) → ◌≡◌ {A = ℕ} (get_or (replicate n 0) k 0) 0
zeros n k =
    elim (dec_lt k n) [
      | yes h ↦ get_or-replicate n k 0 0 h
      | no h ↦ let long = length-replicate {A = ℕ} n 0 in get_or-eq_default (replicate n 0) 0 (omega arith)
    ]

drop-front : (n : ℕ) (l : List ℕ) → drop n (replicate n 0 ++ l) ≡ l
drop-front n l = subst (λ (k : ℕ). drop k (replicate n 0 ++ l) ≡ l) (length-replicate n 0) (drop-append_seam (replicate n 0) l)

module _ (q : Asked) (lent : Lent q) where
  abbrev c : Choices
  c = q.choices

  abbrev start : State
  start = start_of q.choices q.cells q.flags

  asked_is : asked q ≡ fresh_for q
  unfolding open_for start_of
  asked_is =
      rw (le-ltb (length q.lines) lines_lent lent.lines, asked)
      (ap
      (λ (o : Out).
      reading_of (fresh_with o.after.reader q.stated) o.after.cells o.after.flags
      (cond (eqb o.after.reader.marks.stage 1) (replicate lines_lent 0 ++ drop lines_lent q.lines) q.lines))
      (opened-whole q.choices q.cells q.flags lent.opens))

  starts-here : StartsAt (from_opening c) start
  starts-here = start-starts q.choices q.cells q.flags lent.opens

  arrives-here : InArrival [] start.reader.slots
  unfolding start_of
  arrives-here = open-arrival

  recalls-none : Recalls c [] [] (table_at start) (fresh_for q).memory (drop lines_lent q.lines)
  unfolding ticks_of headings_of distinct arrived two_of
  recalls-none =
      record {
        slots =
            record {
              ticks = record { long = length-replicate {A = ℕ} 20 0; brought = λ k h. absurd (omega arith); behind = λ k h. zeros 20 k };
              headings = record { long = length-replicate {A = ℕ} 4 0; brought = λ k h. absurd (omega arith); behind = λ k h. zeros 4 k };
            };
        cells = λ a b v s. absurd (Memᴰ.not-nil s.listed);
        blanks = λ n k low low' e. get_d_front 0 (drop lines_lent q.lines) lines_lent (place_of n k) (place-lt n k low low');
        long = long-enough 0 (drop lines_lent q.lines) lines_lent;
        past = drop-front lines_lent (drop lines_lent q.lines);
      }

  module _ (text : List ℕ) where
    abbrev ended : Reading
    ended = lines_told (text_lines text) (fresh_for q)

    ended_is : ToldEnded c (drop lines_lent q.lines) (text_lines text) ended
    ended_is =
        lines-told c (drop lines_lent q.lines) (lines-feedless text) [] [] (fresh_for q) Reads.end (not-further (from_opening c) start starts-here) arrives-here recalls-none

    -- closing after the lines
    lines-close : close_of ended.state ≡ closing ended.state
    lines-close =
        let same = told-state (text_lines text) (fresh_for q) in
        subst (λ (m : State). close_of m ≡ closing m) (sym same) (close-lines (lines-feedless text) start starts-here.ready)

    found : Found c text ended (close_of ended.state)
    found = subst (Found c text ended) (sym lines-close) (closing-found c text ended ended_is)

  explained-is : (pieces : List (List ℕ)) → explained q pieces ≡ closed_for (ended (joined pieces))
  explained-is pieces = ap (λ (x : Reading). close_for (pieces_for pieces x)) asked_is ∙ closing-told (fresh_for q) starts-here.ready recalls-none.long pieces

  as-reader : (pieces : List (List ℕ)) → out (explained q pieces).after.state (explained q pieces).given ≡ close_of (pieces_of pieces (open_of c q.cells q.flags)).after
  unfolding closed_for
  as-reader pieces =
      let text = joined pieces in
      let read : close_of (bytes_of text start) ≡ closing (ended text).state =
      closing-is-lines text start starts-here.ready ∙ ap closing (sym (told-state (text_lines text) (fresh_for q)))
      in
      let same : close_of (pieces_of pieces (out start Answer.Going)).after ≡ close_of (ended text).state =
      ap close_of (pieces-after start starts-here.ready pieces) ∙ read ∙ sym (lines-close text)
      in
      ap (λ (x : Explained). out x.after.state x.given) (explained-is pieces)
      ∙ sym same
      ∙ ap (λ (o : Out). close_of (pieces_of pieces o).after) (sym (opened-whole q.choices q.cells q.flags lent.opens))

  -- a refusal that is stated as it is found
  right_of :
      (text : List ℕ) (m : Memory) (o : Out) → Finding c text m.origins o.answer (λ n. reason_of n o.after m)
      → o.answer ≡ Answer.Refused q.stated.number q.stated.place
      → Explains c text q.stated.number q.stated.place (explanation_of q.stated o.answer o.after m) m.origins
  right_of text m o (accepted e) g = absurd (refused-accepted (sym g ∙ e))
  right_of text m o (refused {number = number} {place = place} e k) g =
      let w = q.stated in
      let both = sym e ∙ g in
      let n : number ≡ w.number = cc in
      let p : place ≡ w.place = cc in
      subst (λ (x : Explanation). Explains c text w.number w.place x m.origins) (sym (explained-yes w o.answer o.after m g))
      (subst (λ (z : Place). Explains c text w.number z (reason_of w.number o.after m) m.origins) p
      (subst (λ (z : ℕ). Explains c text z place (reason_of z o.after m) m.origins) n k))

  right-here :
      (pieces : List (List ℕ)) → (explained q pieces).given ≡ Answer.Refused q.stated.number q.stated.place
      → Explains c (joined pieces) q.stated.number q.stated.place (explained q pieces).explanation (explained q pieces).after.memory.origins
  unfolding closed_for
  right-here pieces =
      subst
      (λ (x : Explained).
      x.given ≡ Answer.Refused q.stated.number q.stated.place
      → Explains c (joined pieces) q.stated.number q.stated.place x.explanation x.after.memory.origins)
      (sym (explained-is pieces))
      (λ g.
      let z = ended (joined pieces) in
      let o = close_of z.state in
      subst (λ (w : Stated). Explains c (joined pieces) q.stated.number q.stated.place (explanation_of w o.answer o.after z.memory) z.memory.origins)
      (sym (told-stated (text_lines (joined pieces)) (fresh_for q)))
      (right_of (joined pieces) z.memory o (found (joined pieces)) g))

  two_here : (pieces : List (List ℕ)) → ((explained q pieces).given ≡ Answer.Refused q.stated.number q.stated.place → ⊥) → (explained q pieces).explanation ≡ Explanation.Refused 2
  unfolding closed_for
  two_here pieces =
      subst (λ (x : Explained). (x.given ≡ Answer.Refused q.stated.number q.stated.place → ⊥) → x.explanation ≡ Explanation.Refused 2) (sym (explained-is pieces))
      (λ n.
      let z = ended (joined pieces) in
      let o = close_of z.state in
      ap (λ (w : Stated). explanation_of w o.answer o.after z.memory) (told-stated (text_lines (joined pieces)) (fresh_for q))
      ∙ explained-no q.stated o.answer o.after z.memory n)

  beyond-here : (pieces : List (List ℕ)) → drop lines_lent (explained q pieces).after.memory.lines ≡ drop lines_lent q.lines
  unfolding closed_for
  beyond-here pieces = ap (λ (x : Explained). drop lines_lent x.after.memory.lines) (explained-is pieces) ∙ past (ended_is (joined pieces))
    where
      past : {beyond : List ℕ} {lines : List (List ℕ)} {x : Reading} → ToldEnded c beyond lines x → drop lines_lent x.memory.lines ≡ beyond
      past (all_told reads at arrival r) = r.past
      past (stopped before line after there reads stop holds r kept) = r.past

-- ---- the laws

pub reads-as-reader : ReadsAsReader
reads-as-reader q pieces lent = as-reader q lent pieces

pub explained-cut : ExplainedCut
explained-cut q p r lent e = explained-is q lent p ∙ ap (λ (t : List ℕ). closed_for (ended q lent t)) e ∙ sym (explained-is q lent r)

pub lines-beyond : LinesBeyond
lines-beyond q pieces lent = beyond-here q lent pieces

pub explained-right : ExplainedRight
explained-right q pieces lent = right-here q lent pieces

pub two-exactly : TwoExactly
two-exactly q pieces lent = (
  λ e g. not-two q.choices (joined pieces) q.stated.number _ _ _ (right-here q lent pieces g) e,
  two_here q lent pieces,
)

pub accepted-never : AcceptedNever
accepted-never q pieces rows lent a =
    let answer = ap (λ (o : Out). o.answer) (as-reader q lent pieces) ∙ (verdict-exactly q.choices q.cells q.flags pieces _ lent.opens).1 (VerdictFrom.accepted a) in
    two_here q lent pieces (λ g. refused-accepted (sym g ∙ answer))

-- opening
pub opens-for : OpensFor
unfolding open_for refusal
opens-for q =
    let c = q.choices in
    let o = open_of c q.cells q.flags in (
      by-test (λ (z : Stepped). z.answer ≡ Answer.Going → Lent q) (ltb (length q.lines) lines_lent) _ _
          (λ short e. absurd (refused-going e))
          (λ long e. record { opens = opens-here (opening-is c q.cells q.flags) e; lines = ltb-false (length q.lines) lines_lent long }),
      λ lent. rw (le-ltb (length q.lines) lines_lent lent.lines) (ap (λ (z : Out). z.answer) (opened-whole c q.cells q.flags lent.opens)),
    )
  where
    refused-going : {number : ℕ} {place : Place} → Answer.Refused number place ≡ Answer.Going → ⊥
    refused-going p = let w : ◌≡◌ {A = ℕ} 0 1 = cc in omega arith

    opens-here : {o : Out} → Opening q.choices q.cells q.flags o → o.answer ≡ Answer.Going → Opens q.choices q.cells q.flags
    opens-here (shut number closed) e = absurd (refused-going e)
    opens-here (starts p) e = p

pub opens-as-reader : OpensAsReader
unfolding open_for refusal number_of
opens-as-reader q =
    by-test (OpensAs q) (ltb (length q.lines) lines_lent) _ _
    (λ few.
    let low = ltb-true (length q.lines) lines_lent few in
    record { short = λ h. refl; enough = λ h. absurd (omega arith); unchanged = λ h. refl })
    (λ many.
    let high = ltb-false (length q.lines) lines_lent many in
    record { short = λ h. absurd (omega arith); enough = λ h. refl; unchanged = left })
  where
    made : Out → Reading
    made o =
        reading_of (fresh_with o.after.reader q.stated) o.after.cells o.after.flags
        (cond (eqb o.after.reader.marks.stage 1) (replicate lines_lent 0 ++ drop lines_lent q.lines) q.lines)

    left : 0 < number_of (open_of q.choices q.cells q.flags).answer → made (open_of q.choices q.cells q.flags) ≡ reading_of (fresh_with never q.stated) q.cells q.flags q.lines
    left h =
        ap
        (λ (s : State).
        reading_of (fresh_with s.reader q.stated) s.cells s.flags
        (cond (eqb s.reader.marks.stage 1) (replicate lines_lent 0 ++ drop lines_lent q.lines) q.lines))
        (open-unchanged q.choices q.cells q.flags h)
