-- What the lines of a text come to for an explainer, from opening on: all are read, and each row is remembered; or one of them is refused, and what was remembered is of the lines before
-- it, while the reader keeps that line. Assumes nothing.
use mathlib.Core.Path.{◌≡◌, refl, sym, ap, subst, ◌∙◌}
use mathlib.Core.Bool.{Bool, true}
use mathlib.Core.List.{List, [], ◌∷◌, ◌++◌, append-nil}
use Prim.Native.Nat.{ℕ, suc, ◌+◌}
use native.Mathlib.Omega.{arith}
use lib.Dec.{eqb}
use lib.ListN.{length, drop, length-append}
use lib.Seq.{take-append_seam, append_snoc}
use borrow.Author.Tests.{eq-eqb}
use Rattle.row.specs.declared.reading.Choices.{Choices}
use Rattle.row.specs.declared.reading.Entry.{Entry}
use Rattle.row.specs.Told.{Row}
use Rattle.row.specs.own.Rows.{row_of}
use Rattle.row.specs.LineRules.{LineIs}
use Rattle.row.proofs.LineRules.{line_gives}
use Rattle.row.proofs.Used.{used-is, refused-is}
use Rattle.grid.specs.declared.nodes.Slots.{Slots}
use Rattle.table.specs.Closing.{node_of}
use Rattle.reader.specs.declared.record.Record.{Record}
use Rattle.table.specs.Placing.{Table, Placed, placed}
use Rattle.reader.specs.Valid.{clean}
use Rattle.reader.specs.Model.{State, table_at, stuck_at, settled, passed, ended}
use Rattle.origins.specs.Memory.{Memory, remembered, recalled}
use Rattle.explain.specs.Model.{Reading}
use Rattle.reasons.specs.Reasons.{line_kept, row_kept}
use Rattle.promises_calls.specs.Lines.{kept_line, line_read, AtLineStart}
use Rattle.promises_tables.specs.Holds.{Holds}
use Rattle.promises_texts.specs.Start.{StartsAt, further, from_opening}
use Rattle.promises_texts.specs.Arrival.{InArrival}
use Rattle.promises_texts.specs.Accepted.{Silent, Brings, Reads}
use Rattle.promises_texts.specs.Accepted.Silent.{blank, title, passed_over}
use Rattle.promises_texts.specs.Accepted.Brings.{nothing, a-row}
use Rattle.promises_calls.proofs.LineNumbers.{line-told, row_line}
use Rattle.promises_calls.proofs.Moves.{by-placed}
use Rattle.promises_rows.proofs.Said.{usable-proper}
use Rattle.promises_tables.proofs.Placed.{row_keeps}
use Rattle.promises_calls.proofs.Refusals.{refused-line}
use Rattle.promises_texts.proofs.Verdicts.{used-one, silent-not-used, reads_more}
use Rattle.promises_calls.proofs.Lines.{Feedless, end, then, by-limit, line-at-line}
use Rattle.promises_texts.proofs.Accepted.{HoldsInOrder, Came, on, halts, StopsFrom, stops-shut, line-came}
use Rattle.promises_explained.proofs.Recalled.{Recalls, recalls-more, recalls-row}
use Rattle.promises_explained.proofs.Telling.{of-line, line_told, lines_told, told-open, told-shut, recalled-shut}

-- ---- a line

-- the line that a reader keeps which it has stopped, but for 3
pub record KeepsLine (c : Choices) (n : ℕ) (line : List ℕ) (s : State) : Type 0 where
  pub text : (s.reader.marks.stage ≡ 3 → ⊥) → line_kept s.reader ≡ line
  pub row : (s.reader.marks.stage ≡ 3 → ⊥) → row_kept s.reader ≡ row_of c (eqb n 0) line

-- where it does not stop the reader: the table as it was, or with the row in it
pub data Passes (kind : ℕ) (t t' : Table) : Row → Type 0 where
  still : {w : Row} → Silent w → t' ≡ t → Passes kind t t' w
  taken : {e : Entry} → (placed kind e t).number ≡ 0 → t' ≡ (placed kind e t).table → Passes kind t t' (Row.Used e)

module _ (k : State) (now : k.reader.marks.stage ≡ 1) where
  -- the end of a line that stops the reader leaves what it keeps
  ended-kept : (w : Row) → ((ended w k).reader.marks.stage ≡ 1 → ⊥) → (line_kept (ended w k).reader ≡ line_kept k.reader) × (row_kept (ended w k).reader ≡ row_kept k.reader)
  unfolding ended settled passed stuck_at row_kept
  ended-kept Row.Blank = λ n. absurd (n now)
  ended-kept Row.Title = λ n. absurd (n now)
  ended-kept Row.PassedOver = λ n. absurd (n now)
  ended-kept (Row.Refused number) = λ n. (refl, refl)
  ended-kept (Row.Used e) =
      by-placed
      (λ (p : Placed). ((settled p k).reader.marks.stage ≡ 1 → ⊥) → (line_kept (settled p k).reader ≡ line_kept k.reader) × (row_kept (settled p k).reader ≡ row_kept k.reader))
      k.reader.choices.kind e (table_at k)
      (λ f n. absurd (n now))
      (λ n. (refl, refl))
      (λ n. (refl, refl))

  -- where it does not, the row was silent, or is in the table
  row-taken : (e : Entry) → (settled (placed k.reader.choices.kind e (table_at k)) k).reader.marks.stage ≡ 1
      → ((placed k.reader.choices.kind e (table_at k)).number ≡ 0)
      × (table_at (settled (placed k.reader.choices.kind e (table_at k)) k) ≡ (placed k.reader.choices.kind e (table_at k)).table)
  unfolding settled passed stuck_at
  row-taken e =
      by-placed (λ (p : Placed). (settled p k).reader.marks.stage ≡ 1 → (p.number ≡ 0) × (table_at (settled p k) ≡ p.table)) k.reader.choices.kind e (table_at k)
      (λ f o. (refl, refl))
      (λ o. absurd (omega arith))
      (λ o. absurd (omega arith))

  ended-passes :
      (c : Choices) (first : Bool) (line : List ℕ) (w : Row) → row_of c first line ≡ w → (ended w k).reader.marks.stage ≡ 1
      → Passes k.reader.choices.kind (table_at k) (table_at (ended w k)) w
  unfolding ended passed stuck_at
  ended-passes c first line Row.Blank e o = still blank refl
  ended-passes c first line Row.Title e o = still title refl
  ended-passes c first line Row.PassedOver e o = still passed_over refl
  ended-passes c first line (Row.Refused number) e o = absurd (omega (arith, (line-told (row_line (refused-is c first line e))).least))
  ended-passes c first line (Row.Used x) e o = let k = row-taken x o in taken k.0 k.1

module _ (s : State) (at : AtLineStart s) (line : List ℕ) where
  abbrev row : Row
  row = row_of s.reader.choices (eqb s.reader.marks.lines 0) line

  held-open : (kept_line line s).reader.marks.stage ≡ 1
  unfolding kept_line
  held-open = at.stage

  held-text : line_kept (kept_line line s).reader ≡ line
  unfolding kept_line
  held-text = take-append_seam line (drop (length line) s.reader.kept)

  line_kept_lem : ((line_read line s).reader.marks.stage ≡ 1 → ⊥) → KeepsLine s.reader.choices s.reader.marks.lines line (line_read line s)
  unfolding line_read stuck_at
  line_kept_lem =
      by-limit (λ (z : State). (z.reader.marks.stage ≡ 1 → ⊥) → KeepsLine s.reader.choices s.reader.marks.lines line z) line s _
      (λ full n. record { text = λ other. absurd (other refl); row = λ other. absurd (other refl) })
      (λ more long n. record { text = λ other. absurd (other refl); row = λ other. absurd (other refl) })
      (λ more short n.
      let same = ended-kept (kept_line line s) held-open row n in
      record { text = λ other. same.0 ∙ held-text; row = λ other. same.1 ∙ of-line s at line })

  row-passes : (ended row (kept_line line s)).reader.marks.stage ≡ 1 → Passes s.reader.choices.kind (table_at s) (table_at (ended row (kept_line line s))) row
  unfolding kept_line
  row-passes o = ended-passes (kept_line line s) held-open s.reader.choices (eqb s.reader.marks.lines 0) line row refl o

  line-passes : (line_read line s).reader.marks.stage ≡ 1 → Passes s.reader.choices.kind (table_at s) (table_at (line_read line s)) row
  unfolding line_read stuck_at
  line-passes =
      by-limit (λ (z : State). z.reader.marks.stage ≡ 1 → Passes s.reader.choices.kind (table_at s) (table_at z) row) line s _
      (λ full o. absurd (omega arith))
      (λ more long o. absurd (omega arith))
      (λ more short o. row-passes o)

-- ---- lines

-- what lines come to, from opening on; `beyond` is what is lent past the 6,400th line
pub data ToldEnded (c : Choices) (beyond : List ℕ) (lines : List (List ℕ)) (x : Reading) : Type 0 where
  all_told :
      {rows : List Entry} → Reads c 0 lines rows → StartsAt (further (from_opening c) lines rows) x.state → InArrival rows x.state.reader.slots
      → Recalls c lines rows (table_at x.state) x.memory beyond
      → ToldEnded c beyond lines x
  stopped :
      (before : List (List ℕ)) (line : List ℕ) (after : List (List ℕ)) {rows : List Entry} → lines ≡ before ++ (line ∷ after) → Reads c 0 before rows
      → StopsFrom (from_opening c) before rows line x.state
      → Holds c.kind rows (table_at x.state)
      → Recalls c before rows (table_at x.state) x.memory beyond
      → KeepsLine c (length before) line x.state
      → ToldEnded c beyond lines x

module _ {c : Choices} {beyond : List ℕ} {before : List (List ℕ)} {rows : List Entry} (line : List ℕ) {t : Table} (t' : Table) {m : Memory}
    (reads : Reads c 0 before rows) (holds : Holds c.kind rows t) (r : Recalls c before rows t m beyond) where
  -- a row that the table took
  taken-recalls :
      {e : Entry} → LineIs c (eqb (0 + length before) 0) line (Row.Used e) → (placed c.kind e t).number ≡ 0 → t' ≡ (placed c.kind e t).table
      → Holds c.kind (rows ++ (e ∷ [])) t'
      → InArrival (rows ++ (e ∷ [])) t'.slots
      → Recalls c (before ++ (line ∷ [])) (rows ++ (e ∷ [])) t' (remembered t'.slots e (length before + 1) m) beyond
  taken-recalls {e} l free same after arrival =
      let count : 0 + length before ≡ length before = omega arith in
      let used : LineIs c (eqb (length before) 0) line (Row.Used e) = subst (λ (n : ℕ). LineIs c (eqb n 0) line (Row.Used e)) count l in
      let proper = usable-proper c (used-is c (eqb (length before) 0) line (line_gives c (eqb (length before) 0) line used)) in
      recalls-row line reads used r holds after arrival
      (λ a over. ap (λ (z : Table). node_of z.slots a) same ∙ row_keeps c.kind rows t e holds proper free a over)

  module _ (z : Record) (now : z.marks.stage ≡ 1) (at-line : z.marks.lines ≡ suc (0 + length before)) (its-slots : z.slots ≡ t'.slots) where
    abbrev Next : List Entry → Memory → Type 0
    Next more m' = Recalls c (before ++ (line ∷ [])) (rows ++ more) t' m' beyond

    silent-recalls : {w : Row} → Silent w → t' ≡ t → Next [] (recalled w z m)
    unfolding recalled
    silent-recalls {w} s same =
        subst (λ (l : List Entry). Recalls c (before ++ (line ∷ [])) l t' (recalled w z m) beyond) (sym (append-nil rows))
        (subst (λ (y : Table). Recalls c (before ++ (line ∷ [])) rows y (recalled w z m) beyond) (sym same) (keeps s))
      where
        keeps : {v : Row} → Silent v → Recalls c (before ++ (line ∷ [])) rows t (recalled v z m) beyond
        keeps blank = recalls-more (line ∷ []) r
        keeps title = recalls-more (line ∷ []) r
        keeps passed_over = recalls-more (line ∷ []) r

    passes-recalls :
        {w : Row} {more : List Entry} → row_of c (eqb (0 + length before) 0) line ≡ w → Passes c.kind t t' w → Brings c (0 + length before) line more
        → Holds c.kind (rows ++ more) t'
        → InArrival (rows ++ more) t'.slots
        → Next more (recalled w z m)
    unfolding recalled
    passes-recalls e (still silent same) (nothing limits l quiet) h a = silent-recalls silent same
    passes-recalls e (still silent same) (a-row limits l) h a = absurd (silent-not-used silent (sym e ∙ line_gives c _ line l))
    passes-recalls e (taken free same) (nothing limits l quiet) h a = absurd (silent-not-used quiet (sym (line_gives c _ line l) ∙ e))
    passes-recalls e (taken {e = x} free same) (a-row {e = y} limits l) h a =
        let one : y ≡ x = used-one (sym (line_gives c _ line l) ∙ e) in
        let number : length before + 1 ≡ z.marks.lines = omega (arith, at-line) in
        rw (eq-eqb z.marks.stage 1 now)
        (subst (λ (d : Entry). Next (d ∷ []) (remembered z.slots x z.marks.lines m)) (sym one)
        (subst (λ (s : Slots). Next (x ∷ []) (remembered s x z.marks.lines m)) (sym its-slots)
        (subst (λ (n : ℕ). Next (x ∷ []) (remembered t'.slots x n m)) number
        (taken-recalls (subst (λ (d : Entry). LineIs c (eqb (0 + length before) 0) line (Row.Used d)) one l) free same
        (subst (λ (d : Entry). Holds c.kind (rows ++ (d ∷ [])) t') one h)
        (subst (λ (d : Entry). InArrival (rows ++ (d ∷ [])) t'.slots) one a)))))

module _ (c : Choices) (beyond : List ℕ) where
  -- with lines before them that are read already
  abbrev Onward : List (List ℕ) → Type 0
  Onward lines =
      (before : List (List ℕ)) (rows : List Entry) (x : Reading) → Reads c 0 before rows → StartsAt (further (from_opening c) before rows) x.state
      → InArrival rows x.state.reader.slots
      → Recalls c before rows (table_at x.state) x.memory beyond
      → ToldEnded c beyond (before ++ lines) (lines_told lines x)

  module _ (before : List (List ℕ)) {rows : List Entry} (x : Reading) (reads : Reads c 0 before rows) (at : StartsAt (further (from_opening c) before rows) x.state)
      (arrival : InArrival rows x.state.reader.slots) (r : Recalls c before rows (table_at x.state) x.memory beyond) (line : List ℕ) (e : clean line ≡ true) where
    abbrev z : State
    z = line_read line x.state

    its-row : row_of c (eqb (0 + length before) 0) line ≡ row_of x.state.reader.choices (eqb x.state.reader.marks.lines 0) line
    its-row = λ i. row_of (sym at.choices i) (eqb (sym at.lines i) 0) line

    goes_on :
        (lines : List (List ℕ)) → Onward lines → {more : List Entry} → Brings c (0 + length before) line more → z.reader.marks.stage ≡ 1 → z.reader.choices ≡ c
        → z.reader.marks.lines ≡ suc (0 + length before)
        → HoldsInOrder (InArrival rows x.state.reader.slots) c.kind (rows ++ more) (table_at z)
        → ToldEnded c beyond (before ++ (line ∷ lines)) (lines_told lines (line_told line x))
    unfolding line_told
    goes_on lines f {more} b o chosen count h =
        let passes =
        subst (λ (d : Choices). Passes d.kind (table_at x.state) (table_at z) (row_of x.state.reader.choices (eqb x.state.reader.marks.lines 0) line)) at.choices
        (line-passes x.state at.ready line o) in
        let next : StartsAt (further (from_opening c) (before ++ (line ∷ [])) (rows ++ more)) z =
        record { ready = line-at-line x.state at.ready line e o; choices = chosen; lines = omega (arith, length-append before (line ∷ [])); holds = h.holds }
        in
        let came = h.arrival arrival in
        subst (λ (l : List (List ℕ)). ToldEnded c beyond l (lines_told lines (line_told line x))) (append_snoc before line lines)
        (f (before ++ (line ∷ [])) (rows ++ more) (line_told line x) (reads_more reads b) next came
        (passes-recalls line (table_at z) reads at.holds r z.reader o count refl its-row passes b h.holds came))

    halts-here : (lines : List (List ℕ)) → StopsFrom (from_opening c) before rows line z → ToldEnded c beyond (before ++ (line ∷ lines)) (lines_told lines (line_told line x))
    unfolding line_told
    halts-here lines stop =
        let shut = stops-shut stop in
        let table = refused-line line x.state at.ready.stage shut in
        let memory = recalled-shut (row_of x.state.reader.choices (eqb x.state.reader.marks.lines 0) line) z.reader x.memory shut in
        let count : 0 + length before ≡ length before = omega arith in
        subst (ToldEnded c beyond (before ++ (line ∷ lines))) (sym (told-shut lines (line_told line x) shut))
        (stopped before line lines refl reads stop
        (subst (Holds c.kind rows) (sym table) at.holds)
        (subst (λ (y : Table). Recalls c before rows y (line_told line x).memory beyond) (sym table) (subst (λ (y : Memory). Recalls c before rows (table_at x.state) y beyond) (sym memory) r))
        (subst (λ (d : Choices). KeepsLine d (length before) line z) at.choices
        (subst (λ (n : ℕ). KeepsLine x.state.reader.choices n line z) (at.lines ∙ count) (line_kept_lem x.state at.ready line shut))))

    next-told :
        (lines : List (List ℕ)) → Onward lines → Came (InArrival rows x.state.reader.slots) c (0 + length before) rows line z
        → ToldEnded c beyond (before ++ (line ∷ lines)) (lines_told lines (line_told line x))
    next-told lines f (on b o chosen count h) = goes_on lines f b o chosen count h
    next-told lines f (halts stop) = halts-here lines stop

  pub lines-told : {lines : List (List ℕ)} → Feedless lines → Onward lines
  unfolding lines_told
  lines-told end before rows x reads at arrival r = subst (λ (l : List (List ℕ)). ToldEnded c beyond l x) (sym (append-nil before)) (all_told reads at arrival r)
  lines-told (then {line = line} {lines = lines} e f) before rows x reads at arrival r =
      subst (ToldEnded c beyond (before ++ (line ∷ lines))) (sym (told-open line lines x at.ready.stage))
      (next-told before x reads at arrival r line e lines (lines-told f) (line-came x.state at (λ a. a) line))
