-- The answer to a text is the one that the rules give: a line goes on with the rows that it brings, or halts at the number that it breaks; line after line the table holds the
-- rows of the lines before; and closing asks that table. Assumes nothing.
use mathlib.Core.Path.{◌≡◌, refl, sym, ap, subst, ◌∙◌}
use mathlib.Core.Bool.{true}
use mathlib.Core.Logic.{◌↔◌}
use mathlib.Core.List.{List, [], ◌∷◌, ◌++◌, append-nil, append_assoc}
use Prim.Native.Nat.{ℕ, suc, ◌+◌, ◌≤◌, ◌<◌}
use native.Mathlib.Omega.{arith}
use lib.Dec.{eqb, lit≤}
use lib.ListN.{length, length-append, take-append-drop}
use lib.Seq.{append_snoc}
use borrow.Author.Tests.{eq-eqb, ne_eqb, le-leb}
use Rattle.row.specs.declared.reading.Choices.{Choices}
use Rattle.row.specs.declared.reading.Entry.{Entry}
use Rattle.row.specs.Told.{Row}
use Rattle.row.specs.LineRules.{LineIs}
use Rattle.row.proofs.LineRules.{line-is, line_gives}
use Rattle.row.proofs.Used.{used-is}
use Rattle.table.specs.declared.closing.Closed.{Closed}
use Rattle.reader.specs.Valid.{clean, valid_of}
use Rattle.table.specs.Placing.{Table, Placed}
use Rattle.table.specs.Closing.{closed_of}
use Rattle.reader.specs.declared.reader.Place.{Place}
use Rattle.reader.specs.declared.reader.Answer.{Answer}
use Rattle.reader.specs.Model.{
  table_at,
  State,
  Out,
  stuck_at,
  settled,
  passed,
  ended,
  bytes_of,
  refusal_place,
  refusal,
  repeated,
  going,
  piece_of,
  settled_by,
  closing,
  close_of,
  out,
}
use Rattle.reader.proofs.Valid.{valid-kept}
use Rattle.promises_calls.specs.Cutting.{pieces_of, joined}
use Rattle.promises_calls.specs.Lines.{text_lines, feeds_in, ended_lines, unfinished, kept_line, line_read, part_read, in_turn, AtLineStart}
use Rattle.promises_tables.specs.Holds.{Holds, Outcome}
use Rattle.promises_tables.specs.Holds.Outcome.{refused, taken}
use Rattle.promises_rows.specs.Said.{ticks_of, headings_of}
use Rattle.promises_chains.specs.Chain.{opened}
use Rattle.promises_tables.specs.Closing.{Closes}
use Rattle.promises_texts.specs.Start.{Start, StartsAt, further, from_opening}
use Rattle.promises_texts.specs.Accepted.{
  Limits,
  OverLimits,
  Silent,
  Brings,
  Breaks,
  Reads,
  ReadsFrom,
  RulesFrom,
  line_after,
  AcceptsFrom,
  VerdictFrom,
  PieceVerdictFrom,
  Accepts,
  Verdict,
  PieceVerdict,
  answer_from,
  VerdictFromExactly,
  last_from,
  PieceFromExactly,
  LinesStart,
  AcceptedFromIff,
  VerdictExactly,
  PieceExactly,
  AcceptedIff,
}
use Rattle.promises_texts.specs.Arrival.{InArrival}
use Rattle.promises_texts.specs.Accepted.Silent.{blank, title, passed_over}
use Rattle.promises_texts.specs.Accepted.Brings.{nothing, a-row}
use Rattle.promises_texts.specs.Accepted.OverLimits.{past-lines, too_long}
use Rattle.promises_texts.specs.Accepted.Breaks.{over-limits, by_itself, against-rows}
use Rattle.promises_rows.proofs.Said.{usable-proper}
use Rattle.promises_tables.proofs.Placed.{row-placed, row-rules}
use Rattle.promises_calls.proofs.Refusals.{refused-line}
use Rattle.promises_texts.proofs.Arrival.{row-arrival}
use Rattle.promises_tables.proofs.Closing.{closed_is}
use Rattle.promises_calls.proofs.Lines.{
  Feedless,
  end,
  then,
  lines-feedless,
  feedless-take,
  by-limit,
  turn-open,
  turn-shut,
  line-at-line,
  Last,
  none_left,
  one_left,
  unfinished-last,
  text-is-lines,
  closing-is-lines,
}
use Rattle.promises_calls.proofs.Cutting.{going-after}
use Rattle.promises_chains.proofs.Calls.{next-piece}
use Rattle.promises_texts.proofs.Start.{from-opening, open-starts}
use Rattle.promises_calls.specs.Answers.{OfLine}
use Rattle.promises_calls.proofs.LineNumbers.{line-told}
use Rattle.promises_texts.proofs.Verdicts.{answer_for, Sorted, breaks-number, reads-one, reads_more, not-among, verdict-of, verdict-from-one, piece-from-one}

-- ---- a line

-- stuck with a number and a line
pub record Halted (number line : ℕ) (s : State) : Type 0 where
  pub stage : s.reader.marks.stage ≡ number
  pub place : s.reader.marks.line ≡ line

-- a table that holds these rows; and its slots are in the order in which they came if A, which is that those of the start are (`Arrives`)
pub record HoldsInOrder (A : Type 0) (kind : ℕ) (rows : List Entry) (t : Table) : Type 0 where
  pub holds : Holds kind rows t
  pub arrival : A → InArrival rows t.slots

-- a line that is refused, with n lines before it that brought these rows
pub record Stops (c : Choices) (n : ℕ) (rows : List Entry) (line : List ℕ) (s : State) : Type 0 where
  pub number : ℕ
  pub breaks : Breaks c n rows line number
  pub stuck : Halted number (n + 1) s

-- what a line comes to
pub data Came (A : Type 0) (c : Choices) (n : ℕ) (rows : List Entry) (line : List ℕ) (s : State) : Type 0 where
  on :
      {more : List Entry} → Brings c n line more → s.reader.marks.stage ≡ 1 → s.reader.choices ≡ c → s.reader.marks.lines ≡ suc n
      → HoldsInOrder A c.kind (rows ++ more) (table_at s)
      → Came A c n rows line s
  halts : Stops c n rows line s → Came A c n rows line s

-- where the million lines are not full there is one to come
line-room : (s : State) → valid_of s.reader ≡ true → (s.reader.marks.lines ≡ 1_000_000 → ⊥) → s.reader.marks.lines < 1_000_000
line-room s valid more = omega (arith, (valid-kept s.reader valid).lines)

module _ (s : State) (at : AtLineStart s) (line : List ℕ) {A : Type 0} (rows : List Entry) (h : HoldsInOrder A s.reader.choices.kind rows (table_at s)) where
  abbrev C : State → Type 0
  C = Came A s.reader.choices s.reader.marks.lines rows line

  module _ (limits : Limits s.reader.marks.lines line) where
    -- 4 to 9
    halts-with : {number : ℕ} → Breaks s.reader.choices s.reader.marks.lines rows line number → C (stuck_at number (kept_line line s).reader.marks.lines (kept_line line s))
    unfolding stuck_at kept_line
    halts-with {number} b = halts record { number = number; breaks = b; stuck = record { stage = refl; place = refl } }

    module _ {e : Entry} (l : LineIs s.reader.choices (eqb s.reader.marks.lines 0) line (Row.Used e)) where
      outcome-came :
          {p : Placed} → Outcome s.reader.choices.kind rows e (table_at s) p
          → (p.number ≡ 0 → A → InArrival (rows ++ (e ∷ [])) p.table.slots)
          → C (settled p (kept_line line s))
      unfolding settled passed kept_line
      outcome-came (refused {number = number} some r) a =
          let other : number ≡ 0 → ⊥ = λ z. omega arith in
          rw (ne_eqb number 0 other) (halts-with (against-rows limits l r some))
      outcome-came (taken r holds) a = on (a-row limits l) at.stage refl (omega arith) (record { holds = holds; arrival = a refl })

    -- no row
    passed-came : {row : Row} → LineIs s.reader.choices (eqb s.reader.marks.lines 0) line row → Silent row → C (passed (kept_line line s))
    unfolding passed kept_line
    passed-came l silent =
        on (nothing limits l silent) at.stage refl (omega arith)
        (subst (λ (r : List Entry). HoldsInOrder A s.reader.choices.kind r (table_at s)) (sym (append-nil rows)) h)

    row-came : (w : Row) → LineIs s.reader.choices (eqb s.reader.marks.lines 0) line w → C (ended w (kept_line line s))
    unfolding ended kept_line
    row-came Row.Blank l = passed-came l blank
    row-came Row.Title l = passed-came l title
    row-came Row.PassedOver l = passed-came l passed_over
    row-came (Row.Refused number) l = halts-with (by_itself limits l)
    row-came (Row.Used e) l =
        let c = s.reader.choices in
        let first = eqb s.reader.marks.lines 0 in
        let proper = usable-proper c (used-is c first line (line_gives c first line l)) in
        outcome-came l (row-placed c.kind rows (table_at s) e h.holds proper)
        (λ free a. row-arrival c.kind rows (table_at s) e h.holds proper (h.arrival a) free)

  came-here : C (line_read line s)
  unfolding line_read stuck_at
  came-here =
      by-limit C line s _
      (λ full. halts record { number = 3; breaks = over-limits (past-lines (omega arith)); stuck = record { stage = refl; place = omega arith } })
      (λ more long. halts record { number = 3; breaks = over-limits (too_long long); stuck = record { stage = refl; place = refl } })
      (λ more short.
      row-came (record { few = line-room s at.valid more; short = short }) _ (line-is s.reader.choices (eqb s.reader.marks.lines 0) line))

-- ---- lines

module _ {g : Start} (s : State) (at : StartsAt g s) {A : Type 0} (a : A → InArrival g.rows s.reader.slots) where
  pub held : HoldsInOrder A g.choices.kind g.rows (table_at s)
  held = record { holds = at.holds; arrival = a }

  pub line-came : (line : List ℕ) → Came A g.choices g.lines g.rows line (line_read line s)
  line-came line =
      let here = subst (λ (d : Choices). HoldsInOrder A d.kind g.rows (table_at s)) (sym at.choices) held in
      subst (λ (d : Choices). Came A d g.lines g.rows line (line_read line s)) at.choices
      (subst (λ (k : ℕ). Came A s.reader.choices k g.rows line (line_read line s)) at.lines (came-here s at.ready line g.rows here))

-- where no line is read yet
pub not-further : (g : Start) (s : State) → StartsAt g s → StartsAt (further g [] []) s
not-further g s at =
    record {
      ready = at.ready;
      choices = at.choices;
      lines = omega (arith, at.lines);
      holds = subst (λ (l : List Entry). Holds g.choices.kind l (table_at s)) (sym (append-nil g.rows)) at.holds;
    }

-- a line that stops the reader, after lines from a start that brought these rows
abbrev pub StopsFrom : Start → List (List ℕ) → List Entry → List ℕ → State → Type 0
StopsFrom g before rows line s = Stops g.choices (g.lines + length before) (g.rows ++ rows) line s

-- the table of a reader that has read lines from a start which brought these rows
abbrev pub HoldsFrom : Type 0 → Start → List Entry → State → Type 0
HoldsFrom A g rows s = HoldsInOrder A g.choices.kind (g.rows ++ rows) (table_at s)

-- what lines come to, read from a start on: all are read, or one of them breaks a rule
pub data Ended (A : Type 0) (g : Start) (lines : List (List ℕ)) (s : State) : Type 0 where
  all_read :
      {rows : List Entry} → ReadsFrom g lines rows → StartsAt (further g lines rows) s → (A → InArrival (g.rows ++ rows) s.reader.slots) → Ended A g lines s
  halted :
      (before : List (List ℕ)) (line : List ℕ) (after : List (List ℕ)) {rows : List Entry} → lines ≡ before ++ (line ∷ after) → ReadsFrom g before rows
      → StopsFrom g before rows line s
      → HoldsFrom A g rows s
      → Ended A g lines s

pub stops-shut : {c : Choices} {n : ℕ} {rows : List Entry} {line : List ℕ} {s : State} → Stops c n rows line s → s.reader.marks.stage ≡ 1 → ⊥
stops-shut x o = let told = line-told (breaks-number x.breaks) in omega (arith, told.least, x.stuck.stage)

module _ (A : Type 0) (g : Start) where
  -- and with lines before them that are read already
  abbrev Onward : List (List ℕ) → Type 0
  Onward lines =
      (before : List (List ℕ)) (rows : List Entry) (s : State) → ReadsFrom g before rows → StartsAt (further g before rows) s
      → (A → InArrival (g.rows ++ rows) s.reader.slots)
      → Ended A g (before ++ lines) (in_turn line_read lines s)

  next-ended :
      (before : List (List ℕ)) {rows : List Entry} (s : State) → ReadsFrom g before rows → StartsAt (further g before rows) s
      → (A → InArrival (g.rows ++ rows) s.reader.slots)
      → (line : List ℕ) (lines : List (List ℕ))
      → clean line ≡ true
      → Onward lines
      → Came A g.choices (g.lines + length before) (g.rows ++ rows) line (line_read line s)
      → Ended A g (before ++ (line ∷ lines)) (in_turn line_read lines (line_read line s))
  next-ended before {rows} s r at a line lines e f (on {more = more} b o chosen count h) =
      let z = line_read line s in
      let k = subst (λ (l : List Entry). HoldsInOrder A g.choices.kind l (table_at z)) (append_assoc g.rows rows more) h in
      let next : StartsAt (further g (before ++ (line ∷ [])) (rows ++ more)) z =
      record { ready = line-at-line s at.ready line e o; choices = chosen; lines = omega (arith, length-append before (line ∷ [])); holds = k.holds }
      in
      subst (λ (l : List (List ℕ)). Ended A g l (in_turn line_read lines z)) (append_snoc before line lines)
      (f (before ++ (line ∷ [])) (rows ++ more) z (reads_more r b) next k.arrival)
  next-ended before {rows} s r at a line lines e f (halts x) =
      let same = sym (refused-line line s at.ready.stage (stops-shut x)) in
      subst (Ended A g (before ++ (line ∷ lines))) (sym (turn-shut line_read lines (line_read line s) (stops-shut x)))
      (halted before line lines refl r x (subst (HoldsInOrder A g.choices.kind (g.rows ++ rows)) same (held s at a)))

  lines-ended : {lines : List (List ℕ)} → Feedless lines → Onward lines
  unfolding in_turn
  lines-ended end before rows s r at a = subst (λ (l : List (List ℕ)). Ended A g l s) (sym (append-nil before)) (all_read r at a)
  lines-ended (then {line = line} {lines = lines} e f) before rows s r at a =
      subst (Ended A g (before ++ (line ∷ lines))) (sym (turn-open line_read line lines s at.ready.stage))
      (next-ended before s r at a line lines e (lines-ended f) (line-came s at a line))

-- the slots of a reader at a start are in order of arrival
abbrev pub Arrives : Start → State → Type 0
Arrives g s = InArrival g.rows s.reader.slots

-- lines from the start on
pub text-ended : (g : Start) (s : State) → StartsAt g s → {lines : List (List ℕ)} → Feedless lines → Ended (Arrives g s) g lines (in_turn line_read lines s)
text-ended g s at f =
    lines-ended (Arrives g s) g f [] [] s Reads.end (not-further g s at) (λ a. subst (λ (l : List Entry). InArrival l s.reader.slots) (sym (append-nil g.rows)) a)

-- ---- closing

-- the answer to what closing finds
settled-answer : (w : Closed) (s : State) → (settled_by w s).answer ≡ answer_for w
unfolding settled_by refusal refusal_place answer_for
settled-answer Closed.Empty s = refl
settled-answer (Closed.Missing pair) s = refl
settled-answer (Closed.Complete frequencies headings) s = refl

closing-open : (s : State) → s.reader.marks.stage ≡ 1 → (closing s).answer ≡ answer_for (closed_of s.reader.choices.coverage s.reader.slots s.flags)
unfolding closing
closing-open s o = rw (eq-eqb s.reader.marks.stage 1 o) (settled-answer _ s)

-- what a stuck record repeats
module _ (s : State) (number line : ℕ) (h : Halted number line s) (of-line : OfLine number) where
  halted-shut : s.reader.marks.stage ≡ 1 → ⊥
  halted-shut e = let told = line-told of-line in omega (arith, told.least, h.stage)

  halted-repeats : (repeated s).answer ≡ Answer.Refused number (Place.Line line)
  unfolding repeated refusal refusal_place
  halted-repeats =
      let stage = s.reader.marks.stage in
      let told = line-told of-line in
      let least : 3 ≤ stage = omega (arith, told.least, h.stage) in
      let other : stage ≡ 11 → ⊥ = λ e. told.not-eleven (sym h.stage ∙ e) in
      let next : stage ≡ 10 → ⊥ = λ e. told.not-ten (sym h.stage ∙ e) in
      rw (le-leb 3 stage least, ne_eqb stage 11 other, ne_eqb stage 10 next) (λ i. Answer.Refused (h.stage i) (Place.Line (h.place i)))

  pub closing-halted : (closing s).answer ≡ Answer.Refused number (Place.Line line)
  unfolding closing
  closing-halted = rw (ne_eqb s.reader.marks.stage 1 halted-shut) halted-repeats

  going-halted : (going s).answer ≡ Answer.Refused number (Place.Line line)
  unfolding going
  going-halted = rw (ne_eqb s.reader.marks.stage 1 halted-shut) halted-repeats

going-open : (s : State) → s.reader.marks.stage ≡ 1 → (going s).answer ≡ Answer.Going
unfolding going
going-open s o = rw (eq-eqb s.reader.marks.stage 1 o)

-- what closing finds, where all lines are read
pub closes_here :
    (g : Start) (lines : List (List ℕ)) (rows : List Entry) (s : State) → StartsAt (further g lines rows) s
    → Closes g.choices.kind g.choices.coverage (g.rows ++ rows) (closed_of s.reader.choices.coverage s.reader.slots s.flags)
closes_here g lines rows s at =
    subst (λ (d : Choices). Closes g.choices.kind g.choices.coverage (g.rows ++ rows) (closed_of d.coverage s.reader.slots s.flags)) (sym at.choices)
    (closed_is g.choices.kind g.choices.coverage (g.rows ++ rows) (table_at s) at.holds)

pub closing-sorted : {A : Type 0} (g : Start) (text : List ℕ) (s : State) → Ended A g (text_lines text) s → Sorted g text (closing s).answer
closing-sorted g text s (all_read {rows = rows} r at a) =
    subst (Sorted g text) (sym (closing-open s at.ready.stage)) (Sorted.ended r (row-rules at.holds) (closes_here g (text_lines text) rows s at))
closing-sorted g text s (halted before line after e r x k) =
    subst (Sorted g text) (sym (closing-halted s x.number (line_after g before) x.stuck (breaks-number x.breaks)))
    (Sorted.halted before line after e r (row-rules k.holds) x.breaks)

-- ---- before closing

-- what a text comes to: an ended line breaks a rule, or the one that is not ended has no room, or the reader goes on
pub data PiecesCame (g : Start) (text : List ℕ) (s : State) (rows : List Entry) : Type 0 where
  stopped :
      (before : List (List ℕ)) (line : List ℕ) (after : List (List ℕ)) → ended_lines text ≡ before ++ (line ∷ after) → ReadsFrom g before rows
      → StopsFrom g before rows line s
      → PiecesCame g text s rows
  no_room :
      (line : List ℕ) → unfinished text ≡ line ∷ [] → ReadsFrom g (ended_lines text) rows → OverLimits (g.lines + length (ended_lines text)) line
      → Halted 3 (line_after g (ended_lines text)) s
      → PiecesCame g text s rows
  goes_on :
      ReadsFrom g (ended_lines text) rows → s.reader.marks.stage ≡ 1
      → ((line : List ℕ) → unfinished text ≡ line ∷ [] → Limits (g.lines + length (ended_lines text)) line)
      → PiecesCame g text s rows

-- a line that is not ended leaves the table as it is
part-table : (line : List ℕ) (s : State) → table_at (part_read line s) ≡ table_at s
unfolding part_read kept_line stuck_at
part-table line s = by-limit (λ (m : State). table_at m ≡ table_at s) line s _ (λ full. refl) (λ more long. refl) (λ more short. refl)

module _ (A : Type 0) (g : Start) (text : List ℕ) where
  -- with the rows that the table then holds
  abbrev CameTo : State → Type 0
  CameTo s = (rows : List Entry) × PiecesCame g text s rows × HoldsFrom A g rows s

  module _ (m : State) {rows : List Entry} (r : ReadsFrom g (ended_lines text) rows) (at : StartsAt (further g (ended_lines text) rows) m) where
    part-came : (line : List ℕ) → unfinished text ≡ line ∷ [] → PiecesCame g text (part_read line m) rows
    unfolding part_read kept_line stuck_at
    part-came line e =
        by-limit (λ (z : State). PiecesCame g text z rows) line m _
        (λ full. no_room line e r (past-lines (omega (arith, at.lines))) (record { stage = refl; place = omega (arith, at.lines) }))
        (λ more long. no_room line e r (too_long long) (record { stage = refl; place = omega (arith, at.lines) }))
        (λ more short.
        let limits : Limits (g.lines + length (ended_lines text)) line =
        record { few = let room = line-room m at.ready.valid more in omega (arith, at.lines); short = short }
        in
        goes_on r at.ready.stage (λ other f. let same : line ≡ other = cc in subst (Limits (g.lines + length (ended_lines text))) same limits))

    last-came : HoldsFrom A g rows m → {last : List (List ℕ)} → Last last → unfinished text ≡ last → CameTo (in_turn part_read last m)
    unfolding in_turn
    last-came k none_left e = (rows, goes_on r at.ready.stage (λ line f. let n = ap length (sym e ∙ f) in absurd (omega arith)), k)
    last-came k (one_left {line = line} some) e =
        subst CameTo (sym (turn-open part_read line [] m at.ready.stage))
        (rows, part-came line e, subst (HoldsInOrder A g.choices.kind (g.rows ++ rows)) (sym (part-table line m)) k)

  pub pieces-came : (m : State) → Ended A g (ended_lines text) m → CameTo (in_turn part_read (unfinished text) m)
  pieces-came m (all_read r at a) = last-came m r at (held m at a) (unfinished-last text) refl
  pieces-came m (halted before line after {rows = rows} e r x k) =
      subst CameTo (sym (turn-shut part_read (unfinished text) m (stops-shut x))) (rows, stopped before line after e r x, k)

part-verdict : {g : Start} {text : List ℕ} {rows : List Entry} (s : State) → RulesFrom g rows → PiecesCame g text s rows → PieceVerdictFrom g text (going s).answer
part-verdict {g} {text} s k (stopped before line after e r x) =
    subst (PieceVerdictFrom g text) (sym (going-halted s x.number (line_after g before) x.stuck (breaks-number x.breaks)))
    (PieceVerdictFrom.refused before line after e r k x.breaks)
part-verdict {g} {text} s k (no_room line e r o stuck) =
    subst (PieceVerdictFrom g text) (sym (going-halted s 3 (line_after g (ended_lines text)) stuck (OfLine.by_order (lit≤ tt) (lit≤ tt))))
    (PieceVerdictFrom.over-limits line e r k o)
part-verdict {g} {text} s k (goes_on r o limits) = subst (PieceVerdictFrom g text) (sym (going-open s o)) (PieceVerdictFrom.going r k limits)

-- ---- a text

pub lines-whole : (text : List ℕ) → text_lines text ≡ ended_lines text ++ unfinished text
lines-whole text = sym (take-append-drop (feeds_in text) (text_lines text))

-- one that ends with a line feed is its lines
whole-lines : (text : List ℕ) (s : State) → AtLineStart s → unfinished text ≡ [] → bytes_of text s ≡ in_turn line_read (text_lines text) s
unfolding in_turn
whole-lines text s at e =
    let ends : ended_lines text ≡ text_lines text = sym (lines-whole text ∙ ap (λ (l : List (List ℕ)). ended_lines text ++ l) e ∙ append-nil (ended_lines text)) in
    text-is-lines text s at
    ∙ ap (λ (l : List (List ℕ)). in_turn part_read l (in_turn line_read (ended_lines text) s)) e
    ∙ ap (λ (l : List (List ℕ)). in_turn line_read l s) ends

-- lines that bring rows which keep the rules are all read
pub ended_at :
    {A : Type 0} {g : Start} {lines : List (List ℕ)} {rows : List Entry} {z : State} → ReadsFrom g lines rows → RulesFrom g rows → Ended A g lines z
    → StartsAt (further g lines rows) z
ended_at {g = g} {lines} {rows} {z} r k (all_read t after a) = subst (λ (l : List Entry). StartsAt (further g lines l) z) (reads-one t r) after
ended_at {g = g} r k (halted before line after whole t x h) = absurd (not-among g before line after whole r k t x.breaks)

pub lines_start : LinesStart
lines_start g s text rows at e r k =
    subst (StartsAt (further g (text_lines text) rows)) (sym (whole-lines text s at.ready e)) (ended_at r k (text-ended g s at (lines-feedless text)))

module _ (s : State) (at : AtLineStart s) where
  -- pieces one after the other
  pieces-going :
      (pieces : List (List ℕ)) (a : List ℕ) (before : Out) → before ≡ going (bytes_of a s) → pieces_of pieces before ≡ going (bytes_of (a ++ joined pieces) s)
  unfolding pieces_of joined
  pieces-going [] a before e = rw append-nil e
  pieces-going (p ∷ pieces) a before e =
      let next : piece_of p before.after ≡ going (bytes_of (a ++ p) s) =
      ap (λ (z : Out). piece_of p z.after) e ∙ ap (piece_of p) (going-after (bytes_of a s)) ∙ next-piece s at a p
      in
      pieces-going pieces (a ++ p) (piece_of p before.after) next ∙ ap (λ (t : List ℕ). going (bytes_of t s)) (append_assoc a p (joined pieces))

  pub pieces-out : (pieces : List (List ℕ)) → pieces_of pieces (out s Answer.Going) ≡ going (bytes_of (joined pieces) s)
  unfolding bytes_of going
  pieces-out pieces = pieces-going pieces [] (out s Answer.Going) (rw (eq-eqb s.reader.marks.stage 1 at.stage))

  pub pieces-after : (pieces : List (List ℕ)) → (pieces_of pieces (out s Answer.Going)).after ≡ bytes_of (joined pieces) s
  pieces-after pieces = ap (λ (z : Out). z.after) (pieces-out pieces) ∙ going-after (bytes_of (joined pieces) s)

-- the answer satisfies the rules
module _ (g : Start) (s : State) (at : StartsAt g s) (pieces : List (List ℕ)) where
  abbrev text : List ℕ
  text = joined pieces

  verdict : VerdictFrom g text (answer_from s pieces)
  verdict =
      let same : answer_from s pieces ≡ (closing (in_turn line_read (text_lines text) s)).answer =
      ap (λ (m : State). (close_of m).answer) (pieces-after s at.ready pieces) ∙ ap (λ (z : Out). z.answer) (closing-is-lines text s at.ready)
      in
      subst (VerdictFrom g text) (sym same) (verdict-of g text (closing-sorted g text _ (text-ended g s at (lines-feedless text))))

  piece-verdict : PieceVerdictFrom g text (last_from s pieces)
  piece-verdict =
      let read = pieces-out s at.ready pieces ∙ ap going (text-is-lines text s at.ready) in
      let (rows, is, k) = pieces-came (Arrives g s) g text _ (text-ended g s at (feedless-take (feeds_in text) (lines-feedless text))) in
      subst (PieceVerdictFrom g text) (ap (λ (z : Out). z.answer) (sym read)) (part-verdict _ (row-rules k.holds) is)

pub piece-from-exactly : PieceFromExactly
piece-from-exactly g s pieces answer at =
    let v = piece-verdict g s at pieces in
    (λ e. subst (PieceVerdictFrom g (joined pieces)) e v, λ w. piece-from-one g (joined pieces) (last_from s pieces) answer v w)

pub verdict-from-exactly : VerdictFromExactly
verdict-from-exactly g s pieces answer at =
    let v = verdict g s at pieces in
    (λ e. subst (VerdictFrom g (joined pieces)) e v, λ w. verdict-from-one g (joined pieces) (answer_from s pieces) answer v w)

-- ---- acceptance

pub refused-accepted : {number f h : ℕ} {place : Place} → Answer.Refused number place ≡ Answer.Accepted f h → ⊥
refused-accepted p = let w : ◌≡◌ {A = ℕ} 0 1 = cc in omega arith

pub accepted-rules : {g : Start} {text : List ℕ} {a : Answer} → VerdictFrom g text a → {f h : ℕ} → a ≡ Answer.Accepted f h
    → (rows : List Entry) × AcceptsFrom g text rows × (f ≡ length (ticks_of (g.rows ++ rows))) × (h ≡ length (headings_of (g.rows ++ rows)))
accepted-rules (VerdictFrom.refused before line after e r k b) p = absurd (refused-accepted p)
accepted-rules (VerdictFrom.no_row r e) p = absurd (refused-accepted p)
accepted-rules (VerdictFrom.lacks r k m) p = absurd (refused-accepted p)
accepted-rules (VerdictFrom.accepted {rows = rows} a) p = (rows, a, cc, cc)

pub accepted-from-iff : AcceptedFromIff
accepted-from-iff g s pieces f h at = (
  λ e. accepted-rules (verdict g s at pieces) e,
  λ x.
      let all = g.rows ++ x.0 in
      let same : Answer.Accepted (length (ticks_of all)) (length (headings_of all)) ≡ Answer.Accepted f h = λ i. Answer.Accepted (sym x.2 i) (sym x.3 i) in
      (verdict-from-exactly g s pieces _ at).1 (subst (VerdictFrom g (joined pieces)) same (VerdictFrom.accepted x.1)),
)

-- ---- from opening

pub verdict-exactly : VerdictExactly
verdict-exactly c cells flags pieces answer o =
    from-opening c cells flags o (λ z. ((close_of (pieces_of pieces z).after).answer ≡ answer) ↔ Verdict c (joined pieces) answer)
    (verdict-from-exactly (from_opening c) (opened c cells flags) pieces answer (open-starts c cells flags o))

pub piece-exactly : PieceExactly
piece-exactly c cells flags pieces answer o =
    from-opening c cells flags o (λ z. ((pieces_of pieces z).answer ≡ answer) ↔ PieceVerdict c (joined pieces) answer)
    (piece-from-exactly (from_opening c) (opened c cells flags) pieces answer (open-starts c cells flags o))

pub accepted-iff : AcceptedIff
accepted-iff c cells flags pieces f h o =
    from-opening c cells flags o
    (λ z.
    ((close_of (pieces_of pieces z).after).answer ≡ Answer.Accepted f h)
    ↔ ((rows : List Entry) × Accepts c (joined pieces) rows × (f ≡ length (ticks_of rows)) × (h ≡ length (headings_of rows))))
    (accepted-from-iff (from_opening c) (opened c cells flags) pieces f h (open-starts c cells flags o))
