-- The table holds the rows of its start and of the lines read so far: calls lead where their text leads, or the first closing after it, and both are lines in turn. Assumes
-- nothing.
use mathlib.Core.Bool.{Bool, cond}
use mathlib.Core.Path.{◌≡◌, refl, sym, ap, subst, ◌∙◌}
use mathlib.Core.List.{List, [], ◌∷◌, ◌++◌, append_assoc}
use Prim.Native.Nat.{ℕ}
use native.Mathlib.Omega.{arith}
use borrow.Author.Tests.{eq-eqb, ne_eqb}
use lib.ListN.{length}
use Rattle.row.specs.declared.reading.Entry.{Entry}
use Rattle.row.proofs.Used.{by-test}
use Rattle.table.specs.declared.closing.Closed.{Closed}
use Rattle.reader.specs.declared.reader.Place.{Place}
use Rattle.reader.specs.declared.reader.Answer.TheVariants as Answer
use Rattle.reader.specs.Model.{table_at, State, Out, bytes_of, refusal, repeated, settled_by, closing, close_of}
use Rattle.reader.proofs.Kept.{by-eq}
use Rattle.promises_calls.specs.Lines.{text_lines, feeds_in, ended_lines, unfinished, line_read, in_turn, AtLineStart}
use Rattle.promises_rows.specs.Said.{ticks_of, headings_of}
use Rattle.promises_tables.specs.Holds.{Holds}
use Rattle.promises_tables.specs.Closing.{Closes}
use Rattle.promises_chains.specs.Chain.{Call, calls_of, opened, chain_text, closes}
use Rattle.promises_texts.specs.Start.{Start, StartsAt, further, from_opening}
use Rattle.promises_texts.specs.Accepted.{Breaks, ReadsFrom, RulesFrom, BreaksFrom, AcceptsFrom, VerdictFrom}
use Rattle.promises_texts.specs.Along.{StandsFrom, CallsTable, CallsAccepted, CallsAcceptedIff, ChainTable, ChainAccepted, ChainAcceptedIff}
use Rattle.promises_texts.specs.Along.StandsFrom.{reading, empty, lacking, accepted}
use Rattle.promises_calls.proofs.Moves.{by-closed}
use Rattle.promises_calls.proofs.Outcomes.{Answered, repeats, one, two, through, close-answered}
use Rattle.promises_tables.proofs.Placed.{row-rules}
use Rattle.promises_calls.proofs.Lines.{lines-feedless, feedless-take, closing-is-lines, text-is-lines}
use Rattle.promises_chains.proofs.Calls.{closing-shut, calls-are-text, calls-end, some-closes}
use Rattle.promises_texts.proofs.Start.{open-starts}
use Rattle.promises_calls.proofs.LineNumbers.{line-told}
use Rattle.promises_texts.proofs.Verdicts.{breaks-number, verdict-of, verdict-from-one}
use Rattle.promises_texts.proofs.Accepted.{
  HoldsInOrder,
  held,
  StopsFrom,
  HoldsFrom,
  Ended,
  all_read,
  halted,
  stops-shut,
  Arrives,
  text-ended,
  lines-whole,
  closes_here,
  closing-sorted,
  PiecesCame,
  stopped,
  no_room,
  goes_on,
  pieces-came,
  ended_at,
  refused-accepted,
  accepted-rules,
}

-- closing leaves the table as it is
closing-table : (m : State) → table_at (closing m).after ≡ table_at m
unfolding closing repeated settled_by
closing-table m =
    by-eq (λ (o : Out). table_at o.after ≡ table_at m) m.reader.marks.stage 1 _ _
    (λ is_open.
    by-closed m.reader.choices.coverage m.reader.slots m.flags
    (λ (w : Closed). table_at (settled_by w m).after ≡ table_at m)
    refl
    (λ pair. refl)
    (λ some. refl))
    (λ n. refl)

-- some rows are those that the text brought, and the table of s holds them
abbrev HasRows : Type 0 → Start → List ℕ → State → Type 0
HasRows A g text s = (rows : List Entry) × StandsFrom g text s rows × HoldsFrom A g rows s

still-holds : {A : Type 0} {kind : ℕ} {rows : List Entry} (m : State) → HoldsInOrder A kind rows (table_at m) → HoldsInOrder A kind rows (table_at (closing m).after)
still-holds {A} {kind} {rows} m k = subst (HoldsInOrder A kind rows) (sym (closing-table m)) k

module _ (g : Start) (text : List ℕ) where
  -- a line that stopped the reader
  stops-says :
      (s : State) (before : List (List ℕ)) (line : List ℕ) (after : List (List ℕ)) {rows : List Entry} → text_lines text ≡ before ++ (line ∷ after)
      → ReadsFrom g before rows
      → StopsFrom g before rows line s
      → StandsFrom g text s rows
  stops-says s before line after {rows} e r x =
      StandsFrom.halted before line after e r (subst (BreaksFrom g before rows line) (sym x.stuck.stage) x.breaks) x.stuck.place

  -- ---- pieces

  part_says : (s : State) {rows : List Entry} → PiecesCame g text s rows → StandsFrom g text s rows
  part_says s (stopped before line after e r x) =
      let whole : text_lines text ≡ before ++ (line ∷ (after ++ unfinished text)) =
      lines-whole text ∙ ap (λ (l : List (List ℕ)). l ++ unfinished text) e ∙ append_assoc before (line ∷ after) (unfinished text)
      in
      stops-says s before line (after ++ unfinished text) whole r x
  part_says s (no_room line e r o stuck) =
      let whole : text_lines text ≡ ended_lines text ++ (line ∷ []) = lines-whole text ∙ ap (λ (l : List (List ℕ)). ended_lines text ++ l) e in
      stops-says s (ended_lines text) line [] whole r (record { number = 3; breaks = Breaks.over-limits o; stuck = stuck })
  part_says s (goes_on r o limits) = reading o r

  -- ---- closing

  settled_says :
      (m : State) {rows : List Entry} → ReadsFrom g (text_lines text) rows → StartsAt (further g (text_lines text) rows) m → {w : Closed}
      → Closes g.choices.kind g.choices.coverage (g.rows ++ rows) w
      → StandsFrom g text (settled_by w m).after rows
  unfolding settled_by
  settled_says m r at (Closes.no_row e) = empty refl r e
  settled_says m r at (Closes.lacks x) = lacking refl r x
  settled_says m r at (Closes.every-pair n f) = accepted refl (record { reads = r; rules = row-rules at.holds; some-row = n; complete = f })

  closed-says : {A : Type 0} (m : State) → Ended A g (text_lines text) m → HasRows A g text (closing m).after
  unfolding closing repeated
  closed-says m (all_read {rows = rows} r at a) =
      let is = settled_says m r at (closes_here g (text_lines text) rows m at) in
      (rows, rw (eq-eqb m.reader.marks.stage 1 at.ready.stage) is, still-holds m (held m at a))
  closed-says m (halted before line after {rows = rows} e r x k) =
      (rows, rw (ne_eqb m.reader.marks.stage 1 (stops-shut x)) (stops-says m before line after e r x), still-holds m k)

-- ---- calls

pub calls-rows : (g : Start) (s : State) (calls : List Call) → StartsAt g s → HasRows (Arrives g s) g (chain_text calls) (calls_of calls s)
calls-rows g s calls at =
    let text = chain_text calls in
    let whole = lines-feedless text in
    let Has : State → Type 0 = HasRows (Arrives g s) g text in
    subst Has (sym (calls-are-text s calls at.ready))
    (by-test Has (closes calls) _ _
    (λ e.
    subst (λ (z : Out). Has z.after) (sym (closing-is-lines text s at.ready))
    (closed-says g text (in_turn line_read (text_lines text) s) (text-ended g s at whole)))
    (λ e.
    let (rows, is, k) = pieces-came (Arrives g s) g text _ (text-ended g s at (feedless-take (feeds_in text) whole)) in
    subst Has (sym (text-is-lines text s at.ready)) (rows, part_says g text _ is, k)))

pub calls_table : CallsTable
calls_table g s calls at = let (rows, is, k) = calls-rows g s calls at in (rows, record { stands = is; holds = k.holds })

-- ---- acceptance

-- a record that is not open answers with a refusal
shut-refused : {s : State} {o : Out} {f h : ℕ} → (s.reader.marks.stage ≡ 1 → ⊥) → Answered s o → o.answer ≡ Answer.Accepted f h → ⊥
unfolding refusal
shut-refused n (repeats h) e = refused-accepted e
shut-refused n (one free h) e = refused-accepted e
shut-refused n (two free long h) e = refused-accepted e
shut-refused n (through free long o t) e = n o.stage

-- a text that is closed is not open
read-shut : (s : State) (text : List ℕ) → AtLineStart s → (close_of (bytes_of text s)).after.reader.marks.stage ≡ 1 → ⊥
read-shut s text at =
    subst (λ (z : Out). z.after.reader.marks.stage ≡ 1 → ⊥) (sym (closing-is-lines text s at)) (closing-shut (in_turn line_read (text_lines text) s))

pub calls-accepted : CallsAccepted
calls-accepted g s calls f h at p =
    let text = chain_text calls in
    let read = bytes_of text s in
    let m = in_turn line_read (text_lines text) s in
    let ends = text-ended g s at (lines-feedless text) in
    let Counts : Out → Type 0 =
    λ o.
    o.answer ≡ Answer.Accepted f h
    → (rows : List Entry)
    × AcceptsFrom g text rows
    × Holds g.choices.kind (g.rows ++ rows) (table_at o.after)
    × (f ≡ length (ticks_of (g.rows ++ rows)))
    × (h ≡ length (headings_of (g.rows ++ rows)))
    in
    subst (λ (z : State). Counts (close_of z)) (sym (calls-are-text s calls at.ready))
    (by-test (λ (z : State). Counts (close_of z)) (closes calls) _ _
    (λ e q. absurd (shut-refused (read-shut s text at.ready) (close-answered (close_of read).after) q))
    (λ e.
    subst Counts (sym (closing-is-lines text s at.ready))
    (λ q.
    let (rows, a, fs, hs) = accepted-rules (verdict-of g text (closing-sorted g text m ends)) q in
    (rows, a, subst (Holds g.choices.kind (g.rows ++ rows)) (sym (closing-table m)) (ended_at a.reads a.rules ends).holds, fs, hs))))
    p

-- an accepted table is one of an accepted text
pub accepted-is : {g : Start} {text : List ℕ} {s : State} {rows : List Entry} → s.reader.marks.stage ≡ 2 → StandsFrom g text s rows → AcceptsFrom g text rows
accepted-is e (reading f r) = absurd (omega arith)
accepted-is e (StandsFrom.halted before line after whole r b place) = let k = line-told (breaks-number b) in absurd (omega (arith, k.least))
accepted-is e (empty f r n) = absurd (omega arith)
accepted-is e (lacking f r m) = absurd (omega arith)
accepted-is e (accepted f a) = a

-- and once it is closed the table of an accepted text is accepted: every other answer is one more verdict on the text
accepted-not-refused : {g : Start} {text : List ℕ} {rows : List Entry} {number : ℕ} {place : Place} → AcceptsFrom g text rows → VerdictFrom g text (Answer.Refused number place) → ⊥
accepted-not-refused {g} {text} a v = refused-accepted (verdict-from-one g text _ _ v (VerdictFrom.accepted a))

is-accepted :
    {g : Start} {text : List ℕ} {s : State} {rows some : List Entry} → AcceptsFrom g text rows → (s.reader.marks.stage ≡ 1 → ⊥) → RulesFrom g some → StandsFrom g text s some
    → s.reader.marks.stage ≡ 2
is-accepted a shut k (reading f r) = absurd (shut f)
is-accepted a shut k (StandsFrom.halted before line after whole r b place) = absurd (accepted-not-refused a (VerdictFrom.refused before line after whole r k b))
is-accepted a shut k (empty f r e) = absurd (accepted-not-refused a (VerdictFrom.no_row r e))
is-accepted a shut k (lacking f r m) = absurd (accepted-not-refused a (VerdictFrom.lacks r k m))
is-accepted a shut k (accepted f b) = f

pub calls-accepted-iff : CallsAcceptedIff
calls-accepted-iff g s calls at =
    let (some, is) = calls_table g s calls at in (
      (λ e. (some, accepted-is e is.stands, some-closes (calls-end s calls at.ready e))),
      (λ k.
          let read = bytes_of (chain_text calls) s in
          let closed : calls_of calls s ≡ (close_of read).after = calls-are-text s calls at.ready ∙ ap (λ (t : Bool). cond t (close_of read).after read) k.2 in
          let shut = subst (λ (z : State). z.reader.marks.stage ≡ 1 → ⊥) (sym closed) (read-shut s (chain_text calls) at.ready) in
          is-accepted k.1 shut (row-rules is.holds) is.stands),
    )

-- ---- a chain

pub chain-table : ChainTable
chain-table c cells flags calls o = calls_table (from_opening c) (opened c cells flags) calls (open-starts c cells flags o)

pub chain-accepted : ChainAccepted
chain-accepted c cells flags calls f h o = calls-accepted (from_opening c) (opened c cells flags) calls f h (open-starts c cells flags o)

pub chain-accepted-iff : ChainAcceptedIff
chain-accepted-iff c cells flags calls o = calls-accepted-iff (from_opening c) (opened c cells flags) calls (open-starts c cells flags o)
