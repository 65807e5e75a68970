-- A text as a row of moves: what each move keeps, a byte, a text and the end of a line keep. A property of states is proved once for each move. Assumes nothing.
use mathlib.Core.Path.{◌≡◌, refl}
use mathlib.Core.Bool.{true, false, ◌||◌}
use mathlib.Core.List.{List, [], ◌∷◌}
use Prim.Native.Nat.{ℕ, ◌≤◌}
use native.Mathlib.Omega.{arith}
use lib.Dec.{eqb, lit≤}
use lib.ListN.{length, take}
use Rattle.row.specs.declared.reading.Entry.{Entry}
use Rattle.row.specs.Told.{Row}
use Rattle.row.specs.own.Rows.{row_of}
use Rattle.row.proofs.Used.{by-test, refused-is}
use Rattle.grid.specs.declared.nodes.Pair.{Pair}
use Rattle.grid.specs.declared.nodes.Slots.{Slots}
use Rattle.table.specs.declared.closing.Closed.{Closed}
use Rattle.grid.specs.Slots.{held_ticks}
use Rattle.table.specs.Cells.{mirror}
use Rattle.table.specs.Pairs.{pairs_of}
use Rattle.table.specs.Placing.{fits, here, there, value_of, Table, clashes, Placed, written, placed}
use Rattle.table.specs.Closing.{both_set, closed_over, closed_of}
use Rattle.reader.specs.Model.{
  State,
  Out,
  table_at,
  with_table,
  stuck_at,
  begun,
  keeping,
  kept_byte,
  settled,
  passed,
  ended,
  line_ended,
  line_feed,
  open_byte,
  byte_of,
  bytes_of,
  barred,
  repeated,
  tested,
  going,
  piece_of,
  closed_with,
  settled_by,
  finished,
  closing,
  close_of,
}
use Rattle.reader.proofs.Kept.{by-eq}
use Rattle.promises_calls.specs.Answers.{OfLine}
use Rattle.promises_calls.proofs.LineNumbers.{row_line}

-- ---- the moves

-- the row that the line comes to
abbrev pub line_of : State → Row
line_of s = row_of s.reader.choices (eqb s.reader.marks.lines 1) (take s.reader.marks.count s.reader.kept)

-- the row has a slot for each of its values, and its two cells are free or hold what it says
pub record Fitting (kind : ℕ) (e : Entry) (t : Table) : Type 0 where
  pub room : fits t.slots e ≡ true
  pub free : (clashes t (here t.slots e) (value_of e) || clashes t (there t.slots e) (mirror kind (value_of e))) ≡ false

pub record Keeps (P : State → Type 0) : Type 0 where
  pub stuck : (number line : ℕ) (s : State) → OfLine number → P s → P (stuck_at number line s)
  pub line-begun : (s : State) → (s.reader.marks.lines ≡ 1_000_000 → ⊥) → P s → P (begun s)
  pub byte-kept : (b : ℕ) (s : State) → (b ≡ 10 → ⊥) → (s.reader.marks.count ≡ 160 → ⊥) → P s → P (keeping b s)
  pub line-passed : (s : State) → P s → P (passed s)
  pub row-used :
      (e : Entry) (s : State) → line_of s ≡ Row.Used e → Fitting s.reader.choices.kind e (table_at s) → P s
      → P (passed (with_table (written s.reader.choices.kind e (table_at s)) s))

-- ---- a row

pub by-placed :
    (Q : Placed → Type 0) (kind : ℕ) (e : Entry) (t : Table)
    → (Fitting kind e t → Q (record { number = 0; table = written kind e t }))
    → Q (record { number = 9; table = t })
    → Q (record { number = 8; table = t })
    → Q (placed kind e t)
unfolding placed
by-placed Q kind e t f nine eight =
    by-test Q (fits t.slots e) _ _
    (λ room. by-test Q _ _ _ (λ clash. nine) (λ free. f record { room = room; free = free }))
    (λ full. eight)

module _ {P : State → Type 0} (k : Keeps P) where
  module _ (s : State) (p : P s) where
    ended-keeps : (w : Row) → line_of s ≡ w → P (ended w s)
    unfolding ended settled
    ended-keeps Row.Blank e = k.line-passed s p
    ended-keeps Row.Title e = k.line-passed s p
    ended-keeps Row.PassedOver e = k.line-passed s p
    ended-keeps (Row.Refused number) e =
        k.stuck number s.reader.marks.lines s (row_line (refused-is s.reader.choices _ _ e)) p
    ended-keeps (Row.Used x) e =
        by-placed (λ (o : Placed). P (settled o s)) s.reader.choices.kind x (table_at s)
        (λ f. k.row-used x s e f p)
        (k.stuck 9 s.reader.marks.lines s (OfLine.by_order (lit≤ tt) (lit≤ tt)) p)
        (k.stuck 8 s.reader.marks.lines s (OfLine.by_order (lit≤ tt) (lit≤ tt)) p)

    pub line-keeps : P (line_ended s)
    unfolding line_ended
    line-keeps = ended-keeps (line_of s) refl

  -- ---- a byte

  module _ (s : State) (p : P s) where
    -- the first byte past line 1,000,000
    past : P (stuck_at 3 1_000_001 s)
    past = k.stuck 3 1_000_001 s (OfLine.by_order (lit≤ tt) (lit≤ tt)) p

    feed-keeps : P (line_feed s)
    unfolding line_feed
    feed-keeps =
        by-eq P s.reader.marks.count 0 _ _
        (λ none. by-eq P s.reader.marks.lines 1_000_000 _ _ (λ full. past) (λ more. line-keeps _ (k.line-begun s more p)))
        (λ some. line-keeps s p)

    kept-keeps : (b : ℕ) → (b ≡ 10 → ⊥) → P (kept_byte b s)
    unfolding kept_byte begun
    kept-keeps b n =
        by-eq P s.reader.marks.count 0 _ _
        (λ none.
        by-eq P s.reader.marks.lines 1_000_000 _ _
        (λ full. past)
        (λ more. k.byte-kept b (begun s) n (omega (arith, none)) (k.line-begun s more p)))
        (λ some.
        by-eq P s.reader.marks.count 160 _ _
        (λ full. k.stuck 3 s.reader.marks.lines s (OfLine.by_order (lit≤ tt) (lit≤ tt)) p)
        (λ room. k.byte-kept b s n room p))

    pub byte-keeps : (b : ℕ) → P (byte_of b s)
    unfolding byte_of open_byte
    byte-keeps b =
        by-eq P s.reader.marks.stage 1 _ _ (λ one. by-eq P b 10 _ _ (λ feed. feed-keeps) (λ n. kept-keeps b n)) (λ other. p)

    pub finished-keeps : P (finished s)
    unfolding finished
    finished-keeps = by-eq P s.reader.marks.count 0 _ _ (λ none. p) (λ some. line-keeps s p)

  pub bytes-keeps : (text : List ℕ) (s : State) → P s → P (bytes_of text s)
  unfolding bytes_of
  bytes-keeps [] s p = p
  bytes-keeps (b ∷ bs) s p = bytes-keeps bs (byte_of b s) (byte-keeps s p b)

-- ---- a piece, and closing

module _ (P : State → Type 0) where
  going-keeps : (s : State) → P s → P (going s).after
  unfolding going repeated
  going-keeps s p = by-eq (λ (o : Out). P o.after) s.reader.marks.stage 1 _ _ (λ one. p) (λ other. p)

  tested-keeps : (s : State) (next : Out) → P s → (barred s ≡ 0 → P next.after) → P (tested s next).after
  unfolding tested
  tested-keeps s next p f = by-eq (λ (o : Out). P o.after) (barred s) 0 _ _ f (λ some. p)

  pub piece-keeps-all : Keeps P → (text : List ℕ) (s : State) → P s → P (piece_of text s).after
  unfolding piece_of
  piece-keeps-all k text s p = tested-keeps s (going (bytes_of text s)) p (λ clear. going-keeps (bytes_of text s) (bytes-keeps k text s p))

-- nothing held, a pair missing, or the two counts
module _ (coverage : ℕ) (s : Slots) (flags : List ℕ) (Q : Closed → Type 0) where
  over : (frequencies headings : ℕ) (ps : List Pair) → ((p : Pair) → Q (Closed.Missing p)) → Q (Closed.Complete frequencies headings)
      → Q (closed_over frequencies headings s flags ps)
  unfolding closed_over
  over frequencies headings [] missing whole = whole
  over frequencies headings (p ∷ ps) missing whole =
      by-test Q (both_set s flags p) _ _ (λ said. over frequencies headings ps missing whole) (λ unsaid. missing p)

  pub by-closed :
      Q Closed.Empty
      → ((p : Pair) → Q (Closed.Missing p))
      → ((length (held_ticks s.ticks) ≡ 0 → ⊥) → Q (Closed.Complete (length (held_ticks s.ticks)) s.held))
      → Q (closed_of coverage s flags)
  unfolding closed_of
  by-closed none missing whole =
      by-eq Q (length (held_ticks s.ticks)) 0 _ _
      (λ zero. none)
      (λ some. over (length (held_ticks s.ticks)) s.held (pairs_of coverage s) missing (whole some))

-- closing ends an open state with 10 or 11, or, where frequencies are held, as accepted
pub record KeptByClosing (P : State → Type 0) : Type 0 where
  pub refused : (stage : ℕ) (pair : Pair) (s : State) → 10 ≤ stage → stage ≤ 11 → P s → P (closed_with stage pair s)
  pub accepted : (s : State) → (length (held_ticks s.reader.slots.ticks) ≡ 0 → ⊥) → P s → P (closed_with 2 s.reader.pair s)

module _ {P : State → Type 0} (c : KeptByClosing P) where
  closing-keeps : (s : State) → P s → P (closing s).after
  unfolding closing repeated settled_by
  closing-keeps s p =
      by-eq (λ (o : Out). P o.after) s.reader.marks.stage 1 _ _
      (λ one.
      by-closed s.reader.choices.coverage s.reader.slots s.flags
      (λ (w : Closed). P (settled_by w s).after)
      (c.refused 10 s.reader.pair s (lit≤ tt) (lit≤ tt) p)
      (λ pair. c.refused 11 pair s (lit≤ tt) (lit≤ tt) p)
      (λ some. c.accepted s some p))
      (λ other. p)

  pub close-keeps-all : Keeps P → (s : State) → P s → P (close_of s).after
  unfolding close_of
  close-keeps-all k s p = tested-keeps P s (closing (finished s)) p (λ clear. closing-keeps (finished s) (finished-keeps k s p))
