-- What stands beyond the first 12,800 cells and 6,400 flags is never read: every move commutes with lending other slices whose first cells and flags are the same. Assumes nothing.
use mathlib.Core.Bool.{Bool, true, false, cond, not, ◌&&◌, ◌||◌}
use mathlib.Core.List.{List, [], ◌∷◌, ◌++◌, Memᴰ}
use mathlib.Core.Path.{◌≡◌, refl, sym, ap, subst, ◌∙◌}
use Prim.Native.Nat.{ℕ, zero, suc, ◌+◌, ◌*◌, ◌≤◌, ◌<◌}
use native.Mathlib.Omega.{arith}
use lib.Dec.{eqb}
use lib.IntN.{ℤ, pos}
use lib.ListN.{length, take, set, get_or, length-append, length-set}
use lib.Seq.{length-take-le, set-append_left, take-set-lt, take_at}
use borrow.Author.Tests.{le-ltb}
use Rattle.whole.specs.Complex.{Complex}
use Rattle.row.specs.declared.reading.Choices.{Choices}
use Rattle.row.specs.declared.reading.Entry.{Entry}
use Rattle.row.specs.Told.{Row}
use Rattle.row.proofs.Deciding.{both}
use Rattle.grid.specs.declared.nodes.Node.{Node}
use Rattle.grid.specs.declared.nodes.Pair.{Pair}
use Rattle.grid.specs.declared.nodes.Slots.{Slots}
use Rattle.table.specs.declared.closing.Closed.{Closed}
use Rattle.grid.specs.Slots.{held_ticks, held_headings}
use Rattle.table.specs.Cells.{place_of, cell_at, is_set, with_cell, with_flag, same_value, mirror}
use Rattle.table.specs.Pairs.{pairs_of}
use Rattle.table.specs.Placing.{fits, here, there, grown, value_of, Table, table_of, clashes, Placed, written, placed}
use Rattle.table.specs.Closing.{node_of, both_set, closed_over, closed_of}
use Rattle.table.specs.Entries.{entry_at}
use Rattle.table.specs.View.{has_tick, has_heading, has_node, view_of}
use Rattle.reader.specs.Valid.{valid_of, sticks, query_barred}
use Rattle.reader.specs.declared.record.Record.{Record}
use Rattle.reader.specs.Model.{
  State,
  Out,
  out,
  state_of,
  table_at,
  stuck_at,
  begun,
  keeping,
  kept_byte,
  settled,
  passed,
  ended,
  line_ended,
  line_feed,
  open_byte,
  byte_of,
  bytes_of,
  too_short,
  barred_by,
  barred,
  refusal,
  repeated,
  tested,
  going,
  piece_of,
  settled_by,
  finished,
  closing,
  close_of,
}
use Rattle.promises_calls.specs.Kept.{Shaped, Beyond}
use Rattle.promises_chains.specs.Chain.{Call, called, calls_of, Opens, opened}
use Rattle.promises_rows.specs.ByValue.{AlikeOver}
use Rattle.promises_lending.specs.Lending.{cells_with, flags_with, relent, relent_out, Lends, PieceRelent, CloseRelent, Lending, lent, short, lending_of, calls_lent, SameReading, ReadingRelent, SameLent, CallsRelent, CallsAnswerRelent, CallsReadingRelent, ChainRelent, AnswerRelent, ChainReadingRelent}
use Rattle.promises_calls.proofs.Moves.{finished-keeps, bytes-keeps}
use Rattle.promises_calls.proofs.Kept.{here-below, there-below, cell-long, flag-long, beyond-keeps, beyond-none, shaped-keeps, shaped-closes}
use Rattle.promises_chains.proofs.Calls.{short-lent, called-keeps, beyond-kept}
use Rattle.promises_chains.proofs.Chain.{opened-at-line}
use Rattle.promises_rows.proofs.Members.{tick-mem, heading-mem}
use Rattle.promises_listings.proofs.Listings.{listing-alike}
use Rattle.promises_listings.proofs.ListsNeeded.{needed-only}
use Rattle.promises_accepted.proofs.Bounded.{node-below}
use Rattle.promises_queries.proofs.Alike.{queries-same}

-- ---- lists

-- a test of which both arms commute
commute : {A B : Type 0} (f : A → B) (b : Bool) (u v : A) (p q : B) → (b ≡ true → p ≡ f u) → (b ≡ false → q ≡ f v) → cond b p q ≡ f (cond b u v)
commute f true u v p q g h = g refl
commute f false u v p q g h = h refl

module _ {X : Type 0} where
  relent-get : (n : ℕ) (l x : List X) (i : ℕ) (d : X) → i < n → n ≤ length l → get_or (take n l ++ x) i d ≡ get_or l i d
  relent-get zero l x i d h long = absurd (omega arith)
  relent-get (suc n) [] x i d h long = absurd (omega arith)
  relent-get (suc n) (a ∷ l) x zero d h long = refl
  relent-get (suc n) (a ∷ l) x (suc i) d h long = relent-get n l x i d (omega arith) (omega arith)

  relent-set : (n : ℕ) (l x : List X) (i : ℕ) (a : X) → i < n → n ≤ length l → set (take n l ++ x) i a ≡ take n (set l i a) ++ x
  relent-set n l x i a h long =
      let k = length-take-le n l long in
      set-append_left (take n l) x i a (omega arith) ∙ ap (λ (r : List X). r ++ x) (sym (take-set-lt n l i a h))

  relent-take : (n : ℕ) (l x : List X) → n ≤ length l → take n (take n l ++ x) ≡ take n l
  relent-take n l x long = take_at (take n l) x n (length-take-le n l long)

  relent-long : (n : ℕ) (l x : List X) → n ≤ length l → n ≤ length (take n l ++ x)
  relent-long n l x long = let k = length-take-le n l long in let e = length-append (take n l) x in omega arith

-- ---- cells and flags

module _ (cells x : List ℤ) (long : 12_800 ≤ length cells) (p : ℕ) (low : p < 6_400) where
  cell-relent : (v : Complex) → with_cell (cells_with x cells) p v ≡ cells_with x (with_cell cells p v)
  unfolding with_cell
  cell-relent v =
      let k = length-set cells (2 * p) v.re in
      ap (λ (l : List ℤ). set l (2 * p + 1) v.im) (relent-set 12_800 cells x (2 * p) v.re (omega arith) long)
      ∙ relent-set 12_800 (set cells (2 * p) v.re) x (2 * p + 1) v.im (omega arith) (omega arith)

  read-relent : cell_at (cells_with x cells) p ≡ cell_at cells p
  unfolding cell_at
  read-relent =
      let a = relent-get 12_800 cells x (2 * p) (pos 0) (omega arith) long in
      let b = relent-get 12_800 cells x (2 * p + 1) (pos 0) (omega arith) long in
      λ i. record { re = a i; im = b i }

module _ (flags y : List ℕ) (long : 6_400 ≤ length flags) (p : ℕ) (low : p < 6_400) where
  flag-relent : with_flag (flags_with y flags) p ≡ flags_with y (with_flag flags p)
  unfolding with_flag
  flag-relent = relent-set 6_400 flags y p 1 low long

  set-relent : is_set (flags_with y flags) p ≡ is_set flags p
  unfolding is_set
  set-relent = ap (λ (f : ℕ). not (eqb f 0)) (relent-get 6_400 flags y p 0 low long)

-- ---- a row

module _ (x : List ℤ) (y : List ℕ) where
  relent_table : Table → Table
  relent_table t = table_of t.slots (cells_with x t.cells) (flags_with y t.flags)

  relent_placed : Placed → Placed
  relent_placed p = record { number = p.number; table = relent_table p.table }

  module _ (t : Table) (cells-long : 12_800 ≤ length t.cells) (flags_long : 6_400 ≤ length t.flags) where
    clash-relent : (p : ℕ) → p < 6_400 → (v : Complex) → clashes (relent_table t) p v ≡ clashes t p v
    unfolding clashes relent_table
    clash-relent p low v =
        let f = set-relent t.flags y flags_long p low in
        let c = read-relent t.cells x cells-long p low in
        λ i. f i && not (same_value (c i) v)

    module _ (kind : ℕ) (e : Entry) where
      written-relent : fits t.slots e ≡ true → written kind e (relent_table t) ≡ relent_table (written kind e t)
      unfolding written relent_table
      written-relent room =
          let p = here t.slots e in
          let q = there t.slots e in
          let p-low = here-below t.slots e room in
          let q-low = there-below t.slots e room in
          let v = value_of e in
          let w = mirror kind (value_of e) in
          let c =
          ap (λ (l : List ℤ). with_cell l q w) (cell-relent t.cells x cells-long p p-low v)
          ∙ cell-relent (with_cell t.cells p v) x (omega (arith, cells-long, cell-long t.cells p v)) q q-low w in
          let f =
          ap (λ (l : List ℕ). with_flag l q) (flag-relent t.flags y flags_long p p-low)
          ∙ flag-relent (with_flag t.flags p) y (omega (arith, flags_long, flag-long t.flags p)) q q-low in
          λ i. record { slots = grown t.slots e; cells = c i; flags = f i }

      placed-relent : placed kind e (relent_table t) ≡ relent_placed (placed kind e t)
      unfolding placed relent_placed relent_table
      placed-relent =
          let p = here t.slots e in
          let q = there t.slots e in
          commute relent_placed (fits t.slots e) _ _ _ _
          (λ room.
          let a = clash-relent p (here-below t.slots e room) (value_of e) in
          let b = clash-relent q (there-below t.slots e room) (mirror kind (value_of e)) in
          let w = written-relent room in
          (λ i. cond (a i || b i) (record { number = 9; table = relent_table t }) (record { number = 0; table = w i }))
          ∙ commute relent_placed (clashes t p (value_of e) || clashes t q (mirror kind (value_of e))) _ _ _ _ (λ _. refl) (λ _. refl))
          (λ _. refl)

  -- ---- a line

  settled-relent : (p : Placed) (s : State) → settled (relent_placed p) (relent x y s) ≡ relent x y (settled p s)
  unfolding settled passed stuck_at relent_placed relent_table
  settled-relent p s = commute (relent x y) (eqb p.number 0) _ _ _ _ (λ _. refl) (λ _. refl)

  module _ (s : State) (long : Lends s) where
    ended-relent : (w : Row) → ended w (relent x y s) ≡ relent x y (ended w s)
    unfolding ended passed stuck_at relent_table
    ended-relent Row.Blank = refl
    ended-relent Row.Title = refl
    ended-relent Row.PassedOver = refl
    ended-relent (Row.Refused number) = refl
    ended-relent (Row.Used e) =
        let kind = s.reader.choices.kind in
        ap (λ (p : Placed). settled p (relent x y s)) (placed-relent (table_at s) long.cells long.flags kind e)
        ∙ settled-relent (placed kind e (table_at s)) s

    line-relent : line_ended (relent x y s) ≡ relent x y (line_ended s)
    unfolding line_ended
    line-relent = ended-relent _

  -- ---- a byte

  module _ (s : State) (long : Lends s) where
    begun-lends : Lends (begun s)
    unfolding begun
    begun-lends = record { cells = long.cells; flags = long.flags }

    feed-relent : line_feed (relent x y s) ≡ relent x y (line_feed s)
    unfolding line_feed stuck_at begun
    feed-relent =
        commute (relent x y) (eqb s.reader.marks.count 0) _ _ _ _
        (λ _. commute (relent x y) (eqb s.reader.marks.lines 1_000_000) _ _ _ _ (λ _. refl) (λ _. line-relent (begun s) begun-lends))
        (λ _. line-relent s long)

    kept-relent : (b : ℕ) → kept_byte b (relent x y s) ≡ relent x y (kept_byte b s)
    unfolding kept_byte stuck_at begun keeping
    kept-relent b =
        commute (relent x y) (eqb s.reader.marks.count 0) _ _ _ _
        (λ _. commute (relent x y) (eqb s.reader.marks.lines 1_000_000) _ _ _ _ (λ _. refl) (λ _. refl))
        (λ _. commute (relent x y) (eqb s.reader.marks.count 160) _ _ _ _ (λ _. refl) (λ _. refl))

    byte-relent : (b : ℕ) → byte_of b (relent x y s) ≡ relent x y (byte_of b s)
    unfolding byte_of open_byte
    byte-relent b =
        commute (relent x y) (eqb s.reader.marks.stage 1) _ _ _ _
        (λ _. commute (relent x y) (eqb b 10) _ _ _ _ (λ _. feed-relent) (λ _. kept-relent b))
        (λ _. refl)

    finished-relent : finished (relent x y s) ≡ relent x y (finished s)
    unfolding finished
    finished-relent = commute (relent x y) (eqb s.reader.marks.count 0) _ _ _ _ (λ _. refl) (λ _. line-relent s long)

-- slices keep their length
lends-beyond : {s z : State} → Beyond s z → Lends s → Lends z
lends-beyond b long = record { cells = omega (arith, b.cells, long.cells); flags = omega (arith, b.flags, long.flags) }

module _ (x : List ℤ) (y : List ℕ) where
  bytes-relent : (text : List ℕ) (s : State) → Lends s → bytes_of text (relent x y s) ≡ relent x y (bytes_of text s)
  unfolding bytes_of
  bytes-relent [] s long = refl
  bytes-relent (b ∷ bs) s long =
      let next = lends-beyond (bytes-keeps (beyond-keeps s) (b ∷ []) s (beyond-none s)) long in
      ap (bytes_of bs) (byte-relent x y s long b) ∙ bytes-relent bs (byte_of b s) next

  -- ---- a piece

  lends-short : (s : State) → Lends s → too_short (length s.cells) (length s.flags) ≡ false
  unfolding too_short
  lends-short s long = rw (le-ltb _ _ long.cells, le-ltb _ _ long.flags)

  module _ (s : State) (long : Lends s) where
    relent-lends : Lends (relent x y s)
    relent-lends = record { cells = relent-long 12_800 s.cells x long.cells; flags = relent-long 6_400 s.flags y long.flags }

    barred-relent : barred (relent x y s) ≡ barred s
    unfolding barred_by
    barred-relent =
        let e = lends-short (relent x y s) relent-lends ∙ sym (lends-short s long) in
        let r = s.reader in
        let stage = r.marks.stage in
        λ i. cond (valid_of r && sticks stage) stage (cond (e i) 1 (cond (valid_of r && eqb stage 1) 0 2))

    tested-relent : (o next : Out) → o ≡ relent_out x y next → tested (relent x y s) o ≡ relent_out x y (tested s next)
    unfolding tested
    tested-relent o next h =
        let e = barred-relent in
        (λ i. cond (eqb (e i) 0) (h i) (out (relent x y s) (refusal s.reader (e i))))
        ∙ commute (relent_out x y) (eqb (barred s) 0) _ _ _ _ (λ _. refl) (λ _. refl)

  going-relent : (s : State) → going (relent x y s) ≡ relent_out x y (going s)
  unfolding going repeated
  going-relent s = commute (relent_out x y) (eqb s.reader.marks.stage 1) _ _ _ _ (λ _. refl) (λ _. refl)

pub piece-relent : PieceRelent
unfolding piece_of
piece-relent text s x y long =
    tested-relent x y s long _ _ (ap going (bytes-relent x y text s long) ∙ going-relent x y (bytes_of text s))

-- ---- closing

-- both nodes of a needed pair have a number below 80
record Low (s : Slots) (p : Pair) : Type 0 where
  first : node_of s p.first < 80
  second : node_of s p.second < 80

module _ (flags y : List ℕ) (long : 6_400 ≤ length flags) where
  both-relent : (s : Slots) (p : Pair) → Low s p → both_set s (flags_with y flags) p ≡ both_set s flags p
  unfolding both_set place_of
  both-relent s p low =
      let a = node_of s p.first in
      let b = node_of s p.second in
      let first = low.first in
      let second = low.second in
      let one = set-relent flags y long (80 * a + b) (omega arith) in
      let other = set-relent flags y long (80 * b + a) (omega arith) in
      λ i. one i && other i

  over-relent : (frequencies headings : ℕ) (s : Slots) (ps : List Pair) → ((p : Pair) → Memᴰ p ps → Low s p)
      → closed_over frequencies headings s (flags_with y flags) ps ≡ closed_over frequencies headings s flags ps
  unfolding closed_over
  over-relent frequencies headings s [] low = refl
  over-relent frequencies headings s (p ∷ ps) low =
      let b = both-relent s p (low p (Memᴰ.head refl)) in
      let rest = over-relent frequencies headings s ps (λ q m. low q (Memᴰ.tail m)) in
      λ i. cond (b i) (rest i) (Closed.Missing p)

  closed-relent : (r : Record) → Shaped r → closed_of r.choices.coverage r.slots (flags_with y flags) ≡ closed_of r.choices.coverage r.slots flags
  unfolding closed_of
  closed-relent r shaped =
      let frequencies = length (held_ticks r.slots.ticks) in
      let over =
      over-relent frequencies r.slots.held r.slots (pairs_of r.choices.coverage r.slots)
      (λ p m.
      let n = needed-only r p m in
      record { first = node-below r shaped p.first n.tick₁ n.heading₁; second = node-below r shaped p.second n.tick₂ n.heading₂ }) in
      λ i. cond (eqb frequencies 0) Closed.Empty (over i)

module _ (x : List ℤ) (y : List ℕ) where
  settled-by-relent : (w : Closed) (s : State) → settled_by w (relent x y s) ≡ relent_out x y (settled_by w s)
  unfolding settled_by
  settled-by-relent Closed.Empty s = refl
  settled-by-relent (Closed.Missing p) s = refl
  settled-by-relent (Closed.Complete frequencies headings) s = refl

  closing-relent : (s : State) → Shaped s.reader → Lends s → closing (relent x y s) ≡ relent_out x y (closing s)
  unfolding closing repeated
  closing-relent s shaped long =
      let r = s.reader in
      commute (relent_out x y) (eqb r.marks.stage 1) _ _ _ _
      (λ _.
      ap (λ (w : Closed). settled_by w (relent x y s)) (closed-relent s.flags y long.flags r shaped)
      ∙ settled-by-relent (closed_of r.choices.coverage r.slots s.flags) s)
      (λ _. refl)

pub close-relent : CloseRelent
unfolding close_of
close-relent s x y shaped long =
    let done = lends-beyond (finished-keeps (beyond-keeps s) s (beyond-none s)) long in
    tested-relent x y s long _ _
    (ap closing (finished-relent x y s long) ∙ closing-relent x y (finished s) (finished-keeps shaped-keeps s shaped) done)

-- ---- queries

module _ (r : Record) (cells x : List ℤ) (shaped : Shaped r) (long : 12_800 ≤ length cells) where
  held_low : (n : Node) → has_node r.slots n ≡ true → node_of r.slots n < 80
  unfolding has_node has_tick has_heading
  held_low n h =
      let g = both (has_tick r.slots n.tick) (has_heading r.slots n.heading) h in
      node-below r shaped n (tick-mem (held_ticks r.slots.ticks) n.tick g.0) (heading-mem (held_headings r.slots) n.heading g.1)

  entry-relent : (a b : Node) → has_node r.slots a ≡ true → has_node r.slots b ≡ true → entry_at r.slots (cells_with x cells) a b ≡ entry_at r.slots cells a b
  unfolding entry_at place_of
  entry-relent a b h k =
      let first = held_low a h in
      let second = held_low b k in
      read-relent cells x long (80 * node_of r.slots a + node_of r.slots b) (omega arith)

  reads-relent : SameReading r (cells_with x cells) r cells
  unfolding query_barred
  reads-relent =
      let bars : query_barred r (length (cells_with x cells)) ≡ query_barred r (length cells) =
      rw (le-ltb (length (cells_with x cells)) 12_800 (relent-long 12_800 cells x long), le-ltb (length cells) 12_800 long) in
      let alike : AlikeOver r.choices.coverage (view_of r.slots (cells_with x cells)) (view_of r.slots cells) =
      record { ticks = λ f. refl; headings = λ h. refl; entries = λ a b h k _. entry-relent a b h k } in
      record {
        queries = queries-same r (cells_with x cells) r cells bars refl alike;
        listing = listing-alike r r (cells_with x cells) cells shaped shaped bars refl alike;
      }

pub reading-relent : ReadingRelent
reading-relent = reads-relent

-- ---- chains

pub called-relent : (call : Call) (s : State) (x : List ℤ) (y : List ℕ) → Shaped s.reader → Lends s → called call (relent x y s) ≡ relent_out x y (called call s)
unfolding called
called-relent (Call.piece text) s x y shaped long = piece-relent text s x y long
called-relent Call.close s x y shaped long = close-relent s x y shaped long

-- the slices beyond which anything may stand are the same in both
same-relent : {s z : State} (x : List ℤ) (y : List ℕ) → SameLent s z → relent x y s ≡ relent x y z
same-relent x y e = λ i. state_of (e.reader i) (e.cells i ++ x) (e.flags i ++ y)

-- where the plain chain stands, and what it keeps
record Beside (s z : State) : Type 0 where
  same : SameLent s z
  shaped : Shaped z.reader
  long : Lends z

module _ {s z : State} (b : Beside s z) where
  beside-called : (call : Call) (x : List ℤ) (y : List ℕ) → called call (relent x y s) ≡ relent_out x y (called call z)
  beside-called call x y = ap (called call) (same-relent x y b.same) ∙ called-relent call z x y b.shaped b.long

  beside-lent : (call : Call) (x : List ℤ) (y : List ℕ) → Beside (called call (relent x y s)).after (called call z).after
  beside-lent call x y =
      let e = beside-called call x y in
      let next = (called call z).after in
      let long = lends-beyond (called-keeps (beyond-kept z) call z (beyond-none z)) b.long in
      record {
        same = record {
          reader = λ i. (e i).after.reader;
          cells = (λ i. take 12_800 (e i).after.cells) ∙ relent-take 12_800 next.cells x long.cells;
          flags = (λ i. take 6_400 (e i).after.flags) ∙ relent-take 6_400 next.flags y long.flags;
        };
        shaped = called-keeps (record { pieces = shaped-keeps; closings = shaped-closes }) call z b.shaped;
        long = long;
      }

beside-all : (steps : List Lending) {s z : State} → Beside s z → Beside (lending_of steps s) (calls_of (calls_lent steps) z)
unfolding lending_of calls_lent calls_of
beside-all [] b = b
beside-all (lent call x y ∷ steps) b = beside-all steps (beside-lent b call x y)
beside-all (short call cells flags few ∷ steps) {s} {z} b =
    let e = short-lent call s cells flags few in
    beside-all steps
    (record {
      same = record { reader = (λ i. (e i).reader) ∙ b.same.reader; cells = b.same.cells; flags = b.same.flags };
      shaped = b.shaped;
      long = b.long;
    })

beside-calls : (s : State) (steps : List Lending) → Shaped s.reader → Lends s → Beside (lending_of steps s) (calls_of (calls_lent steps) s)
beside-calls s steps shaped long =
    beside-all steps (record { same = record { reader = refl; cells = refl; flags = refl }; shaped = shaped; long = long })

pub calls-relent : CallsRelent
calls-relent s steps shaped long = (beside-calls s steps shaped long).same

pub calls-answer-relent : CallsAnswerRelent
calls-answer-relent s steps call x y shaped long = λ i. (beside-called (beside-calls s steps shaped long) call x y i).answer

pub calls-reading-relent : CallsReadingRelent
calls-reading-relent s steps x shaped long =
    let b = beside-calls s steps shaped long in
    let plain = calls_of (calls_lent steps) s in
    subst (λ (z : State). SameReading z.reader z.cells plain.reader plain.cells) (sym (same-relent x [] b.same))
    (reading-relent plain.reader plain.cells x b.shaped b.long.cells)

-- ---- from opening

module _ (c : Choices) (cells : List ℤ) (flags : List ℕ) (o : Opens c cells flags) where
  opened-shaped : Shaped (opened c cells flags).reader
  opened-shaped = (opened-at-line c cells flags o).shaped

  opened-lends : Lends (opened c cells flags)
  opened-lends = let at = opened-at-line c cells flags o in record { cells = at.cells; flags = at.flags }

pub chain-relent : ChainRelent
chain-relent c cells flags steps o = calls-relent (opened c cells flags) steps (opened-shaped c cells flags o) (opened-lends c cells flags o)

pub answer-relent : AnswerRelent
answer-relent c cells flags steps call x y o =
    calls-answer-relent (opened c cells flags) steps call x y (opened-shaped c cells flags o) (opened-lends c cells flags o)

pub chain-reading-relent : ChainReadingRelent
chain-reading-relent c cells flags steps x o =
    calls-reading-relent (opened c cells flags) steps x (opened-shaped c cells flags o) (opened-lends c cells flags o)
