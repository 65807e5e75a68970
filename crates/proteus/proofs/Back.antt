-- The text that is written of six tables, read with their coverage, gives the six back: what each was opened for, its frequencies and headings, and what it says of every pair
-- that the coverage needs. Assumes nothing.
use mathlib.Core.Path.{◌≡◌, refl, sym, ap, ◌∙◌}
use mathlib.Core.Bool.{true}
use mathlib.Core.List.{List, [], ◌∷◌, ◌++◌, map, map-map, Memᴰ}
use mathlib.Core.Option
use mathlib.Core.Option.{Option, some, bind, some-injective}
use Prim.Native.Nat.{ℕ, zero, suc, ◌+◌, ◌*◌}
use native.Mathlib.Nat.{add-zero}
use native.Mathlib.Omega.{arith}
use lib.Dec.{eqb}
use lib.IntN.{ℤ, pos}
use lib.ListN.{length, get_or, length-map}
use Rattle.whole.specs.Same.{same_ℤ, same_list}
use Rattle.whole.specs.Complex.{Complex}
use Rattle.whole.proofs.Same.{eqb_tells, same_ℤ-tells}
use Rattle.field.specs.Text.{bytes}
use Rattle.text.specs.Rows.{row_text, collected, read_list, read_rows}
use Rattle.text.proofs.Apart.{Each, Free, each-++, lacking, lines-back}
use Rattle.text.proofs.RowsBack.{row-free, row_is, list_back, rows_back}
use Rattle.row.proofs.Deciding.{both}
use Rattle.grid.specs.declared.nodes.Pair.{Pair}
use Rattle.grid.specs.Slots.{slot_of}
use Rattle.table.specs.Pairs.{pairs_over, pairs_of}
use Rattle.table.specs.Entries.{entry_at}
use Rattle.grid.proofs.Members.{at_slot}
use Rattle.table.proofs.Drawn.{Drawn, pairs-only}
use Rattle.reader.specs.declared.record.Record.{Record}
use Rattle.hull.specs.Six.{Component, frequencies, headings, belongs, all_belong, are_six, coverage_of, six_barred, values_at}
use Rattle.qtf.specs.Matrix.{billionths, list_text, frequency_text, heading_text, indexes, parts_in, matrix_places, matrix_line, head_lines}
use Rattle.proteus.specs.Lines.{lines_from, proteus_lines}
use Rattle.proteus.specs.Answer.{text_number, proteus_text}
use Rattle.proteus.specs.Reading.{Values, values_of, tick_of, pair_at, complex_in, row_read, table_read, the_six, six_read, lines_read, proteus_read}
use Rattle.proteus.proofs.Billionths.{tick-back}
use Rattle.proteus.proofs.Accepted.{unbarred, free, Belongs, belongs-exactly}

-- ---- the lists

ticks-back : (ticks : List ℕ) → map tick_of (map (λ t. pos (billionths t)) ticks) ≡ ticks
ticks-back [] = refl
ticks-back (t ∷ ts) = λ i. tick-back t i ∷ ticks-back ts i

numbers-back : (places : ℕ) (numbers : List ℤ) → read_list places (list_text places numbers) ≡ some numbers
unfolding list_text
numbers-back places numbers = ap (read_list places) (row_is places [] numbers) ∙ list_back places numbers

-- ---- a row

complex-back : (zs : List Complex) → complex_in (parts_in zs) ≡ zs
unfolding complex_in parts_in
complex-back [] = refl
complex-back (z ∷ zs) = ap (λ (l : List Complex). z ∷ l) (complex-back zs)

count-parts : (zs : List Complex) → length (parts_in zs) ≡ 2 * length zs
unfolding parts_in
count-parts [] = refl
count-parts (z ∷ zs) = omega (arith, count-parts zs)

module _ (coverage : ℕ) (ticks : List ℕ) (hs : List ℤ) where
  pair-back :
      (p : Pair)
      → Drawn coverage ticks hs p
      → pair_at ticks hs (pos (slot_of eqb ticks p.first.tick)) (pos (slot_of eqb ticks p.second.tick)) (pos (slot_of same_ℤ hs p.first.heading)) (pos (slot_of same_ℤ hs p.second.heading)) ≡ some p
  unfolding pair_at bind
  pair-back p d =
      let tick₁ = at_slot eqb_tells ticks p.first.tick d.tick₁ in
      let tick₂ = at_slot eqb_tells ticks p.second.tick d.tick₂ in
      let heading₁ = at_slot same_ℤ-tells hs p.first.heading d.heading₁ in
      let heading₂ = at_slot same_ℤ-tells hs p.second.heading d.heading₂ in
      λ i.
      bind (tick₁ i) (λ f.
      bind (tick₂ i) (λ g.
      bind (heading₁ i) (λ h.
      bind (heading₂ i) (λ e.
      some (record { first = record { tick = f; heading = h }; second = record { tick = g; heading = e } })))))

  row_read_lem : (values : List Complex) (p : Pair) → Drawn coverage ticks hs p → row_read ticks hs (indexes ticks hs p ++ parts_in values) ≡ some (p, values)
  unfolding row_read indexes
  row_read_lem values p d = λ i. Option.map (λ q. (q, complex-back values i)) (pair-back p d i)

-- all that was read of a list, each by itself
collected-map :
    {A B : Type 0} (f : A → Option B) (g : A → B) (l : List A) → ((x : A) → Memᴰ x l → f x ≡ some (g x)) → collected (map f l) ≡ some (map g l)
unfolding collected bind
collected-map f g [] h = refl
collected-map f g (x ∷ l) h =
    let rest = collected-map f g l (λ y m. h y (Memᴰ.tail m)) in
    λ i. bind (h x (Memᴰ.head refl) i) (λ a. Option.map (λ m. a ∷ m) (rest i))

-- ---- the text

module _ (first : Record) (six : List Component) where
  abbrev needed : List Pair
  needed = pairs_of first.choices.coverage first.slots

  -- the numbers of a pair's line
  abbrev row : Pair → List ℤ
  row p = indexes (frequencies first) (headings first) p ++ parts_in (values_at six p)

  abbrev line_of : Pair → List ℕ
  line_of p = matrix_line (frequencies first) (headings first) p (values_at six p)

  rows-free : (ps : List Pair) → Each (Free 10) (map line_of ps)
  unfolding matrix_line
  rows-free [] = tt
  rows-free (p ∷ ps) = (row-free matrix_places (row p), rows-free ps)

  head-free : Each (Free 10) (head_lines (frequencies first) (headings first))
  unfolding head_lines bytes frequency_text heading_text list_text
  head-free =
      let ticks = lacking 10 (bytes "$QTFFrequencies") tt in
      let hs = lacking 10 (bytes "$QTFHeadings") tt in
      let matrix = lacking 10 (bytes "$WaveDriftQTFMatrix") tt in
      (ticks, (row-free _ _, (hs, (row-free _ _, (matrix, tt)))))

  lines-free : Each (Free 10) (lines_from first six)
  unfolding lines_from
  lines-free = each-++ (Free 10) (head_lines (frequencies first) (headings first)) (map line_of needed) head-free (rows-free needed)

  -- ---- the matrix

  module _ (all : length six ≡ 6) where
    long : (ps : List Pair) → Each (λ r. length r ≡ length matrix_places) (map row ps)
    unfolding indexes values_at
    long [] = tt
    long (p ∷ ps) = (omega (arith, count-parts (values_at six p), length-map six (λ c. entry_at c.table.slots c.cells p.first p.second)), long ps)

    matrix-back : read_rows matrix_places (map line_of needed) ≡ some (map row needed)
    unfolding matrix_line
    matrix-back =
        ap (read_rows matrix_places) (sym (map-map (row_text matrix_places) row needed)) ∙ rows_back matrix_places (map row needed) (long needed)

  -- each row with its pair
  abbrev told : List (Pair × List Complex)
  told = map (λ p. (p, values_at six p)) needed

  told_back : collected (map (row_read (frequencies first) (headings first)) (map row needed)) ≡ some told
  unfolding pairs_of frequencies headings
  told_back =
      ap collected (map-map (row_read (frequencies first) (headings first)) row needed)
      ∙ collected-map _ _ needed
      (λ p m. row_read_lem first.choices.coverage (frequencies first) (headings first) (values_at six p) p (pairs-only first.choices.coverage _ _ p m))

  -- ---- the six

  -- for a component past the last
  abbrev nothing : Complex
  nothing = record { re = pos 0; im = pos 0 }

  abbrev table_at : ℕ → Values
  table_at i = table_read first.choices.coverage (frequencies first) (headings first) told i

  table-back :
      (i : ℕ) (c : Component)
      → Belongs first (suc i) c.table
      → ((p : Pair) → get_or (values_at six p) i nothing ≡ entry_at c.table.slots c.cells p.first p.second)
      → table_at i ≡ values_of c
  unfolding table_read values_of pairs_of frequencies headings
  table-back i c b there =
      let entries : map (λ (t : Pair × List Complex). (t.0, get_or t.1 i nothing)) told ≡ (values_of c).entries =
      map-map _ (λ p. (p, values_at six p)) needed
      ∙ (λ j.
      map (λ (p : Pair). (p, there p j)) (pairs_over (sym b.coverage j) (sym b.same-frequencies j) (sym b.same-headings j)))
      in
      λ j.
      record {
        kind = sym b.difference j;
        component = sym b.component j;
        coverage = sym b.coverage j;
        frequencies = sym b.same-frequencies j;
        headings = sym b.same-headings j;
        entries = entries j;
      }

  -- so many numbers, from i on
  up_from : ℕ → ℕ → List ℕ
  up_from i zero = []
  up_from i (suc n) = i ∷ up_from (suc i) n

  -- the tables from the i-th on
  tables-back :
      (i : ℕ) (rest : List Component)
      → all_belong first (suc i) rest ≡ true
      → ((k : ℕ) (p : Pair) → get_or (values_at six p) (i + k) nothing ≡ get_or (values_at rest p) k nothing)
      → map table_at (up_from i (length rest)) ≡ map values_of rest
  unfolding all_belong values_at up_from
  tables-back i [] h there = refl
  tables-back i (c ∷ rest) h there =
      let b = both (belongs first (suc i) c.table) (all_belong first (suc i + 1) rest) h in
      let here = table-back i c ((belongs-exactly first (suc i) c.table).0 b.0) (λ p. ap (λ n. get_or (values_at six p) n nothing) (sym (add-zero i)) ∙ there 0 p) in
      let on : suc i + 1 ≡ suc (suc i) = omega arith in
      let later =
      tables-back (suc i) rest (ap (λ n. all_belong first n rest) (sym on) ∙ b.1)
      (λ k p. let e : suc i + k ≡ i + suc k = omega arith in ap (λ n. get_or (values_at six p) n nothing) e ∙ there (suc k) p)
      in
      λ j. here j ∷ later j

  lines-read : length six ≡ 6 → all_belong first 1 six ≡ true → lines_read first.choices.coverage (lines_from first six) ≡ some (map values_of six)
  unfolding lines_read lines_from head_lines bytes same_list frequency_text heading_text six_read bind up_from
  lines-read all belong =
      let coverage = first.choices.coverage in
      let hs = headings first in
      let tables = tables-back 0 six belong (λ k p. let e : 0 + k ≡ k = omega arith in ap (λ n. get_or (values_at six p) n nothing) e) in
      let six-tables : map table_at the_six ≡ map values_of six = ap (λ n. map table_at (up_from 0 n)) (sym all) ∙ tables in
      (λ i.
      bind (numbers-back 9 (map (λ t. pos (billionths t)) (frequencies first)) i) (λ f.
      bind (numbers-back 3 hs i) (λ h. bind (matrix-back all i) (six_read coverage (map tick_of f) h))))
      ∙ ap (λ ts. six_read coverage ts hs (map row needed)) (ticks-back (frequencies first))
      ∙ ap (Option.map (λ read. map (table_read coverage (frequencies first) hs read) the_six)) told_back
      ∙ ap some six-tables

-- the text and the coverage give the six back
pub proteus-back : (six : List Component) → length six ≡ 6 → six_barred six ≡ 0 → proteus_read (coverage_of six) (proteus_text six) ≡ some (map values_of six)
unfolding proteus_read proteus_text proteus_lines coverage_of are_six
proteus-back [] all h = absurd (omega arith)
proteus-back (c ∷ cs) all h =
    ap (lines_read c.table.choices.coverage) (lines-back _ (lines-free c.table (c ∷ cs)))
    ∙ lines-read c.table (c ∷ cs) all (unbarred (c ∷ cs) h).belong

-- two sixes with the same text and the same coverage have the same values
pub same_text :
    (six others : List Component)
    → length six ≡ 6
    → length others ≡ 6
    → text_number six ≡ 0
    → text_number others ≡ 0
    → coverage_of six ≡ coverage_of others
    → proteus_text six ≡ proteus_text others
    → map values_of six ≡ map values_of others
same_text six others all all' h h' coverage text =
    some-injective _ _
    (sym (proteus-back six all (free six h).unbarred)
    ∙ (λ i. proteus_read (coverage i) (text i))
    ∙ proteus-back others all' (free others h').unbarred)
