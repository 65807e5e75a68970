-- Two sixes with the same values are written alike: the same number, the same text and the same lines. Slots are read nowhere but through the values. Assumes nothing.
use mathlib.Core.Path.{◌≡◌, refl, sym, ap, ◌∙◌}
use mathlib.Core.Bool.{Bool, true, false, cond, ◌&&◌, ◌||◌}
use mathlib.Core.List.{List, [], ◌∷◌, ◌++◌, map, map-map, zip_with}
use Prim.Native.Nat.compare
use Prim.Native.Nat.{ℕ, zero, suc, ◌+◌, ◌-◌, ◌<◌, zero-le}
use native.Mathlib.Omega.{arith}
use lib.Dec.{ltb, eqb}
use lib.IntN.{ℤ}
use lib.ListN.{length, drop, get_or}
use borrow.Author.Tests.{eqb-true, eqb-false, ne_eqb, lt-ltb, le-ltb}
use Rattle.whole.specs.Any.{any_of}
use Rattle.whole.specs.Complex.{Complex}
use Rattle.whole.specs.Same.{same_ℤ, same_list}
use Rattle.whole.proofs.Any.{any-map}
use Rattle.text.specs.Parts.{text_of}
use Rattle.row.proofs.Deciding.{both}
use Rattle.grid.specs.declared.nodes.Pair.{Pair}
use Rattle.std.proofs.Common.{Some, None}
use Rattle.table.specs.Pairs.{pairs_over, pairs_of, nowhere, nth_of}
use Rattle.table.specs.Entries.{entry_at, is_out}
use Rattle.reader.specs.declared.record.Record.{Record}
use Rattle.hull.specs.Six.{Component, is_short, is_unaccepted, frequencies, headings, belongs, all_belong, are_six, six_barred, values_at, is_spoilt}
use Rattle.qtf.specs.Matrix.{matrix_line, head_lines}
use Rattle.proteus.specs.Lines.{lines_from, proteus_lines}
use Rattle.proteus.specs.Answer.{head_count, nth_spoilt, line_spoilt, line_number, lined_of, line_at, any_spoilt, text_number, proteus_text, write_number, outcome, written}
use Rattle.proteus.specs.Reading.{values_of}
use Rattle.proteus.proofs.Accepted.{unbarred, belongs-exactly}
use Rattle.proteus.proofs.Stepping.{needed}
use Rattle.proteus.proofs.Answering.{barred-line}

-- one table after the other: both have their cells or neither has, both are accepted or neither is, and their values are the same
pub data SameSixes : List Component → List Component → Type 0 where
  none : SameSixes [] []
  more :
      {c d : Component} {cs ds : List Component}
      → is_short c ≡ is_short d
      → is_unaccepted c ≡ is_unaccepted d
      → values_of c ≡ values_of d
      → SameSixes cs ds
      → SameSixes (c ∷ cs) (d ∷ ds)

-- ---- what bars them

short-same : {cs ds : List Component} → SameSixes cs ds → any_of is_short cs ≡ any_of is_short ds
unfolding any_of
short-same none = refl
short-same (more short accepted values rest) = λ i. short i || short-same rest i

unaccepted-same : {cs ds : List Component} → SameSixes cs ds → any_of is_unaccepted cs ≡ any_of is_unaccepted ds
unfolding any_of
unaccepted-same none = refl
unaccepted-same (more short accepted values rest) = λ i. accepted i || unaccepted-same rest i

belong-same :
    (first second : Component) → values_of first ≡ values_of second → (place : ℕ) {cs ds : List Component} → SameSixes cs ds
    → all_belong first.table place cs ≡ all_belong second.table place ds
unfolding all_belong belongs values_of
belong-same first second lead place none = refl
belong-same first second lead place (more short accepted values rest) =
    let later = belong-same first second lead (place + 1) rest in
    λ i.
    (eqb (values i).kind 0
    && (eqb (values i).component place
    && (eqb (values i).coverage (lead i).coverage
    && (same_list eqb (values i).frequencies (lead i).frequencies && same_list same_ℤ (values i).headings (lead i).headings))))
    && later i

are-same : {six others : List Component} → SameSixes six others → are_six six ≡ are_six others
unfolding are_six
are-same none = refl
are-same (more {c = c} {d = d} short accepted values rest) = belong-same c d values 1 (more short accepted values rest)

barred-same : {six others : List Component} → SameSixes six others → six_barred six ≡ six_barred others
unfolding six_barred
barred-same s = λ i. cond (short-same s i) 1 (cond (unaccepted-same s i) 2 (cond (are-same s i) 0 18))

-- ---- what the six say of each pair

abbrev says_of : Component → Pair → Complex
says_of c p = entry_at c.table.slots c.cells p.first p.second

-- what one says of each, and what all say
abbrev column : Component → List Pair → List (Pair × Complex)
column c ps = map (λ p. (p, says_of c p)) ps

abbrev rows : List Component → List Pair → List (Pair × List Complex)
rows cs ps = map (λ p. (p, values_at cs p)) ps

abbrev joined : Pair × Complex → Pair × List Complex → Pair × List Complex
joined one row = (one.0, one.1 ∷ row.1)

rows_more : (c : Component) (cs : List Component) (ps : List Pair) → rows (c ∷ cs) ps ≡ zip_with joined (column c ps) (rows cs ps)
unfolding zip_with values_at
rows_more c cs [] = refl
rows_more c cs (p ∷ ps) = ap (λ (l : List (Pair × List Complex)). (p, values_at (c ∷ cs) p) ∷ l) (rows_more c cs ps)

needed-same : (c d : Component) → values_of c ≡ values_of d → needed c.table ≡ needed d.table
unfolding values_of pairs_of frequencies headings
needed-same c d values = λ i. pairs_over (values i).coverage (values i).frequencies (values i).headings

-- of tables that belong with the first, whose pairs are then those of each
rows_same :
    (first : Record) (place : ℕ) {cs ds : List Component} → SameSixes cs ds
    → all_belong first place cs ≡ true
    → rows cs (needed first) ≡ rows ds (needed first)
unfolding all_belong values_of values_at pairs_of frequencies headings
rows_same first place none h = refl
rows_same first place (more {c = c} {d = d} {cs = cs} {ds = ds} short accepted values rest) h =
    let (here, later) = both (belongs first place c.table) (all_belong first (place + 1) cs) h in
    let b = (belongs-exactly first place c.table).0 here in
    let own : needed c.table ≡ needed first = λ i. pairs_over (b.coverage i) (b.same-frequencies i) (b.same-headings i) in
    let column-same : column c (needed first) ≡ column d (needed first) =
    sym (ap (column c) own) ∙ (λ i. (values i).entries) ∙ ap (column d) (sym (needed-same c d values) ∙ own) in
    let rows-later = rows_same first (place + 1) rest later in
    rows_more c cs (needed first) ∙ (λ i. zip_with joined (column-same i) (rows-later i)) ∙ sym (rows_more d ds (needed first))

-- ---- the lines, and which are spoilt

-- a row of which a part is out of bounds
abbrev out_in : Pair × List Complex → Bool
out_in row = any_of is_out row.1

-- whether the pair at a place is spoilt; none is past the last
nth-out : (cs : List Component) (ps : List Pair) (j : ℕ) → nth_spoilt cs (cond (ltb j (length ps)) (Some (get_or ps j nowhere)) None) ≡ get_or (map out_in (rows cs ps)) j false
unfolding nth_spoilt is_spoilt
nth-out cs [] j = rw (le-ltb j 0 zero-le)
nth-out cs (p ∷ ps) zero = let there : 0 < suc (length ps) = omega arith in rw (lt-ltb 0 (suc (length ps)) there)
nth-out cs (p ∷ ps) (suc j) = rw (compare.suc-suc (suc j) (length ps)) (nth-out cs ps j)

-- what is read of two sixes that nothing bars
record SameRead (six others : List Component) : Type 0 where
  lines : proteus_lines six ≡ proteus_lines others
  any : any_spoilt six ≡ any_spoilt others
  spoilt : (k : ℕ) → line_spoilt six k ≡ line_spoilt others k

module _ (c d : Component) (cs ds : List Component) (values : values_of c ≡ values_of d) (all : rows (c ∷ cs) (needed c.table) ≡ rows (d ∷ ds) (needed d.table)) where
  lines_same : proteus_lines (c ∷ cs) ≡ proteus_lines (d ∷ ds)
  unfolding proteus_lines lines_from values_of
  lines_same =
      let line_of : List ℕ → List ℤ → Pair × List Complex → List ℕ = λ ticks hs row. matrix_line ticks hs row.0 row.1 in
      let matrix =
      sym (map-map (line_of (frequencies c.table) (headings c.table)) (λ p. (p, values_at (c ∷ cs) p)) (needed c.table))
      ∙ (λ i. map (line_of (values i).frequencies (values i).headings) (all i))
      ∙ map-map (line_of (frequencies d.table) (headings d.table)) (λ p. (p, values_at (d ∷ ds) p)) (needed d.table) in
      λ i. head_lines (values i).frequencies (values i).headings ++ matrix i

  any-spoilt-same : any_spoilt (c ∷ cs) ≡ any_spoilt (d ∷ ds)
  unfolding any_spoilt is_spoilt
  any-spoilt-same =
      sym (any-map out_in (λ p. (p, values_at (c ∷ cs) p)) (needed c.table))
      ∙ ap (any_of out_in) all
      ∙ any-map out_in (λ p. (p, values_at (d ∷ ds) p)) (needed d.table)

  spoilt-same : (k : ℕ) → line_spoilt (c ∷ cs) k ≡ line_spoilt (d ∷ ds) k
  unfolding line_spoilt nth_of
  spoilt-same k =
      let nth =
      nth-out (c ∷ cs) (needed c.table) (k - head_count)
      ∙ ap (λ (l : List (Pair × List Complex)). get_or (map out_in l) (k - head_count) false) all
      ∙ sym (nth-out (d ∷ ds) (needed d.table) (k - head_count)) in
      ap (cond (ltb k head_count) false) nth

read_same : {six others : List Component} → SameSixes six others → six_barred six ≡ 0 → SameRead six others
unfolding are_six
read_same none free = record { lines = refl; any = refl; spoilt = λ k. refl }
read_same (more {c = c} {d = d} {cs = cs} {ds = ds} short accepted values rest) free =
    let all =
    rows_same c.table 1 (more short accepted values rest) (unbarred (c ∷ cs) free).belong
    ∙ ap (rows (d ∷ ds)) (needed-same c d values) in
    record { lines = lines_same c d cs ds values all; any = any-spoilt-same c d cs ds values all; spoilt = spoilt-same c d cs ds values all }

-- ---- the answers

barred-text : (cs : List Component) (out : List ℕ) → (six_barred cs ≡ 0 → ⊥) → written cs out ≡ outcome (record { number = six_barred cs; length = 0 }) out
unfolding written write_number text_number
barred-text cs out some = let shut = ne_eqb (six_barred cs) 0 some in rw (shut, shut, shut)

module _ {six others : List Component} (s : SameSixes six others) where
  -- nothing bars the two, or one number bars both
  either_way : {P : Type 0} → (SameRead six others → P) → ((six_barred six ≡ 0 → ⊥) → P) → P
  either_way {P} free barred = go (eqb (six_barred six) 0) refl
    where
      go : (t : Bool) → eqb (six_barred six) 0 ≡ t → P
      go true e = free (read_same s (eqb-true (six_barred six) 0 e))
      go false e = barred (eqb-false (six_barred six) 0 e)

  pub line_same : (k : ℕ) → line_at six k ≡ line_at others k
  unfolding line_at line_number
  line_same k =
      let bars = barred-same s in
      either_way
      (λ r.
      let number : line_number six k ≡ line_number others k = λ i. cond (eqb (bars i) 0) (cond (r.spoilt k i) 15 0) (bars i) in
      λ i. lined_of (number i) (cond (eqb (number i) 0) (get_or (r.lines i) k []) []))
      (λ some. sym (barred-line six k (six_barred six) refl some) ∙ barred-line others k (six_barred six) bars some)

  pub written_same : (out : List ℕ) → written six out ≡ written others out
  unfolding written write_number text_number proteus_text
  written_same out =
      let bars = barred-same s in
      either_way
      (λ r.
      let text = ap text_of r.lines in
      let number : text_number six ≡ text_number others = λ i. cond (eqb (bars i) 0) (cond (r.any i) 15 0) (bars i) in
      let last : write_number six (length out) ≡ write_number others (length out) =
      λ i. cond (eqb (number i) 0) (cond (ltb (length out) (length (text i))) 19 0) (number i) in
      λ i.
      cond (eqb (last i) 0)
      (outcome (record { number = 0; length = length (text i) }) (text i ++ drop (length (text i)) out))
      (outcome (record { number = last i; length = 0 }) out))
      (λ some.
      barred-text six out some
      ∙ (λ i. outcome (record { number = bars i; length = 0 }) out)
      ∙ sym (barred-text others out (λ z. some (bars ∙ z))))
