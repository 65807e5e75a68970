-- A heading is read before anything is asked of it, so seas and coefficient calls whose headings are read alike are answered alike. Assumes nothing.
use mathlib.Core.Path.{◌≡◌, refl, sym, ap, subst, ◌∙◌}
use mathlib.Core.Bool.{Bool, cond, not, ◌&&◌, ◌||◌}
use mathlib.Core.List.{List, [], ◌∷◌}
use Prim.Native.Nat.{ℕ, zero, suc, ◌+◌, ◌^◌, ◌≤◌, ◌<◌}
use native.Mathlib.Omega.{arith}
use lib.Dec.{leb, ltb, eqb}
use lib.IntN.{ℤ, pos, ◌+ℤ◌}
use lib.ListN.{length}
use Rattle.whole.specs.Any.{any_of}
use Rattle.whole.specs.Complex.{sizes}
use Rattle.whole.specs.Nearest.{nearest_ℤ}
use Rattle.whole.specs.Sum.{sum_by}
use Rattle.phase.specs.Turn.{Quarter}
use Rattle.row.specs.Heading.{heading_of}
use Rattle.row.proofs.Headings.{heading-turned, heading-of-size}
use Rattle.reader.specs.declared.record.Record.{Record}
use Rattle.reader.specs.Valid.{query_barred}
use Rattle.grid.specs.Slots.{held_ticks}
use Rattle.table.specs.View.{View, view_of}
use Rattle.neighbours.specs.Standing.{standing, apart}
use Rattle.load.specs.Corners.{corners, any_bad, coefficient}
use Rattle.load.specs.Locating.{Located, at, outside, at_heading, located}
use Rattle.load.specs.Coefficient.{of_points, coefficient_of}
use Rattle.load.specs.Answers.{Coefficient}
use Rattle.seaway.specs.Sea.{Line, line_at, lines_from, lines_of, size_of, rises, is_inadmissible}
use Rattle.load.specs.Force.{LocatedLine, LocatedSea, all, stopped, more, located_from, first_heading, located_sea, bad_pair, bad_among}
use Rattle.load.specs.Force.{term_of, term, total_by, mean_term_of, mean_term, mean_of, of_located_sea, load_by, whole_of, force_by}
use Rattle.readout.specs.Display.{shown, display_by}
use Rattle.seaway.specs.declared.sea.Sea.{Sea}
use Rattle.load.specs.Answers.{Load}
use Rattle.promises_one_direction.specs.OneDirection.{OneDirection, itself, plus-minus, minus_plus, SamePoints, OneSeaLine, OneSea, SameSeas}

-- ---- headings

read_alike : {h k : ℤ} → OneDirection h k → heading_of h ≡ heading_of k
read_alike itself = refl
read_alike plus-minus = heading-of-size (pos 180_000) refl ∙ sym heading-turned
read_alike minus_plus = heading-turned ∙ sym (heading-of-size (pos 180_000) refl)

-- where a point lies, by the headings that are read
lies_alike :
    (r : Record) (first other : ℤ) (f g : ℕ) (h k : ℤ) → heading_of first ≡ heading_of other → f ≡ g → heading_of h ≡ heading_of k
    → located r first f h ≡ located r other g k
unfolding located
lies_alike r first other f g h k a b c = λ i. at_heading r (a i) (c i) (standing leb apart (held_ticks r.slots.ticks) (b i))

pub same_points : SamePoints
unfolding coefficient_of
same_points r cells a b first second p q =
    let number = query_barred r (length cells) in
    let one = lies_alike r _ _ _ _ _ _ (read_alike p.heading) p.tick (read_alike p.heading) in
    let two = lies_alike r _ _ _ _ _ _ (read_alike p.heading) q.tick (read_alike q.heading) in
    λ i. cond (eqb number 0) (of_points (view_of r.slots cells) (one i) (two i)) (Coefficient.Refused number 0)

-- ---- lists whose elements are alike one by one

data Pairs {A : Type 0} (R : A → A → Type 0) : List A → List A → Type 0 where
  none : Pairs R [] []
  one : {x y : A} {xs ys : List A} → R x y → Pairs R xs ys → Pairs R (x ∷ xs) (y ∷ ys)

module _ {A : Type 0} {R : A → A → Type 0} where
  sum-pairs :
      {M : Type 0} (plus : M → M → M) (nothing : M) (f g : A → M) → ((x y : A) → R x y → f x ≡ g y) → {xs ys : List A} → Pairs R xs ys
      → sum_by plus nothing xs f ≡ sum_by plus nothing ys g
  unfolding sum_by
  sum-pairs plus nothing f g e none = refl
  sum-pairs plus nothing f g e (one r rs) = λ i. plus (e _ _ r i) (sum-pairs plus nothing f g e rs i)

  any-pairs : (f g : A → Bool) → ((x y : A) → R x y → f x ≡ g y) → {xs ys : List A} → Pairs R xs ys → any_of f xs ≡ any_of g ys
  unfolding any_of
  any-pairs f g e none = refl
  any-pairs f g e (one r rs) = λ i. e _ _ r i || any-pairs f g e rs i

-- ---- lines of a sea

module _ (sea other : Sea) where
  lines_paired : (i n : ℕ) → ((j : ℕ) → i ≤ j → j < i + n → OneSeaLine (line_at sea j) (line_at other j)) → Pairs OneSeaLine (lines_from sea i n) (lines_from other i n)
  unfolding lines_from
  lines_paired i zero f = none
  lines_paired i (suc n) f = one (f i (omega arith) (omega arith)) (lines_paired (suc i) n (λ j low high. f j (omega arith) (omega arith)))

  sea-paired : OneSea sea other → Pairs OneSeaLine (lines_of sea) (lines_of other)
  unfolding lines_of
  sea-paired h =
      subst (λ (n : ℕ). Pairs OneSeaLine (lines_from sea 0 sea.count) (lines_from other 0 n)) h.count
      (lines_paired 0 sea.count (λ j low high. h.lines j (omega arith)))

rises-same : {ls ms : List Line} → Pairs OneSeaLine ls ms → rises ls ≡ rises ms
unfolding rises
rises-same none = refl
rises-same (one l none) = refl
rises-same (one l (one m rest)) = λ i. ltb (l.tick i) (m.tick i) && rises-same (one m rest) i

size_same : {ls ms : List Line} → Pairs OneSeaLine ls ms → size_of ls ≡ size_of ms
unfolding size_of
size_same p = sum-pairs ◌+◌ 0 (λ l. sizes l.amplitude) (λ l. sizes l.amplitude) (λ l m e. ap sizes e.amplitude) p

first_alike : {ls ms : List Line} → Pairs OneSeaLine ls ms → heading_of (first_heading ls) ≡ heading_of (first_heading ms)
unfolding first_heading
first_alike none = refl
first_alike (one l rest) = read_alike l.heading

-- ---- lines in their places

-- what the sum reads of a line
record SamePlace (m n : LocatedLine) : Type 0 where
  pub tick : m.line.tick ≡ n.line.tick
  pub amplitude : m.line.amplitude ≡ n.line.amplitude
  pub point : m.point ≡ n.point

data SameLocated : LocatedSea → LocatedSea → Type 0 where
  in_place : {ps qs : List LocatedLine} → Pairs SamePlace ps qs → SameLocated (all ps) (all qs)
  halted : {number i : ℕ} → SameLocated (stopped number i) (stopped number i)

more_same : {l m : Line} → OneSeaLine l m → (x : Located) {s t : LocatedSea} (i : ℕ) → SameLocated s t → SameLocated (more l x s i) (more m x t i)
unfolding more
more_same e (outside number) i rest = halted
more_same e (at p) i (in_place ps) = in_place (one (record { tick = e.tick; amplitude = e.amplitude; point = refl }) ps)
more_same e (at p) i halted = halted

module _ (r : Record) (first other : ℤ) (e : heading_of first ≡ heading_of other) where
  located-same : (i : ℕ) {ls ms : List Line} → Pairs OneSeaLine ls ms → SameLocated (located_from r first i ls) (located_from r other i ms)
  unfolding located_from
  located-same i none = in_place none
  located-same i (one {x = l} {y = m} {xs = ls} {ys = ms} h rest) =
      let there = lies_alike r first other l.tick m.tick l.heading m.heading e h.tick (read_alike h.heading) in
      subst (λ (x : Located). SameLocated (more l (located r first l.tick l.heading) (located_from r first (suc i) ls) i) (more m x (located_from r other (suc i) ms) i)) there
      (more_same h (located r first l.tick l.heading) i (located-same (suc i) rest))

-- ---- the sum

module _ (clock : Quarter) (kind : ℕ) (v : View) (t : ℕ) {ps qs : List LocatedLine} (h : Pairs SamePlace ps qs) where
  bad-same : bad_among v ps ps ≡ bad_among v qs qs
  unfolding bad_among
  bad-same =
      any-pairs (λ m. any_of (λ n. bad_pair v m n) ps) (λ m. any_of (λ n. bad_pair v m n) qs)
      (λ m m' e. any-pairs (λ n. bad_pair v m n) (λ n. bad_pair v m' n) (λ n n' f. λ i. any_bad (corners v (e.point i) (f.point i))) h)
      h

  total-same : total_by clock kind v t ps ≡ total_by clock kind v t qs
  unfolding total_by term
  total-same =
      sum-pairs ◌+ℤ◌ (pos 0) _ _
      (λ m m' e.
      sum-pairs ◌+ℤ◌ (pos 0) (term clock kind v t m) (term clock kind v t m')
      (λ n n' f. λ i. term_of clock kind t (e.amplitude i) (f.amplitude i) (e.tick i) (f.tick i) (coefficient v (e.point i) (f.point i)))
      h)
      h

  mean-same : mean_of kind v ps ≡ mean_of kind v qs
  unfolding mean_of mean_term
  mean-same =
      let terms = sum-pairs ◌+ℤ◌ (pos 0) (mean_term v) (mean_term v) (λ m n e. λ i. mean_term_of (e.amplitude i) (coefficient v (e.point i) (e.point i))) h in
      λ i. cond (eqb kind 0) (terms i) (pos 0)

of-located-same :
    (clock : Quarter) (kind : ℕ) (v : View) (t : ℕ) {x y : LocatedSea} → SameLocated x y → of_located_sea clock kind v t x ≡ of_located_sea clock kind v t y
unfolding of_located_sea
of-located-same clock kind v t (in_place h) =
    λ i.
    cond (bad-same clock kind v t h i)
    (Load.Refused 15 0)
    (Load.Both (mean-same clock kind v t h i) (nearest_ℤ (total-same clock kind v t h i) (2 ^ 30)))
of-located-same clock kind v t halted = refl

-- ---- the answers

module _ (clock : Quarter) (r : Record) (cells : List ℤ) (sea other : Sea) (t : ℕ) (h : OneSea sea other) where
  abbrev lines : Pairs OneSeaLine (lines_of sea) (lines_of other)
  lines = sea-paired sea other h

  admitted-same : is_inadmissible sea ≡ is_inadmissible other
  unfolding is_inadmissible
  admitted-same = λ i. ltb 64 (h.count i) || (not (rises-same lines i) || ltb 40_000 (size_same lines i))

  load_same : load_by clock r cells sea t ≡ load_by clock r cells other t
  unfolding load_by located_sea
  load_same =
      let number = query_barred r (length cells) in
      let placed = of-located-same clock r.choices.kind (view_of r.slots cells) t (located-same r _ _ (first_alike lines) 1 lines) in
      λ i. cond (eqb number 0) (cond (admitted-same i) (Load.Refused 12 0) (placed i)) (Load.Refused number 0)

pub same-seas : SameSeas
unfolding force_by display_by
same-seas clock r cells sea other t h =
    let e = load_same clock r cells sea other t h in
    record { load = e; force = ap whole_of e; display = λ scale. ap (shown r scale) e }
