-- A sea, from the model's tests to what specs/Queries says and back: 12, the first line that is off its place, and lines with a needed part out of bounds. Assumes nothing.
use mathlib.Core.Path.{◌≡◌, refl, sym, ◌∙◌, ap, subst}
use mathlib.Core.Bool.{true, false, not, ◌||◌, true≢false}
use mathlib.Core.List.Memᴰ
use mathlib.Core.List.{List, [], ◌∷◌, ◌++◌, Memᴰ}
use mathlib.Core.Logic.{⊎_elim}
use Prim.Native.Nat.{ℕ, suc, ◌+◌, ◌≤◌, ◌<◌}
use native.Mathlib.Omega.{arith}
use lib.Dec.{ltb}
use lib.IntN.{ℤ}
use lib.ListN.{length}
use borrow.Author.Tests.{ltb-true, ltb-false, lt-ltb, not-true, not-false}
use Rattle.whole.specs.Any.{any_of}
use Rattle.whole.proofs.Any.{either, neither}
use Rattle.whole.proofs.Any.{some_of}
use Rattle.row.proofs.Deciding.{both}
use Rattle.grid.specs.declared.nodes.Node.{Node}
use Rattle.reader.specs.declared.record.Record.{Record}
use Rattle.table.specs.View.{View}
use Rattle.load.specs.Corners.{Point, any_bad}
use Rattle.load.specs.Locating.{Located, at, outside, located}
use Rattle.seaway.specs.Sea.{Line, lines_of, size_of, rises, is_inadmissible}
use Rattle.seaway.specs.declared.sea.Sea.{Sea}
use Rattle.load.specs.Force.{LocatedLine, all, stopped, more, located_from, bad_pair, bad_among}
use Rattle.load.proofs.Ranges.{LinesLocated, arrived, onward, later, halted}
use Rattle.promises_queries.specs.Places.{Off, thirteen, fourteen, InPlace, WeightedPair, CornersOf, of-ends}
use Rattle.promises_queries.specs.Queries.{Rising, Inadmissible, many, not-rising, high, node_of_line, NeedsLargePart}
use Rattle.promises_queries.proofs.Standings.{not-outside}
use Rattle.promises_queries.proofs.Locations.{own-not-foreign, At, Lies, away, here, lies, lies-one}
use Rattle.promises_queries.proofs.Ends.{some-ends, these-ends}
use Rattle.promises_queries.proofs.Corners.{corners_in, read, bad-one, one-bad}

-- ---- 12

-- at any two neighbouring lines
rises-at : (before after : List Line) (l m : Line) → rises (before ++ (l ∷ m ∷ after)) ≡ true → l.tick < m.tick
unfolding rises
rises-at [] after l m e = ltb-true l.tick m.tick (both (ltb l.tick m.tick) (rises (m ∷ after)) e).0
rises-at (x ∷ []) after l m e = rises-at [] after l m (both (ltb x.tick l.tick) (rises (l ∷ m ∷ after)) e).1
rises-at (x ∷ y ∷ ys) after l m e = rises-at (y ∷ ys) after l m (both (ltb x.tick y.tick) (rises (y ∷ (ys ++ (l ∷ m ∷ after)))) e).1

rises-rising : (lines : List Line) → rises lines ≡ true → Rising lines
rises-rising lines e before after l m split = rises-at before after l m (sym (ap rises split) ∙ e)

rising-rises : (lines : List Line) → Rising lines → rises lines ≡ true
unfolding rises
rising-rises [] h = refl
rising-rises (l ∷ []) h = refl
rising-rises (l ∷ m ∷ ls) h =
    let rest = rising-rises (m ∷ ls) (λ before after x y e. h (l ∷ before) after x y (ap (λ (t : List Line). l ∷ t) e)) in
    rw (lt-ltb l.tick m.tick (h [] ls l m refl)) rest

module _ (sea : Sea) where
  abbrev lines : List Line
  lines = lines_of sea

  pub inadmissible-is : is_inadmissible sea ≡ true → Inadmissible sea
  unfolding is_inadmissible
  inadmissible-is e =
      ⊎_elim (λ h. many (ltb-true 64 sea.count h))
      (λ k. ⊎_elim
      (λ h. not-rising (λ up. true≢false (sym (rising-rises lines up) ∙ not-true (rises lines) h)))
      (λ h. high (ltb-true 40_000 (size_of lines) h))
      (either (not (rises lines)) (ltb 40_000 (size_of lines)) k))
      (either (ltb 64 sea.count) (not (rises lines) || ltb 40_000 (size_of lines)) e)

  pub admissible-is : is_inadmissible sea ≡ false → Inadmissible sea → ⊥
  unfolding is_inadmissible
  admissible-is e r =
      let (few, rest) = neither (ltb 64 sea.count) (not (rises lines) || ltb 40_000 (size_of lines)) e in
      let (up, low) = neither (not (rises lines)) (ltb 40_000 (size_of lines)) rest in
      by (ltb-false 64 sea.count few) (rises-rising lines (not-false (rises lines) up)) (ltb-false 40_000 (size_of lines) low) r
    where
      by : sea.count ≤ 64 → Rising lines → size_of lines ≤ 40_000 → Inadmissible sea → ⊥
      by few up low (many h) = omega arith
      by few up low (not-rising h) = h up
      by few up low (high h) = omega arith

-- ---- lines in their places, and the first that is not

-- what has a point is in its place
pub at-in-place : {r : Record} {first : ℤ} {n : Node} {p : Point} → At r first n p → InPlace r first n
at-in-place {r} {n = n} x number (thirteen b) = not-outside r n.tick x.stands b
at-in-place x number (fourteen b f) = own-not-foreign x.own f

-- and what is in its place has a point
placed_by : {r : Record} {first : ℤ} {n : Node} {l : Located} → Lies r first n l → InPlace r first n → (p : Point) × At r first n p
placed_by (away {number} o) h = absurd (h number o)
placed_by (here {p} x) h = (p, x)

pub place-of : (r : Record) (first : ℤ) (n : Node) → InPlace r first n → (p : Point) × At r first n p
place-of r first n h = placed_by (lies r first n) h

-- what the model has found
module _ (r : Record) (first : ℤ) (n : Node) where
  off-by : {x : Located} → Lies r first n x → (number : ℕ) → x ≡ outside number → Off r first n number
  off-by (away {number = m} o) number e = let same : m ≡ number = cc in subst (Off r first n) same o
  off-by (here x) number e = let clash : ◌≡◌ {A = ℕ} 0 1 = cc in absurd (omega arith)

  pub off-is : (number : ℕ) → located r first n.tick n.heading ≡ outside number → Off r first n number
  off-is number e = off-by (lies r first n) number e

  at-by : {x : Located} → Lies r first n x → (p : Point) → x ≡ at p → At r first n p
  at-by (away o) p e = let clash : ◌≡◌ {A = ℕ} 0 1 = cc in absurd (omega arith)
  at-by (here {p = q} x) p e = let same : q ≡ p = cc in subst (At r first n) same x

  pub at-is : (p : Point) → located r first n.tick n.heading ≡ at p → At r first n p
  at-is p e = at-by (lies r first n) p e

-- the first line that is off, with its place
pub record Stop (r : Record) (first : ℤ) (lines : List Line) (number line i : ℕ) : Type 0 where
  pub before : List Line
  pub after : List Line
  pub l : Line
  pub split : lines ≡ before ++ (l ∷ after)
  pub earlier : (k : Line) → Memᴰ k before → InPlace r first (node_of_line k)
  pub off : Off r first (node_of_line l) number
  pub place : line ≡ i + length before

module _ (r : Record) (first : ℤ) where
  pub stop_is : {i : ℕ} {lines : List Line} {number line : ℕ} → LinesLocated r first i lines (stopped number line) → Stop r first lines number line i
  stop_is (halted {i} {l} {ls} {number} e) =
      record {
        before = [];
        after = ls;
        l = l;
        split = refl;
        earlier = λ k m. absurd (Memᴰ.not-nil m);
        off = off-is r first (node_of_line l) number e;
        place = omega arith;
      }
  stop_is (later {i} {l} {ls} {p} {number} {line} e h) =
      let s = stop_is h in
      record {
        before = l ∷ s.before;
        after = s.after;
        l = s.l;
        split = ap (λ (t : List Line). l ∷ t) s.split;
        earlier = λ k m.
            ⊎_elim
            (λ (same : k ≡ l). subst (λ (x : Line). InPlace r first (node_of_line x)) (sym same) (at-in-place (at-is r first (node_of_line l) p e)))
            (λ n. s.earlier k n)
            (Memᴰ.cases_cons m);
        off = s.off;
        place = let q = s.place in omega arith;
      }

  -- the point of a line that is in its place
  found_at : (l : Line) → InPlace r first (node_of_line l) → (p : Point) × (located r first l.tick l.heading ≡ at p)
  found_at l h =
      let (p, x) = place-of r first (node_of_line l) h in
      (p, lies-one (lies r first (node_of_line l)) (here x))

  pub stops : (i : ℕ) (before after : List Line) (l : Line) (number : ℕ)
      → ((k : Line) → Memᴰ k before → InPlace r first (node_of_line k))
      → Off r first (node_of_line l) number
      → located_from r first i (before ++ (l ∷ after)) ≡ stopped number (i + length before)
  unfolding located_from more
  stops i [] after l number h o =
      let e : located r first l.tick l.heading ≡ outside number = lies-one (lies r first (node_of_line l)) (away o) in
      let zero_more : i ≡ i + 0 = omega arith in
      rw e (ap (stopped number) zero_more)
  stops i (x ∷ xs) after l number h o =
      let (p, e) = found_at x (h x (Memᴰ.head refl)) in
      let rest = stops (suc i) xs after l number (λ k m. h k (Memᴰ.tail m)) o in
      let one_more : suc i + length xs ≡ i + suc (length xs) = omega arith in
      rw (e, rest) (ap (stopped number) one_more)

  -- all are in their places
  pub each-in-place : {i : ℕ} {lines : List Line} {ps : List LocatedLine} → LinesLocated r first i lines (all ps) → (k : Line) → Memᴰ k lines → InPlace r first (node_of_line k)
  each-in-place arrived k m = absurd (Memᴰ.not-nil m)
  each-in-place (onward {l = l} {p = p} e h) k m =
      ⊎_elim
      (λ (same : k ≡ l). subst (λ (x : Line). InPlace r first (node_of_line x)) (sym same) (at-in-place (at-is r first (node_of_line l) p e)))
      (λ n. each-in-place h k n)
      (Memᴰ.cases_cons m)

  pub all-in-place : (i : ℕ) (lines : List Line) → ((k : Line) → Memᴰ k lines → InPlace r first (node_of_line k)) → (ps : List LocatedLine) × (located_from r first i lines ≡ all ps)
  unfolding located_from more
  all-in-place i [] h = ([], refl)
  all-in-place i (l ∷ ls) h =
      let (p, e) = found_at l (h l (Memᴰ.head refl)) in
      let (ps, f) = all-in-place (suc i) ls (λ k m. h k (Memᴰ.tail m)) in
      (record { line = l; point = p } ∷ ps, rw (e, f))

  -- a line that stands in the list stands in its place, and the other way round
  pub record StandingIn (ps : List LocatedLine) (l : Line) : Type 0 where
    pub p : Point
    pub member : Memᴰ (record { line = l; point = p }) ps
    pub is_at : At r first (node_of_line l) p

  pub line-in : {i : ℕ} {lines : List Line} {ps : List LocatedLine} → LinesLocated r first i lines (all ps) → (k : Line) → Memᴰ k lines → StandingIn ps k
  line-in arrived k m = absurd (Memᴰ.not-nil m)
  line-in (onward {l = l} {p = p} {ps = ps} e h) k m =
      ⊎_elim
      (λ (same : k ≡ l). subst (StandingIn (record { line = l; point = p } ∷ ps)) (sym same)
      (record { p = p; member = Memᴰ.head refl; is_at = at-is r first (node_of_line l) p e }))
      (λ n. let s = line-in h k n in record { p = s.p; member = Memᴰ.tail s.member; is_at = s.is_at })
      (Memᴰ.cases_cons m)

  pub line_of : {i : ℕ} {lines : List Line} {ps : List LocatedLine} → LinesLocated r first i lines (all ps) → (m : LocatedLine) → Memᴰ m ps
      → Memᴰ m.line lines × At r first (node_of_line m.line) m.point
  line_of arrived m i = absurd (Memᴰ.not-nil i)
  line_of (onward {l = l} {ls = ls} {p = p} e h) m i =
      ⊎_elim
      (λ (same : m ≡ record { line = l; point = p }).
      subst (λ (x : LocatedLine). Memᴰ x.line (l ∷ ls) × At r first (node_of_line x.line) x.point) (sym same)
      (Memᴰ.head refl, at-is r first (node_of_line l) p e))
      (λ n. let (a, b) = line_of h m n in (Memᴰ.tail a, b))
      (Memᴰ.cases_cons i)

-- ---- 15

-- two lines with a bad corner
pub bad-among : (v : View) (ms ns : List LocatedLine) → bad_among v ms ns ≡ true → (m : LocatedLine) × (n : LocatedLine) × Memᴰ m ms × Memᴰ n ns × (bad_pair v m n ≡ true)
unfolding bad_among
bad-among v ms ns e =
    let (m, i, h) = some_of (λ m. any_of (λ n. bad_pair v m n) ns) ms e in
    let (n, j, b) = some_of (bad_pair v m) ns h in
    (m, n, i, j, b)

-- of two points: where a corner is bad a needed part is out of bounds
module _ (r : Record) (cells : List ℤ) {first : ℤ} {a b : Node} {p q : Point} (x : At r first a p) (y : At r first b q) where
  pub large-part-is : any_bad (read r cells p q) ≡ true → NeedsLargePart r cells a b
  large-part-is e =
      let (es, u) = some-ends x in
      let (fs, w) = some-ends y in
      let (c, m, large) = bad-one r cells u w e in
      record { corners = corners_in es fs; are = of-ends u.are w.are; corner = c; needed = m; large = large }

  pub is-large-part : NeedsLargePart r cells a b → any_bad (read r cells p q) ≡ true
  is-large-part s = go s.are s.needed
    where
      go : {cs : List WeightedPair} → CornersOf r a b cs → Memᴰ s.corner cs → any_bad (read r cells p q) ≡ true
      go (of-ends u w) m = one-bad r cells (these-ends x u) (these-ends y w) s.corner m s.large
