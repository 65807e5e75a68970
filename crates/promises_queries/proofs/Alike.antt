-- Tables that are alike over their coverage give the same answers: a line lies in the same place in both, and every corner that is read is a pair that the coverage needs, with
-- the same value. Assumes nothing.
use mathlib.Core.Path.{◌≡◌, refl, sym, ◌∙◌, ap}
use mathlib.Core.Bool.{cond, ◌&&◌}
use mathlib.Core.List.{List, [], ◌∷◌, Memᴰ}
use Prim.Native.Nat.{ℕ, suc, ◌*◌, ◌^◌}
use lib.Dec.{ltb, leb, eqb}
use lib.IntN.{ℤ, pos, ◌+ℤ◌}
use lib.Ieee.{Float}
use lib.ListN.{length}
use borrow.Author.Tests.{le-ltb}
use Rattle.whole.specs.Nearest.{nearest_ℤ}
use Rattle.whole.specs.Sum.{sum_ℤ}
use Rattle.whole.proofs.Sum.{sum-ext}
use Rattle.whole.proofs.Any.{any_same}
use Rattle.grid.specs.declared.nodes.Node.{Node}
use Rattle.phase.specs.Turn.{Quarter}
use Rattle.reader.specs.declared.record.Record.{Record}
use Rattle.grid.specs.declared.nodes.Slots.{Slots}
use Rattle.grid.specs.Slots.{held_ticks, held_headings}
use Rattle.reader.specs.Valid.{query_barred}
use Rattle.table.specs.Pairs.{product}
use Rattle.table.specs.Entries.{entry_at}
use Rattle.table.specs.View.{has_tick, has_heading, view_of}
use Rattle.table.proofs.Products.{product-only}
use Rattle.load.specs.Corners.{Point, ends, corner_of, corners, any_bad, weighed_sum, coefficient}
use Rattle.load.specs.Locating.{Located, located}
use Rattle.load.specs.Coefficient.{of_points, coefficient_of}
use Rattle.seaway.specs.Sea.{Line, lines_of, is_inadmissible}
use Rattle.load.specs.Force.{LocatedLine, LocatedSea, all, stopped, more, located_from, first_heading, located_sea, bad_among}
use Rattle.load.specs.Force.{term_of, term, total_by, mean_term_of, mean_term, mean_of, of_located_sea, load_by, whole_of, force_by}
use Rattle.readout.specs.Display.{is_usable, shown, reading_of, display_by}
use Rattle.seaway.specs.declared.sea.Sea.{Sea}
use Rattle.load.specs.Answers.{Load}
use Rattle.readout.specs.Told.{Display}
use Rattle.load.specs.Answers.{Coefficient}
use Rattle.load.proofs.Ranges.{LinesLocated, lines-located}
use Rattle.promises_queries.specs.Places.{HoldsTick, HoldsHeading, Foreign, not-held, not_first, thirteen, fourteen}
use Rattle.promises_rows.specs.ByValue.{AlikeOver}
use Rattle.promises_queries.specs.Queries.{node_of_line}
use Rattle.promises_queries.specs.Alike.{SameQueries, AlikeQueries, UnreadQueries}
use Rattle.promises_rows.proofs.Members.{tick-mem, mem-tick, heading-mem, mem-heading}
use Rattle.promises_queries.proofs.Standings.{beyond-same, stands_same}
use Rattle.promises_queries.proofs.Locations.{Own, At, Lies, away, here, lies, lies-one}
use Rattle.promises_queries.proofs.Ends.{end-in, node-held, one-heading}
use Rattle.promises_queries.proofs.Corners.{map_same, read}
use Rattle.promises_queries.proofs.Seas.{line_of}

-- ---- where a line lies

-- what the one table holds the other holds
module _
    (r q : Record)
    (choices : r.choices ≡ q.choices)
    (ticks : (f : ℕ) → has_tick r.slots f ≡ has_tick q.slots f)
    (headings : (h : ℤ) → has_heading r.slots h ≡ has_heading q.slots h)
  where
    holds : (f : ℕ) → HoldsTick r f → HoldsTick q f
    unfolding has_tick
    holds f m = tick-mem (held_ticks q.slots.ticks) f (sym (ticks f) ∙ mem-tick (held_ticks r.slots.ticks) f m)

    holds-heading : (h : ℤ) → HoldsHeading r h → HoldsHeading q h
    unfolding has_heading
    holds-heading h m = heading-mem (held_headings q.slots) h (sym (headings h) ∙ mem-heading (held_headings r.slots) h m)

    single : q.choices.coverage ≡ 0 → r.choices.coverage ≡ 0
    single e = (λ i. (choices i).coverage) ∙ e

module _
    (r q : Record)
    (choices : r.choices ≡ q.choices)
    (ticks : (f : ℕ) → has_tick r.slots f ≡ has_tick q.slots f)
    (headings : (h : ℤ) → has_heading r.slots h ≡ has_heading q.slots h)
  where
    on : (f : ℕ) → HoldsTick r f → HoldsTick q f
    on = holds r q choices ticks headings

    back : (f : ℕ) → HoldsTick q f → HoldsTick r f
    back = holds q r (sym choices) (λ f. sym (ticks f)) (λ h. sym (headings h))

    foreign-same : {first heading : ℤ} → Foreign r first heading → Foreign q first heading
    foreign-same (not-held h) = not-held (λ m. h (holds-heading q r (sym choices) (λ f. sym (ticks f)) (λ h. sym (headings h)) _ m))
    foreign-same (not_first s h) = not_first (single q r (sym choices) (λ f. sym (ticks f)) (λ h. sym (headings h)) s) h

    own_same : {first heading : ℤ} → Own r first heading → Own q first heading
    own_same o = record { holds = holds-heading r q choices ticks headings _ o.holds; goes = λ s. o.goes (single r q choices ticks headings s) }

    lies_same : {first : ℤ} {n : Node} {x : Located} → Lies r first n x → Lies q first n x
    lies_same {n = n} (away (thirteen b)) = away (thirteen (beyond-same r q n.tick on back b))
    lies_same {n = n} (away (fourteen b f)) = away (fourteen (λ c. b (beyond-same q r n.tick back on c)) (foreign-same f))
    lies_same {n = n} (here x) = here (record { stands = stands_same r q n.tick on back x.stands; heading = x.heading; own = own_same x.own })

    pub located-same : (first : ℤ) (n : Node) → located r first n.tick n.heading ≡ located q first n.tick n.heading
    located-same first n = lies-one (lies_same (lies r first n)) (lies q first n)

    -- lines, one after the other
    pub placed_same : (first : ℤ) (i : ℕ) (lines : List Line) → located_from r first i lines ≡ located_from q first i lines
    unfolding located_from
    placed_same first i [] = refl
    placed_same first i (l ∷ ls) = λ k. more l (located-same first (node_of_line l) k) (placed_same first (suc i) ls k) i

-- ---- the corners that are read

module _ (r : Record) (cells : List ℤ) (q : Record) (others : List ℤ) (alike : AlikeOver r.choices.coverage (view_of r.slots cells) (view_of q.slots others)) where
  read_same : {first : ℤ} {a b : Node} {x y : Point} → At r first a x → At r first b y → read r cells x y ≡ read q others x y
  unfolding corners corner_of
  read_same {x = x} {y = y} s t =
      map_same (corner_of (view_of r.slots cells)) (corner_of (view_of q.slots others)) (product (ends x) (ends y))
      (λ e m.
      let (i, j) = product-only (ends x) (ends y) e m in
      let end-s = end-in s e.0 i in
      let end-t = end-in t e.1 j in
      let at = alike.entries e.0.node e.1.node (node-held s.own.holds end-s) (node-held t.own.holds end-t) (one-heading s.own t.own end-s end-t) in
      λ u. record { weight = e.0.weight * e.1.weight; value = at u })

  -- of two points in their places
  points-same : {first : ℤ} {a b : Node} {x y : Located} → Lies r first a x → Lies r first b y → of_points (view_of r.slots cells) x y ≡ of_points (view_of q.slots others) x y
  unfolding of_points coefficient
  points-same (away o) m = refl
  points-same (here s) (away o) = refl
  points-same (here {p = x} s) (here {p = y} t) =
      let e = read_same s t in
      let over = x.frequency.width * y.frequency.width in
      λ i. cond (any_bad (e i)) (Coefficient.Refused 15 0) (Coefficient.Value (nearest_ℤ (weighed_sum (e i)).re over) (nearest_ℤ (weighed_sum (e i)).im over))

-- ---- the answers

module _
    (r : Record)
    (cells : List ℤ)
    (q : Record)
    (others : List ℤ)
    (bars : query_barred r (length cells) ≡ query_barred q (length others))
    (choices : r.choices ≡ q.choices)
    (alike : AlikeOver r.choices.coverage (view_of r.slots cells) (view_of q.slots others))
  where
    coefficients-same : (a b : Node) → coefficient_of r cells a b ≡ coefficient_of q others a b
    unfolding coefficient_of
    coefficients-same a b =
        let first = a.heading in
        let e =
        points-same r cells q others alike (lies r first a) (lies r first b)
        ∙ (λ i. of_points (view_of q.slots others) (located-same r q choices alike.ticks alike.headings first a i) (located-same r q choices alike.ticks alike.headings first b i)) in
        λ i. cond (eqb (bars i) 0) (e i) (Coefficient.Refused (bars i) 0)

    -- of lines in their places
    module _ (first : ℤ) {i : ℕ} {lines : List Line} {ps : List LocatedLine} (s : LinesLocated r first i lines (all ps)) where
      corners-same : (m n : LocatedLine) → Memᴰ m ps → Memᴰ n ps → corners (view_of r.slots cells) m.point n.point ≡ corners (view_of q.slots others) m.point n.point
      corners-same m n j k = read_same r cells q others alike (line_of r first s m j).1 (line_of r first s n k).1

      value_same : (m n : LocatedLine) → Memᴰ m ps → Memᴰ n ps → coefficient (view_of r.slots cells) m.point n.point ≡ coefficient (view_of q.slots others) m.point n.point
      unfolding coefficient
      value_same m n j k =
          let e = corners-same m n j k in
          let over = m.point.frequency.width * n.point.frequency.width in
          λ t. record { re = nearest_ℤ (weighed_sum (e t)).re over; im = nearest_ℤ (weighed_sum (e t)).im over }

      term-same : (clock : Quarter) (t : ℕ) (m n : LocatedLine) → Memᴰ m ps → Memᴰ n ps → term clock r.choices.kind (view_of r.slots cells) t m n ≡ term clock q.choices.kind (view_of q.slots others) t m n
      unfolding term
      term-same clock t m n j k =
          let e = value_same m n j k in
          λ x. term_of clock (choices x).kind t m.line.amplitude n.line.amplitude m.line.tick n.line.tick (e x)

      total-same : (clock : Quarter) (t : ℕ) → total_by clock r.choices.kind (view_of r.slots cells) t ps ≡ total_by clock q.choices.kind (view_of q.slots others) t ps
      unfolding total_by
      total-same clock t =
          sum-ext ◌+ℤ◌ (pos 0) ps (λ m. sum_ℤ ps (λ n. term clock r.choices.kind (view_of r.slots cells) t m n)) (λ m. sum_ℤ ps (λ n. term clock q.choices.kind (view_of q.slots others) t m n))
          (λ m j. sum-ext ◌+ℤ◌ (pos 0) ps (λ n. term clock r.choices.kind (view_of r.slots cells) t m n) (λ n. term clock q.choices.kind (view_of q.slots others) t m n) (λ n k. term-same clock t m n j k))

      mean-same : mean_of r.choices.kind (view_of r.slots cells) ps ≡ mean_of q.choices.kind (view_of q.slots others) ps
      unfolding mean_of mean_term
      mean-same =
          let e =
          sum-ext ◌+ℤ◌ (pos 0) ps (λ m. mean_term (view_of r.slots cells) m) (λ m. mean_term (view_of q.slots others) m)
          (λ m j. ap (mean_term_of m.line.amplitude) (value_same m m j j)) in
          λ x. cond (eqb (choices x).kind 0) (e x) (pos 0)

      among_same : bad_among (view_of r.slots cells) ps ps ≡ bad_among (view_of q.slots others) ps ps
      unfolding bad_among
      among_same = any_same _ _ ps (λ m j. any_same _ _ ps (λ n k. ap any_bad (corners-same m n j k)))

    located-sea-same : (clock : Quarter) (t : ℕ) (first : ℤ) {i : ℕ} {lines : List Line} {s : LocatedSea} → LinesLocated r first i lines s → of_located_sea clock r.choices.kind (view_of r.slots cells) t s ≡ of_located_sea clock q.choices.kind (view_of q.slots others) t s
    unfolding of_located_sea
    located-sea-same clock t first {s = stopped number line} h = refl
    located-sea-same clock t first {s = all ps} h =
        let bad = among_same first h in
        let mean = mean-same first h in
        let sum = total-same first h clock t in
        λ k. cond (bad k) (Load.Refused 15 0) (Load.Both (mean k) (nearest_ℤ (sum k) (2 ^ 30)))

    loads-same : (clock : Quarter) (sea : Sea) (t : ℕ) → load_by clock r cells sea t ≡ load_by clock q others sea t
    unfolding load_by located_sea
    loads-same clock sea t =
        let lines = lines_of sea in
        let first = first_heading lines in
        let e =
        located-sea-same clock t first (lines-located r first 1 lines)
        ∙ ap (of_located_sea clock q.choices.kind (view_of q.slots others) t) (placed_same r q choices alike.ticks alike.headings first 1 lines) in
        λ i. cond (eqb (bars i) 0) (cond (is_inadmissible sea) (Load.Refused 12 0) (e i)) (Load.Refused (bars i) 0)

    shown-same : (scale : Float) (x : Load) → shown r scale x ≡ shown q scale x
    unfolding shown
    shown-same scale (Load.Refused number line) = refl
    shown-same scale (Load.Both mean whole) =
        λ i.
        cond (is_usable scale)
        (cond (leb (choices i).component 3)
        (Display.Force (reading_of (choices i).kind scale mean whole))
        (Display.Moment (reading_of (choices i).kind scale mean whole)))
        (Display.Refused 16 0)

    pub queries-same : SameQueries r cells q others
    unfolding force_by display_by
    queries-same =
        record {
          coefficients = coefficients-same;
          loads = loads-same;
          forces = λ clock sea t. ap whole_of (loads-same clock sea t);
          displays = λ clock sea t scale. ap (shown r scale) (loads-same clock sea t) ∙ shown-same scale (load_by clock q others sea t);
        }

-- ---- the promises

pub alike-queries : AlikeQueries
unfolding query_barred
alike-queries r cells q others a =
    let bars : query_barred r (length cells) ≡ query_barred q (length others) =
    rw (le-ltb (length cells) 12_800 a.long.0, le-ltb (length others) 12_800 a.long.1, a.valid.0, a.valid.1, a.stage) in
    queries-same r cells q others bars a.choices a.alike

pub unread-queries : UnreadQueries
unfolding query_barred has_tick has_heading entry_at
unread-queries r q cells s =
    let bars : query_barred r (length cells) ≡ query_barred q (length cells) =
    λ i. cond (ltb (length cells) 12_800) 1 (cond (s.valid i && eqb (s.stage i) 2) 0 2) in
    let alike : AlikeOver r.choices.coverage (view_of r.slots cells) (view_of q.slots cells) =
    record {
      ticks = λ f. ap (λ (x : Slots). has_tick x f) s.slots;
      headings = λ h. ap (λ (x : Slots). has_heading x h) s.slots;
      entries = λ a b h k _. ap (λ (x : Slots). entry_at x cells a b) s.slots;
    } in
    queries-same r cells q cells bars s.choices alike
