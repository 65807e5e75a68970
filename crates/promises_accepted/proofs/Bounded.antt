-- Where every cell part is in bounds 15 is never given: a node of the table has a number below 80, and so a cell among the 12,800. Assumes nothing.
use mathlib.Core.Path.{◌≡◌, refl, sym, subst}
use mathlib.Core.List.{List, [], ◌∷◌, ◌++◌, Memᴰ}
use mathlib.Core.Logic.{⊎_elim}
use Prim.Native.Nat.{ℕ, ◌+◌, ◌*◌, ◌≤◌, ◌<◌}
use native.Mathlib.Omega.{arith}
use lib.Dec.{eqb}
use lib.IntN.{ℤ, nat_abs}
use lib.Ieee.{Float}
use lib.ListN.{length, length-take}
use borrow.Author.Tests.{ltb-true}
use Rattle.whole.specs.Same.{same_ℤ}
use Rattle.row.specs.Heading.{heading_of}
use Rattle.grid.specs.declared.nodes.Node.{Node}
use Rattle.phase.specs.Turn.{Quarter}
use Rattle.phase.specs.Seconds.{seconds}
use Rattle.reader.specs.declared.record.Record.{Record}
use Rattle.grid.specs.Slots.{slot_of, held_ticks, held_headings, heading_slot}
use Rattle.table.specs.Cells.{node_at, place_of, cell_at}
use Rattle.table.specs.Closing.{node_of}
use Rattle.table.specs.Entries.{entry_at}
use Rattle.load.specs.Corners.{WeightedNode}
use Rattle.seaway.specs.Sea.{Line, lines_of}
use Rattle.seaway.specs.declared.sea.Sea.{Sea}
use Rattle.promises_calls.specs.Kept.{Shaped}
use Rattle.promises_queries.specs.Places.{HoldsHeading, EndsOf, WeightedPair, CornersOf, of-ends, Off, thirteen, fourteen}
use Rattle.promises_queries.specs.Coefficients.{corner_entry}
use Rattle.promises_queries.specs.Queries.{Asked, Inadmissible, LineInPlace, NeedsLargePart, CoefficientRefused, SeaRefused, SeaFree, DisplayRefused, as-force, sixteen, node_of_line, first_heading_of}
use Rattle.promises_accepted.specs.Bounded.{Bounded, NoFifteen, PointsAnswered, SeaAnsweredBy, SeaAnswered}
use Rattle.promises_calls.proofs.SlotsOnce.{held-member}
use Rattle.promises_rows.proofs.Members.{mem-tick, mem-heading}
use Rattle.promises_queries.proofs.Ends.{end_is}
use Rattle.promises_queries.proofs.Corners.{corner-of}
use Rattle.promises_queries.proofs.Seas.{place-of}
use Rattle.promises_queries.proofs.Queries.{coefficient-given, force-given-by}

-- ---- a node's number

module _ (r : Record) (shaped : Shaped r) where
  pub node-below : (n : Node) → Memᴰ n.tick (held_ticks r.slots.ticks) → HoldsHeading r n.heading → node_of r.slots n < 80
  unfolding node_of node_at heading_slot held_headings
  node-below n held heading =
      let t : slot_of eqb r.slots.ticks n.tick < length r.slots.ticks = ltb-true _ _ (mem-tick r.slots.ticks n.tick (held-member r.slots.ticks n.tick held)) in
      let h : slot_of same_ℤ (held_headings r.slots) n.heading < length (held_headings r.slots) = ltb-true _ _ (mem-heading (held_headings r.slots) n.heading heading) in
      let count = length-take r.slots.held r.slots.headings in
      let ticks = shaped.ticks in
      let headings = shaped.headings in
      omega arith

-- ---- entries in bounds

module _ (r : Record) (cells : List ℤ) (shaped : Shaped r) (bounded : Bounded cells) where
  pub entry-small : (x y : ℕ) → x < 80 → y < 80 → (nat_abs (cell_at cells (place_of x y)).re ≤ 1_000_000_000) × (nat_abs (cell_at cells (place_of x y)).im ≤ 1_000_000_000)
  unfolding cell_at place_of
  entry-small x y h k = (bounded.part (2 * (80 * x + y)) (omega arith), bounded.part (2 * (80 * x + y) + 1) (omega arith))

  -- the number of an end
  end_below : {n : Node} {es : List WeightedNode} → HoldsHeading r (heading_of n.heading) → EndsOf r n es → (e : WeightedNode) → Memᴰ e es → node_of r.slots e.node < 80
  end_below own ends e i = let held = end_is ends e i in node-below r shaped e.node held.tick (subst (HoldsHeading r) (sym held.heading) own)

  no-large-part : (a b : Node) → HoldsHeading r (heading_of a.heading) → HoldsHeading r (heading_of b.heading) → NeedsLargePart r cells a b → ⊥
  unfolding entry_at
  no-large-part a b own other s = go s.are s.needed
    where
      go : {cs : List WeightedPair} → CornersOf r a b cs → Memᴰ s.corner cs → ⊥
      go (of-ends {ends} {others} x y) m =
          let (i, j, in-a, in_b, is) = corner-of ends others s.corner m in
          let small = entry-small _ _ (end_below own x i in-a) (end_below other y j in_b) in
          let re : nat_abs (corner_entry r cells s.corner).re ≤ 1_000_000_000 = subst (λ (c : WeightedPair). nat_abs (corner_entry r cells c).re ≤ 1_000_000_000) is small.0 in
          let im : nat_abs (corner_entry r cells s.corner).im ≤ 1_000_000_000 = subst (λ (c : WeightedPair). nat_abs (corner_entry r cells c).im ≤ 1_000_000_000) is small.1 in
          ⊎_elim (λ h. omega arith) (λ h. omega arith) s.large

-- ---- no query gives 15

off-number : {r : Record} {first : ℤ} {n : Node} {number : ℕ} → Off r first n number → number ≡ 15 → ⊥
off-number (thirteen b) e = omega arith
off-number (fourteen b f) e = omega arith

module _ (r : Record) (cells : List ℤ) (shaped : Shaped r) (bounded : Bounded cells) where
  no-point : {a b : Node} {number place : ℕ} → CoefficientRefused r cells a b number place → number ≡ 15 → ⊥
  no-point (CoefficientRefused.one h) e = omega arith
  no-point (CoefficientRefused.two h k) e = omega arith
  no-point (CoefficientRefused.first_off x o) e = off-number o e
  no-point (CoefficientRefused.second-off x h o) e = off-number o e
  no-point {a} {b} (CoefficientRefused.fifteen x h k s) e =
      no-large-part r cells shaped bounded a b (place-of r a.heading a h).1.own.holds (place-of r a.heading b k).1.own.holds s

  no-sea : {sea : Sea} {number place : ℕ} → SeaRefused r cells sea number place → number ≡ 15 → ⊥
  no-sea (SeaRefused.one h) e = omega arith
  no-sea (SeaRefused.two h k) e = omega arith
  no-sea (SeaRefused.twelve x h) e = omega arith
  no-sea (SeaRefused.line-off before after l x fit split earlier o) e = off-number o e
  no-sea {sea} (SeaRefused.fifteen m n x fit placed in-m in-n s) e =
      let first = first_heading_of sea in
      no-large-part r cells shaped bounded (node_of_line m) (node_of_line n)
      (place-of r first (node_of_line m) (placed m in-m)).1.own.holds
      (place-of r first (node_of_line n) (placed n in-n)).1.own.holds
      s

  no-display : {sea : Sea} {scale : Float} {number place : ℕ} → DisplayRefused r cells sea scale number place → number ≡ 15 → ⊥
  no-display (as-force s) e = no-sea s e
  no-display (sixteen none u) e = omega arith

pub no-fifteen : NoFifteen
no-fifteen r cells sea scale a b place shaped bounded =
    ((λ x. no-point r cells shaped bounded x refl), (λ x. no-sea r cells shaped bounded x refl), (λ x. no-display r cells shaped bounded x refl))

pub points-answered : PointsAnswered
points-answered r cells a b shaped bounded asked h k = coefficient-given r cells a b (λ number place x. none x)
  where
    none : {number place : ℕ} → CoefficientRefused r cells a b number place → ⊥
    none (CoefficientRefused.one s) = asked.long s
    none (CoefficientRefused.two s n) = n asked.accepted
    none (CoefficientRefused.first_off {number} x o) = h number o
    none (CoefficientRefused.second-off {number} x l o) = k number o
    none (CoefficientRefused.fifteen x l m s) = no-point r cells shaped bounded (CoefficientRefused.fifteen x l m s) refl

middle : (before after : List Line) (l : Line) → Memᴰ l (before ++ (l ∷ after))
middle [] after l = Memᴰ.head refl
middle (b ∷ before) after l = Memᴰ.tail (middle before after l)

-- nothing refuses a sea whose lines are all in their places
pub sea-free :
    (r : Record) (cells : List ℤ) (sea : Sea) → Shaped r → Bounded cells → Asked r cells → (Inadmissible sea → ⊥)
    → ((l : Line) → Memᴰ l (lines_of sea) → LineInPlace r sea l) → SeaFree r cells sea
sea-free r cells sea shaped bounded asked fit placed number place x = none x
  where
    none : {number place : ℕ} → SeaRefused r cells sea number place → ⊥
    none (SeaRefused.one s) = asked.long s
    none (SeaRefused.two s n) = n asked.accepted
    none (SeaRefused.twelve x h) = fit h
    none (SeaRefused.line-off {number} before after l x c split earlier o) = placed l (subst (Memᴰ l) (sym split) (middle before after l)) number o
    none (SeaRefused.fifteen m n x c p i j s) = no-sea r cells shaped bounded (SeaRefused.fifteen m n x c p i j s) refl

pub sea-answered-by : (clock : Quarter) → SeaAnsweredBy clock
sea-answered-by clock r cells sea t shaped bounded asked fit placed = force-given-by clock r cells sea t (sea-free r cells sea shaped bounded asked fit placed)

pub sea-answered : SeaAnswered
sea-answered = sea-answered-by seconds
