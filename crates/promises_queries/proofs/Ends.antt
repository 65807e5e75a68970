-- The ends of a line or point (specs/Places) are those of the model that have weight, over the same width, and all are the table's own. Assumes nothing.
use mathlib.Core.Path.{◌≡◌, refl, sym, ◌∙◌, ap, subst}
use mathlib.Core.Bool.{true, cond}
use mathlib.Core.List.Memᴰ
use mathlib.Core.List.{List, [], ◌∷◌, Memᴰ}
use Prim.Native.Nat.{ℕ, ◌-◌, ◌<◌}
use native.Mathlib.Omega.{arith}
use lib.Dec.{eqb, lit<}
use lib.IntN.{ℤ, pos, ◌+ℤ◌, +ℤ_idl}
use borrow.Author.Tests.{eq-eqb, ne_eqb}
use Rattle.whole.specs.Sum.{sum_by, sum_ℤ, sum_ℕ}
use Rattle.row.specs.Heading.{heading_of}
use Rattle.grid.specs.declared.nodes.Node.{Node}
use Rattle.reader.specs.declared.record.Record.{Record}
use Rattle.grid.specs.Slots.{held_ticks, held_headings}
use Rattle.table.specs.View.{has_tick, has_heading, has_node}
use Rattle.neighbours.specs.Standing.{Standing}
use Rattle.load.specs.Corners.{Point, WeightedNode, ends}
use Rattle.neighbours.proofs.Weights.{alone}
use Rattle.promises_queries.specs.Places.{HoldsTick, HoldsHeading, Neighbours, EndsOf, itself, between, end_at}
use Rattle.promises_rows.proofs.Members.{mem-tick, mem-heading}
use Rattle.promises_queries.proofs.Standings as standings
use Rattle.promises_queries.proofs.Standings.{Stands, stands_one}
use Rattle.promises_queries.proofs.Locations.{Own, At}

-- ---- those that have weight

pub data Weighing : List WeightedNode → List WeightedNode → Type 0 where
  nothing : Weighing [] []
  weighs : {e : WeightedNode} {es fs : List WeightedNode} → 0 < e.weight → Weighing es fs → Weighing (e ∷ es) (e ∷ fs)
  lighter : {e : WeightedNode} {es fs : List WeightedNode} → e.weight ≡ 0 → Weighing es fs → Weighing (e ∷ es) fs

-- they are all that have weight, and only they
pub weighing-in : {es fs : List WeightedNode} → Weighing es fs → (e : WeightedNode) → 0 < e.weight → Memᴰ e es → Memᴰ e fs
weighing-in nothing e h m = m
weighing-in (weighs k w) e h (Memᴰ.head same) = Memᴰ.head same
weighing-in (weighs k w) e h (Memᴰ.tail m) = Memᴰ.tail (weighing-in w e h m)
weighing-in (lighter z w) e h (Memᴰ.head same) = let k = ap (λ (x : WeightedNode). x.weight) same in absurd (omega arith)
weighing-in (lighter z w) e h (Memᴰ.tail m) = weighing-in w e h m

pub weighing-of : {es fs : List WeightedNode} → Weighing es fs → (e : WeightedNode) → Memᴰ e fs → Memᴰ e es × (0 < e.weight)
weighing-of nothing e m = absurd (Memᴰ.not-nil m)
weighing-of (weighs k w) e (Memᴰ.head same) = (Memᴰ.head same, subst (λ (x : WeightedNode). 0 < x.weight) (sym same) k)
weighing-of (weighs k w) e (Memᴰ.tail m) = let (n, h) = weighing-of w e m in (Memᴰ.tail n, h)
weighing-of (lighter z w) e m = let (n, h) = weighing-of w e m in (Memᴰ.tail n, h)

-- so there is but one such list
needed : List WeightedNode → List WeightedNode
needed [] = []
needed (e ∷ es) = cond (eqb e.weight 0) (needed es) (e ∷ needed es)

weighing-is : {es fs : List WeightedNode} → Weighing es fs → fs ≡ needed es
unfolding needed
weighing-is nothing = refl
weighing-is (weighs {e} {es} h w) = rw (ne_eqb e.weight 0 (λ z. omega arith)) (ap (λ (l : List WeightedNode). e ∷ l) (weighing-is w))
weighing-is (lighter {e} {es} z w) = rw (eq-eqb e.weight 0 z) (weighing-is w)

-- a sum in which what has no weight adds nothing
pub weighing-sum : {es fs : List WeightedNode} → Weighing es fs → (f : WeightedNode → ℤ) → ((e : WeightedNode) → e.weight ≡ 0 → f e ≡ pos 0) → sum_ℤ es f ≡ sum_ℤ fs f
unfolding sum_by
weighing-sum nothing f h = refl
weighing-sum (weighs {e} k w) f h = ap (λ (z : ℤ). f e +ℤ z) (weighing-sum w f h)
weighing-sum (lighter {e} {es} z w) f h = rw (h e z) (+ℤ_idl (sum_ℤ es f) ∙ weighing-sum w f h)

-- ---- the ends of a point

-- each has weight
pub end-weighs : {r : Record} {n : Node} {es : List WeightedNode} → EndsOf r n es → (e : WeightedNode) → Memᴰ e es → 0 < e.weight
end-weighs (itself m) e (Memᴰ.head same) = subst (λ (x : WeightedNode). 0 < x.weight) (sym same) (lit< tt)
end-weighs (itself m) e (Memᴰ.tail none) = absurd (Memᴰ.not-nil none)
end-weighs {n = n} (between {high = high} k) e (Memᴰ.head same) =
    let some : 0 < high - n.tick = omega arith in
    subst (λ (x : WeightedNode). 0 < x.weight) (sym same) some
end-weighs {n = n} (between {low} k) e (Memᴰ.tail (Memᴰ.head same)) =
    let some : 0 < n.tick - low = omega arith in
    subst (λ (x : WeightedNode). 0 < x.weight) (sym same) some
end-weighs (between k) e (Memᴰ.tail (Memᴰ.tail none)) = absurd (Memᴰ.not-nil none)

-- the point of a frequency that stands in the table
abbrev point_of : Standing ℕ → Node → Point
point_of p n = record { frequency = p; heading = heading_of n.heading }

pub record Ends (r : Record) (n : Node) (p : Point) (es : List WeightedNode) : Type 0 where
  pub are : EndsOf r n es
  pub weighing : Weighing (ends p) es
  pub width : sum_ℕ es (λ e. e.weight) ≡ p.frequency.width

module _ {r : Record} {n : Node} where
  ends-itself : (m : HoldsTick r n.tick) → Ends r n (point_of (alone n.tick) n) (end_at n n.tick 1 ∷ [])
  unfolding ends sum_by
  ends-itself m = record { are = itself m; weighing = weighs (lit< tt) (lighter refl nothing); width = refl }

  pub ends-between : {low high : ℕ} → Neighbours r n.tick low high
      → Ends r n (record { frequency = record { low = low; high = high; to_low = high - n.tick; to_high = n.tick - low; width = high - low }; heading = heading_of n.heading })
      (end_at n low (high - n.tick) ∷ end_at n high (n.tick - low) ∷ [])
  unfolding ends sum_by
  ends-between k =
      let are = between k in
      record {
        are = are;
        weighing = weighs (end-weighs are _ (Memᴰ.head refl)) (weighs (end-weighs are _ (Memᴰ.tail (Memᴰ.head refl))) nothing);
        width = omega arith;
      }

  -- from where the frequency stands, and back
  of-stands : {s : Standing ℕ} → Stands r n.tick s → (es : List WeightedNode) × Ends r n (point_of s n) es
  of-stands (standings.itself m) = (_, ends-itself m)
  of-stands (standings.amid k) = (_, ends-between k)

  stands_of : {es : List WeightedNode} → EndsOf r n es → (s : Standing ℕ) × Stands r n.tick s × Ends r n (point_of s n) es
  stands_of (itself m) = (_, standings.itself m, ends-itself m)
  stands_of (between k) = (_, standings.amid k, ends-between k)

  with-stands : {s : Standing ℕ} {es : List WeightedNode} → Stands r n.tick s → EndsOf r n es → Ends r n (point_of s n) es
  with-stands {es = es} d e = let (t, k, x) = stands_of e in subst (λ (u : Standing ℕ). Ends r n (point_of u n) es) (stands_one r n.tick k d) x

  -- so a point has one list of ends
  pub ends-one : {es fs : List WeightedNode} → EndsOf r n es → EndsOf r n fs → es ≡ fs
  ends-one d e =
      let (s, k, x) = stands_of d in
      weighing-is x.weighing ∙ sym (weighing-is (with-stands k e).weighing)

-- of a point in its place
module _ {r : Record} {first : ℤ} {n : Node} {p : Point} (x : At r first n p) where
  point-is : point_of p.frequency n ≡ p
  point-is = λ i. record { frequency = p.frequency; heading = sym x.heading i }

  pub some-ends : (es : List WeightedNode) × Ends r n p es
  some-ends = let (es, y) = of-stands x.stands in (es, subst (λ (q : Point). Ends r n q es) point-is y)

  pub these-ends : {es : List WeightedNode} → EndsOf r n es → Ends r n p es
  these-ends {es} e = subst (λ (q : Point). Ends r n q es) point-is (with-stands x.stands e)

-- a node that is held, at the heading of the line or point
pub record HeldEnd (r : Record) (n m : Node) : Type 0 where
  pub tick : HoldsTick r m.tick
  pub heading : m.heading ≡ heading_of n.heading

end-at : (r : Record) (n : Node) {s : Standing ℕ} → Stands r n.tick s → (e : WeightedNode) → Memᴰ e (ends (point_of s n)) → HeldEnd r n e.node
unfolding ends
end-at r n (standings.itself m) e i = go i
  where
    go : Memᴰ e (end_at n n.tick 1 ∷ end_at n n.tick 0 ∷ []) → HeldEnd r n e.node
    go (Memᴰ.head same) = subst (λ (x : WeightedNode). HeldEnd r n x.node) (sym same) (record { tick = m; heading = refl })
    go (Memᴰ.tail (Memᴰ.head same)) = subst (λ (x : WeightedNode). HeldEnd r n x.node) (sym same) (record { tick = m; heading = refl })
    go (Memᴰ.tail (Memᴰ.tail none)) = absurd (Memᴰ.not-nil none)
end-at r n (standings.amid {low} {high} k) e i = go i
  where
    go : Memᴰ e (end_at n low (high - n.tick) ∷ end_at n high (n.tick - low) ∷ []) → HeldEnd r n e.node
    go (Memᴰ.head same) = subst (λ (x : WeightedNode). HeldEnd r n x.node) (sym same) (record { tick = k.low_held; heading = refl })
    go (Memᴰ.tail (Memᴰ.head same)) = subst (λ (x : WeightedNode). HeldEnd r n x.node) (sym same) (record { tick = k.high_held; heading = refl })
    go (Memᴰ.tail (Memᴰ.tail none)) = absurd (Memᴰ.not-nil none)

-- which each of the model's ends is
pub end-in : {r : Record} {first : ℤ} {n : Node} {p : Point} → At r first n p → (e : WeightedNode) → Memᴰ e (ends p) → HeldEnd r n e.node
end-in {r} {n = n} x e i = end-at r n x.stands e (subst (λ (q : Point). Memᴰ e (ends q)) (sym (point-is x)) i)

-- and so each end
pub end_is : {r : Record} {n : Node} {es : List WeightedNode} → EndsOf r n es → (e : WeightedNode) → Memᴰ e es → HeldEnd r n e.node
end_is {r} {n} d e i = let (s, k, x) = stands_of d in end-at r n k e (weighing-of x.weighing e i).0

-- it is a node of the table, where the heading is the table's own
pub node-held : {r : Record} {n m : Node} → HoldsHeading r (heading_of n.heading) → HeldEnd r n m → has_node r.slots m ≡ true
unfolding has_node has_tick has_heading
node-held {r} {n} {m} own held =
    rw (mem-tick (held_ticks r.slots.ticks) m.tick held.tick, held.heading, mem-heading (held_headings r.slots) (heading_of n.heading) own)

-- in single coverage the ends of two lines, or points of one call, that are in their places have one heading: that of line 1
pub one-heading :
    {r : Record} {first : ℤ} {a b m n : Node} → Own r first a.heading → Own r first b.heading → HeldEnd r a m → HeldEnd r b n
    → r.choices.coverage ≡ 0 → m.heading ≡ n.heading
one-heading own-a own-b end-a end-b single = end-a.heading ∙ own-a.goes single ∙ sym (own-b.goes single) ∙ sym end-b.heading
