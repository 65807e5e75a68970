-- An answered coefficient is the nearest to the linear value, is the entry at the table's own frequencies, and swaps as entries do. Assumes nothing.
use mathlib.Core.Path.{◌≡◌, refl, sym, ◌∙◌, ap, ap₂, subst}
use mathlib.Core.Bool.{Bool, true, false, cond, true≢false}
use mathlib.Core.List.{List, [], ◌∷◌, Memᴰ}
use mathlib.Core.Logic.{inl, inr}
use Prim.Native.Nat.{ℕ, ◌*◌, ◌<◌}
use native.Mathlib.Nat.{mul-pos, mul_comm}
use lib.Dec.{eqb, lit<}
use lib.IntN.{ℤ, pos, neg_ℤ, ◌+ℤ◌, ◌*ℤ◌}
use Rattle.whole.specs.Nearest.{nearest_ℤ, IsNearest}
use Rattle.whole.specs.Complex.{Complex, conj}
use Rattle.whole.specs.Sum.{sum_by, sum_ℤ}
use Rattle.whole.proofs.Ring.{num, ◌⊕◌, ◌⊗◌, ⊝◌, ring}
use Rattle.whole.proofs.Ring as solver
use Rattle.whole.proofs.Magnitude.{nat_abs-neg}
use Rattle.whole.proofs.Nearest.{nearest-is, nearest-unique, nearest-whole, nearest-neg}
use Rattle.whole.proofs.Sum.{sum-related, sum-ext, sum-swap}
use Rattle.row.specs.Heading.{heading_of}
use Rattle.grid.specs.declared.nodes.Node.{Node}
use Rattle.reader.specs.declared.record.Record.{Record}
use Rattle.table.specs.Pairs.{each_with, product}
use Rattle.table.specs.Entries.{entry_at}
use Rattle.table.specs.View.{view_of}
use Rattle.load.specs.Corners.{Point, WeightedNode, any_bad, coefficient}
use Rattle.load.specs.Answers.{Coefficient}
use Rattle.promises_rows.specs.Said.{mirror_of}
use Rattle.promises_queries.specs.Places.{HoldsTick, itself, end_at, WeightedPair, corner_at, of-ends}
use Rattle.promises_queries.specs.Coefficients.{corner_entry, linear, weight_of, Linear, CoefficientLinear, LinearOnce, own_node, CoefficientOwn, CoefficientSwaps}
use Rattle.promises_queries.proofs.Standings.{width_above}
use Rattle.promises_queries.proofs.Locations.{At}
use Rattle.promises_queries.proofs.Ends.{Ends, some-ends, end_is, node-held}
use Rattle.promises_queries.proofs.Corners.{Large, corners_in, corner-of, corner-in, linear-is, corners-once, read, top-re, top-im, over-is, bad-one, one-bad}
use Rattle.promises_queries.proofs.Points.{Both, Given, coefficient-given, at-given}

-- ---- the linear value

value-re : {re im x y : ℤ} → Coefficient.Value x y ≡ Coefficient.Value re im → x ≡ re
value-re e = cc

value-im : {re im x y : ℤ} → Coefficient.Value x y ≡ Coefficient.Value re im → y ≡ im
value-im e = cc

module _ (r : Record) (cells : List ℤ) {a b : Node} {p q : Point} {es fs : List WeightedNode} (x : Ends r a p es) (y : Ends r b q fs) where
  rounded-re : (coefficient (view_of r.slots cells) p q).re ≡ nearest_ℤ (linear r cells (corners_in es fs) (λ z. z.re)) (weight_of (corners_in es fs))
  unfolding coefficient
  rounded-re = λ i. nearest_ℤ (top-re r cells x y i) (over-is r cells x y i)

  rounded-im : (coefficient (view_of r.slots cells) p q).im ≡ nearest_ℤ (linear r cells (corners_in es fs) (λ z. z.im)) (weight_of (corners_in es fs))
  unfolding coefficient
  rounded-im = λ i. nearest_ℤ (top-im r cells x y i) (over-is r cells x y i)

nearest-to : (x : ℤ) (d : ℕ) (z : ℤ) → 0 < d → nearest_ℤ x d ≡ z → IsNearest x d z
nearest-to x d z h e = subst (IsNearest x d) e (nearest-is x d h)

linear-of : (r : Record) (cells : List ℤ) (a b : Node) (re im : ℤ) → Given r cells a b (Coefficient.Value re im) → Linear r cells a b (record { re = re; im = im })
linear-of r cells a b re im g =
    let (es, x) = some-ends g.two.first in
    let (fs, y) = some-ends g.two.second in
    let above = subst (λ (n : ℕ). 0 < n) (over-is r cells x y) (mul-pos (width_above g.two.first.stands) (width_above g.two.second.stands)) in
    record {
      corners = corners_in es fs;
      are = of-ends x.are y.are;
      above = above;
      re = nearest-to _ _ re above (sym (rounded-re r cells x y) ∙ value-re g.is);
      im = nearest-to _ _ im above (sym (rounded-im r cells x y) ∙ value-im g.is);
    }

pub coefficient-linear : CoefficientLinear
coefficient-linear r cells a b re im e = linear-of r cells a b re im (coefficient-given r cells a b re im e)

-- one value only
part-once : (r : Record) (cells : List ℤ) (part : Complex → ℤ) {cs ds : List WeightedPair} {x y : ℤ} → cs ≡ ds → 0 < weight_of ds
    → IsNearest (linear r cells cs part) (weight_of cs) x → IsNearest (linear r cells ds part) (weight_of ds) y → x ≡ y
part-once r cells part {ds = ds} {x} e h k l = nearest-unique (weight_of ds) h (subst (λ (cs : List WeightedPair). IsNearest (linear r cells cs part) (weight_of cs) x) e k) l

pub linear-once : LinearOnce
linear-once r cells a b x y k l =
    let same = corners-once r a b k.corners l.corners k.are l.are in
    let re = part-once r cells (λ z. z.re) same l.above k.re l.re in
    let im = part-once r cells (λ z. z.im) same l.above k.im l.im in
    λ i. record { re = re i; im = im i }

-- ---- at the table's own frequencies

module _ (r : Record) (cells : List ℤ) (a b : Node) (held-a : HoldsTick r a.tick) (held-b : HoldsTick r b.tick) where
  abbrev own : Complex
  own = entry_at r.slots cells (own_node a) (own_node b)

  -- there is one corner
  abbrev one : List WeightedPair
  one = corners_in (end_at a a.tick 1 ∷ []) (end_at b b.tick 1 ∷ [])

  one-linear : (part : Complex → ℤ) → linear r cells one part ≡ part own *ℤ pos 1
  unfolding linear product each_with sum_by
  one-linear part = ring (part own ∷ []) (num 1 ⊗ solver.v 0 ⊕ num 0) (solver.v 0 ⊗ num 1) tt

  one-weight : weight_of one ≡ 1
  unfolding weight_of product each_with sum_by
  one-weight = refl

  whole : (part : Complex → ℤ) → IsNearest (linear r cells one part) (weight_of one) (part own)
  whole part =
      rw (one-linear part, one-weight)
      (subst (IsNearest (part own *ℤ pos 1) 1) (nearest-whole (part own) 1 (lit< tt)) (nearest-is (part own *ℤ pos 1) 1 (lit< tt)))

  entry-linear : Linear r cells a b own
  entry-linear =
      record {
        corners = one;
        are = of-ends (itself held-a) (itself held-b);
        above = subst (λ (n : ℕ). 0 < n) (sym one-weight) (lit< tt);
        re = whole (λ z. z.re);
        im = whole (λ z. z.im);
      }

pub coefficient-own : CoefficientOwn
coefficient-own r cells a b re im e held-a held-b =
    linear-once r cells a b (record { re = re; im = im }) (entry_at r.slots cells (own_node a) (own_node b))
    (coefficient-linear r cells a b re im e)
    (entry-linear r cells a b held-a held-b)

-- ---- swapping

-- a minus goes through the sum
linear-minus : (r : Record) (cells : List ℤ) (cs : List WeightedPair) → linear r cells cs (λ z. neg_ℤ z.im) ≡ neg_ℤ (linear r cells cs (λ z. z.im))
unfolding linear
linear-minus r cells cs =
    sum-related (λ (a b : ℤ). a ≡ neg_ℤ b) refl
    (λ a b c d p q. ap₂ ◌+ℤ◌ p q ∙ ring (c ∷ d ∷ []) (⊝ solver.v 0 ⊕ ⊝ solver.v 1) (⊝ (solver.v 0 ⊕ solver.v 1)) tt) cs
    (λ c. pos c.weight *ℤ neg_ℤ (corner_entry r cells c).im)
    (λ c. pos c.weight *ℤ (corner_entry r cells c).im)
    (λ c m. ring (pos c.weight ∷ (corner_entry r cells c).im ∷ []) (solver.v 0 ⊗ ⊝ solver.v 1) (⊝ (solver.v 0 ⊗ solver.v 1)) tt)

module _ (r : Record) (cells : List ℤ) {a b : Node} {p q : Point} {es fs : List WeightedNode} (x : Ends r a p es) (y : Ends r b q fs) where
  abbrev at : WeightedNode → WeightedNode → Complex
  at i j = corner_entry r cells (corner_at (i, j))

  -- the corners in the other order
  linear-swap : (part other : Complex → ℤ) → ((i j : WeightedNode) → Memᴰ i es → Memᴰ j fs → part (at j i) ≡ other (at i j))
      → linear r cells (corners_in fs es) part ≡ linear r cells (corners_in es fs) other
  linear-swap part other h =
      linear-is r cells fs es part
      ∙ sum-ext ◌+ℤ◌ (pos 0) fs
      (λ j. sum_ℤ es (λ i. pos (j.weight * i.weight) *ℤ part (at j i)))
      (λ j. sum_ℤ es (λ i. pos (i.weight * j.weight) *ℤ other (at i j)))
      (λ j m. sum-ext ◌+ℤ◌ (pos 0) es
      (λ i. pos (j.weight * i.weight) *ℤ part (at j i))
      (λ i. pos (i.weight * j.weight) *ℤ other (at i j))
      (λ i n. ap₂ (λ (w : ℕ) (z : ℤ). pos w *ℤ z) (mul_comm j.weight i.weight) (h i j n m)))
      ∙ sum-swap fs es (λ j i. pos (i.weight * j.weight) *ℤ other (at i j))
      ∙ sym (linear-is r cells es fs other)

  weight-swap : weight_of (corners_in fs es) ≡ weight_of (corners_in es fs)
  weight-swap = sym (over-is r cells y x) ∙ mul_comm q.frequency.width p.frequency.width ∙ over-is r cells x y

  -- rounded over the same weight
  rounded-swap : (part other : Complex → ℤ) → ((i j : WeightedNode) → Memᴰ i es → Memᴰ j fs → part (at j i) ≡ other (at i j))
      → nearest_ℤ (linear r cells (corners_in fs es) part) (weight_of (corners_in fs es))
      ≡ nearest_ℤ (linear r cells (corners_in es fs) other) (weight_of (corners_in es fs))
  rounded-swap part other h = λ i. nearest_ℤ (linear-swap part other h i) (weight-swap i)

  -- in a difference table (t is true) and in a sum table
  abbrev Swaps : Bool → Type 0
  Swaps t = (i j : WeightedNode) → Memᴰ i es → Memᴰ j fs → at j i ≡ cond t (conj (at i j)) (at i j)

  abbrev value : Complex
  value = coefficient (view_of r.slots cells) p q

  large-swap : (t : Bool) (z : Complex) → Large (cond t (conj z) z) → Large z
  large-swap true z (inl h) = inl h
  large-swap true z (inr h) = inr (subst (λ (n : ℕ). 1_000_000_000 < n) (nat_abs-neg z.im) h)
  large-swap false z h = h

  sound-swap : (t : Bool) → Swaps t → any_bad (read r cells p q) ≡ false → any_bad (read r cells q p) ≡ false
  sound-swap t swap e = go (any_bad (read r cells q p)) refl
    where
      go : (s : Bool) → any_bad (read r cells q p) ≡ s → s ≡ false
      go false k = refl
      go true k =
          let (c, m, large) = bad-one r cells y x k in
          let (j, i, in-fs, in-es, is) = corner-of fs es c m in
          let back = large-swap t (at i j) (subst Large ((λ u. corner_entry r cells (sym is u)) ∙ swap i j in-es in-fs) large) in
          let bad = one-bad r cells x y (corner_at (i, j)) (corner-in es fs i j in-es in-fs) back in
          absurd (true≢false (sym bad ∙ e))

  swap-re : (t : Bool) → Swaps t → (coefficient (view_of r.slots cells) q p).re ≡ (cond t (conj value) value).re
  swap-re true s = rounded-re r cells y x ∙ rounded-swap (λ z. z.re) (λ z. z.re) (λ i j m n k. (s i j m n k).re) ∙ sym (rounded-re r cells x y)
  swap-re false s = rounded-re r cells y x ∙ rounded-swap (λ z. z.re) (λ z. z.re) (λ i j m n k. (s i j m n k).re) ∙ sym (rounded-re r cells x y)

  swap-im : (t : Bool) → Swaps t → (coefficient (view_of r.slots cells) q p).im ≡ (cond t (conj value) value).im
  swap-im true s =
      rounded-im r cells y x
      ∙ rounded-swap (λ z. z.im) (λ z. neg_ℤ z.im) (λ i j m n k. (s i j m n k).im)
      ∙ ap (λ (z : ℤ). nearest_ℤ z (weight_of (corners_in es fs))) (linear-minus r cells (corners_in es fs))
      ∙ nearest-neg (linear r cells (corners_in es fs) (λ z. z.im)) (weight_of (corners_in es fs))
      ∙ ap neg_ℤ (sym (rounded-im r cells x y))
  swap-im false s = rounded-im r cells y x ∙ rounded-swap (λ z. z.im) (λ z. z.im) (λ i j m n k. (s i j m n k).im) ∙ sym (rounded-im r cells x y)

-- a point in its place, with another heading for that of line 1
with_first : {r : Record} {first other : ℤ} {n : Node} {p : Point} → At r first n p → (r.choices.coverage ≡ 0 → heading_of n.heading ≡ heading_of other) → At r other n p
with_first x goes = record { stands = x.stands; heading = x.heading; own = record { holds = x.own.holds; goes = goes } }

pub coefficient-swaps : CoefficientSwaps
unfolding mirror_of
coefficient-swaps r cells a b re im swap e =
    let g = coefficient-given r cells a b re im e in
    let two = g.two in
    let (es, x) = some-ends two.first in
    let (fs, y) = some-ends two.second in
    let t = eqb r.choices.kind 0 in
    let each : Swaps r cells x y t =
    λ i j m n. swap i.node j.node
    (node-held two.first.own.holds (end_is x.are i m))
    (node-held two.second.own.holds (end_is y.are j n)) in
    let back : Both r cells b a g.q g.p =
    record {
      free = two.free;
      first = with_first two.second (λ single. refl);
      second = with_first two.first (λ single. sym (two.second.own.goes single));
    } in
    let re-is = value-re g.is in
    let im-is = value-im g.is in
    let value : coefficient (view_of r.slots cells) g.p g.q ≡ record { re = re; im = im } = λ k. record { re = re-is k; im = im-is k } in
    at-given r cells b a back (sound-swap r cells x y t each g.sound)
    ∙ (λ k. Coefficient.Value
    ((swap-re r cells x y t each ∙ (λ l. (cond t (conj (value l)) (value l)).re)) k)
    ((swap-im r cells x y t each ∙ (λ l. (cond t (conj (value l)) (value l)).im)) k))
