-- The corners of two lists of ends, however many: their sums, and which of them is bad; those without weight make no difference. Assumes nothing.
use mathlib.Core.Path.{◌≡◌, refl, sym, ◌∙◌, ap, ap₂, subst}
use mathlib.Core.Bool.{Bool, true, false, not, ◌&&◌, true≢false, false≢true}
use mathlib.Core.List.Memᴰ
use mathlib.Core.List.{List, [], ◌∷◌, map, Memᴰ, map-map}
use mathlib.Core.Logic.{◌⊎◌, inl, inr, ⊎_elim}
use Prim.Native.Nat.{ℕ, zero, suc, ◌-◌, ◌*◌, ◌≤◌, ◌<◌}
use native.Mathlib.Nat.{mul-pos, mul-zero, zero-mul, zero-lt-suc}
use native.Mathlib.Decide.{dec_le}
use native.Mathlib.Omega.{arith}
use lib.Dec.{T, eqb}
use lib.IntN.{ℤ, pos, neg_ℤ, nat_abs, ◌+ℤ◌, ◌*ℤ◌, zero-*ℤ}
use lib.Signed.{le_z}
use borrow.Author.Tests.{eqb-false, ne_eqb}
use Rattle.whole.specs.Complex.{Complex}
use Rattle.whole.specs.Sum.{sum_by, sum_ℤ, sum_ℕ}
use Rattle.whole.proofs.Magnitude.{nat_abs-le-iff}
use Rattle.whole.proofs.Sum.{sum-related, sum-ext, sum-real, sum-pos, sum-++, sum-product}
use Rattle.whole.proofs.Any.{some_of, of_some}
use Rattle.row.proofs.Deciding.{both}
use Rattle.grid.specs.declared.nodes.Node.{Node}
use Rattle.reader.specs.declared.record.Record.{Record}
use Rattle.table.specs.Pairs.{each_with, product}
use Rattle.table.specs.View.{view_of}
use Rattle.table.specs.Entries.{in_bounds, is_out}
use Rattle.table.proofs.Bounds.{small-part}
use Rattle.table.proofs.Products.{product-only, product-has}
use Rattle.load.specs.Corners as load
use Rattle.load.specs.Corners.{Point, WeightedNode, is_bad, any_bad, weighed_sum}
use Rattle.promises_queries.specs.Places.{end_at, between, WeightedPair, corner_at, of-ends, CornersOnce, CornersWeigh}
use Rattle.promises_queries.specs.Coefficients.{corner_entry, linear, weight_of, TwoByTwo}
use Rattle.promises_queries.proofs.Ends.{Weighing, weighing-in, weighing-of, weighing-sum, Ends, ends-between, ends-one, end-weighs}

-- ---- a part in bounds

pub in_bounds_lem : (z : ℤ) → nat_abs z ≤ 1_000_000_000 → in_bounds z ≡ true
unfolding in_bounds
in_bounds_lem z h =
    let k = (nat_abs-le-iff z 1_000_000_000).0 h in
    go (le_z (neg_ℤ (pos 1_000_000_000)) z) (le_z z (pos 1_000_000_000)) k.0.le k.1.le
  where
    go : (a b : Bool) → T a → T b → (a && b) ≡ true
    go true true s t = refl
    go true false s t = absurd t
    go false b s t = absurd s

out-of-bounds : (z : ℤ) → in_bounds z ≡ false → 1_000_000_000 < nat_abs z
out-of-bounds z e = go (dec_le (nat_abs z) 1_000_000_000)
  where
    go : Dec (nat_abs z ≤ 1_000_000_000) → 1_000_000_000 < nat_abs z
    go (yes h) = absurd (true≢false (sym (in_bounds_lem z h) ∙ e))
    go (no h) = omega (arith, h)

not-in-bounds : (z : ℤ) → 1_000_000_000 < nat_abs z → in_bounds z ≡ false
not-in-bounds z h = go (in_bounds z) refl
  where
    go : (t : Bool) → in_bounds z ≡ t → t ≡ false
    go true e = let k = small-part z e in absurd (omega arith)
    go false e = refl

-- ---- a bad corner

abbrev pub Large : Complex → Type 0
Large z = (1_000_000_000 < nat_abs z.re) ⊎ (1_000_000_000 < nat_abs z.im)

pub out-is : (z : Complex) → is_out z ≡ true → Large z
out-is z e = parts (in_bounds z.re) (in_bounds z.im) refl refl e
  where
    parts : (s t : Bool) → in_bounds z.re ≡ s → in_bounds z.im ≡ t → not (s && t) ≡ true → Large z
    parts true true k l n = absurd (false≢true n)
    parts true false k l n = inr (out-of-bounds z.im l)
    parts false t k l n = inl (out-of-bounds z.re k)

pub is-out : (z : Complex) → Large z → is_out z ≡ true
is-out z large =
    ⊎_elim
    (λ (l : 1_000_000_000 < nat_abs z.re). rw (not-in-bounds z.re l))
    (λ (l : 1_000_000_000 < nat_abs z.im). rw (not-in-bounds z.im l) (none (in_bounds z.re)))
    large
  where
    none : (t : Bool) → not (t && false) ≡ true
    none true = refl
    none false = refl

bad-is : (c : load.Corner) → is_bad c ≡ true → (0 < c.weight) × Large c.value
unfolding is_bad
bad-is c e =
    let (some, out) = both (not (eqb c.weight 0)) (is_out c.value) e in
    (weighs (eqb c.weight 0) refl some, out-is c.value out)
  where
    weighs : (t : Bool) → eqb c.weight 0 ≡ t → not t ≡ true → 0 < c.weight
    weighs true k n = absurd (false≢true n)
    weighs false k n = let z : c.weight ≡ 0 → ⊥ = eqb-false c.weight 0 k in omega (arith, z)

is-bad : (c : load.Corner) → 0 < c.weight → Large c.value → is_bad c ≡ true
unfolding is_bad
is-bad c h large = rw (ne_eqb c.weight 0 (λ z. omega arith)) (is-out c.value large)

-- ---- lists, and products of lists

pub map_same : {A B : Type 0} (f g : A → B) (xs : List A) → ((x : A) → Memᴰ x xs → f x ≡ g x) → map f xs ≡ map g xs
map_same f g [] h = refl
map_same f g (x ∷ xs) h = ap₂ ◌∷◌ (h x (Memᴰ.head refl)) (map_same f g xs (λ y i. h y (Memᴰ.tail i)))

sum-map : {A B : Type 0} (g : A → B) (xs : List A) (f : B → ℤ) → sum_ℤ (map g xs) f ≡ sum_ℤ xs (λ x. f (g x))
unfolding sum_by
sum-map g [] f = refl
sum-map g (x ∷ xs) f = ap (λ (z : ℤ). f (g x) +ℤ z) (sum-map g xs f)

sum-each : {A B : Type 0} (x : A) (ys : List B) (f : A × B → ℤ) → sum_ℤ (each_with x ys) f ≡ sum_ℤ ys (λ y. f (x, y))
unfolding sum_by each_with
sum-each x [] f = refl
sum-each x (y ∷ ys) f = ap (λ (z : ℤ). f (x, y) +ℤ z) (sum-each x ys f)

sum-all : {A B : Type 0} (xs : List A) (ys : List B) (f : A × B → ℤ) → sum_ℤ (product xs ys) f ≡ sum_ℤ xs (λ x. sum_ℤ ys (λ y. f (x, y)))
unfolding sum_by product
sum-all [] ys f = refl
sum-all (x ∷ xs) ys f = sum-++ (each_with x ys) (product xs ys) f ∙ ap₂ ◌+ℤ◌ (sum-each x ys f) (sum-all xs ys f)

-- ---- the corners of two lists of ends

abbrev pub corners_in : List WeightedNode → List WeightedNode → List WeightedPair
corners_in es fs = map corner_at (product es fs)

-- each is one of two ends
pub corner-of : (es fs : List WeightedNode) (c : WeightedPair) → Memᴰ c (corners_in es fs)
    → (i : WeightedNode) × (j : WeightedNode) × Memᴰ i es × Memᴰ j fs × (corner_at (i, j) ≡ c)
corner-of es fs c m =
    let (e, n, is) = Memᴰ.of_map corner_at (product es fs) m in
    let (a, b) = product-only es fs e n in
    (e.0, e.1, a, b, is)

pub corner-in : (es fs : List WeightedNode) (i j : WeightedNode) → Memᴰ i es → Memᴰ j fs → Memᴰ (corner_at (i, j)) (corners_in es fs)
corner-in es fs i j a b = Memᴰ.map corner_at (product-has es fs i j a b)

-- sums over corners are sums over ends
sum-corners : (es fs : List WeightedNode) (f : WeightedPair → ℤ) → sum_ℤ (corners_in es fs) f ≡ sum_ℤ es (λ i. sum_ℤ fs (λ j. f (corner_at (i, j))))
sum-corners es fs f = sum-map corner_at (product es fs) f ∙ sum-all es fs (λ e. f (corner_at e))

pub linear-is : (r : Record) (cells : List ℤ) (es fs : List WeightedNode) (part : Complex → ℤ)
    → linear r cells (corners_in es fs) part ≡ sum_ℤ es (λ i. sum_ℤ fs (λ j. pos (i.weight * j.weight) *ℤ part (corner_entry r cells (corner_at (i, j)))))
unfolding linear
linear-is r cells es fs part = sum-corners es fs (λ c. pos c.weight *ℤ part (corner_entry r cells c))

weight_is : (es fs : List WeightedNode) → weight_of (corners_in es fs) ≡ sum_ℕ es (λ e. e.weight) * sum_ℕ fs (λ e. e.weight)
unfolding weight_of
weight_is es fs =
    ap nat_abs
    (sum-pos (corners_in es fs) (λ c. c.weight)
    ∙ sum-corners es fs (λ c. pos c.weight)
    ∙ sum-product es fs (λ e. pos e.weight) (λ e. pos e.weight)
    ∙ sym (ap₂ ◌*ℤ◌ (sum-pos es (λ e. e.weight)) (sum-pos fs (λ e. e.weight))))

-- there is one list of them
pub corners-once : CornersOnce
corners-once r a b corners others (of-ends x y) (of-ends u w) = λ i. corners_in (ends-one x u i) (ends-one y w i)

-- between neighbours four
pub two-by-two : TwoByTwo
unfolding product each_with
two-by-two r a b low high under over n m = (
  of-ends (between n) (between m),
  weight_is (end_at a low (high - a.tick) ∷ end_at a high (a.tick - low) ∷ []) (end_at b under (over - b.tick) ∷ end_at b over (b.tick - under) ∷ [])
      ∙ ap₂ ◌*◌ (ends-between {n = a} n).width (ends-between {n = b} m).width,
)

-- each has weight
pub corners-weigh : CornersWeigh
corners-weigh r a b corners (of-ends {ends} {others} x y) c m =
    let (i, j, in-a, in_b, is) = corner-of ends others c m in
    subst (λ (z : WeightedPair). 0 < z.weight) is (mul-pos (end-weighs x i in-a) (end-weighs y j in_b))

-- a corner without weight changes no sum
linear-same : (r : Record) (cells : List ℤ) {es fs ds gs : List WeightedNode} → Weighing es ds → Weighing fs gs → (part : Complex → ℤ)
    → linear r cells (corners_in es fs) part ≡ linear r cells (corners_in ds gs) part
linear-same r cells {es} {fs} {ds} {gs} w u part =
    linear-is r cells es fs part
    ∙ sum-ext ◌+ℤ◌ (pos 0) es (λ i. sum_ℤ fs (λ j. at i j)) (λ i. sum_ℤ gs (λ j. at i j)) (λ i m. weighing-sum u (λ j. at i j) (λ j z. no_second i j z))
    ∙ weighing-sum w (λ i. sum_ℤ gs (λ j. at i j)) (λ i z. no-first i z)
    ∙ sym (linear-is r cells ds gs part)
  where
    at : WeightedNode → WeightedNode → ℤ
    at i j = pos (i.weight * j.weight) *ℤ part (corner_entry r cells (corner_at (i, j)))

    nothing-at : (i j : WeightedNode) → i.weight * j.weight ≡ 0 → at i j ≡ pos 0
    nothing-at i j none = let x = part (corner_entry r cells (corner_at (i, j))) in ap (λ (n : ℕ). pos n *ℤ x) none ∙ zero-*ℤ x

    no_second : (i j : WeightedNode) → j.weight ≡ 0 → at i j ≡ pos 0
    no_second i j z = nothing-at i j (ap (λ (n : ℕ). i.weight * n) z ∙ mul-zero i.weight)

    no-first : (i : WeightedNode) → i.weight ≡ 0 → sum_ℤ gs (λ j. at i j) ≡ pos 0
    no-first i z =
        sum-related (λ (a b : ℤ). a ≡ pos 0) {plus' = ◌+ℤ◌} {none' = pos 0} refl (λ a b c d p q. ap₂ ◌+ℤ◌ p q) gs (λ j. at i j) (λ j. pos 0)
        (λ j m. nothing-at i j (ap (λ (n : ℕ). n * j.weight) z ∙ zero-mul j.weight))

-- ---- the corners that the model reads

module _ (r : Record) (cells : List ℤ) where
  abbrev pub read : Point → Point → List load.Corner
  read p q = load.corners (view_of r.slots cells) p q

  -- with their values
  abbrev valued : WeightedPair → load.Corner
  valued c = record { weight = c.weight; value = corner_entry r cells c }

  read_is : (p q : Point) → read p q ≡ map valued (corners_in (load.ends p) (load.ends q))
  unfolding load.corners load.corner_of
  read_is p q = sym (map-map valued corner_at (product (load.ends p) (load.ends q)))

  -- a part of their sum is the linear value's top
  sum-re : (cs : List WeightedPair) → (weighed_sum (map valued cs)).re ≡ linear r cells cs (λ z. z.re)
  unfolding weighed_sum linear
  sum-re cs =
      sum-real (map valued cs) (λ c. record { re = pos c.weight *ℤ c.value.re; im = pos c.weight *ℤ c.value.im })
      ∙ sum-map valued cs (λ c. pos c.weight *ℤ c.value.re)

  sum-im : (cs : List WeightedPair) → (weighed_sum (map valued cs)).im ≡ linear r cells cs (λ z. z.im)
  unfolding weighed_sum linear
  sum-im cs =
      sum-related (λ (z : Complex) (y : ℤ). z.im ≡ y) refl (λ a b c d p q. ap₂ ◌+ℤ◌ p q) (map valued cs)
      (λ c. record { re = pos c.weight *ℤ c.value.re; im = pos c.weight *ℤ c.value.im })
      (λ c. pos c.weight *ℤ c.value.im)
      (λ c m. refl)
      ∙ sum-map valued cs (λ c. pos c.weight *ℤ c.value.im)

  module _ {a b : Node} {p q : Point} {es fs : List WeightedNode} (x : Ends r a p es) (y : Ends r b q fs) where
    -- top and bottom of the model's fraction
    pub top-re : (weighed_sum (read p q)).re ≡ linear r cells (corners_in es fs) (λ z. z.re)
    top-re = ap (λ (cs : List load.Corner). (weighed_sum cs).re) (read_is p q) ∙ sum-re (corners_in (load.ends p) (load.ends q)) ∙ linear-same r cells x.weighing y.weighing (λ z. z.re)

    pub top-im : (weighed_sum (read p q)).im ≡ linear r cells (corners_in es fs) (λ z. z.im)
    top-im = ap (λ (cs : List load.Corner). (weighed_sum cs).im) (read_is p q) ∙ sum-im (corners_in (load.ends p) (load.ends q)) ∙ linear-same r cells x.weighing y.weighing (λ z. z.im)

    pub over-is : p.frequency.width * q.frequency.width ≡ weight_of (corners_in es fs)
    over-is = sym (weight_is es fs ∙ ap₂ ◌*◌ x.width y.width)

    -- one of them is bad where one that has weight is large
    abbrev SomeLarge : Type 0
    SomeLarge = (c : WeightedPair) × Memᴰ c (corners_in es fs) × Large (corner_entry r cells c)

    bad-ends : (i j : WeightedNode) → Memᴰ i (load.ends p) → Memᴰ j (load.ends q) → is_bad (valued (corner_at (i, j))) ≡ true → SomeLarge
    bad-ends i j in_p in-q bad =
        let (some, large) = bad-is (valued (corner_at (i, j))) bad in
        let (h, k) = factors i.weight j.weight some in
        (corner_at (i, j), corner-in es fs i j (weighing-in x.weighing i h in_p) (weighing-in y.weighing j k in-q), large)
      where
        factors : (m n : ℕ) → 0 < m * n → (0 < m) × (0 < n)
        factors zero n h = let z : 0 * n ≡ 0 = zero-mul n in absurd (omega arith)
        factors (suc m) zero h = let z : suc m * 0 ≡ 0 = mul-zero (suc m) in absurd (omega arith)
        factors (suc m) (suc n) h = (zero-lt-suc m, zero-lt-suc n)

    bad-corner : (c : WeightedPair) → Memᴰ c (corners_in (load.ends p) (load.ends q)) → is_bad (valued c) ≡ true → SomeLarge
    bad-corner c m bad =
        let (i, j, in_p, in-q, is) = corner-of (load.ends p) (load.ends q) c m in
        bad-ends i j in_p in-q (subst (λ (z : WeightedPair). is_bad (valued z) ≡ true) (sym is) bad)

    pub bad-one : any_bad (read p q) ≡ true → SomeLarge
    unfolding any_bad
    bad-one e =
        let (d, m, bad) = some_of is_bad (map valued (corners_in (load.ends p) (load.ends q))) (sym (ap any_bad (read_is p q)) ∙ e) in
        let (c, n, same) = Memᴰ.of_map valued (corners_in (load.ends p) (load.ends q)) m in
        bad-corner c n (subst (λ (z : load.Corner). is_bad z ≡ true) (sym same) bad)

    pub one-bad : (c : WeightedPair) → Memᴰ c (corners_in es fs) → Large (corner_entry r cells c) → any_bad (read p q) ≡ true
    unfolding any_bad
    one-bad c m large =
        let (i, j, in-es, in-fs, is) = corner-of es fs c m in
        let (in_p, h) = weighing-of x.weighing i in-es in
        let (in-q, k) = weighing-of y.weighing j in-fs in
        let d = valued (corner_at (i, j)) in
        ap any_bad (read_is p q)
        ∙ of_some is_bad _ d (Memᴰ.map valued (corner-in (load.ends p) (load.ends q) i j in_p in-q)) (is-bad d (mul-pos h k) (subst (λ (z : WeightedPair). Large (corner_entry r cells z)) (sym is) large))
