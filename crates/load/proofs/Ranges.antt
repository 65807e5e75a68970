-- How large the force and what is on the way to it can be: the product of two amplitudes, that by a coefficient, one term, sums of terms over any part of the
-- sea, the total and the mean. With A at most 40,000 and coefficients of at most 10^9 a part, a total is at most 3.2 * 10^18 times 2^30. Assumes nothing.
use mathlib.Core.Path.{◌≡◌, refl, sym, ap, ◌∙◌, subst}
use Rattle.std.proofs.Common.{Option, None, Some}
use mathlib.Core.Bool.{Bool, true, false, cond, not, ◌&&◌, ◌||◌}
use mathlib.Core.List.Memᴰ
use mathlib.Core.List.{List, [], ◌∷◌, Memᴰ}
use mathlib.Core.Logic.{⊎_elim}
use Prim.Native.Nat.{ℕ, zero, suc, ◌+◌, ◌*◌, ◌^◌, ◌≤◌, ◌<◌}
use native.Mathlib.Nat.{le_trans, mul-le-mul, mul-le-mul_left, mul-le-mul_right}
use native.Mathlib.Omega.{arith}
use lib.Dec.{T, eqb, ltb→lt, lit<}
use lib.IntN.{ℤ, pos, negsuc, nat_abs, ◌*ℤ◌}
use mir.Facts.{and_yes}
use lib.ListN.{drop, take, length, length-take}
use Rattle.whole.specs.Nearest.{nearest_ℤ}
use Rattle.whole.specs.Same.{same_ℤ}
use Rattle.whole.specs.Complex.{Complex, ◌*ᶜ◌, conj, sizes}
use Rattle.whole.specs.Sum.{sum_by, sum_ℤ, sum_ℕ}
use Rattle.whole.specs.Any.{any_of}
use Rattle.whole.proofs.OrderLaws.{cond_ind}
use Rattle.whole.proofs.Magnitude.{triangle, triangle-sub, nat_abs-neg, nat_abs-*}
use Rattle.whole.proofs.Nearest.{nearest-within}
use Rattle.whole.proofs.Sum.{sum-size, sum-product_ℕ}
use Rattle.whole.proofs.Any.{none_of}
use Rattle.phase.specs.Turn.{Quarter, phase_ℤ, sine}
use Rattle.phase.specs.Rule.{Limits, Rule, limits}
use Rattle.phase.proofs.Bounds.{cosine-le, sine-le}
use Rattle.reader.specs.declared.record.Record.{Record}
use Rattle.grid.specs.declared.nodes.Slots.{Slots}
use Rattle.table.specs.Cells.{node_at}
use Rattle.table.specs.Closing.{node_of}
use Rattle.grid.specs.Slots.{slot_of, held_headings, heading_slot}
use Rattle.grid.specs.Valid.{valid_ticks}
use Rattle.table.specs.View.{View, view_of, has_heading}
use Rattle.row.specs.Heading.{heading_of}
use Rattle.neighbours.specs.Standing.{Standing}
use Rattle.load.specs.Corners.{Point, corners, any_bad, coefficient}
use Rattle.load.specs.Locating.{Located, at, outside, at_heading, located}
use Rattle.seaway.specs.Sea.{Line}
use Rattle.load.specs.own.Brackets.{bracket_of, ProperBracket, InTable}
use Rattle.load.specs.own.Square.{square_of}
use Rattle.neighbours.proofs.Neighbours.{OfSome}
use Rattle.neighbours.proofs.Weights.{ProperWeights, HeldTicks, standing-proper, standing-held}
use Rattle.load.proofs.Bilinear.{bracket-corners, bracket-coefficient, part_small, any-bad, interpolated-is, all_small}
use Rattle.load.specs.Force.{LocatedLine, LocatedSea, all, stopped, more, located_from, bad_pair, bad_among, amplitudes, step_of, term_of, term, total_by, mean_term_of, mean_term, mean_of}

-- both parts of a number are at most B
abbrev pub PartsAtMost : ℕ → Complex → Type 0
PartsAtMost B z = (nat_abs z.re ≤ B) × (nat_abs z.im ≤ B)

-- ---- products

-- (x, y are the sizes of w's parts, a, b those of z's)
cross : (s t x y a b : ℕ) → s ≤ x * a + y * b → t ≤ x * b + y * a → s + t ≤ (x + y) * (a + b)
cross s t x y a b h k = omega arith

both-le : (s x y a b B : ℕ) → s ≤ x * a + y * b → a ≤ B → b ≤ B → s ≤ (x + y) * B
both-le s x y a b B h k l = omega (arith, mul-le-mul_left x k, mul-le-mul_left y l)

module _ (w z : Complex) where
  pub re-le : nat_abs (w *ᶜ z).re ≤ nat_abs w.re * nat_abs z.re + nat_abs w.im * nat_abs z.im
  re-le = omega (arith, triangle-sub (w.re *ℤ z.re) (w.im *ℤ z.im), nat_abs-* w.re z.re, nat_abs-* w.im z.im)

  im-le : nat_abs (w *ᶜ z).im ≤ nat_abs w.re * nat_abs z.im + nat_abs w.im * nat_abs z.re
  im-le = omega (arith, triangle (w.re *ℤ z.im) (w.im *ℤ z.re), nat_abs-* w.re z.im, nat_abs-* w.im z.re)

  pub sizes-* : sizes (w *ᶜ z) ≤ sizes w * sizes z
  sizes-* =
      cross (nat_abs (w *ᶜ z).re) (nat_abs (w *ᶜ z).im) (nat_abs w.re) (nat_abs w.im) (nat_abs z.re) (nat_abs z.im) re-le im-le

  -- by a number whose parts are at most B
  pub times-parts : (B : ℕ) → PartsAtMost B z → PartsAtMost (sizes w * B) (w *ᶜ z)
  times-parts B h = (
    both-le (nat_abs (w *ᶜ z).re) (nat_abs w.re) (nat_abs w.im) (nat_abs z.re) (nat_abs z.im) B re-le h.0 h.1,
    both-le (nat_abs (w *ᶜ z).im) (nat_abs w.re) (nat_abs w.im) (nat_abs z.im) (nat_abs z.re) B im-le h.1 h.0,
  )

-- a(m) conj a(n) and a(m) a(n)
pub amplitudes-sizes : (kind : ℕ) (a b : Complex) → sizes (amplitudes kind a b) ≤ sizes a * sizes b
unfolding amplitudes
amplitudes-sizes kind a b = go (eqb kind 0)
  where
    go : (t : Bool) → sizes (cond t (a *ᶜ conj b) (a *ᶜ b)) ≤ sizes a * sizes b
    go true =
        subst (λ (n : ℕ). sizes (a *ᶜ conj b) ≤ sizes a * (nat_abs b.re + n)) (nat_abs-neg b.im) (sizes-* a (conj b))
    go false = sizes-* a b

-- ---- the phase

pub phase-parts : {l : Limits} {q : Quarter} → Rule l q → (k : ℤ) → PartsAtMost (2 ^ 30) (phase_ℤ q k)
phase-parts r (pos k) = (cosine-le r k, sine-le r k)
phase-parts {l} {q} r (negsuc k) = (cosine-le r (suc k), rw (nat_abs-neg (sine q (suc k))) (sine-le r (suc k)))

-- ---- one term

-- (p, q are the sizes of the parts of the amplitudes by the coefficient, a is A(m) A(n))
turned : (r p q a B P : ℕ) → r ≤ (p + q) * P → p ≤ a * B → q ≤ a * B → r ≤ 2 * B * P * a
turned r p q a B P h k l = omega (arith, mul-le-mul_right P k, mul-le-mul_right P l)

-- the sizes of a line's amplitude
abbrev pub sizes_of : LocatedLine → ℕ
sizes_of m = sizes m.line.amplitude

-- A, of lines in their places
abbrev pub size_of : List LocatedLine → ℕ
size_of lines = sum_ℕ lines sizes_of

-- a(m) conj a(n), or a(m) a(n)
abbrev pub waves : ℕ → LocatedLine → LocatedLine → Complex
waves kind m n = amplitudes kind m.line.amplitude n.line.amplitude

-- the coefficient of two lines
abbrev pub between : View → LocatedLine → LocatedLine → Complex
between v m n = coefficient v m.point n.point

-- of every pair of two lists of lines
abbrev pub AllAtMost : ℕ → View → List LocatedLine → List LocatedLine → Type 0
AllAtMost B v ms ns = (m n : LocatedLine) → Memᴰ m ms → Memᴰ n ns → PartsAtMost B (between v m n)

module _ (kind : ℕ) (v : View) (B : ℕ) where
  -- the amplitudes by the coefficient
  pub waves-parts : (m n : LocatedLine) → PartsAtMost B (between v m n) → PartsAtMost (sizes_of m * sizes_of n * B) (waves kind m n *ᶜ between v m n)
  waves-parts m n h =
      let few = mul-le-mul_right B (amplitudes-sizes kind m.line.amplitude n.line.amplitude) in
      let p = times-parts (waves kind m n) (between v m n) B h in
      (le_trans p.0 few, le_trans p.1 few)

  pub term-size : {clock : Quarter} → Rule limits clock → (t : ℕ) (m n : LocatedLine) → PartsAtMost B (between v m n) → nat_abs (term clock kind v t m n) ≤ 2 * B * 2 ^ 30 * (sizes_of m * sizes_of n)
  unfolding term term_of
  term-size {clock} keeps t m n h =
      let u = waves kind m n *ᶜ between v m n in
      let k = step_of kind t m.line.tick n.line.tick in
      let p = waves-parts m n h in
      turned (nat_abs (u *ᶜ phase_ℤ clock k).re) (nat_abs u.re) (nat_abs u.im) (sizes_of m * sizes_of n) B (2 ^ 30)
      (times-parts u (phase_ℤ clock k) (2 ^ 30) (phase-parts keeps k)).0
      p.0
      p.1

-- ---- sums of sizes

pub sum-times : {A : Type 0} (k : ℕ) (xs : List A) (f : A → ℕ) → sum_ℕ xs (λ x. k * f x) ≡ k * sum_ℕ xs f
unfolding sum_by
sum-times k [] f = omega arith
sum-times k (x ∷ xs) f = omega (arith, sum-times k xs f)

-- the sum of the squares is at most the square of the sum
sum-squares : {A : Type 0} (xs : List A) (f : A → ℕ) → sum_ℕ xs (λ x. f x * f x) ≤ sum_ℕ xs f * sum_ℕ xs f
unfolding sum_by
sum-squares [] f = omega arith
sum-squares (x ∷ xs) f = omega (arith, sum-squares xs f)

-- terms that are at most k times something: so is their sum
pub sum-within : {A : Type 0} (k : ℕ) (xs : List A) (f : A → ℤ) (b : A → ℕ) → ((x : A) → Memᴰ x xs → nat_abs (f x) ≤ k * b x)
    → nat_abs (sum_ℤ xs f) ≤ k * sum_ℕ xs b
sum-within k xs f b h = omega (arith, sum-times k xs b, sum-size 1 xs f (λ x. k * b x) (λ x m. omega (arith, h x m)))

-- one of the terms, and those from the i-th on, are at most all
pub member-le : {A : Type 0} (xs : List A) (f : A → ℕ) (x : A) → Memᴰ x xs → f x ≤ sum_ℕ xs f
unfolding sum_by
member-le [] f x m = absurd (Memᴰ.not-nil m)
member-le (y ∷ ys) f x m =
    ⊎_elim
    (λ (e : x ≡ y). subst (λ z. f x ≤ f z + sum_ℕ ys f) e (omega arith))
    (λ (k : Memᴰ x ys). omega (arith, member-le ys f x k))
    (Memᴰ.cases_cons m)

pub drop_le : {A : Type 0} (xs : List A) (f : A → ℕ) (i : ℕ) → sum_ℕ (drop i xs) f ≤ sum_ℕ xs f
unfolding sum_by
drop_le [] f zero = omega arith
drop_le [] f (suc i) = omega arith
drop_le (y ∷ ys) f zero = omega arith
drop_le (y ∷ ys) f (suc i) = omega (arith, drop_le ys f i)

-- ---- sums of terms

module _ {clock : Quarter} (keeps : Rule limits clock) (kind : ℕ) (v : View) (B : ℕ) where
  -- one line with each of some lines; each of some lines with each of others
  pub row-size : (t : ℕ) (m : LocatedLine) (ns : List LocatedLine) → ((n : LocatedLine) → Memᴰ n ns → PartsAtMost B (between v m n))
      → nat_abs (sum_ℤ ns (λ n. term clock kind v t m n)) ≤ 2 * B * 2 ^ 30 * (sizes_of m * size_of ns)
  row-size t m ns h =
      rw (← sum-times (sizes_of m) ns sizes_of)
      (sum-within (2 * B * 2 ^ 30) ns (λ n. term clock kind v t m n) (λ n. sizes_of m * sizes_of n) (λ n i. term-size kind v B keeps t m n (h n i)))

  pub rows-size : (t : ℕ) (ms ns : List LocatedLine) → AllAtMost B v ms ns
      → nat_abs (sum_ℤ ms (λ m. sum_ℤ ns (λ n. term clock kind v t m n))) ≤ 2 * B * 2 ^ 30 * (size_of ms * size_of ns)
  rows-size t ms ns h =
      rw (← sum-product_ℕ ms ns sizes_of sizes_of)
      (sum-within (2 * B * 2 ^ 30) ms (λ m. sum_ℤ ns (λ n. term clock kind v t m n)) (λ m. sum_ℕ ns (λ n. sizes_of m * sizes_of n))
      (λ m i. rw (sum-times (sizes_of m) ns sizes_of) (row-size t m ns (λ n j. h m n i j))))

module _ (v : View) (B : ℕ) where
  -- the mean
  pub mean-term-size : (m : LocatedLine) → PartsAtMost B (between v m m) → nat_abs (mean_term v m) ≤ B * (sizes_of m * sizes_of m)
  unfolding mean_term mean_term_of amplitudes
  mean-term-size m h =
      let a = m.line.amplitude in
      let s : sizes (a *ᶜ conj a) ≤ sizes_of m * sizes_of m = amplitudes-sizes 0 a a in
      omega (arith, (times-parts (a *ᶜ conj a) (between v m m) B h).0, mul-le-mul_right B s)

  pub means-size : (ms : List LocatedLine) → ((m : LocatedLine) → Memᴰ m ms → PartsAtMost B (between v m m))
      → nat_abs (sum_ℤ ms (λ m. mean_term v m)) ≤ B * (size_of ms * size_of ms)
  means-size ms h =
      le_trans
      (sum-within B ms (λ m. mean_term v m) (λ m. sizes_of m * sizes_of m) (λ m i. mean-term-size m (h m i)))
      (mul-le-mul_left B (sum-squares ms sizes_of))

-- ---- the ranges

-- of an accepted sea whose coefficients are in bounds
module _ (kind : ℕ) (v : View) (lines : List LocatedLine) (few : size_of lines ≤ 40_000) (small : AllAtMost 1_000_000_000 v lines lines) where
  abbrev squared : size_of lines * size_of lines ≤ 1_600_000_000
  squared = mul-le-mul few few

  pub total-small : {clock : Quarter} → Rule limits clock → (t : ℕ) → nat_abs (total_by clock kind v t lines) ≤ 3_200_000_000_000_000_000 * 2 ^ 30
  unfolding total_by
  total-small keeps t = omega (arith, rows-size keeps kind v 1_000_000_000 t lines lines small, squared)

  pub force-small : {clock : Quarter} → Rule limits clock → (t : ℕ) → nat_abs (nearest_ℤ (total_by clock kind v t lines) (2 ^ 30)) ≤ 3_200_000_000_000_000_000
  force-small {clock} keeps t = nearest-within (total_by clock kind v t lines) (2 ^ 30) 3_200_000_000_000_000_000 (lit< tt) (total-small keeps t)

  pub mean-small : nat_abs (mean_of kind v lines) ≤ 3_200_000_000_000_000_000
  unfolding mean_of
  mean-small = go (eqb kind 0)
    where
      go : (t : Bool) → nat_abs (cond t (sum_ℤ lines (λ m. mean_term v m)) (pos 0)) ≤ 3_200_000_000_000_000_000
      go true = omega (arith, means-size v 1_000_000_000 lines (λ m i. small m m i i), squared)
      go false = omega arith

-- ---- lines in their places

-- what came of lines, from the i-th on: all are in their places, or one has none
pub data LinesLocated (r : Record) (first : ℤ) : ℕ → List Line → LocatedSea → Type 0 where
  arrived : {i : ℕ} → LinesLocated r first i [] (all [])
  onward :
      {i : ℕ} {l : Line} {ls : List Line} {p : Point} {ps : List LocatedLine}
      → located r first l.tick l.heading ≡ at p
      → LinesLocated r first (suc i) ls (all ps)
      → LinesLocated r first i (l ∷ ls) (all (record { line = l; point = p } ∷ ps))
  later :
      {i : ℕ} {l : Line} {ls : List Line} {p : Point} {number line : ℕ}
      → located r first l.tick l.heading ≡ at p
      → LinesLocated r first (suc i) ls (stopped number line)
      → LinesLocated r first i (l ∷ ls) (stopped number line)
  halted :
      {i : ℕ} {l : Line} {ls : List Line} {number : ℕ}
      → located r first l.tick l.heading ≡ outside number
      → LinesLocated r first i (l ∷ ls) (stopped number i)

module _ (r : Record) (first : ℤ) where
  one_more : (i : ℕ) (l : Line) (ls : List Line) (x : Located) (s : LocatedSea) → located r first l.tick l.heading ≡ x → LinesLocated r first (suc i) ls s
      → LinesLocated r first i (l ∷ ls) (more l x s i)
  unfolding more
  one_more i l ls (outside number) s e h = halted e
  one_more i l ls (at p) (all ps) e h = onward e h
  one_more i l ls (at p) (stopped number j) e h = later e h

  pub lines-located : (i : ℕ) (ls : List Line) → LinesLocated r first i ls (located_from r first i ls)
  unfolding located_from
  lines-located i [] = arrived
  lines-located i (l ∷ ls) = one_more i l ls _ _ refl (lines-located (suc i) ls)

  -- A is that of the lines
  pub located-size : {i : ℕ} {ls : List Line} {ps : List LocatedLine} → LinesLocated r first i ls (all ps) → size_of ps ≡ sum_ℕ ls (λ l. sizes l.amplitude)
  unfolding sum_by
  located-size arrived = refl
  located-size (onward {l = l} e h) = ap (λ (n : ℕ). sizes l.amplitude + n) (located-size h)

  -- what holds of every place in the table holds of each line's
  pub located-each : (P : Point → Type 0) → ((tick : ℕ) (heading : ℤ) (p : Point) → located r first tick heading ≡ at p → P p)
      → {i : ℕ} {ls : List Line} {ps : List LocatedLine} → LinesLocated r first i ls (all ps) → (m : LocatedLine) → Memᴰ m ps → P m.point
  located-each P f arrived m k = absurd (Memᴰ.not-nil k)
  located-each P f (onward {l = l} {p = p} e h) m k =
      ⊎_elim
      (λ (same : m ≡ record { line = l; point = p }). subst (λ (n : LocatedLine). P n.point) (sym same) (f l.tick l.heading p e))
      (λ later. located-each P f h m later)
      (Memᴰ.cases_cons k)

-- what holds of a point in its place
pub data Placed (P : Point → Type 0) : Located → Type 0 where
  placed : {p : Point} → P p → Placed P (at p)
  nowhere : {number : ℕ} → Placed P (outside number)

pub placed_at : {P : Point → Type 0} {p : Point} → Placed P (at p) → P p
placed_at (placed h) = h

-- in a valid record the weights of each make up the width
module _ (r : Record) (valid : T (valid_ticks r.slots.ticks)) (first : ℤ) where
  proper-place : (h : ℤ) (o : Option (Standing ℕ)) → OfSome ProperWeights o → Placed (λ p. ProperWeights p.frequency) (at_heading r (heading_of first) h o)
  unfolding at_heading
  proper-place h None w = nowhere
  proper-place h (Some f) w =
      cond_ind (Placed (λ p. ProperWeights p.frequency)) (has_heading r.slots h && (not (eqb r.choices.coverage 0) || same_ℤ h (heading_of first))) (λ t. placed w) (λ t. nowhere)

  pub proper-located : (tick : ℕ) (heading : ℤ) → Placed (λ p. ProperWeights p.frequency) (located r first tick heading)
  unfolding located
  proper-located tick heading = proper-place (heading_of heading) _ (standing-proper r.slots.ticks tick valid)

  pub located-proper : (tick : ℕ) (heading : ℤ) (p : Point) → located r first tick heading ≡ at p → ProperWeights p.frequency
  located-proper tick heading p e = placed_at (subst (Placed (λ p. ProperWeights p.frequency)) e (proper-located tick heading))

-- and both nodes are of the table's 80, since the ticks and the heading are held
module _ (r : Record) (twenty : length r.slots.ticks ≡ 20) (four : length r.slots.headings ≡ 4) (first : ℤ) where
  abbrev Inside : Point → Type 0
  Inside p = InTable (bracket_of r.slots p)

  heading-slot : (h : ℤ) → T (has_heading r.slots h) → heading_slot r.slots.headings r.slots.held h < 4
  unfolding has_heading held_headings heading_slot
  heading-slot h t =
      let held = take r.slots.held r.slots.headings in
      let below : slot_of same_ℤ held h < length held = ltb→lt (slot_of same_ℤ held h) (length held) t in
      omega (arith, length-take r.slots.held r.slots.headings)

  inside-place : (h : ℤ) (o : Option (Standing ℕ)) → OfSome (HeldTicks r.slots.ticks) o → Placed Inside (at_heading r (heading_of first) h o)
  unfolding at_heading bracket_of node_of node_at
  inside-place h None w = nowhere
  inside-place h (Some f) w =
      cond_ind (Placed Inside) (has_heading r.slots h && (not (eqb r.choices.coverage 0) || same_ℤ h (heading_of first)))
      (λ t.
      let slot = heading-slot h (and_yes (has_heading r.slots h) _ t).0 in
      placed (record { low = omega (arith, slot, w.low, twenty); high = omega (arith, slot, w.high, twenty) }))
      (λ t. nowhere)

  pub inside-located : (tick : ℕ) (heading : ℤ) → Placed Inside (located r first tick heading)
  unfolding located
  inside-located tick heading = inside-place (heading_of heading) _ (standing-held r.slots.ticks tick)

  pub located-inside : (tick : ℕ) (heading : ℤ) (p : Point) → located r first tick heading ≡ at p → InTable (bracket_of r.slots p)
  located-inside tick heading p e = placed_at (subst (Placed Inside) e (inside-located tick heading))

-- ---- lines none of whose corners is bad have small coefficients

module _ (v : View) where
  -- no pair has a bad corner
  pub none-bad : (ms ns : List LocatedLine) → bad_among v ms ns ≡ false → (m n : LocatedLine) → Memᴰ m ms → Memᴰ n ns → bad_pair v m n ≡ false
  unfolding bad_among
  none-bad ms ns e m n i j = none_of (bad_pair v m) ns (none_of (λ k. any_of (λ n. bad_pair v k n) ns) ms e m i) n j

-- so both parts of its coefficient are small
pub proper-bracket : (s : Slots) (p : Point) → ProperWeights p.frequency → ProperBracket (bracket_of s p)
unfolding bracket_of
proper-bracket s p w =
    record {
      some = w.some;
      most = w.most;
      sum = w.sum;
      weighted = w.weighted;
      single = λ e. ap (λ (t : ℕ). node_of s (record { tick = t; heading = p.heading })) (w.single e);
    }

module _ (s : Slots) (cells : List ℤ) where
  pub small-coefficient :
      (p q : Point) → ProperWeights p.frequency → ProperWeights q.frequency → any_bad (corners (view_of s cells) p q) ≡ false
      → PartsAtMost 1_000_000_000 (coefficient (view_of s cells) p q)
  small-coefficient p q proper-p proper-q e =
      let x = bracket_of s p in
      let y = bracket_of s q in
      let proper-x = proper-bracket s p proper-p in
      let proper-y = proper-bracket s q proper-q in
      let none_out = sym (any-bad cells x y proper-x proper-y (square_of cells x y) refl) ∙ ap any_bad (sym (bracket-corners s cells p q)) ∙ e in
      let (re, im) = all_small (square_of cells x y) none_out in
      rw (bracket-coefficient s cells p q)
      (subst (PartsAtMost 1_000_000_000) (interpolated-is cells x y (square_of cells x y) refl)
      (part_small x y proper-x proper-y _ _ _ _ re, part_small x y proper-x proper-y _ _ _ _ im))

  -- of every pair of lines in their places
  pub small-coefficients :
      (ms ns : List LocatedLine)
      → ((m : LocatedLine) → Memᴰ m ms → ProperWeights m.point.frequency)
      → ((n : LocatedLine) → Memᴰ n ns → ProperWeights n.point.frequency)
      → bad_among (view_of s cells) ms ns ≡ false
      → AllAtMost 1_000_000_000 (view_of s cells) ms ns
  small-coefficients ms ns proper-m proper-n e m n i j =
      small-coefficient m.point n.point (proper-m m i) (proper-n n j) (none-bad (view_of s cells) ms ns e m n i j)
