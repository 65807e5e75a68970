-- Demand 3: the pairs' errors added up, then the rounding of the total. Assumes nothing.
use mathlib.Core.Path.{◌≡◌, refl, sym, ◌∙◌, ap, subst}
use mathlib.Core.List.{List, map, ◌∷◌, Memᴰ}
use Prim.Native.Nat.{ℕ, ◌+◌, ◌*◌, ◌^◌, ◌<◌, ◌≤◌}
use native.Mathlib.Nat.{mul-pos}
use native.Mathlib.Omega.{arith}
use lib.Dec.{lit<}
use lib.IntN.{ℤ, pos, nat_abs, ◌+ℤ◌, ◌-ℤ◌, ◌*ℤ◌, +ℤ_invr}
use lib.ListN.{length}
use Rattle.whole.specs.Nearest.{nearest_ℤ}
use Rattle.whole.specs.Fraction.{Fraction}
use Rattle.whole.specs.Complex.{◌*ᶜ◌}
use Rattle.whole.specs.Sum.{sum_ℤ, sum_ℕ, sumᶜ, sumᶠ}
use Rattle.whole.proofs.Nearest.{nearest-is}
use Rattle.whole.proofs.Sum.{sum-product_ℕ, sum-real, sum-ext}
use Rattle.phase.specs.Turn.{Quarter}
use Rattle.phase.specs.Rule.{Rule, limits}
use Rattle.phase.specs.Seconds.{seconds}
use Rattle.phase.proofs.Seconds.{rule}
use Rattle.reader.specs.declared.record.Record.{Record}
use Rattle.table.specs.View.{View, view_of}
use Rattle.load.specs.Corners.{coefficient}
use Rattle.seaway.specs.Sea.{Line, lines_of, size_of}
use Rattle.seaway.specs.declared.sea.Sea.{Sea}
use Rattle.load.specs.Force.{LocatedLine, all, located_sea, first_heading, term_of, term, total_by}
use Rattle.neighbours.proofs.Weights.{ProperWeights}
use Rattle.load.proofs.Queries.{unbarred, valid-ticks}
use Rattle.load.proofs.Ranges.{sum-times, sizes_of, LinesLocated, arrived, onward, lines-located, located-size, located-each, located-proper}
use Rattle.promises_forces.specs.Demand.{linear_top, linear_over, amplitudes_of, turned, exact_term, exact_sum, lines_in, exact_force_by, sea_lines, A}
use Rattle.promises_forces.specs.Demand.{Unrounded, Demand3By, Demand3LoadBy, Demand3EqualBy, Demand3ExactBy, WidthsAboveBy, AllInPlaceBy, RealPartBy}
use Rattle.promises_forces.specs.Demand.{Demand3, Demand3Load, Demand3Equal, Demand3Exact, WidthsAbove, AllInPlace, RealPart}
use Rattle.promises_queries.proofs.Loads.{Given, load_given, force-given}
use Rattle.promises_forces.proofs.Near.{Near, near-sum, Apart, near-rounded, apart-allowed, apart-half, apart-same}
use Rattle.promises_forces.proofs.Pair.{pair-near}

-- ---- the sum over all pairs, then the rounding of the total

-- A² as the double sum of A(m) A(n)
double : (k : ℕ) (xs ys : List LocatedLine) → sum_ℕ xs (λ m. sum_ℕ ys (λ n. k * (sizes_of m * sizes_of n))) ≡ k * (sum_ℕ xs sizes_of * sum_ℕ ys sizes_of)
double k xs ys =
    sum-ext ◌+◌ 0 xs (λ m. sum_ℕ ys (λ n. k * (sizes_of m * sizes_of n))) (λ m. k * sum_ℕ ys (λ n. sizes_of m * sizes_of n)) (λ m i. sum-times k ys (λ n. sizes_of m * sizes_of n))
    ∙ sum-times k xs (λ m. sum_ℕ ys (λ n. sizes_of m * sizes_of n))
    ∙ ap (λ (n : ℕ). k * n) (sum-product_ℕ xs ys sizes_of sizes_of)

module _ (clock : Quarter) (kind : ℕ) (v : View) (t : ℕ) (lines : List LocatedLine) where
  -- each pair is off by at most c times 3/4 A(m) A(n): the force by at most half a unit and c times 3/4 A²
  summed : (c : ℕ)
      → ((m n : LocatedLine) → Memᴰ m lines → Memᴰ n lines → Near (2 ^ 30) (exact_term clock kind v t m n) (term clock kind v t m n) (3 * c * (sizes_of m * sizes_of n)))
      → Apart (nearest_ℤ (total_by clock kind v t lines) (2 ^ 30)) (exact_sum clock kind v t lines) (3 * c * (sum_ℕ lines sizes_of * sum_ℕ lines sizes_of))
  unfolding total_by exact_sum
  summed c h =
      near-rounded {x = exact_sum clock kind v t lines} (nearest_ℤ (total_by clock kind v t lines) (2 ^ 30)) (lit< tt) (nearest-is (total_by clock kind v t lines) (2 ^ 30) (lit< tt)).close
      (subst (λ (b : ℕ). Near (2 ^ 30) (exact_sum clock kind v t lines) (total_by clock kind v t lines) b) (double (3 * c) lines lines)
      (near-sum (2 ^ 30) lines
      (λ m. sumᶠ lines (λ n. exact_term clock kind v t m n))
      (λ m. sum_ℤ lines (λ n. term clock kind v t m n))
      (λ m. sum_ℕ lines (λ n. 3 * c * (sizes_of m * sizes_of n)))
      (λ m p. near-sum (2 ^ 30) lines (λ n. exact_term clock kind v t m n) (λ n. term clock kind v t m n) (λ n. 3 * c * (sizes_of m * sizes_of n)) (λ n q. h m n p q))))

  module _ (keeps : Rule limits clock) (above : (m : LocatedLine) → Memᴰ m lines → 0 < m.point.frequency.width) where
    -- what rounding leaves is at most half a denominator
    any : Apart (nearest_ℤ (total_by clock kind v t lines) (2 ^ 30)) (exact_sum clock kind v t lines) (3 * 1 * (sum_ℕ lines sizes_of * sum_ℕ lines sizes_of))
    unfolding linear_top coefficient
    any =
        summed 1 (λ m n i j.
        let over = mul-pos (above m i) (above n j) in
        pair-near keeps kind v t m n 1 over
        (omega (arith, (nearest-is (linear_top v m n).re (linear_over m n) over).close))
        (omega (arith, (nearest-is (linear_top v m n).im (linear_over m n) over).close)))

    -- nothing, where no coefficient was rounded
    none : ((m n : LocatedLine) → Memᴰ m lines → Memᴰ n lines → Unrounded v m n)
        → Apart (nearest_ℤ (total_by clock kind v t lines) (2 ^ 30)) (exact_sum clock kind v t lines) (3 * 0 * (sum_ℕ lines sizes_of * sum_ℕ lines sizes_of))
    none h =
        summed 0 (λ m n i j.
        let q = coefficient v m.point n.point in
        pair-near keeps kind v t m n 0 (mul-pos (above m i) (above n j)) (nothing _ _ q.re (h m n i j).re) (nothing _ _ q.im (h m n i j).im))
      where
        nothing : (d : ℕ) (x w : ℤ) → x ≡ w *ℤ pos d → 2 * nat_abs (x -ℤ w *ℤ pos d) ≤ 0 * d
        nothing d x w e =
            let z : nat_abs (x -ℤ w *ℤ pos d) ≡ 0 = ap nat_abs (ap (λ y. y -ℤ w *ℤ pos d) e ∙ +ℤ_invr (w *ℤ pos d)) in
            omega arith

-- ---- a sea that has a force

module _ (clock : Quarter) (r : Record) (cells : List ℤ) (sea : Sea) (t : ℕ) (lines : List LocatedLine) (mean force : ℤ) (g : Given clock r cells sea t lines mean force) where
  pub lines-in-place : LinesLocated r (first_heading (lines_of sea)) 1 (lines_of sea) (all lines)
  unfolding located_sea
  lines-in-place = subst (LinesLocated r (first_heading (lines_of sea)) 1 (lines_of sea)) g.located (lines-located r (first_heading (lines_of sea)) 1 (lines_of sea))

  -- A is that of the lines in their places
  pub size_is : sum_ℕ lines sizes_of ≡ A sea
  unfolding size_of
  size_is = located-size r (first_heading (lines_of sea)) lines-in-place

  pub proper : (m : LocatedLine) → Memᴰ m lines → ProperWeights m.point.frequency
  proper m i =
      let valid = (unbarred r (length cells) g.free).1 in
      located-each r (first_heading (lines_of sea)) (λ p. ProperWeights p.frequency)
      (λ tick heading p e. located-proper r (valid-ticks r valid) (first_heading (lines_of sea)) tick heading p e)
      lines-in-place
      m
      i

  above : (m : LocatedLine) → Memᴰ m lines → 0 < m.point.frequency.width
  above m i = (proper m i).some

  pub lines_are : sea_lines r sea ≡ lines
  unfolding lines_in
  lines_are = ap lines_in g.located

  exact-is : exact_sum clock r.choices.kind (view_of r.slots cells) t lines ≡ exact_force_by clock r cells sea t
  unfolding exact_force_by
  exact-is = ap (exact_sum clock r.choices.kind (view_of r.slots cells) t) (sym lines_are)

  -- by at most half a unit plus three quarters of the square of A, multiplied out
  apart : Rule limits clock → Apart force (exact_force_by clock r cells sea t) (3 * (A sea * A sea))
  apart keeps =
      subst (λ (x : Fraction). Apart force x (3 * (A sea * A sea))) exact-is
      (subst (λ (q : ℤ). Apart q (exact_sum clock r.choices.kind (view_of r.slots cells) t lines) (3 * (A sea * A sea))) g.force-is
      (subst (λ (a : ℕ). Apart (nearest_ℤ (total_by clock r.choices.kind (view_of r.slots cells) t lines) (2 ^ 30)) (exact_sum clock r.choices.kind (view_of r.slots cells) t lines) (3 * (a * a))) size_is (any clock r.choices.kind (view_of r.slots cells) t lines keeps above)))

  apart-exact : Rule limits clock → ((m n : LocatedLine) → Memᴰ m lines → Memᴰ n lines → Unrounded (view_of r.slots cells) m n) → Apart force (exact_force_by clock r cells sea t) 0
  apart-exact keeps h =
      subst (λ (x : Fraction). Apart force x 0) exact-is
      (subst (λ (q : ℤ). Apart q (exact_sum clock r.choices.kind (view_of r.slots cells) t lines) 0) g.force-is (omega (arith, none clock r.choices.kind (view_of r.slots cells) t lines keeps above h)))

-- ---- the promises

pub demand3-load-by : {clock : Quarter} → Rule limits clock → Demand3LoadBy clock
demand3-load-by {clock} keeps r cells sea t mean force e =
    let (lines, g) = load_given clock r cells sea t mean force e in
    apart-allowed force (exact_force_by clock r cells sea t) (3 * (A sea * A sea)) (apart clock r cells sea t lines mean force g keeps)

pub demand3-by : {clock : Quarter} → Rule limits clock → Demand3By clock
demand3-by {clock} keeps r cells sea t force e =
    let (mean, l) = force-given clock r cells sea t force e in
    demand3-load-by keeps r cells sea t mean force l

pub demand3-equal-by : {clock : Quarter} → Rule limits clock → Demand3EqualBy clock
demand3-equal-by {clock} keeps r cells sea t force x e same =
    let (mean, l) = force-given clock r cells sea t force e in
    let (lines, g) = load_given clock r cells sea t mean force l in
    apart-allowed force x (3 * (A sea * A sea))
    (apart-same force (exact_force_by clock r cells sea t) x (3 * (A sea * A sea)) same (apart clock r cells sea t lines mean force g keeps))

pub demand3-exact-by : {clock : Quarter} → Rule limits clock → Demand3ExactBy clock
demand3-exact-by {clock} keeps r cells sea t force e h =
    let (mean, l) = force-given clock r cells sea t force e in
    let (lines, g) = load_given clock r cells sea t mean force l in
    let is = lines_are clock r cells sea t lines mean force g in
    apart-half force (exact_force_by clock r cells sea t)
    (apart-exact clock r cells sea t lines mean force g keeps (λ m n i j. h m n (subst (Memᴰ m) (sym is) i) (subst (Memᴰ n) (sym is) j)))

pub widths-above-by : (clock : Quarter) → WidthsAboveBy clock
widths-above-by clock r cells sea t force e m i =
    let (mean, l) = force-given clock r cells sea t force e in
    let (lines, g) = load_given clock r cells sea t mean force l in
    above clock r cells sea t lines mean force g m (subst (Memᴰ m) (lines_are clock r cells sea t lines mean force g) i)

-- the lines themselves, in order
lines-in-order : {r : Record} {first : ℤ} {i : ℕ} {ls : List Line} {ps : List LocatedLine} → LinesLocated r first i ls (all ps) → map (λ m. m.line) ps ≡ ls
lines-in-order arrived = refl
lines-in-order (onward {l = l} e h) = ap (λ (ls : List Line). l ∷ ls) (lines-in-order h)

pub all-in-place-by : (clock : Quarter) → AllInPlaceBy clock
all-in-place-by clock r cells sea t force e =
    let (mean, l) = force-given clock r cells sea t force e in
    let (lines, g) = load_given clock r cells sea t mean force l in
    ap (map (λ (m : LocatedLine). m.line)) (lines_are clock r cells sea t lines mean force g) ∙ lines-in-order (lines-in-place clock r cells sea t lines mean force g)

pub real-part-by : (clock : Quarter) → RealPartBy clock
unfolding total_by term term_of
real-part-by clock kind v t lines =
    sym
    (sum-real lines (λ m. sumᶜ lines (λ n. amplitudes_of kind m n *ᶜ coefficient v m.point n.point *ᶜ turned clock kind t m n))
    ∙ sum-ext ◌+ℤ◌ (pos 0) lines
    (λ m. (sumᶜ lines (λ n. amplitudes_of kind m n *ᶜ coefficient v m.point n.point *ᶜ turned clock kind t m n)).re)
    (λ m. sum_ℤ lines (λ n. term clock kind v t m n))
    (λ m i. sum-real lines (λ n. amplitudes_of kind m n *ᶜ coefficient v m.point n.point *ᶜ turned clock kind t m n)))

-- ---- at whole seconds

pub demand3 : Demand3
demand3 = demand3-by rule

pub demand3-load : Demand3Load
demand3-load = demand3-load-by rule

pub demand3-equal : Demand3Equal
demand3-equal = demand3-equal-by rule

pub demand3-exact : Demand3Exact
demand3-exact = demand3-exact-by rule

pub widths-above : WidthsAbove
widths-above = widths-above-by seconds

pub all-in-place : AllInPlace
all-in-place = all-in-place-by seconds

pub real-part : RealPart
real-part = real-part-by seconds
