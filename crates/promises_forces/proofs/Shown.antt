-- Forces in their range, the mean, and what a display shows. Assumes nothing.
use mathlib.Core.Path.{◌≡◌, refl, ◌∙◌, ap, subst, sym}
use mathlib.Core.Bool.{Bool, true, false}
use mathlib.Core.List.{List}
use Prim.Native.Nat.{ℕ, ◌^◌, ◌≤◌, ◌<◌}
use native.Mathlib.Nat.{le_of_lt, lt_of_le_of_lt, lt_of_lt_of_le}
use native.Mathlib.Omega.{arith}
use lib.Dec.{lit<, lit≤, le→leb, lt→ltb}
use lib.IntN.{ℤ, pos, negsuc, nat_abs, ◌+ℤ◌, ◌*ℤ◌, *ℤ_comm}
use lib.Ieee.{binary64, of_int, to_signed, in_float}
use lib.Ieee.Back.{positive_back, negative_back}
use borrow.Author.Tests.{le-leb, lt-leb, eq-eqb, ne_eqb}
use Rattle.whole.proofs.Nearest.{nearest-is}
use Rattle.whole.specs.Sum.{sum_ℤ}
use Rattle.whole.proofs.Sum.{sum-ext, sum-*}
use Rattle.phase.specs.Turn.{Quarter}
use Rattle.phase.specs.Rule.{Rule, limits}
use Rattle.phase.specs.Seconds.{seconds}
use Rattle.phase.proofs.Seconds.{rule}
use Rattle.reader.specs.declared.record.Record.{Record}
use Rattle.table.specs.View.{View, view_of}
use Rattle.load.specs.Force.{LocatedLine, term, mean_term, mean_of}
use Rattle.readout.specs.Display.{is_usable, count_of, scaled, reading_of, shown, display_by}
use Rattle.seaway.specs.declared.sea.Sea.{Sea}
use Rattle.load.specs.Corners.{coefficient}
use Rattle.load.proofs.Ranges.{AllAtMost, small-coefficients, force-small, mean-small}
use Rattle.readout.proofs.Shown.{count_small}
use Rattle.load.proofs.Ranges as ranges
use Rattle.load.proofs.Terms.{own-term}
use Rattle.promises_queries.specs.Queries.{high, SeaFree, as-force, sixteen}
use Rattle.promises_forces.specs.Shown.{FitsDisplay, LoadInRangeBy, MeanOfLoadBy, DisplayShowsBy, DisplayGivenBy, LoadInRange, MeanOfLoad, DisplayShows, DisplayGiven}
use Rattle.promises_forces.specs.Demand.{A, lines_in}
use Rattle.promises_queries.proofs.Loads.{Given, load_given}
use Rattle.promises_forces.proofs.Demand.{size_is, proper}
use Rattle.promises_queries.proofs.Seas.{admissible-is}
use Rattle.promises_queries.proofs.Usable.{unusable}
use Rattle.promises_queries.proofs.Queries as queries

-- ---- ranges

-- a count below 2^53 comes back from its double
back : (z : ℤ) → nat_abs z < 2 ^ 53 → to_signed 63 (of_int binary64 z) ≡ z
unfolding in_float
back (pos n) h = (positive_back binary64 63 n (le→leb n (2 ^ 53) (le_of_lt h)) (lt_of_lt_of_le h (lit≤ tt))).1
back (negsuc n) h = (negative_back binary64 63 n (lt→ltb n (2 ^ 53) (le_of_lt h)) (le_of_lt (lt_of_lt_of_le h (lit≤ tt)))).1

in-range : (force : ℤ) → nat_abs force ≤ 3_200_000_000_000_000_000 → FitsDisplay force
unfolding count_of
in-range force h =
    let few : nat_abs (count_of force) < 2 ^ 53 = lt_of_le_of_lt (count_small force h) (lit< tt) in
    record { small = h; nearest = nearest-is force 1_000 (lit< tt); below = few; exact = back (count_of force) few }

pub load-in-range-by : {clock : Quarter} → Rule limits clock → LoadInRangeBy clock
load-in-range-by {clock} keeps r cells sea t mean whole shaped e =
    let (lines, g) = load_given clock r cells sea t mean whole e in
    let few : ranges.size_of lines ≤ 40_000 = size_small clock r cells sea t lines mean whole g in
    let each = proper clock r cells sea t lines mean whole g in
    let small : AllAtMost 1_000_000_000 (view_of r.slots cells) lines lines = small-coefficients r.slots cells lines lines each each g.sound in (
      in-range mean (subst (λ (z : ℤ). nat_abs z ≤ 3_200_000_000_000_000_000) g.mean-is (mean-small r.choices.kind (view_of r.slots cells) lines few small)),
      in-range whole (subst (λ (z : ℤ). nat_abs z ≤ 3_200_000_000_000_000_000) g.force-is (force-small r.choices.kind (view_of r.slots cells) lines few small keeps t)),
    )
  where
    size_small : (clock : Quarter) (r : Record) (cells : List ℤ) (sea : Sea) (t : ℕ) (lines : List LocatedLine) (mean force : ℤ) → Given clock r cells sea t lines mean force → ranges.size_of lines ≤ 40_000
    size_small clock r cells sea t lines mean force g =
        let e : ranges.size_of lines ≡ A sea = size_is clock r cells sea t lines mean force g in
        let low : 40_000 < A sea → ⊥ = λ h. admissible-is sea g.admissible (high h) in
        omega (arith, e, low)

-- ---- the mean

module _ {clock : Quarter} (keeps : Rule limits clock) (kind : ℕ) (table : View) (t : ℕ) (difference : kind ≡ 0) where
  own-terms : (lines : List LocatedLine) → sum_ℤ lines (λ m. term clock kind table t m m) ≡ sum_ℤ lines (λ m. mean_term table m) *ℤ pos (2 ^ 30)
  unfolding term mean_term
  own-terms lines =
      sum-ext ◌+ℤ◌ (pos 0) lines (λ m. term clock kind table t m m) (λ m. pos (2 ^ 30) *ℤ mean_term table m)
      (λ m i. own-term keeps kind t difference m.line.amplitude m.line.tick (coefficient table m.point m.point))
      ∙ sum-* (pos (2 ^ 30)) lines (λ m. mean_term table m)
      ∙ *ℤ_comm (pos (2 ^ 30)) (sum_ℤ lines (λ m. mean_term table m))

mean-kind : (kind : ℕ) (table : View) (lines : List LocatedLine)
    → (kind ≡ 0 → mean_of kind table lines ≡ sum_ℤ lines (λ m. mean_term table m))
    × ((kind ≡ 0 → ⊥) → mean_of kind table lines ≡ pos 0)
unfolding mean_of
mean-kind kind table lines =
    ((λ difference. rw (eq-eqb kind 0 difference)), (λ sum. rw (ne_eqb kind 0 sum)))

pub mean-of-load-by : {clock : Quarter} → Rule limits clock → MeanOfLoadBy clock
unfolding lines_in
mean-of-load-by {clock} keeps r cells sea t mean whole e =
    let (lines, g) = load_given clock r cells sea t mean whole e in
    let kinds = mean-kind r.choices.kind (view_of r.slots cells) lines in
    record {
      difference = λ difference.
          ap (λ (z : ℤ). z *ℤ pos (2 ^ 30)) (sym g.mean-is ∙ kinds.0 difference)
          ∙ sym (own-terms keeps r.choices.kind (view_of r.slots cells) t difference lines)
          ∙ ap (λ (ps : List LocatedLine). sum_ℤ ps (λ m. term clock r.choices.kind (view_of r.slots cells) t m m)) (sym (ap lines_in g.located));
      sum = λ sum. sym g.mean-is ∙ kinds.1 sum;
    }

-- ---- the display

pub display-shows-by : (clock : Quarter) → DisplayShowsBy clock
unfolding display_by shown reading_of scaled
display-shows-by clock r cells sea t scale mean whole e fit =
    let usable : is_usable scale ≡ true = is-usable (is_usable scale) refl in
    record {
      reading = reading_of r.choices.kind scale mean whole;
      whole_is = refl;
      mean-is = λ difference. rw (eq-eqb r.choices.kind 0 difference);
      no-mean = λ sum. rw (ne_eqb r.choices.kind 0 sum);
      force = λ low. ap (shown r scale) e ∙ rw (usable, le-leb r.choices.component 3 low);
      moment = λ above. ap (shown r scale) e ∙ rw (usable, lt-leb r.choices.component 3 above);
    }
  where
    is-usable : (u : Bool) → is_usable scale ≡ u → u ≡ true
    is-usable true k = refl
    is-usable false k = absurd (fit (unusable scale k))

pub display-given-by : (clock : Quarter) → DisplayGivenBy clock
display-given-by clock r cells sea t scale none =
    let free : SeaFree r cells sea = λ number place s. none number place (as-force s) in
    let (mean, whole, e) = queries.load-given-by clock r cells sea t free in
    (mean, whole, e, display-shows-by clock r cells sea t scale mean whole e (λ u. none 16 0 (sixteen free u)))

-- ---- at whole seconds

pub load-in-range : LoadInRange
load-in-range = load-in-range-by rule

pub mean-of-load : MeanOfLoad
mean-of-load = mean-of-load-by rule

pub display-shows : DisplayShows
display-shows = display-shows-by seconds

pub display-given : DisplayGiven
display-given = display-given-by seconds
