-- What the rules of a row say of its outcome: a row that is used has its ticks, headings and parts in range, equal headings in single coverage, and no imaginary
-- part at equal nodes of a difference table; the number of one that is refused is 4 to 7, or 17. Read off the cases of LineRules. Assumes nothing.
use mathlib.Core.Path.{◌≡◌, subst}
use mathlib.Core.Bool.{Bool}
use mathlib.Core.List.{List}
use Prim.Native.Nat.{ℕ, ◌≤◌}
use lib.Dec.{lit≤}
use lib.IntN.{ℤ, pos, nat_abs}
use Rattle.field.specs.Units.{tick_of}
use Rattle.field.proofs.Ticks.{tick-range}
use Rattle.row.specs.declared.reading.Choices.{Choices}
use Rattle.row.specs.declared.reading.Entry.{Entry}
use Rattle.row.specs.Told.{Row}
use Rattle.row.specs.Ranges.{period_least, period_most, tick_least, tick_most, period, part}
use Rattle.row.specs.Layout.{Column}
use Rattle.row.specs.own.Rows.{row_of}
use Rattle.row.specs.LineRules.{Written, Between, entry_of, TwoHeadings, Imaginary, Ranged, LineIs}
use Rattle.row.specs.LineRules.LineIs.{breaks-4, breaks-5, breaks-6, breaks-17, breaks-7, used}
pub use Rattle.row.proofs.Deciding.{by-test}
use Rattle.row.proofs.Deciding.{not-other}
use Rattle.row.proofs.Sizes.{size_above, size_below}
use Rattle.row.proofs.Headings.{heading-in}
pub use Rattle.row.proofs.Headings.{HeadingIn}
use Rattle.row.proofs.LineRules.{line-is}

-- ---- what a used row says

pub record TickIn (t : ℕ) : Type 0 where
  pub low : tick_least ≤ t
  pub high : t ≤ tick_most

abbrev pub PartIn : ℤ → Type 0
PartIn = Between part.least part.most

pub record Usable (c : Choices) (e : Entry) : Type 0 where
  pub tick1 : TickIn e.tick1
  pub tick2 : TickIn e.tick2
  pub heading1 : HeadingIn e.heading1
  pub heading2 : HeadingIn e.heading2
  pub re : PartIn e.re
  pub im : PartIn e.im
  -- single coverage (0) has equal headings
  pub single : c.coverage ≡ 0 → e.heading1 ≡ e.heading2
  -- a difference table (kind 0) has no imaginary part at equal nodes
  pub real : c.kind ≡ 0 → e.tick1 ≡ e.tick2 → e.heading1 ≡ e.heading2 → e.im ≡ pos 0

-- a period in range has a tick in range
tick-in : (z : ℤ) → Between period.least period.most z → TickIn (tick_of (nat_abs z))
tick-in z h =
    let t =
    tick-range (nat_abs z) (size_above period_least z h.above) (size_below period_least period_most z h.above h.below)
    in
    record { low = t.0; high = t.1 }

-- the numbers by which a row is refused, whatever came before it
pub data RefusesRow : ℕ → Type 0 where
  by_order : {number : ℕ} → 4 ≤ number → number ≤ 7 → RefusesRow number
  seventeen : RefusesRow 17

module _ (c : Choices) (first : Bool) (line : List ℕ) where
  ranged-usable :
      {w : Written} → Ranged c first line w → (TwoHeadings c (entry_of w) → ⊥) → (Imaginary c (entry_of w) → ⊥) → Usable c (entry_of w)
  unfolding entry_of
  ranged-usable r n m =
      let v = r.range in
      record {
        tick1 = tick-in _ (v Column.per1);
        tick2 = tick-in _ (v Column.per2);
        heading1 = heading-in _ (v Column.beta1);
        heading2 = heading-in _ (v Column.beta2);
        re = v Column.re;
        im = v Column.im;
        single = λ zero. not-other _ _ (λ differ. n (record { single = zero; differ = differ }));
        real = λ zero ticks headings. not-other _ _ (λ some. m (record { difference = zero; ticks = ticks; headings = headings; im = some }));
      }

  usable : {e : Entry} → LineIs c first line (Row.Used e) → Usable c e
  usable (used r n f m) = ranged-usable r n m

  number_in : {number : ℕ} → LineIs c first line (Row.Refused number) → RefusesRow number
  number_in (breaks-4 row n) = by_order (lit≤ tt) (lit≤ tt)
  number_in (breaks-5 row count h) = by_order (lit≤ tt) (lit≤ tt)
  number_in (breaks-6 o n) = by_order (lit≤ tt) (lit≤ tt)
  number_in (breaks-17 r n f) = seventeen
  number_in (breaks-7 r n f i) = by_order (lit≤ tt) (lit≤ tt)

  pub used-is : {e : Entry} → row_of c first line ≡ Row.Used e → Usable c e
  used-is h = usable (subst (LineIs c first line) h (line-is c first line))

  pub refused-is : {number : ℕ} → row_of c first line ≡ Row.Refused number → RefusesRow number
  refused-is h = number_in (subst (LineIs c first line) h (line-is c first line))
