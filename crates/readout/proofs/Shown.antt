-- The display: what is tested of the scale, and that a double holds every count. Assumes nothing.
use mathlib.Core.Path.{◌≡◌, refl, sym, ap, ◌∙◌}
use mathlib.Core.Bool.{true, false}
use mathlib.Core.List.{List}
use Prim.Native.Nat.{ℕ, ◌^◌, ◌≤◌, ◌<◌}
use native.Mathlib.Omega.{arith}
use borrow.Author.Tests.{le-leb, lt-leb}
use lib.Dec.{T, le→leb, lt→ltb, lit<}
use lib.IntN.{ℤ, pos, negsuc, nat_abs}
use lib.Ieee.{Float, binary64, of_bits, of_int, in_float, lt, le}
use Rattle.whole.proofs.Nearest.{nearest-within}
use Rattle.phase.specs.Turn.{Quarter}
use Rattle.reader.specs.declared.record.Record.{Record}
use Rattle.readout.specs.Display.{is_usable, count_of, reading_of, shown, display_by}
use Rattle.load.specs.Force.{load_by}
use Rattle.seaway.specs.declared.sea.Sea.{Sea}
use Rattle.load.specs.Answers.{Load}
use Rattle.readout.specs.declared.display.Reading.{Reading}
use Rattle.readout.specs.Told.{Display}

-- ---- a count that a double holds exactly

-- a force's count, below 2^53
pub count_small : (force : ℤ) → nat_abs force ≤ 3_200_000_000_000_000_000 → nat_abs (count_of force) ≤ 3_200_000_000_000_000
unfolding count_of
count_small force h = nearest-within force 1_000 3_200_000_000_000_000 (lit< tt) h

pub held : (n : ℤ) → nat_abs n < 2 ^ 53 → T (in_float binary64 n)
unfolding in_float
held (pos a) h = le→leb a (2 ^ 53) (omega arith)
held (negsuc a) h = lt→ltb a (2 ^ 53) (omega arith)

-- ---- the scale. A constant stands in the code by its bits

pub zero_is : of_bits binary64 0 ≡ of_int binary64 (pos 0)
unfolding of_bits of_int
zero_is = refl

thousand-is : of_bits binary64 4652007308841189376 ≡ of_int binary64 (pos 1000)
unfolding of_bits of_int
thousand-is = refl

module _ (x : Float) where
  pub above : lt (of_bits binary64 0) x ≡ true → le x (of_bits binary64 4652007308841189376) ≡ is_usable x
  unfolding is_usable
  above p = rw (← zero_is, ← thousand-is, p) refl

  pub not-above : lt (of_bits binary64 0) x ≡ false → false ≡ is_usable x
  unfolding is_usable
  not-above p = rw (← zero_is, p) refl

-- ---- the answers, from the load

module _ (clock : Quarter) (r : Record) (cells : List ℤ) (sea : Sea) (t : ℕ) (scale : Float) (load : Load) (e : load ≡ load_by clock r cells sea t) where
  pub load-refused : (number line : ℕ) → load ≡ Load.Refused number line → Display.Refused number line ≡ display_by clock r cells sea t scale
  unfolding display_by shown
  load-refused number line f = ap (shown r scale) (sym f ∙ e)

  module _ (mean whole : ℤ) (f : load ≡ Load.Both mean whole) where
    of-load : shown r scale (Load.Both mean whole) ≡ display_by clock r cells sea t scale
    unfolding display_by
    of-load = ap (shown r scale) (sym f ∙ e)

    pub unusable : is_usable scale ≡ false → Display.Refused 16 0 ≡ display_by clock r cells sea t scale
    unfolding shown
    unusable u = rw u at of-load

    module _ (u : is_usable scale ≡ true) (reading : Reading) (g : reading ≡ reading_of r.choices.kind scale mean whole) where
      pub a-force : r.choices.component ≤ 3 → Display.Force reading ≡ display_by clock r cells sea t scale
      unfolding shown
      a-force c = rw g (rw (u, le-leb r.choices.component 3 c) at of-load)

      pub a-moment : 3 < r.choices.component → Display.Moment reading ≡ display_by clock r cells sea t scale
      unfolding shown
      a-moment c = rw g (rw (u, lt-leb r.choices.component 3 c) at of-load)
