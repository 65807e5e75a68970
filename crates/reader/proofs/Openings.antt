-- What opening comes to, one law for each outcome: 1 where a lent slice is too short, 2 where a choice is not one of document 01's, and else a reader that is
-- open, over slices of zeros. Assumes nothing.
use mathlib.Core.Path.{◌≡◌}
use mathlib.Core.Bool.{true, false}
use mathlib.Core.List.{List, ◌++◌}
use Prim.Native.Nat.{ℕ, ◌≤◌, ◌<◌}
use lib.IntN.{ℤ, pos}
use lib.ListN.{length, drop, replicate}
use borrow.Author.Tests.{lt-ltb, le-ltb}
use Rattle.row.specs.declared.reading.Choices.{Choices}
use Rattle.table.specs.Cells.{cells_lent, flags_lent}
use Rattle.reader.specs.Valid.{valid_choices}
use Rattle.reader.specs.declared.reader.Answer.TheVariants as Answer
use Rattle.reader.specs.Model.{Out, out, state_of, too_short, refusal, fresh, never, open_of}

-- ---- a lent slice is too short, or neither is

pub short-cells : (cells flags : ℕ) → cells < cells_lent → too_short cells flags ≡ true
unfolding too_short
short-cells cells flags h = rw (lt-ltb cells cells_lent h)

pub short-flags : (cells flags : ℕ) → cells_lent ≤ cells → flags < flags_lent → too_short cells flags ≡ true
unfolding too_short
short-flags cells flags h k = rw (le-ltb cells cells_lent h, lt-ltb flags flags_lent k)

pub long_enough : (cells flags : ℕ) → cells_lent ≤ cells → flags_lent ≤ flags → too_short cells flags ≡ false
unfolding too_short
long_enough cells flags h k = rw (le-ltb cells cells_lent h, le-ltb flags flags_lent k)

-- ---- outcomes

module _ (c : Choices) (cells : List ℤ) (flags : List ℕ) where
  abbrev refused : ℕ → Out
  refused number = out (state_of never cells flags) (refusal never number)

  pub opened-short : too_short (length cells) (length flags) ≡ true → open_of c cells flags ≡ refused 1
  unfolding open_of
  opened-short h = rw h

  module _ (long : too_short (length cells) (length flags) ≡ false) where
    pub opened-wrong : valid_choices c ≡ false → open_of c cells flags ≡ refused 2
    unfolding open_of
    opened-wrong h = rw (long, h)

    pub opened-right :
        valid_choices c ≡ true
        → open_of c cells flags
        ≡ out
        (state_of (fresh 1 c) (replicate 12_800 (pos 0) ++ drop 12_800 cells) (replicate 6_400 0 ++ drop 6_400 flags))
        Answer.Going
    unfolding open_of
    opened-right h = rw (long, h)
