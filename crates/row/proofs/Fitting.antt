-- The modulus of an entry against its parts: the model's test and what the rules say of it are one. Assumes nothing.
use mathlib.Core.Path.{◌≡◌}
use mathlib.Core.Bool.{true}
use Prim.Native.Nat.{ℕ, ◌+◌, ◌-◌, ◌≤◌, ◌<◌}
use borrow.Author.Tests.{leb-true, le-leb, lt-leb}
use lib.Dec.{leb}
use lib.IntN.{ℤ}
use Rattle.row.specs.Fit.{slack, square, both_squares, ModulusFits}
use Rattle.row.specs.own.Rows.{is_fit}
use Rattle.row.proofs.Deciding.{both}

module _ (m : ℕ) (re im : ℤ) where
  pub fit_is : is_fit m re im ≡ true → ModulusFits m re im
  unfolding is_fit
  fit_is e =
      let h = both (leb (square (m - slack m)) (both_squares re im)) (leb (both_squares re im) (square (m + slack m))) e in
      record { no_less = leb-true _ _ h.0; no_more = leb-true _ _ h.1 }

  pub is-fit : ModulusFits m re im → is_fit m re im ≡ true
  unfolding is_fit
  is-fit f = rw (le-leb (square (m - slack m)) (both_squares re im) f.no_less) (le-leb (both_squares re im) (square (m + slack m)) f.no_more)

  -- what the code's two tests decide, by the numbers that it compares
  module _ {low sum : ℕ} (low-is : low ≡ square (m - slack m)) (sum_is_lem : sum ≡ both_squares re im) where
    pub too_small : sum < low → leb low sum ≡ is_fit m re im
    unfolding is_fit
    too_small h = rw (← low-is, ← sum_is_lem, lt-leb low sum h)

    pub at_most : {high : ℕ} → high ≡ square (m + slack m) → low ≤ sum → leb sum high ≡ is_fit m re im
    unfolding is_fit
    at_most high_is h = rw (← low-is, ← sum_is_lem, ← high_is, le-leb low sum h)
