-- A decimal as a quantity of a row: the model's test, what the code is told of it, and what the rules say of it are one. Assumes nothing.
use Rattle.std.specs.Prelude.{Some, None, is_some}
use mathlib.Core.Path.{◌≡◌, refl, sym, subst}
use mathlib.Core.Bool.{Bool, true, false, cond, ◌&&◌}
use Prim.Native.Nat.{ℕ}
use native.Mathlib.Omega.{arith}
use lib.Dec.{T}
use lib.IntN.{ℤ}
use lib.Signed.{le_z, le_z_yes}
use Rattle.field.specs.declared.decimal.Decimal.{Decimal}
use Rattle.field.specs.Units.{units, in_range, in_units}
use Rattle.row.specs.declared.ranges.Quantity.{Quantity}
use Rattle.row.specs.Ranges.{measure}
use Rattle.row.specs.LineRules.{Between}
use Rattle.row.specs.own.Rows.{is_in}
use Rattle.row.proofs.Deciding.{both}

is_true : (t : Bool) → T t → t ≡ true
is_true true h = refl
is_true false h = absurd h

module _ (q : Quantity) (d : Decimal) where
  pub between_is : is_in q d ≡ true → Between q.least q.most (units d q.places)
  unfolding is_in
  between_is e =
      let h = both (le_z q.least (units d q.places)) (le_z (units d q.places) q.most) e in
      record { above = le_z_yes (subst T (sym h.0) tt); below = le_z_yes (subst T (sym h.1) tt) }

  pub is-between : Between q.least q.most (units d q.places) → is_in q d ≡ true
  unfolding is_in
  is-between b =
      rw (is_true (le_z q.least (units d q.places)) b.above.le) (is_true (le_z (units d q.places) q.most) b.below.le)

  -- what the code is told
  pub measured-in : {z : ℤ} → measure q d ≡ Some z → (is_in q d ≡ true) × (z ≡ units d q.places)
  unfolding in_units in_range is_in
  measured-in {z} e = go (is_in q d) e
    where
      go : (t : Bool) → cond t (Some (units d q.places)) None ≡ Some z → (t ≡ true) × (z ≡ units d q.places)
      go true e = (refl, cc)
      go false e = let w : ◌≡◌ {A = ℕ} 0 1 = cc in absurd (omega arith)

  pub measured-some : is_some (measure q d) ≡ is_in q d
  unfolding in_units in_range is_in
  measured-some = go (le_z q.least (units d q.places) && le_z (units d q.places) q.most)
    where
      go : (t : Bool) → is_some (cond t (Some (units d q.places)) None) ≡ t
      go true = refl
      go false = refl

  pub measured-out : measure q d ≡ None → is_in q d ≡ false
  unfolding in_units in_range is_in
  measured-out e = go (is_in q d) e
    where
      go : (t : Bool) → cond t (Some (units d q.places)) None ≡ None → t ≡ false
      go true e = let w : ◌≡◌ {A = ℕ} 0 1 = cc in absurd (omega arith)
      go false e = refl
