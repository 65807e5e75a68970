-- The three choices in the paper's words are those that the test of the model takes. Assumes nothing.
use mathlib.Core.Bool.{Bool, true, false, ◌&&◌}
use mathlib.Core.Logic.{◌⊎◌, inl, inr, ⊎_elim}
use mathlib.Core.Path.{◌≡◌, refl}
use Prim.Native.Nat.{ℕ, ◌≤◌}
use native.Mathlib.Omega.{arith}
use lib.Dec.{eqb, leb}
use borrow.Author.Tests.{eqb-true, eqb-false, leb-true, le-leb}
use Rattle.row.proofs.Deciding.{both}
use Rattle.row.specs.declared.reading.Choices.{Choices}
use Rattle.reader.specs.Valid.{valid_choices}
use Rattle.promises_calls.specs.Choices.{ChoicesAsked, ChoicesExactly}

zero-or-one : (n : ℕ) → n ≤ 1 → (n ≡ 0) ⊎ (n ≡ 1)
zero-or-one n h = go (eqb n 0) refl
  where
    go : (t : Bool) → eqb n 0 ≡ t → (n ≡ 0) ⊎ (n ≡ 1)
    go true e = inl (eqb-true n 0 e)
    go false e = let other : n ≡ 0 → ⊥ = eqb-false n 0 e in inr (omega (arith, other))

at_most_one : (n : ℕ) → (n ≡ 0) ⊎ (n ≡ 1) → leb n 1 ≡ true
at_most_one n w = let h : n ≤ 1 = ⊎_elim (λ e. omega arith) (λ e. omega arith) w in le-leb n 1 h

module _ (c : Choices) where
  choices-are : valid_choices c ≡ true → ChoicesAsked c
  unfolding valid_choices
  choices-are e =
      let f = both (leb c.kind 1) (leb 1 c.component && (leb c.component 6 && leb c.coverage 1)) e in
      let g = both (leb 1 c.component) (leb c.component 6 && leb c.coverage 1) f.1 in
      let h = both (leb c.component 6) (leb c.coverage 1) g.1 in
      record {
        kind = zero-or-one c.kind (leb-true c.kind 1 f.0);
        component = (leb-true 1 c.component g.0, leb-true c.component 6 h.0);
        coverage = zero-or-one c.coverage (leb-true c.coverage 1 h.1);
      }

  are-choices : ChoicesAsked c → valid_choices c ≡ true
  unfolding valid_choices
  are-choices a =
      rw (
        at_most_one c.kind a.kind,
        le-leb 1 c.component a.component.0,
        le-leb c.component 6 a.component.1,
      )
      (at_most_one c.coverage a.coverage)

pub choices-exactly : ChoicesExactly
choices-exactly c = (choices-are c, are-choices c)
