-- Tests of equality with what they decide: numbers, nodes and values. Assumes nothing.
use mathlib.Core.Bool.{Bool, true, false}
use mathlib.Core.Path.{◌≡◌, refl, subst}
use Prim.Native.Nat.{ℕ}
use lib.Dec.{eqb}
use lib.IntN.{ℤ}
use borrow.Author.Tests.{eqb-true, eq-eqb}
use Rattle.whole.specs.Same.{same_ℤ}
use Rattle.whole.specs.Complex.{Complex}
use Rattle.whole.proofs.Same.{same_ℤ-true, same_ℤ-yes}
use Rattle.row.proofs.Deciding.{both}
use Rattle.grid.specs.declared.nodes.Node.{Node}
use Rattle.table.specs.Cells.{same_value}

-- a test of equality
pub record Same (A : Type 0) : Type 0 where
  pub eq : A → A → Bool
  pub sound : (a b : A) → eq a b ≡ true → a ≡ b
  pub self : (a : A) → eq a a ≡ true

pub same_true : {A : Type 0} (E : Same A) (a b : A) → a ≡ b → E.eq a b ≡ true
same_true E a b e = subst (λ (z : _). E.eq a z ≡ true) e (E.self a)

pub same_false : {A : Type 0} (E : Same A) (a b : A) → (a ≡ b → ⊥) → E.eq a b ≡ false
same_false E a b n = go (E.eq a b) refl
  where
    go : (t : Bool) → E.eq a b ≡ t → t ≡ false
    go true e = absurd (n (E.sound a b e))
    go false e = refl

abbrev pub Same_ℕ : Same ℕ
Same_ℕ = record { eq = eqb; sound = eqb-true; self = λ a. eq-eqb a a refl }

abbrev pub Same_ℤ : Same ℤ
Same_ℤ = record { eq = same_ℤ; sound = same_ℤ-true; self = λ a. same_ℤ-yes a a refl }

-- ---- nodes and values

pub node-path : {a b : Node} → a.tick ≡ b.tick → a.heading ≡ b.heading → a ≡ b
node-path p q = λ i. record { tick = p i; heading = q i }

pub value-path : {v w : Complex} → v.re ≡ w.re → v.im ≡ w.im → v ≡ w
value-path p q = λ i. record { re = p i; im = q i }

pub same_value-true : (v w : Complex) → same_value v w ≡ true → v ≡ w
unfolding same_value
same_value-true v w e =
    let f = both (same_ℤ v.re w.re) (same_ℤ v.im w.im) e in
    value-path (same_ℤ-true v.re w.re f.0) (same_ℤ-true v.im w.im f.1)

pub same_value-self : (v : Complex) → same_value v v ≡ true
unfolding same_value
same_value-self v = rw (same_ℤ-yes v.re v.re refl) (same_ℤ-yes v.im v.im refl)
