-- The test `among` of the table's specs tells whether a value stands in a list. Assumes nothing.
use mathlib.Core.Path.{◌≡◌, sym, ◌∙◌}
use mathlib.Core.Bool.{true, false, false≢true}
use mathlib.Core.List.{List, Memᴰ}
use Prim.Native.Nat.{ℕ}
use lib.Dec.{eqb}
use lib.IntN.{ℤ}
use Rattle.whole.specs.Same.{same_ℤ}
use Rattle.grid.specs.Slots.{among}
use Rattle.promises_rows.proofs.Equality.{Same, Same_ℕ, Same_ℤ}
use Rattle.promises_rows.proofs.Arriving.{among_in, in-among, in-member, member-in}

module _ {A : Type 0} (E : Same A) where
  among-mem : (l : List A) (x : A) → among E.eq l x ≡ true → Memᴰ x l
  among-mem l x e = in-member E l x (among_in E l x e)

  mem-among : (l : List A) (x : A) → Memᴰ x l → among E.eq l x ≡ true
  mem-among l x m = in-among E l x (member-in E m)

-- of frequencies, and of headings
pub tick-mem : (l : List ℕ) (f : ℕ) → among eqb l f ≡ true → Memᴰ f l
tick-mem = among-mem Same_ℕ

pub mem-tick : (l : List ℕ) (f : ℕ) → Memᴰ f l → among eqb l f ≡ true
mem-tick = mem-among Same_ℕ

pub heading-mem : (l : List ℤ) (h : ℤ) → among same_ℤ l h ≡ true → Memᴰ h l
heading-mem = among-mem Same_ℤ

pub mem-heading : (l : List ℤ) (h : ℤ) → Memᴰ h l → among same_ℤ l h ≡ true
mem-heading = mem-among Same_ℤ

pub no-heading : (l : List ℤ) (h : ℤ) → among same_ℤ l h ≡ false → Memᴰ h l → ⊥
no-heading l h e m = false≢true (sym e ∙ mem-heading l h m)
