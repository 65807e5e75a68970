-- Whether a value stands in a list, over any type with a test, and what one value more or another value in a place changes of it. Assumes nothing.
use mathlib.Core.Path.{◌≡◌, sym, ◌∙◌}
use mathlib.Core.Bool.{Bool, true, false, cond, ◌||◌}
use mathlib.Core.List.{List, [], ◌∷◌, ◌++◌}
use Prim.Native.Nat.{ℕ, zero, suc}
use native.Mathlib.Omega.{arith}
use lib.Dec.{ltb, leb-suc-suc}
use lib.ListN.{length, set}
use borrow.Author.Tests.{lt-ltb}
use Rattle.whole.proofs.Any.{neither}
use Rattle.grid.specs.Slots.{slot_of, among}

module _ {A : Type 0} (same : A → A → Bool) where
  pub among-cons : (y : A) (ys : List A) (x : A) → among same (y ∷ ys) x ≡ (same y x || among same ys x)
  unfolding slot_of
  among-cons y ys x = go (same y x)
    where
      go : (t : Bool) → ltb (cond t zero (suc (slot_of same ys x))) (suc (length ys)) ≡ (t || among same ys x)
      go true = lt-ltb 0 (suc (length ys)) (omega arith)
      go false = leb-suc-suc (suc (slot_of same ys x)) (length ys)

  -- a list in which x does not stand
  pub not_first : (y : A) (ys : List A) (x : A) → among same (y ∷ ys) x ≡ false → (same y x ≡ false) × (among same ys x ≡ false)
  not_first y ys x e = neither (same y x) (among same ys x) (sym (among-cons y ys x) ∙ e)

  pub not_more : (y : A) (ys : List A) (x : A) → same y x ≡ false → among same ys x ≡ false → among same (y ∷ ys) x ≡ false
  not_more y ys x e f = rw (among-cons y ys x, e) f

  -- it does not where another value is put in a place, and where one is put behind the last
  pub not-after-set : (l : List A) (i : ℕ) (t x : A) → same t x ≡ false → among same l x ≡ false → among same (set l i t) x ≡ false
  not-after-set [] i t x e f = f
  not-after-set (y ∷ ys) zero t x e f = not_more t ys x e (not_first y ys x f).1
  not-after-set (y ∷ ys) (suc i) t x e f =
      let h = not_first y ys x f in not_more y (set ys i t) x h.0 (not-after-set ys i t x e h.1)

  pub not_behind : (l : List A) (t x : A) → same t x ≡ false → among same l x ≡ false → among same (l ++ (t ∷ [])) x ≡ false
  not_behind [] t x e f = not_more t [] x e f
  not_behind (y ∷ ys) t x e f =
      let h = not_first y ys x f in not_more y (ys ++ (t ∷ [])) x h.0 (not_behind ys t x e h.1)
