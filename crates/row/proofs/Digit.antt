-- The component's field: one byte, a digit from 1 to 6. Assumes nothing.
use Rattle.std.proofs.Common.{◌≡◌, refl, Bool, true, false, cond, ◌&&◌, leb, Some, None, List, [], ◌∷◌, ℕ, ◌-◌, ◌≤◌, length, get_or, arith}
use borrow.Author.Tests.{le-leb, leb-true}
use Rattle.row.specs.own.Values.{component_of}

pub component-is : (w : List ℕ) → length w ≡ 1 → 49 ≤ get_or w 0 0 → get_or w 0 0 ≤ 54 → Some (get_or w 0 0 - 48) ≡ component_of w
unfolding component_of
component-is [] h low high = absurd (omega arith)
component-is (b ∷ []) h low high = simp (le-leb _ _ low, le-leb _ _ high)
component-is (b ∷ d ∷ w) h low high = absurd (omega arith)

pub component-none : (w : List ℕ) → (length w ≡ 1 → 49 ≤ get_or w 0 0 → get_or w 0 0 ≤ 54 → ⊥) → None ≡ component_of w
unfolding component_of
component-none [] h = refl
component-none (b ∷ []) h = go (leb 49 b) (leb b 54) refl refl
  where
    go : (s t : Bool) → leb 49 b ≡ s → leb b 54 ≡ t → None ≡ cond (s && t) (Some (b - 48)) None
    go true true p q = absurd (h (omega arith) (leb-true 49 b p) (leb-true b 54 q))
    go true false p q = refl
    go false t p q = refl
component-none (b ∷ d ∷ w) h = refl
