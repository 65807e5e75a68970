-- The neighbour of a value, by any order, so that one law serves the neighbour below and, with the order turned round, the one above: what it is among the values that
-- are held, and among slots, where 0 stands for none. Assumes nothing.
use Rattle.std.proofs.Common.{◌≡◌, ℕ, zero, suc, ◌<◌, ◌≤◌, Bool, true, false, cond, eqb, leb, List, [], ◌∷◌, length, get_or, sym, refl, ap, ◌∙◌, subst, ⊎_elim, le_trans, le_refl, arith, ne_eqb, leb-false, leb-true, Option, Some, None, unwrap_or}
use mathlib.Core.List.Memᴰ
use mathlib.Core.List.{Memᴰ}
use native.Mathlib.Decide.{dec_lt}
use borrow.Author.Tests.{eqb-false}
use Rattle.whole.proofs.OrderLaws.{cond_ind}
use Rattle.row.proofs.Used.{by-test}
use Rattle.grid.specs.Slots.{held_ticks}
use Rattle.neighbours.specs.Standing.{kept, nearest_of, low_of, high_of}

-- what holds of a value, where one was found
abbrev pub OfSome : {A : Type 0} → (A → Type 0) → Option A → Type 0
OfSome P None = Unit
OfSome P (Some z) = P z

-- ---- the nearest

module _ (Le : ℕ → ℕ → Type 0) (f : ℕ) where
  -- none is at most f; or one that is is at least all that are
  pub data Nearest (l : List ℕ) : Option ℕ → Type 0 where
    none_below : ((k : ℕ) → Memᴰ k l → Le k f → ⊥) → Nearest l None
    nearest : {g : ℕ} → Memᴰ g l → Le g f → ((k : ℕ) → Memᴰ k l → Le k f → Le k g) → Nearest l (Some g)

  module _
      (le : ℕ → ℕ → Bool)
      (is_le : (a b : ℕ) → le a b ≡ true → Le a b)
      (turned : (a b : ℕ) → le a b ≡ false → Le b a)
      (not-le : (a b : ℕ) → le a b ≡ false → Le a b → ⊥)
      (self : (a : ℕ) → Le a a)
      (trans : (a b c : ℕ) → Le a b → Le b c → Le a c)
    where
      -- one more that is at most f
      joins : (y : ℕ) (ys : List ℕ) (o : Option ℕ) → Le y f → Nearest ys o → Nearest (y ∷ ys) (kept (λ a b. le b a) y o)
      unfolding kept
      joins y ys None s (none_below n) =
          nearest (Memᴰ.head refl) s
          (λ k m t. ⊎_elim (λ (e : k ≡ y). subst (λ (z : ℕ). Le z y) (sym e) (self y)) (λ j. absurd (n k j t)) (Memᴰ.cases_cons m))
      joins y ys (Some z) s (nearest m t n) =
          by-test (Nearest (y ∷ ys)) (le z y) _ _
          (λ e.
          nearest (Memᴰ.head refl) s
          (λ k j u. ⊎_elim
          (λ (i : k ≡ y). subst (λ (x : ℕ). Le x y) (sym i) (self y))
          (λ j. trans k z y (n k j u) (is_le z y e))
          (Memᴰ.cases_cons j)))
          (λ e.
          nearest (Memᴰ.tail m) t
          (λ k j u. ⊎_elim (λ (i : k ≡ y). subst (λ (x : ℕ). Le x z) (sym i) (turned z y e)) (λ j. n k j u) (Memᴰ.cases_cons j)))

      -- one more that is not
      passes : (y : ℕ) (ys : List ℕ) (o : Option ℕ) → (Le y f → ⊥) → Nearest ys o → Nearest (y ∷ ys) o
      passes y ys None s (none_below n) =
          none_below (λ k m t. ⊎_elim (λ (e : k ≡ y). s (subst (λ (z : ℕ). Le z f) e t)) (λ j. n k j t) (Memᴰ.cases_cons m))
      passes y ys (Some z) s (nearest m t n) =
          nearest (Memᴰ.tail m) t
          (λ k j u. ⊎_elim (λ (e : k ≡ y). absurd (s (subst (λ (z : ℕ). Le z f) e u))) (λ j. n k j u) (Memᴰ.cases_cons j))

      nearest-is : (l : List ℕ) → Nearest l (nearest_of le l f)
      unfolding nearest_of
      nearest-is [] = none_below (λ k m t. Memᴰ.not-nil m)
      nearest-is (y ∷ ys) =
          let rest = nearest-is ys in
          by-test (Nearest (y ∷ ys)) (le y f) _ _
          (λ e. joins y ys (nearest_of le ys f) (is_le y f e) rest)
          (λ e. passes y ys (nearest_of le ys f) (not-le y f e) rest)

  -- what holds of all that are at most f holds of the nearest
  pub nearest-of : {P : ℕ → Type 0} {l : List ℕ} {o : Option ℕ} → Nearest l o → ((y : ℕ) → Memᴰ y l → Le y f → P y) → OfSome P o
  nearest-of (none_below n) all = tt
  nearest-of (nearest m s n) all = all _ m s

  module _ (only : (a b : ℕ) → Le a b → Le b a → a ≡ b) where
    -- a value that is held is the nearest to itself
    pub nearest-self : {l : List ℕ} {o : Option ℕ} → Nearest l o → Le f f → Memᴰ f l → o ≡ Some f
    nearest-self (none_below n) self m = absurd (n f m self)
    nearest-self (nearest h s n) self m = ap Some (only _ f s (n f m self))

-- ---- both neighbours

not-at-most : (a b : ℕ) → leb a b ≡ false → a ≤ b → ⊥
not-at-most a b e h = let n : b < a = leb-false a b e in omega arith

at_least : (a b : ℕ) → leb a b ≡ false → b ≤ a
at_least a b e = let n : b < a = leb-false a b e in omega arith

module _ (l : List ℕ) (f : ℕ) where
  pub low-is : Nearest ◌≤◌ f l (low_of leb l f)
  low-is = nearest-is ◌≤◌ f leb leb-true at_least not-at-most le_refl (λ a b c h k. le_trans h k) l

  pub high_is : Nearest (λ a b. b ≤ a) f l (high_of leb l f)
  high_is =
      nearest-is (λ a b. b ≤ a) f (λ a b. leb b a)
      (λ a b e. leb-true b a e)
      (λ a b e. at_least b a e)
      (λ a b e. not-at-most b a e)
      le_refl
      (λ a b c h k. le_trans k h)
      l

-- ---- among slots, where 0 stands for none

-- what holds of each slot's tick but 0 holds of every tick that is held
pub each-held : (P : ℕ → Type 0) (ticks : List ℕ) → ((j : ℕ) → j < length ticks → 0 < get_or ticks j 0 → P (get_or ticks j 0)) → (t : ℕ) → Memᴰ t (held_ticks ticks) → P t
unfolding held_ticks
each-held P [] all t m = absurd (Memᴰ.not-nil m)
each-held P (s ∷ ss) all t m = go (eqb s 0) refl (each-held P ss (λ j h k. all (suc j) (omega arith) k) t) m
  where
    go : (b : Bool) → eqb s 0 ≡ b → (Memᴰ t (held_ticks ss) → P t) → Memᴰ t (cond b (held_ticks ss) (s ∷ held_ticks ss)) → P t
    go true e below m = below m
    go false e below m =
        ⊎_elim
        (λ (i : t ≡ s). subst P (sym i) (all 0 (omega arith) (let n : s ≡ 0 → ⊥ = eqb-false s 0 e in omega (arith, n))))
        below
        (Memᴰ.cases_cons m)

-- a tick that is held is not 0
pub held-above : (ticks : List ℕ) (t : ℕ) → Memᴰ t (held_ticks ticks) → 0 < t
held-above ticks = each-held (λ t. 0 < t) ticks (λ j h k. k)

-- and what a slot holds but 0 is held
held_at : (ticks : List ℕ) (j : ℕ) → 0 < get_or ticks j 0 → Memᴰ (get_or ticks j 0) (held_ticks ticks)
unfolding held_ticks
held_at [] j h = absurd (omega arith)
held_at (s ∷ ss) zero h = rw (ne_eqb s 0 (λ e. omega arith)) (Memᴰ.head refl)
held_at (s ∷ ss) (suc j) h =
    cond_ind (Memᴰ (get_or ss j 0)) (eqb s 0) (λ t. held_at ss j h) (λ t. Memᴰ.tail (held_at ss j h))

-- what a slot holds, and the number for it
abbrev pub held_by : ℕ → Option ℕ
held_by t = cond (eqb t 0) None (Some t)

abbrev word : Option ℕ → ℕ
word o = unwrap_or o 0

-- the one below is at most f
pub low-most : {f t : ℕ} {l : List ℕ} → Nearest ◌≤◌ f l (Some t) → t ≤ f
low-most (nearest m s _) = s

module _ {Le : ℕ → ℕ → Type 0} {f : ℕ} (ticks : List ℕ) where
  -- one that was found is held, so it is not 0
  pub nearest-above : {t : ℕ} → Nearest Le f (held_ticks ticks) (Some t) → 0 < t
  nearest-above (nearest m s _) = held-above ticks _ m

  word-back : {o : Option ℕ} → Nearest Le f (held_ticks ticks) o → held_by (word o) ≡ o
  word-back (none_below _) = refl
  word-back (nearest {g = g} m s _) = let above = held-above ticks _ m in rw (ne_eqb g 0 (λ e. omega arith)) refl

  -- what a slot holds is the nearest, where it suits and is at least all that suit
  module _ (only : (a b : ℕ) → Le a b → Le b a → a ≡ b) (p : ℕ)
      (suits : 0 < get_or ticks p 0 → Le (get_or ticks p 0) f)
      (most : (j : ℕ) → j < length ticks → 0 < get_or ticks j 0 → Le (get_or ticks j 0) f → (0 < get_or ticks p 0) × Le (get_or ticks j 0) (get_or ticks p 0))
    where
      is_word : {o : Option ℕ} → Nearest Le f (held_ticks ticks) o → get_or ticks p 0 ≡ word o
      is_word (none_below empty) =
          elim (dec_lt 0 (get_or ticks p 0)) [ yes h ↦ absurd (empty _ (held_at ticks p h) (suits h)) | no h ↦ omega (arith, h) ]
      is_word (nearest m s all) =
          let (above, up) = each-held (λ t. Le t f → (0 < get_or ticks p 0) × Le t (get_or ticks p 0)) ticks most _ m s in
          only _ _ (all _ (held_at ticks p above) (suits above)) up

      pub slot-nearest : {o : Option ℕ} → Nearest Le f (held_ticks ticks) o → held_by (get_or ticks p 0) ≡ o
      slot-nearest n = ap held_by (is_word n) ∙ word-back n
