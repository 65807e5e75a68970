-- The order of ℤ. `◌≤ℤ◌` and `◌<ℤ◌` are `lib.Signed`'s, the orders that a signed comparison in code decides; their laws there are few.
-- Here: a ≤ b says that b is a + n for a natural n (`diff-of-le`, `le-of-diff`), and with that each law is an equation for `ring`.
-- `by-rest` proves an order between polynomials: b = a + s by `ring`, where s is not negative (`nonneg-+`, `nonneg-*`, `nonneg-square`,
-- `nonneg-of-le`). Assumes nothing.
use mathlib.Core.Path.{◌≡◌, refl, sym, ◌∙◌, ap, subst}
use mathlib.Core.List.{List, [], ◌∷◌}
use mathlib.Core.Bool.{Bool, true, false, not, cond}
use mathlib.Core.Logic.{◌⊎◌, inl, inr, ⊎_elim}
use Prim.Native.Nat.{ℕ, suc, ◌+◌, ◌*◌, ◌-◌, ◌≤◌, ◌<◌}
use native.Mathlib.Nat.{le-add_right, le_antisymm, le_dest, le_of_lt, sub-add_cancel}
use native.Mathlib.Omega.{arith}
use lib.Dec.{T, ltb, leb→le, le→leb, ltb→lt, nltb→le}
use lib.IntN.{ℤ, pos, negsuc, neg_ℤ, nat_abs, sub_ℕ, ◌+ℤ◌, ◌-ℤ◌, ◌*ℤ◌, +ℤ_assoc, +ℤ_idl, +ℤ-neg_ℤ_cancel}
use lib.Signed.{◌≤ℤ◌, ◌<ℤ◌, le_z, lt_z, le_z_yes, lt_z_yes, lt_z_no, ≤ℤ_refl}
use Rattle.whole.proofs.Ring.{Expr, v, ◌⊕◌, ◌⊖◌, ◌⊗◌, ⊝◌, ring, eval, agree}

-- ---- cases: what `sub_ℕ` picks

-- what holds of both picks of a test, each where the test picks it, holds of the pick
pub cond_ind {ℓ} : {A : Type 0} (P : A → Type ℓ) (c : Bool) {x y : A} → (T c → P x) → (T (not c) → P y) → P (cond c x y)
cond_ind P true f g = f tt
cond_ind P false f g = g tt

-- a difference of naturals is one of the two, and which is known
pub subℕ-ind {ℓ} : (P : ℤ → Type ℓ) (a b : ℕ) → (a < b → P (negsuc (b - suc a))) → (b ≤ a → P (pos (a - b))) → P (sub_ℕ a b)
subℕ-ind P a b f g = cond_ind P (ltb a b) (λ t. f (ltb→lt a b t)) (λ t. g (nltb→le a b t))

-- ---- the order of the naturals, in ℤ and back

pub pos-le : {m n : ℕ} → m ≤ n → pos m ≤ℤ pos n
pos-le {m} {n} h = le_z_yes (le→leb m n h)

pub le-pos : {m n : ℕ} → pos m ≤ℤ pos n → m ≤ n
le-pos {m} {n} h = leb→le m n h.le

-- a difference of naturals that does not go below 0, in ℤ
pub pos-sub : {m n : ℕ} → n ≤ m → pos (m - n) ≡ pos m -ℤ pos n
pos-sub {m} {n} h =
    sym (+ℤ-neg_ℤ_cancel (pos (m - n)) (pos n)) ∙ ap (λ (k : ℕ). pos k -ℤ pos n) (sub-add_cancel h)

-- ---- a ≤ b is: b is a + n

-- (`◌≤ℤ◌` binds closer than `◌+ℤ◌`, so a sum beside it stands in parentheses)
le-plus : (a : ℤ) (n : ℕ) → a ≤ℤ (a +ℤ pos n)
le-plus (pos x) n = pos-le (le-add_right x n)
le-plus (negsuc x) n =
    subℕ-ind (λ z. negsuc x ≤ℤ z) n (suc x)
    (λ h. le_z_yes (le→leb (suc x - suc n) x (omega arith)))
    (λ h. le_z_yes tt)

pub le-of-diff : {a b : ℤ} (n : ℕ) → a +ℤ pos n ≡ b → a ≤ℤ b
le-of-diff {a} {b} n e = subst (λ z. a ≤ℤ z) e (le-plus a n)

diff : (a b : ℤ) → T (le_z a b) → (n : ℕ) × (a +ℤ pos n ≡ b)
diff (pos x) (pos y) t = let (k, e) = le_dest (leb→le x y t) in (k, ap pos e)
diff (pos x) (negsuc y) t = absurd t
diff (negsuc x) (pos y) t = (y + suc x, ring (pos (suc x) ∷ pos y ∷ []) (⊝ v 0 ⊕ (v 1 ⊕ v 0)) (v 1) tt)
diff (negsuc x) (negsuc y) t =
    let (k, e) = le_dest (leb→le y x t) in
    let f : suc x ≡ k + suc y = omega arith in
    (k, ap (λ (z : ℕ). neg_ℤ (pos z) +ℤ pos k) f ∙ ring (pos k ∷ pos (suc y) ∷ []) (⊝ (v 0 ⊕ v 1) ⊕ v 0) (⊝ v 1) tt)

pub diff-of-le : {a b : ℤ} → a ≤ℤ b → (n : ℕ) × (a +ℤ pos n ≡ b)
diff-of-le {a} {b} h = diff a b h.le

-- ---- the laws

pub ≤ℤ-trans : {a b c : ℤ} → a ≤ℤ b → b ≤ℤ c → a ≤ℤ c
≤ℤ-trans {a} {b} {c} h k =
    let (m, e) = diff-of-le h in
    let (n, f) = diff-of-le k in
    le-of-diff (m + n) (sym (+ℤ_assoc a (pos m) (pos n)) ∙ ap (λ z. z +ℤ pos n) e ∙ f)

pub le_of_eq : {a b : ℤ} → a ≡ b → a ≤ℤ b
le_of_eq {a} e = subst (λ z. a ≤ℤ z) e (≤ℤ_refl a)

antisymm : (a b : ℤ) → T (le_z a b) → T (le_z b a) → a ≡ b
antisymm (pos x) (pos y) t u = ap pos (le_antisymm (leb→le x y t) (leb→le y x u))
antisymm (pos x) (negsuc y) t u = absurd t
antisymm (negsuc x) (pos y) t u = absurd u
antisymm (negsuc x) (negsuc y) t u = ap negsuc (le_antisymm (leb→le x y u) (leb→le y x t))

pub ≤ℤ-antisymm : {a b : ℤ} → a ≤ℤ b → b ≤ℤ a → a ≡ b
≤ℤ-antisymm {a} {b} h k = antisymm a b h.le k.le

-- a < b is a + 1 ≤ b; either a < b or b ≤ a
le-of-lt' : (a b : ℤ) → T (lt_z a b) → T (le_z a b)
le-of-lt' (pos x) (pos y) t = le→leb x y (le_of_lt (ltb→lt x y t))
le-of-lt' (pos x) (negsuc y) t = t
le-of-lt' (negsuc x) (pos y) t = tt
le-of-lt' (negsuc x) (negsuc y) t = le→leb y x (le_of_lt (ltb→lt y x t))

pub <ℤ→≤ℤ : {a b : ℤ} → a <ℤ b → a ≤ℤ b
<ℤ→≤ℤ {a} {b} h = le_z_yes (le-of-lt' a b h.lt)

pub lt_ℤ-or-ge : (a b : ℤ) → (a <ℤ b) ⊎ (b ≤ℤ a)
lt_ℤ-or-ge a b = go (lt_z a b) (λ t. lt_z_yes t) (λ t. lt_z_no t)
  where
    go : (c : Bool) → (T c → a <ℤ b) → (T (not c) → b ≤ℤ a) → (a <ℤ b) ⊎ (b ≤ℤ a)
    go true f g = inl (f tt)
    go false f g = inr (g tt)

pub ≤ℤ→<ℤ : {a b : ℤ} → a ≤ℤ b → (a ≡ b → ⊥) → a <ℤ b
≤ℤ→<ℤ {a} {b} h n = ⊎_elim (λ lt. lt) (λ ge. absurd (n (≤ℤ-antisymm h ge))) (lt_ℤ-or-ge a b)

pub +ℤ-mono : {a b c d : ℤ} → a ≤ℤ b → c ≤ℤ d → (a +ℤ c) ≤ℤ (b +ℤ d)
+ℤ-mono {a} {b} {c} {d} h k =
    let (m, e) = diff-of-le h in
    let (n, f) = diff-of-le k in
    le-of-diff (m + n)
    (ring (a ∷ c ∷ pos m ∷ pos n ∷ []) (v 0 ⊕ v 1 ⊕ (v 2 ⊕ v 3)) ((v 0 ⊕ v 2) ⊕ (v 1 ⊕ v 3)) tt
    ∙ ap (λ z. z +ℤ (c +ℤ pos n)) e
    ∙ ap (λ z. b +ℤ z) f)

pub neg_ℤ-anti : {a b : ℤ} → a ≤ℤ b → neg_ℤ b ≤ℤ neg_ℤ a
neg_ℤ-anti {a} {b} h =
    let (n, e) = diff-of-le h in
    le-of-diff n (ap (λ z. neg_ℤ z +ℤ pos n) (sym e) ∙ ring (a ∷ pos n ∷ []) (⊝ (v 0 ⊕ v 1) ⊕ v 1) (⊝ v 0) tt)

-- ---- not negative

pub nonneg_pos : (n : ℕ) → pos 0 ≤ℤ pos n
nonneg_pos n = le-of-diff n (+ℤ_idl (pos n))

-- a number that is not negative is a natural
pub nat-of-nonneg : {a : ℤ} → pos 0 ≤ℤ a → (n : ℕ) × (pos n ≡ a)
nat-of-nonneg h = let (n, e) = diff-of-le h in (n, sym (+ℤ_idl (pos n)) ∙ e)

pub nonneg-+ : {a b : ℤ} → pos 0 ≤ℤ a → pos 0 ≤ℤ b → pos 0 ≤ℤ (a +ℤ b)
nonneg-+ h k = +ℤ-mono h k

pub nonneg-* : {a b : ℤ} → pos 0 ≤ℤ a → pos 0 ≤ℤ b → pos 0 ≤ℤ (a *ℤ b)
nonneg-* {a} {b} h k =
    let (m, e) = nat-of-nonneg h in
    let (n, f) = nat-of-nonneg k in
    subst (λ z. pos 0 ≤ℤ (z *ℤ b)) e (subst (λ z. pos 0 ≤ℤ (pos m *ℤ z)) f (nonneg_pos (m * n)))

-- a square is the square of the magnitude
pub square-is : (x : ℤ) → x *ℤ x ≡ pos (nat_abs x * nat_abs x)
square-is (pos n) = refl
square-is (negsuc n) = refl

pub nonneg-square : (x : ℤ) → pos 0 ≤ℤ (x *ℤ x)
nonneg-square x = subst (λ z. pos 0 ≤ℤ z) (sym (square-is x)) (nonneg_pos (nat_abs x * nat_abs x))

pub nonneg-of-le : {a b : ℤ} → a ≤ℤ b → pos 0 ≤ℤ (b -ℤ a)
nonneg-of-le {a} {b} h =
    let (n, e) = diff-of-le h in
    le-of-diff n (+ℤ_idl (pos n) ∙ ring (a ∷ pos n ∷ []) (v 1) (v 0 ⊕ v 1 ⊖ v 0) tt ∙ ap (λ z. z -ℤ a) e)

pub le-of-nonneg : {a b : ℤ} → pos 0 ≤ℤ (b -ℤ a) → a ≤ℤ b
le-of-nonneg {a} {b} h =
    let (n, e) = nat-of-nonneg h in
    le-of-diff n (ap (λ z. a +ℤ z) e ∙ ring (a ∷ b ∷ []) (v 0 ⊕ (v 1 ⊖ v 0)) (v 1) tt)

-- ---- an order between polynomials: b = a + s, and s is not negative

pub by-rest : (ρ : List ℤ) (a b s : Expr) → T (agree b (a ⊕ s)) → pos 0 ≤ℤ eval ρ s → eval ρ a ≤ℤ eval ρ b
by-rest ρ a b s t h =
    subst (λ z. eval ρ a ≤ℤ z) (sym (ring ρ b (a ⊕ s) t))
    (let (n, e) = nat-of-nonneg h in le-of-diff n (ap (λ z. eval ρ a +ℤ z) e))

-- a product grows with a factor, where the other is not negative
pub *ℤ-mono : {a b c : ℤ} → a ≤ℤ b → pos 0 ≤ℤ c → (a *ℤ c) ≤ℤ (b *ℤ c)
*ℤ-mono {a} {b} {c} h k =
    by-rest (a ∷ b ∷ c ∷ []) (v 0 ⊗ v 2) (v 1 ⊗ v 2) ((v 1 ⊖ v 0) ⊗ v 2) tt (nonneg-* (nonneg-of-le h) k)
