-- Equations of the commutative ring ℤ, by reflection. antt has no tactic `ring`; this module has a function in its place.
-- A side of an equation is written once more as an `Expr`, a value that a function can look at. `norm` brings an `Expr` to a normal form,
-- a sorted sum of monomials, by computation. `eval ρ e` is the number that `e` stands for where variable i stands for the i-th number of ρ,
-- and computes to the very term that the equation has. `sound` says that the normal form stands for the same number, so that
--
--     square : (a b : ℤ) → (a +ℤ b) *ℤ (a +ℤ b) ≡ a *ℤ a +ℤ pos 2 *ℤ a *ℤ b +ℤ b *ℤ b
--     square a b = ring (a ∷ b ∷ []) ((v 0 ⊕ v 1) ⊗ (v 0 ⊕ v 1)) (v 0 ⊗ v 0 ⊕ num 2 ⊗ v 0 ⊗ v 1 ⊕ v 1 ⊗ v 1) tt
--
-- proves an equation whose two sides have one normal form: `agree` computes both and compares them, and `tt` says that the test passes.
-- (`norm e₁ ≡ norm e₂`, by `refl`, would say the same. But antt then compares two calls, and not two values: at 84 terms that takes 6 seconds,
-- where the test takes 0.1, and at 165 it runs to the step limit. A test is only computed.) `Shown` has more.
-- Where the two sides differ, `let d : norm (e₁ ⊖ e₂) ≡ nil = refl in ..` has antt print what is left over.
-- What `agree` is made of is `abbrev`, so it computes wherever a call stands, with no `unfolding` line. Assumes nothing.
use mathlib.Core.Path.{◌≡◌, refl, sym, ◌∙◌, ap, ap₂}
use mathlib.Core.List.{List, [], ◌∷◌}
use mathlib.Core.Bool.{Bool, true, false, ◌&&◌}
use Prim.Native.Nat.{ℕ, zero, suc, ◌+◌, compare, Ordering}
use native.Mathlib.Nat.{add-zero, add-suc}
use lib.Dec.{T, compare_is_eq, eqb→eq}
use mir.Facts.{and_yes}
use lib.IntN.{ℤ, pos, negsuc, neg_ℤ, ◌+ℤ◌, ◌*ℤ◌, one, pow, +ℤ_assoc, +ℤ_idl, +ℤ_idr, zero-*ℤ, *ℤ-zero, *ℤ_comm}
use Rattle.whole.specs.Same.{same_ℤ}
use Rattle.whole.proofs.Same.{same_ℤ-eq}
use Rattle.whole.proofs.Laws.{+ℤ-left-comm, +ℤ-middle, *ℤ-distribʳ, *ℤ-distribˡ, *ℤ-assoc, *ℤ-middle, *ℤ-1ʳ, *ℤ-1ˡ, -1-*ℤ, eq-of-sub, sub-of-eq}

-- ════════════════════════════════════════════════════════════════════════════════════════════
-- Expressions, and the number that one stands for
-- ════════════════════════════════════════════════════════════════════════════════════════════

infixl 6 ◌⊕◌ ◌⊖◌
infixl 7 ◌⊗◌
infix 8 ⊝◌
infixl 6 ◌⊞◌
pub data Expr : Type 0 where
  v : ℕ → Expr
  con : ℤ → Expr
  ◌⊕◌ ◌⊗◌ : Expr → Expr → Expr
  ⊝◌ : Expr → Expr

-- a numeral; a difference, which `◌-ℤ◌` is too
abbrev pub num : ℕ → Expr
num n = con (pos n)

abbrev pub ◌⊖◌ : Expr → Expr → Expr
a ⊖ b = a ⊕ ⊝ b

-- an environment is a list; past its end every variable is 0
abbrev pub first : List ℤ → ℤ
first [] = pos 0
first (x ∷ ρ) = x

abbrev pub rest : List ℤ → List ℤ
rest [] = []
rest (x ∷ ρ) = ρ

abbrev pub lookup : List ℤ → ℕ → ℤ
lookup ρ zero = first ρ
lookup ρ (suc i) = lookup (rest ρ) i

abbrev pub eval : List ℤ → Expr → ℤ
eval ρ (v i) = lookup ρ i
eval ρ (con c) = c
eval ρ (a ⊕ b) = eval ρ a +ℤ eval ρ b
eval ρ (a ⊗ b) = eval ρ a *ℤ eval ρ b
eval ρ (⊝ a) = neg_ℤ (eval ρ a)

-- ════════════════════════════════════════════════════════════════════════════════════════════
-- Monomials: the list of the variables' exponents, with no 0 at its end
-- ════════════════════════════════════════════════════════════════════════════════════════════

-- the variable i
abbrev pub unit : ℕ → List ℕ
unit zero = 1 ∷ []
unit (suc i) = 0 ∷ unit i

-- the product
abbrev pub ◌⊞◌ : List ℕ → List ℕ → List ℕ
[] ⊞ n = n
(a ∷ m) ⊞ [] = a ∷ m
(a ∷ m) ⊞ (b ∷ n) = (a + b) ∷ (m ⊞ n)

-- the order: by the first exponent that differs
abbrev pub lex : Ordering → Ordering → Ordering
lex Ordering.lt r = Ordering.lt
lex Ordering.eq r = r
lex Ordering.gt r = Ordering.gt

-- (what a `let` binds is computed only where it is read; an argument of a call always is)
abbrev pub order : List ℕ → List ℕ → Ordering
order [] [] = Ordering.eq
order [] (b ∷ n) = Ordering.lt
order (a ∷ m) [] = Ordering.gt
order (a ∷ m) (b ∷ n) = let r = order m n in lex (compare a b) r

-- ════════════════════════════════════════════════════════════════════════════════════════════
-- Sums of monomials, sorted
-- ════════════════════════════════════════════════════════════════════════════════════════════

pub data Poly : Type 0 where
  nil : Poly
  term : ℤ → List ℕ → Poly → Poly

-- the sum: two sorted sums, merged. `merge c m k q` puts the term c m, and with `k` the terms after it, into q. `place` goes by how m stands to
-- q's first monomial n: x is k of all of q, y is k of what is after n, and z is what is after n with c m put into it. Of the three, which `let`
-- binds, only the one that is picked is computed
abbrev pub place : Ordering → ℤ → List ℕ → ℤ → List ℕ → Poly → Poly → Poly → Poly
place Ordering.lt c m d n x y z = term c m x
place Ordering.eq c m d n x y z = term (c +ℤ d) m y
place Ordering.gt c m d n x y z = term d n z

abbrev pub merge : ℤ → List ℕ → (Poly → Poly) → Poly → Poly
merge c m k nil = term c m (k nil)
merge c m k (term d n q) =
    let x = k (term d n q) in
    let y = k q in
    let z = merge c m k q in
    place (order m n) c m d n x y z

abbrev pub add : Poly → Poly → Poly
add nil q = q
add (term c m p) q = merge c m (add p) q

-- the product by a term, and the product, which goes through its first factor's terms: so that is to be the shorter, as the last factor of
-- a ⊗ b ⊗ c is
abbrev pub scale : ℤ → List ℕ → Poly → Poly
scale c m nil = nil
scale c m (term d n p) = term (c *ℤ d) (m ⊞ n) (scale c m p)

abbrev pub mul : Poly → Poly → Poly
mul nil q = nil
mul (term c m p) q = add (scale c m q) (mul p q)

-- without the terms whose coefficient is 0
abbrev pub nonzero : ℤ → List ℕ → Poly → Poly
nonzero (pos zero) m p = p
nonzero (pos (suc c)) m p = term (pos (suc c)) m p
nonzero (negsuc c) m p = term (negsuc c) m p

abbrev pub prune : Poly → Poly
prune nil = nil
prune (term c m p) = nonzero c m (prune p)

-- the normal form
abbrev pub poly : Expr → Poly
poly (v i) = term (pos 1) (unit i) nil
poly (con c) = term c [] nil
poly (a ⊕ b) = add (poly a) (poly b)
poly (a ⊗ b) = mul (poly b) (poly a)
poly (⊝ a) = scale (negsuc 0) [] (poly a)

abbrev pub norm : Expr → Poly
norm e = prune (poly e)

-- the test: two expressions have one normal form
abbrev pub same : Poly → Poly → Bool
same nil nil = true
same nil (term d n q) = false
same (term c m p) nil = false
same (term c m p) (term d n q) = same_ℤ c d && (compare_is_eq (order m n) && same p q)

abbrev pub agree : Expr → Expr → Bool
agree e₁ e₂ = same (norm e₁) (norm e₂)

-- ════════════════════════════════════════════════════════════════════════════════════════════
-- The normal form stands for the same number
-- ════════════════════════════════════════════════════════════════════════════════════════════

-- the number that a monomial stands for, and a sum
pub mono : List ℤ → List ℕ → ℤ
mono ρ [] = pos 1
mono ρ (e ∷ m) = pow (first ρ) e *ℤ mono (rest ρ) m

pub sum : List ℤ → Poly → ℤ
sum ρ nil = pos 0
sum ρ (term c m p) = c *ℤ mono ρ m +ℤ sum ρ p

pub pow-add : (x : ℤ) (a b : ℕ) → pow x (a + b) ≡ pow x a *ℤ pow x b
unfolding pow one
pow-add x a zero = ap (pow x) (add-zero a) ∙ sym (*ℤ-1ʳ (pow x a))
pow-add x a (suc b) = ap (pow x) (add-suc a b) ∙ ap (λ y. y *ℤ x) (pow-add x a b) ∙ *ℤ-assoc (pow x a) (pow x b) x

mono-⊞ : (ρ : List ℤ) (m n : List ℕ) → mono ρ (m ⊞ n) ≡ mono ρ m *ℤ mono ρ n
unfolding mono
mono-⊞ ρ [] n = sym (*ℤ-1ˡ (mono ρ n))
mono-⊞ ρ (a ∷ m) [] = sym (*ℤ-1ʳ (mono ρ (a ∷ m)))
mono-⊞ ρ (a ∷ m) (b ∷ n) =
    ap₂ ◌*ℤ◌ (pow-add (first ρ) a b) (mono-⊞ (rest ρ) m n)
    ∙ *ℤ-middle (pow (first ρ) a) (pow (first ρ) b) (mono (rest ρ) m) (mono (rest ρ) n)

mono-unit : (ρ : List ℤ) (i : ℕ) → mono ρ (unit i) ≡ lookup ρ i
unfolding mono pow one
mono-unit ρ zero = *ℤ-1ʳ (pos 1 *ℤ first ρ) ∙ *ℤ-1ˡ (first ρ)
mono-unit ρ (suc i) = *ℤ-1ˡ (mono (rest ρ) (unit i)) ∙ mono-unit (rest ρ) i

-- two monomials that `order` finds equal are
lex-left : (o r : Ordering) → T (compare_is_eq (lex o r)) → T (compare_is_eq o)
lex-left Ordering.lt r t = t
lex-left Ordering.eq r t = tt
lex-left Ordering.gt r t = t

lex-right : (o r : Ordering) → T (compare_is_eq (lex o r)) → T (compare_is_eq r)
lex-right Ordering.lt r t = absurd t
lex-right Ordering.eq r t = t
lex-right Ordering.gt r t = absurd t

order-eq : (m n : List ℕ) → T (compare_is_eq (order m n)) → m ≡ n
order-eq [] [] t = refl
order-eq [] (b ∷ n) t = absurd t
order-eq (a ∷ m) [] t = absurd t
order-eq (a ∷ m) (b ∷ n) t =
    ap₂ ◌∷◌ (eqb→eq a b (lex-left (compare a b) (order m n) t)) (order-eq m n (lex-right (compare a b) (order m n) t))

-- two sums that `same` finds equal are
same-eq : (p q : Poly) → T (same p q) → p ≡ q
same-eq nil nil t = refl
same-eq nil (term d n q) t = absurd t
same-eq (term c m p) nil t = absurd t
same-eq (term c m p) (term d n q) t =
    let (here, after) = and_yes (same_ℤ c d) (compare_is_eq (order m n) && same p q) t in
    let (monomials, rests) = and_yes (compare_is_eq (order m n)) (same p q) after in
    let e : c ≡ d = same_ℤ-eq c d here in
    let f : m ≡ n = order-eq m n monomials in
    let g : p ≡ q = same-eq p q rests in
    λ i. term (e i) (f i) (g i)

module _ (ρ : List ℤ) where
  -- s is what the terms that k adds stand for
  place_is : (o : Ordering) (c : ℤ) (m : List ℕ) (d : ℤ) (n : List ℕ) (q x y z : Poly) (s : ℤ) → (T (compare_is_eq o) → m ≡ n) → sum ρ x ≡ s +ℤ sum ρ (term d n q) → sum ρ y ≡ s +ℤ sum ρ q → sum ρ z ≡ c *ℤ mono ρ m +ℤ s +ℤ sum ρ q → sum ρ (place o c m d n x y z) ≡ c *ℤ mono ρ m +ℤ s +ℤ sum ρ (term d n q)
  unfolding sum
  place_is Ordering.lt c m d n q x y z s same hx hy hz =
      ap (λ t. c *ℤ mono ρ m +ℤ t) hx ∙ sym (+ℤ_assoc (c *ℤ mono ρ m) s (sum ρ (term d n q)))
  place_is Ordering.eq c m d n q x y z s same hx hy hz =
      ap₂ ◌+ℤ◌ (*ℤ-distribʳ c d (mono ρ m)) hy
      ∙ +ℤ-middle (c *ℤ mono ρ m) (d *ℤ mono ρ m) s (sum ρ q)
      ∙ ap (λ (k : List ℕ). c *ℤ mono ρ m +ℤ s +ℤ (d *ℤ mono ρ k +ℤ sum ρ q)) (same tt)
  place_is Ordering.gt c m d n q x y z s same hx hy hz =
      ap (λ t. d *ℤ mono ρ n +ℤ t) hz ∙ +ℤ-left-comm (d *ℤ mono ρ n) (c *ℤ mono ρ m +ℤ s) (sum ρ q)

  merge-is : (c : ℤ) (m : List ℕ) (k : Poly → Poly) (s : ℤ) → ((r : Poly) → sum ρ (k r) ≡ s +ℤ sum ρ r) → (q : Poly) → sum ρ (merge c m k q) ≡ c *ℤ mono ρ m +ℤ s +ℤ sum ρ q
  unfolding sum
  merge-is c m k s h nil = ap (λ t. c *ℤ mono ρ m +ℤ t) (h nil) ∙ sym (+ℤ_assoc (c *ℤ mono ρ m) s (pos 0))
  merge-is c m k s h (term d n q) =
      place_is (order m n) c m d n q (k (term d n q)) (k q) (merge c m k q) s (order-eq m n) (h (term d n q)) (h q) (merge-is c m k s h q)

  add_is : (p q : Poly) → sum ρ (add p q) ≡ sum ρ p +ℤ sum ρ q
  unfolding sum
  add_is nil q = sym (+ℤ_idl (sum ρ q))
  add_is (term c m p) q = merge-is c m (add p) (sum ρ p) (add_is p) q

  scale-is : (c : ℤ) (m : List ℕ) (p : Poly) → sum ρ (scale c m p) ≡ c *ℤ mono ρ m *ℤ sum ρ p
  unfolding sum
  scale-is c m nil = sym (*ℤ-zero (c *ℤ mono ρ m))
  scale-is c m (term d n p) =
      ap₂ ◌+ℤ◌
      (ap (λ x. c *ℤ d *ℤ x) (mono-⊞ ρ m n) ∙ *ℤ-middle c d (mono ρ m) (mono ρ n))
      (scale-is c m p)
      ∙ sym (*ℤ-distribˡ (c *ℤ mono ρ m) (d *ℤ mono ρ n) (sum ρ p))

  mul_is : (p q : Poly) → sum ρ (mul p q) ≡ sum ρ p *ℤ sum ρ q
  unfolding sum
  mul_is nil q = sym (zero-*ℤ (sum ρ q))
  mul_is (term c m p) q =
      add_is (scale c m q) (mul p q)
      ∙ ap₂ ◌+ℤ◌ (scale-is c m q) (mul_is p q)
      ∙ sym (*ℤ-distribʳ (c *ℤ mono ρ m) (sum ρ p) (sum ρ q))

  nonzero-is : (c : ℤ) (m : List ℕ) (p : Poly) → sum ρ (nonzero c m p) ≡ c *ℤ mono ρ m +ℤ sum ρ p
  unfolding sum
  nonzero-is (pos zero) m p = sym (ap (λ x. x +ℤ sum ρ p) (zero-*ℤ (mono ρ m)) ∙ +ℤ_idl (sum ρ p))
  nonzero-is (pos (suc c)) m p = refl
  nonzero-is (negsuc c) m p = refl

  prune-is : (p : Poly) → sum ρ (prune p) ≡ sum ρ p
  unfolding sum
  prune-is nil = refl
  prune-is (term c m p) = nonzero-is c m (prune p) ∙ ap (λ x. c *ℤ mono ρ m +ℤ x) (prune-is p)

  poly-is : (e : Expr) → sum ρ (poly e) ≡ eval ρ e
  unfolding sum mono
  poly-is (v i) = +ℤ_idr (pos 1 *ℤ mono ρ (unit i)) ∙ *ℤ-1ˡ (mono ρ (unit i)) ∙ mono-unit ρ i
  poly-is (con c) = +ℤ_idr (c *ℤ pos 1) ∙ *ℤ-1ʳ c
  poly-is (a ⊕ b) = add_is (poly a) (poly b) ∙ ap₂ ◌+ℤ◌ (poly-is a) (poly-is b)
  poly-is (a ⊗ b) = mul_is (poly b) (poly a) ∙ *ℤ_comm (sum ρ (poly b)) (sum ρ (poly a)) ∙ ap₂ ◌*ℤ◌ (poly-is a) (poly-is b)
  poly-is (⊝ a) = scale-is (negsuc 0) [] (poly a) ∙ -1-*ℤ (sum ρ (poly a)) ∙ ap neg_ℤ (poly-is a)

  pub sound : (e : Expr) → sum ρ (norm e) ≡ eval ρ e
  sound e = prune-is (poly e) ∙ poly-is e

  -- two expressions with one normal form stand for one number
  pub ring : (e₁ e₂ : Expr) → T (agree e₁ e₂) → eval ρ e₁ ≡ eval ρ e₂
  ring e₁ e₂ t = sym (sound e₁) ∙ ap (sum ρ) (same-eq (norm e₁) (norm e₂) t) ∙ sound e₂

-- ════════════════════════════════════════════════════════════════════════════════════════════
-- Equations that follow from others
-- ════════════════════════════════════════════════════════════════════════════════════════════

-- an equation that holds, l = r, and a factor k: `times k l r h`
pub record Multiple (ρ : List ℤ) : Type 0 where
  pub factor : Expr
  pub left : Expr
  pub right : Expr
  pub holds : eval ρ left ≡ eval ρ right

abbrev pub times : {ρ : List ℤ} (k l r : Expr) → eval ρ l ≡ eval ρ r → Multiple ρ
times k l r h = record { factor = k; left = l; right = r; holds = h }

-- the sum of all k (l - r), which is 0
abbrev pub combined : {ρ : List ℤ} → List (Multiple ρ) → Expr
combined [] = num 0
combined (m ∷ ms) = m.factor ⊗ (m.left ⊖ m.right) ⊕ combined ms

combined-is : (ρ : List ℤ) (ms : List (Multiple ρ)) → eval ρ (combined ms) ≡ pos 0
combined-is ρ [] = refl
combined-is ρ (m ∷ ms) =
    ap₂ ◌+ℤ◌
    (ap (λ x. eval ρ m.factor *ℤ x) (sub-of-eq (eval ρ m.left) (eval ρ m.right) m.holds) ∙ *ℤ-zero (eval ρ m.factor))
    (combined-is ρ ms)

-- e₁ = e₂ follows from equations that hold, where e₁ - e₂ is a sum of multiples of their differences
pub ring-from : (ρ : List ℤ) (ms : List (Multiple ρ)) (e₁ e₂ : Expr) → T (agree (e₁ ⊖ e₂) (combined ms)) → eval ρ e₁ ≡ eval ρ e₂
ring-from ρ ms e₁ e₂ t = eq-of-sub (eval ρ e₁) (eval ρ e₂) (ring ρ (e₁ ⊖ e₂) (combined ms) t ∙ combined-is ρ ms)
