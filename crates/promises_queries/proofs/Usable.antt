-- A scale is usable unless it is not a number, not above 0, or above 1,000: of numbers, `<` fails where `≤` the other way round holds. Assumes nothing.
use mathlib.Core.Path.{◌≡◌, refl, sym, ◌∙◌, ap}
use mathlib.Core.Bool.{Bool, true, false, not, ◌&&◌, ◌||◌, true≢false, false≢true, and-false}
use Prim.Native.Nat.{ℕ, ◌+◌, ◌*◌}
use native.Mathlib.Omega.{arith}
use lib.Dec.{ltb, eqb}
use lib.IntN.{pos}
use lib.Ieee.{Float, nan, inf, fin, binary64, up, down, below, level, of_int, lt, eq, le, is_nan}
use borrow.Author.Tests.{ltb-true, ltb-false, eqb-true, eqb-false, not-true, not-false}
use Rattle.readout.specs.Display.{is_usable}
use Rattle.promises_queries.specs.Queries.{Unusable, not-a-number, not-above, too_large}

-- ---- of two numbers with signs

same-signs : (a b : ℕ) (c : Bool) → ltb a b ≡ not (ltb b a || (eqb b a && (true || c)))
same-signs a b c = go (ltb a b) (ltb b a) (eqb b a) refl refl refl
  where
    go : (s t u : Bool) → ltb a b ≡ s → ltb b a ≡ t → eqb b a ≡ u → s ≡ not (t || (u && true))
    go true true u k l m = let x = ltb-true a b k in let y = ltb-true b a l in absurd (omega arith)
    go true false true k l m = let x = ltb-true a b k in let y = eqb-true b a m in absurd (omega arith)
    go true false false k l m = refl
    go false true u k l m = refl
    go false false true k l m = refl
    go false false false k l m =
        let x = ltb-false a b k in
        let y = ltb-false b a l in
        let z : b ≡ a → ⊥ = eqb-false b a m in
        absurd (omega (arith, z))

signs : (s : Bool) (a : ℕ) (t : Bool) (b : ℕ) → below s a t b ≡ not (below t b s a || level t b s a)
signs false a false b = same-signs a b (eqb b 0)
signs true a true b =
    same-signs b a (eqb b 0) ∙ ap (λ (e : Bool). not (ltb a b || (e && true))) (flip (eqb a b) (eqb b a) refl refl)
  where
    flip : (x y : Bool) → eqb a b ≡ x → eqb b a ≡ y → x ≡ y
    flip true true k l = refl
    flip true false k l = let e = eqb-true a b k in let n : b ≡ a → ⊥ = eqb-false b a l in absurd (n (sym e))
    flip false true k l = let e = eqb-true b a l in let n : a ≡ b → ⊥ = eqb-false a b k in absurd (n (sym e))
    flip false false k l = refl
signs false a true b = go (ltb 0 (b + a)) (eqb b a) (eqb b 0) refl refl refl
  where
    go : (s t u : Bool) → ltb 0 (b + a) ≡ s → eqb b a ≡ t → eqb b 0 ≡ u → false ≡ not (s || (t && (false || u)))
    go true t u k l m = refl
    go false true true k l m = refl
    go false false u k l m = let x = ltb-false 0 (b + a) k in let n : b ≡ a → ⊥ = eqb-false b a l in absurd (omega (arith, n))
    go false true false k l m = let x = ltb-false 0 (b + a) k in let n : b ≡ 0 → ⊥ = eqb-false b 0 m in absurd (omega (arith, n))
signs true a false b = go (ltb 0 (a + b)) (eqb b a) (eqb b 0) refl refl refl
  where
    go : (s t u : Bool) → ltb 0 (a + b) ≡ s → eqb b a ≡ t → eqb b 0 ≡ u → s ≡ not (false || (t && (false || u)))
    go true true true k l m = let x = ltb-true 0 (a + b) k in let y = eqb-true b a l in let z = eqb-true b 0 m in absurd (omega arith)
    go true true false k l m = refl
    go true false u k l m = refl
    go false true true k l m = refl
    go false false u k l m = let x = ltb-false 0 (a + b) k in let n : b ≡ a → ⊥ = eqb-false b a l in absurd (omega (arith, n))
    go false true false k l m = let x = ltb-false 0 (a + b) k in let n : b ≡ 0 → ⊥ = eqb-false b 0 m in absurd (omega (arith, n))

-- ---- of two floats that are numbers

numbers : (x y : Float) → is_nan x ≡ false → is_nan y ≡ false → lt x y ≡ not (le y x)
unfolding is_nan lt eq le
numbers nan y h k = absurd (true≢false h)
numbers (inf s) nan h k = absurd (true≢false k)
numbers (inf true) (inf true) h k = refl
numbers (inf true) (inf false) h k = refl
numbers (inf false) (inf true) h k = refl
numbers (inf false) (inf false) h k = refl
numbers (inf true) (fin t n d) h k = refl
numbers (inf false) (fin t n d) h k = refl
numbers (fin s m e) nan h k = absurd (true≢false k)
numbers (fin s m e) (inf true) h k = refl
numbers (fin s m e) (inf false) h k = refl
numbers (fin s m e) (fin t n d) h k = signs s (m * up e * down d) t (n * up d * down e)

abbrev zero-float : Float
zero-float = of_int binary64 (pos 0)

abbrev thousand : Float
thousand = of_int binary64 (pos 1_000)

zero_number : is_nan zero-float ≡ false
unfolding is_nan of_int
zero_number = refl

thousand-number : is_nan thousand ≡ false
unfolding is_nan of_int
thousand-number = refl

-- ---- the test

is-nan : (x : Float) → is_nan x ≡ true → x ≡ nan
unfolding is_nan
is-nan nan e = refl
is-nan (inf s) e = absurd (false≢true e)
is-nan (fin s m d) e = absurd (false≢true e)

pub unusable : (scale : Float) → is_usable scale ≡ false → Unusable scale
unfolding is_usable
unusable scale e = go (is_nan scale) refl
  where
    by_tests : is_nan scale ≡ false → (s t : Bool) → lt zero-float scale ≡ s → le scale thousand ≡ t → (s && t) ≡ false → Unusable scale
    by_tests n true true k l m = absurd (true≢false m)
    by_tests n true false k l m = too_large (numbers thousand scale thousand-number n ∙ ap not l)
    by_tests n false t k l m = not-above (not-false (le scale zero-float) (sym (numbers zero-float scale zero_number n) ∙ k))

    go : (t : Bool) → is_nan scale ≡ t → Unusable scale
    go true n = not-a-number (is-nan scale n)
    go false n = by_tests n (lt zero-float scale) (le scale thousand) refl refl e

-- nothing is below what is not a number
below_nan : (x : Float) → lt x nan ≡ false
unfolding lt
below_nan nan = refl
below_nan (inf s) = refl
below_nan (fin s m e) = refl

pub not-usable : (scale : Float) → Unusable scale → is_usable scale ≡ false
unfolding is_usable
not-usable scale u = go (is_nan scale) refl u
  where
    none : scale ≡ nan → (lt zero-float scale && le scale thousand) ≡ false
    none e = ap (λ (x : Float). lt zero-float x && le scale thousand) e ∙ rw (below_nan zero-float)

    go : (t : Bool) → is_nan scale ≡ t → Unusable scale → (lt zero-float scale && le scale thousand) ≡ false
    go true n u = none (is-nan scale n)
    go false n (not-a-number e) = none e
    go false n (not-above e) = rw (numbers zero-float scale zero_number n, e)
    go false n (too_large e) =
        let k : le scale thousand ≡ false = not-true (le scale thousand) (sym (numbers thousand scale thousand-number n) ∙ e) in
        rw k (and-false (lt zero-float scale))
