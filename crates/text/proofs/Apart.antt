-- What was put together is taken apart again: parts with separators between, words of a line, lines of a text.
-- Assumes nothing.
use mathlib.Core.Path.{◌≡◌, refl, ap, ◌∙◌}
use mathlib.Core.Bool.{Bool, true, false, cond}
use mathlib.Core.List.{List, [], ◌∷◌, ◌++◌}
use Prim.Native.Nat.{ℕ, ◌<◌}
use native.Mathlib.Omega.{arith}
use lib.Dec.{T, eqb}
use lib.ListN.{length, length-append}
use borrow.Author.Tests.{eq-eqb}
use Rattle.text.specs.Spaced.{spaced}
use Rattle.text.specs.Parts.{onto, parts, words_of, text_of, but_last, lines_of}

abbrev pub Each : {A : Type 0} → (A → Type 0) → List A → Type 0
Each P [] = Unit
Each P (x ∷ xs) = P x × Each P xs

-- a separator that stands nowhere in a text
abbrev pub Free : ℕ → List ℕ → Type 0
Free separator = Each (λ b. eqb b separator ≡ false)

-- a word is not empty, and has neither a space nor a line feed in it
pub record Word (w : List ℕ) : Type 0 where
  pub some_byte : 0 < length w
  pub no-space : Free 32 w
  pub no-feed : Free 10 w

pub each-++ : {A : Type 0} (P : A → Type 0) (a b : List A) → Each P a → Each P b → Each P (a ++ b)
each-++ P [] b h k = k
each-++ P (x ∷ a) b h k = (h.0, each-++ P a b h.1 k)

pub free-++ : (separator : ℕ) (a b : List ℕ) → Free separator a → Free separator b → Free separator (a ++ b)
free-++ separator = each-++ (λ b. eqb b separator ≡ false)

-- the same as a test, for a text that is at hand
abbrev pub lacks : ℕ → List ℕ → Bool
lacks separator [] = true
lacks separator (b ∷ w) = cond (eqb b separator) false (lacks separator w)

pub lacking : (separator : ℕ) (w : List ℕ) → T (lacks separator w) → Free separator w
lacking separator [] h = tt
lacking separator (b ∷ w) h = go (eqb b separator) refl (lacking separator w) h
  where
    go :
        (t : Bool)
        → eqb b separator ≡ t
        → (T (lacks separator w) → Free separator w)
        → T (cond t false (lacks separator w))
        → Free separator (b ∷ w)
    go true e rest h = absurd h
    go false e rest h = (e, rest h)

-- ---- parts

pub parts-one : (separator : ℕ) (w : List ℕ) → Free separator w → parts separator w ≡ w ∷ []
unfolding parts onto
parts-one separator [] h = refl
parts-one separator (b ∷ w) h = rw (h.0, parts-one separator w h.1)

pub parts_more : (separator : ℕ) (w rest : List ℕ) → Free separator w → parts separator (w ++ (separator ∷ rest)) ≡ w ∷ parts separator rest
unfolding parts onto
parts_more separator [] rest h = rw (eq-eqb separator separator refl)
parts_more separator (b ∷ w) rest h = rw (h.0, parts_more separator w rest h.1)

-- ---- words

parts-spaced : (w : List ℕ) (ws : List (List ℕ)) → Each Word (w ∷ ws) → parts 32 (spaced (w ∷ ws)) ≡ w ∷ ws
unfolding spaced
parts-spaced w [] h = parts-one 32 w h.0.no-space
parts-spaced w (v ∷ ws) h =
    parts_more 32 w (spaced (v ∷ ws)) h.0.no-space ∙ ap (λ (l : List (List ℕ)). w ∷ l) (parts-spaced v ws h.1)

filled : (l : List ℕ) → 0 < length l → words_of l ≡ parts 32 l
unfolding words_of
filled [] h = absurd (omega arith)
filled (b ∷ l) h = refl

some_byte : (w : List ℕ) (ws : List (List ℕ)) → 0 < length w → 0 < length (spaced (w ∷ ws))
unfolding spaced
some_byte w [] h = h
some_byte w (v ∷ ws) h = omega (arith, length-append w (32 ∷ spaced (v ∷ ws)))

pub words_back : (ws : List (List ℕ)) → Each Word ws → words_of (spaced ws) ≡ ws
unfolding spaced words_of
words_back [] h = refl
words_back (w ∷ ws) h = filled (spaced (w ∷ ws)) (some_byte w ws h.0.some_byte) ∙ parts-spaced w ws h

pub spaced-free : (ws : List (List ℕ)) → Each Word ws → Free 10 (spaced ws)
unfolding spaced
spaced-free [] h = tt
spaced-free (w ∷ []) h = h.0.no-feed
spaced-free (w ∷ v ∷ ws) h = free-++ 10 w (32 ∷ spaced (v ∷ ws)) h.0.no-feed (refl, spaced-free (v ∷ ws) h.1)

-- ---- lines

but_last_lem : (ls : List (List ℕ)) (l : List ℕ) → but_last (ls ++ (l ∷ [])) ≡ ls
unfolding but_last
but_last_lem [] l = refl
but_last_lem (m ∷ []) l = refl
but_last_lem (m ∷ k ∷ ls) l = ap (λ (t : List (List ℕ)). m ∷ t) (but_last_lem (k ∷ ls) l)

parts-text : (ls : List (List ℕ)) → Each (Free 10) ls → parts 10 (text_of ls) ≡ ls ++ ([] ∷ [])
unfolding text_of
parts-text [] h = parts-one 10 [] tt
parts-text (l ∷ ls) h =
    parts_more 10 l (text_of ls) h.0 ∙ ap (λ (t : List (List ℕ)). l ∷ t) (parts-text ls h.1)

pub lines-back : (ls : List (List ℕ)) → Each (Free 10) ls → lines_of (text_of ls) ≡ ls
unfolding lines_of
lines-back ls h = ap but_last (parts-text ls h) ∙ but_last_lem ls []
