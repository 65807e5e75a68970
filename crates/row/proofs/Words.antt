-- Laws of the words of a line: a blank adds none, a byte that is no blank starts one, and a word goes on up to a blank or the line's end.
-- Assumes nothing.
use mathlib.Core.Path.{◌≡◌, refl, ap, ◌∙◌}
use mathlib.Core.Bool.{Bool, true, false}
use mathlib.Core.List.{List, [], ◌∷◌}
use Prim.Native.Nat.{ℕ, zero, suc, ◌+◌, ◌-◌, ◌≤◌, ◌<◌}
use native.Mathlib.Numerals.{add-one}
use native.Mathlib.Omega.{arith}
use lib.ListN.{length, drop, get_or, drop_of_length-le}
use lib.Seq.{slice, slice-cons, slice_empty, drop-cons}
use Rattle.row.specs.Line.{is_blank, ends, before, words}

before-some : (b : ℕ) (ws : List (List ℕ)) → 1 ≤ length (before b ws)
unfolding before
before-some b [] = omega arith
before-some b (w ∷ ws) = omega arith

-- ---- the words from a place on

-- no byte stands there, or one
at-end : (s : List ℕ) (at : ℕ) → length s ≤ at → drop at s ≡ []
at-end s at h = drop_of_length-le s h

at_byte : (s : List ℕ) (at : ℕ) → at < length s → drop at s ≡ get_or s at 0 ∷ drop (at + 1) s
at_byte s at h = rw add-one (drop-cons s at 0 h)

module _ (s : List ℕ) (at : ℕ) where
  pub ends-end : length s ≤ at → ends (drop at s) ≡ true
  unfolding ends
  ends-end h = rw (at-end s at h)

  pub ends-byte : at < length s → ends (drop at s) ≡ is_blank (get_or s at 0)
  unfolding ends
  ends-byte h = rw (at_byte s at h)

  pub words-end : length s ≤ at → words (drop at s) ≡ []
  unfolding words
  words-end h = rw (at-end s at h)

  pub words-blank : at < length s → is_blank (get_or s at 0) ≡ true → words (drop (at + 1) s) ≡ words (drop at s)
  unfolding words
  words-blank h k = simp (at_byte s at h, k)

  module _ (h : at < length s) (k : is_blank (get_or s at 0) ≡ false) where
    words-one :
        ends (drop (at + 1) s) ≡ true → words (drop at s) ≡ (get_or s at 0 ∷ []) ∷ words (drop (at + 1) s)
    unfolding words
    words-one e = simp (at_byte s at h, k, e)

    words_more :
        ends (drop (at + 1) s) ≡ false → words (drop at s) ≡ before (get_or s at 0) (words (drop (at + 1) s))
    unfolding words
    words_more e = simp (at_byte s at h, k, e)

    -- a byte that is no blank: there is a word
    pub words-some : 1 ≤ length (words (drop at s))
    words-some = go (ends (drop (at + 1) s)) words-one words_more
      where
        go :
            (t : Bool)
            → (t ≡ true → words (drop at s) ≡ (get_or s at 0 ∷ []) ∷ words (drop (at + 1) s))
            → (t ≡ false → words (drop at s) ≡ before (get_or s at 0) (words (drop (at + 1) s)))
            → 1 ≤ length (words (drop at s))
        go true one more = omega (arith, ap length (one refl))
        go false one more = omega (arith, ap length (more refl), before-some (get_or s at 0) (words (drop (at + 1) s)))

-- ---- a word

-- no byte from a place up to another is a blank
abbrev pub Solid : List ℕ → ℕ → ℕ → Type 0
Solid s at i = (k : ℕ) → k < i → at ≤ k → is_blank (get_or s k 0) ≡ false

-- bytes that are no blanks, up to a place i where a word ends
module _ (s : List ℕ) (i : ℕ) (within : i ≤ length s) (stop : ends (drop i s) ≡ true) where
  slice-more : (at : ℕ) → at < i → slice at i s ≡ get_or s at 0 ∷ slice (at + 1) i s
  slice-more at h = rw add-one (slice-cons at i s 0 h within)

  word-from : (n at : ℕ) → at + (1 + n) ≡ i → Solid s at i → words (drop at s) ≡ slice at i s ∷ words (drop i s)
  unfolding before
  word-from zero at e solid =
      let next : at + 1 ≡ i = omega arith in
      let none : slice (at + 1) i s ≡ [] = rw next (slice_empty i s) in
      rw (slice-more at (omega arith), none, ← next)
      (words-one s at (omega arith) (solid at (omega arith) (omega arith)) (rw next stop))
  word-from (suc n) at e solid =
      let rest = word-from n (at + 1) (omega arith) (λ k h g. solid k h (omega arith)) in
      let on = ends-byte s (at + 1) (omega arith) ∙ solid (at + 1) (omega arith) (omega arith) in
      rw (slice-more at (omega arith))
      (words_more s at (omega arith) (solid at (omega arith) (omega arith)) on ∙ ap (before (get_or s at 0)) rest)

  pub word : (at : ℕ) → at < i → Solid s at i → words (drop at s) ≡ slice at i s ∷ words (drop i s)
  word at h solid = word-from (i - (at + 1)) at (omega arith) solid
