-- One digit more of a size, and a text of digits from a place on. Assumes nothing.
use Rattle.std.proofs.Common.{◌≡◌, refl, sym, ◌∙◌, ap, Bool, true, false, cond, List, [], ◌∷◌, ℕ, ◌+◌, ◌*◌, ◌-◌, ◌^◌, ◌≤◌, ◌<◌, ltb, Option, Some, None, length, drop, get_or, arith}
use borrow.Author.Tests.{lt-ltb, le-ltb, ltb-false}
use Rattle.std.proofs.lemmas.List.{at_drop_more, at_drop_all}
use Rattle.std.proofs.lemmas.Option.{same_Some}
use Rattle.field.specs.Form.{is_digit}
use Rattle.script.specs.declared.numbers.Number.{Number}
use Rattle.script.specs.Number.{onward, size_of, number_in}
use Rattle.script.specs.own.Growing.{grown}

-- ---- what digits say from a size on

-- a size that 64 bits do not hold stays one
wide : (m : Bool) (n : ℕ) (rest : List ℕ) → 2 ^ 64 ≤ n → None ≡ number_in m (onward n rest)
unfolding onward number_in
wide m n [] h = rw (le-ltb n (2 ^ 64) h)
wide m n (b ∷ rest) h = go (is_digit b) (wide m (10 * n + (b - 48)) rest (omega arith))
  where
    go :
        (t : Bool)
        → None ≡ number_in m (onward (10 * n + (b - 48)) rest)
        → None ≡ number_in m (cond t (onward (10 * n + (b - 48)) rest) None)
    go true e = e
    go false e = refl

stuck_at : (m : Bool) (s b : ℕ) (rest : List ℕ) → grown s b ≡ None → None ≡ number_in m (onward s (b ∷ rest))
unfolding grown onward number_in
stuck_at m s b rest e = digit (is_digit b) e
  where
    n : ℕ
    n = 10 * s + (b - 48)

    fits : (t : Bool) → ltb n (2 ^ 64) ≡ t → cond t (Some n) None ≡ None → None ≡ number_in m (onward n rest)
    fits true held e = cc
    fits false held e = wide m n rest (ltb-false n (2 ^ 64) held)

    digit :
        (t : Bool)
        → cond t (cond (ltb n (2 ^ 64)) (Some n) None) None ≡ None
        → None ≡ number_in m (cond t (onward n rest) None)
    digit true e = fits (ltb n (2 ^ 64)) refl e
    digit false e = refl

moved_at : (s b n : ℕ) (rest : List ℕ) → grown s b ≡ Some n → onward n rest ≡ onward s (b ∷ rest)
unfolding grown onward
moved_at s b n rest e = digit (is_digit b) e
  where
    m : ℕ
    m = 10 * s + (b - 48)

    fits : (t : Bool) → cond t (Some m) None ≡ Some n → onward n rest ≡ onward m rest
    fits true e = ap (λ k. onward k rest) (sym (same_Some m n e))
    fits false e = cc

    digit :
        (t : Bool)
        → cond t (cond (ltb m (2 ^ 64)) (Some m) None) None ≡ Some n
        → onward n rest ≡ cond t (onward m rest) None
    digit true e = fits (ltb m (2 ^ 64)) e
    digit false e = cc

-- ---- a text from a place on

module _ (text : List ℕ) (s i : ℕ) where
  pub begun : (length text ≡ 0 → ⊥) → onward 0 (drop 0 text) ≡ size_of text
  unfolding size_of
  begun h = go text h
    where
      go : (t : List ℕ) → (length t ≡ 0 → ⊥) → onward 0 (drop 0 t) ≡ size_of t
      go [] h = absurd (h refl)
      go (b ∷ t) h = refl

  pub stuck : (m : Bool) → i < length text → grown s (get_or text i 0) ≡ None → None ≡ number_in m (onward s (drop i text))
  stuck m h e =
      stuck_at m s (get_or text i 0) (drop (i + 1) text) e
      ∙ ap (number_in m) (sym (at_drop_more (onward s) text i 0 h))

  pub moved : (n : ℕ) → i < length text → grown s (get_or text i 0) ≡ Some n → onward n (drop (i + 1) text) ≡ onward s (drop i text)
  moved n h e = moved_at s (get_or text i 0) n (drop (i + 1) text) e ∙ sym (at_drop_more (onward s) text i 0 h)

  pub ended : (m : Bool) → length text ≤ i → s < 2 ^ 64 → ◌≡◌ {A = Option Number} (Some record { minus = m; size = s }) (number_in m (onward s (drop i text)))
  unfolding onward number_in
  ended m h small = rw (at_drop_all (onward s) text i h, lt-ltb s (2 ^ 64) small)
