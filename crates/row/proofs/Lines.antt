-- A line's end, and its first word: without a carriage return a line is what stands before its last byte, and every line that has words has a first byte in its
-- first word, by which a title is told. Assumes nothing.
use mathlib.Core.Path.{◌≡◌, refl, sym, ap}
use mathlib.Core.Bool.{Bool, true, false, cond}
use mathlib.Core.List.{List, [], ◌∷◌}
use Prim.Native.Nat.{ℕ, suc, ◌-◌, ◌≤◌, ◌<◌}
use native.Mathlib.Omega.{arith}
use borrow.Author.Tests.{eq-eqb, ne_eqb}
use lib.ListN.{length, get_or, take}
use Rattle.row.specs.Line.{is_blank, is_letter, without_return, ends, before, words, starts_letter}
use Rattle.row.specs.Layout.{column_of}
use Rattle.row.specs.own.Found.{first_nine}
use Rattle.row.proofs.Spanned.{one_of_nine}

-- ---- a line's end

-- the last byte is a carriage return, which goes
pub return-goes : (l : List ℕ) → 1 ≤ length l → get_or l (length l - 1) 0 ≡ 13 → take (length l - 1) l ≡ without_return l
unfolding without_return
return-goes [] h e = absurd (omega arith)
return-goes (b ∷ []) h e = sym (simp (eq-eqb b 13 e))
return-goes (b ∷ d ∷ l) h e =
    let n : length (b ∷ d ∷ l) - 1 ≡ suc (length (d ∷ l) - 1) = omega arith in
    let last : get_or (d ∷ l) (length (d ∷ l) - 1) 0 ≡ 13 = rw n at e in
    rw n (ap (λ s. b ∷ s) (return-goes (d ∷ l) (omega arith) last))

-- or it is none, and all stays
pub all-stays : (l : List ℕ) → (1 ≤ length l → get_or l (length l - 1) 0 ≡ 13 → ⊥) → l ≡ without_return l
unfolding without_return
all-stays [] e = refl
all-stays (b ∷ []) e = sym (simp (ne_eqb b 13 (e (omega arith))))
all-stays (b ∷ d ∷ l) e =
    let n : length (b ∷ d ∷ l) - 1 ≡ suc (length (d ∷ l) - 1) = omega arith in
    ap (λ s. b ∷ s) (all-stays (d ∷ l) (λ h last. e (omega arith) (rw n last)))

-- ---- a line's first word

-- a byte put before words makes a first word that has a byte
before-filled : (b : ℕ) (ws : List (List ℕ)) → 0 < length (get_or (before b ws) 0 [])
unfolding before
before-filled b [] = omega arith
before-filled b (w ∷ ws) = omega arith

pub first-filled : (l : List ℕ) → 0 < length (words l) → 0 < length (get_or (words l) 0 [])
unfolding words
first-filled [] h = absurd (omega arith)
first-filled (b ∷ l) h = go (is_blank b) (ends l) (first-filled l) h
  where
    after : Bool → Bool → List (List ℕ)
    after s t = cond s (words l) (cond t ((b ∷ []) ∷ words l) (before b (words l)))

    go : (s t : Bool) → (0 < length (words l) → 0 < length (get_or (words l) 0 [])) → 0 < length (after s t) → 0 < length (get_or (after s t) 0 [])
    go true t rest h = rest h
    go false true rest h = omega arith
    go false false rest h = before-filled b (words l)

letter-first : (ws : List (List ℕ)) (b : ℕ) (w : List ℕ) → get_or ws 0 [] ≡ b ∷ w → starts_letter ws ≡ is_letter b
unfolding starts_letter
letter-first [] b w e = let z : ◌≡◌ {A = ℕ} 0 1 = cc in absurd (omega arith)
letter-first (v ∷ ws) b w e = ap (λ s. starts_letter (s ∷ ws)) e

-- by the first word a title is told
pub title-is : (line : List ℕ) → 1 ≤ length (column_of (first_nine line) 0) → is_letter (get_or (column_of (first_nine line) 0) 0 0) ≡ starts_letter (words line)
title-is line h = go (column_of (first_nine line) 0) (sym (one_of_nine line 0 (omega arith))) h
  where
    go : (w : List ℕ) → column_of (words line) 0 ≡ w → 1 ≤ length w → is_letter (get_or w 0 0) ≡ starts_letter (words line)
    go [] e h = absurd (omega arith)
    go (b ∷ w) e h = sym (letter-first (words line) b w e)

pub no-title : (line : List ℕ) → length (column_of (first_nine line) 0) < 1 → false ≡ starts_letter (words line)
unfolding starts_letter
no-title line h = sym (go (words line) refl)
  where
    go : (ws : List (List ℕ)) → words line ≡ ws → starts_letter ws ≡ false
    go [] e = refl
    go (w ∷ ws) e =
        let some = first-filled line (omega (arith, ap length e)) in
        absurd (omega (arith, ap length (one_of_nine line 0 (omega arith)), some))
