-- The loop of `columns::find`, as plain mathematics: what holds at its head, that it holds after a word, and what it says where the loop is left.
-- Assumes nothing.
use mathlib.Core.Path.{◌≡◌, refl, sym, ap, ◌∙◌}
use mathlib.Core.Bool.{Bool, true, false}
use mathlib.Core.List.{List, [], ◌∷◌}
use Prim.Native.Nat.{ℕ, zero, suc, ◌+◌, ◌≤◌, ◌<◌, min}
use native.Mathlib.Nat.{add-zero}
use native.Mathlib.Numerals.{add-one}
use native.Mathlib.Omega.{arith}
use lib.Dec.{eqb}
use lib.ListN.{length, take, drop, get_or, set, replicate, length-drop, length-set}
use lib.Seq.{slice, take_all, get_or-take, get_or-drop, get_or-set_same, get_or-set_other, drop-drop}
use borrow.Author.Tests.{eqb-true, eqb-false}
use Rattle.row.specs.Line.{is_blank, words}
use Rattle.row.specs.own.Found.{Spans, empty}
use Rattle.row.specs.declared.columns.Span.{Span}
use Rattle.row.proofs.Words.{words-end, words-some}

-- a column of a line: a part of it, which is the word
pub record Column (line word : List ℕ) (span : Span) : Type 0 where
  pub ordered : span.start ≤ span.end
  pub within : span.end ≤ length line
  pub text : slice span.start span.end line ≡ word

-- at the loop's head: the columns of the first `count` words stand, those after them are empty, and the other words start at `at`
pub record Finding (line : List ℕ) (spans : List Span) (at count : ℕ) : Type 0 where
  pub few : count ≤ 9
  pub long : length spans ≡ 9
  pub within : at ≤ length line
  pub stops : at < length line → is_blank (get_or line at 0) ≡ false
  pub passed : count ≤ length (words line)
  pub left : drop count (words line) ≡ words (drop at line)
  pub columns : (k : ℕ) → Column line (get_or (take count (words line)) k []) (get_or spans k empty)

-- ---- where the loop begins

all_empty : (n k : ℕ) → get_or (replicate n empty) k empty ≡ empty
all_empty zero k = refl
all_empty (suc n) zero = refl
all_empty (suc n) (suc k) = all_empty n k

pub begun :
    (line : List ℕ) (at : ℕ)
    → at ≤ length line
    → words (drop at line) ≡ words line
    → (at < length line → is_blank (get_or line at 0) ≡ false)
    → Finding line (replicate 9 empty) at 0
begun line at within same stops =
    record {
      few = omega arith;
      long = refl;
      within = within;
      stops = stops;
      passed = omega arith;
      left = sym same;
      columns = λ k. rw (all_empty 9 k) record { ordered = omega arith; within = omega arith; text = refl };
    }

-- ---- a turn

-- what a relation says of each span, after a store of one
stored :
    (P : ℕ → Span → Type 0) (spans : List Span) (n : ℕ) (x : Span)
    → n < length spans
    → P n x
    → ((k : ℕ) → (k ≡ n → ⊥) → P k (get_or spans k empty))
    → (k : ℕ)
    → P k (get_or (set spans n x) k empty)
stored P spans n x h here others k = go (eqb k n) refl
  where
    go : (t : Bool) → eqb k n ≡ t → P k (get_or (set spans n x) k empty)
    go true q = rw (eqb-true k n q, get_or-set_same spans n x empty h) here
    go false q =
        let ne = eqb-false k n q in
        rw (get_or-set_other spans n k x empty ne) (others k ne)

-- the words up to one more, but for that one
take-other :
    (n k : ℕ) (ws : List (List ℕ)) → (k ≡ n → ⊥) → get_or (take n ws) k [] ≡ get_or (take (suc n) ws) k []
take-other zero zero ws ne = absurd (ne refl)
take-other zero (suc k) [] ne = refl
take-other zero (suc k) (w ∷ ws) ne = refl
take-other (suc n) k [] ne = refl
take-other (suc n) zero (w ∷ ws) ne = refl
take-other (suc n) (suc k) (w ∷ ws) ne = take-other n k ws (λ e. ne (ap suc e))

module _ (line : List ℕ) (spans : List Span) (at count : ℕ) (f : Finding line spans at count) where
  -- the word from `at` to `end` is the next, and after blanks the words go on at `on`
  module _
      (end on : ℕ)
      (room : count < 9)
      (bounds : (at < end) × (end ≤ length line))
      (first : words (drop at line) ≡ slice at end line ∷ words (drop end line))
    where
      split : drop count (words line) ≡ slice at end line ∷ words (drop end line)
      split = f.left ∙ first

      more : count < length (words line)
      more = omega (arith, length-drop count (words line), ap length split)

      word : slice at end line ≡ get_or (words line) count []
      word =
          let first : slice at end line ≡ get_or (drop count (words line)) 0 [] = rw split in
          first ∙ rw add-zero at (get_or-drop count (words line) 0 [])

      pub next :
          on ≤ length line
          → words (drop on line) ≡ words (drop end line)
          → (on < length line → is_blank (get_or line on 0) ≡ false)
          → Finding line (set spans count record { start = at; end = end }) on (count + 1)
      next within same stops =
          record {
            few = omega arith;
            long = length-set spans count record { start = at; end = end } ∙ f.long;
            within = within;
            stops = stops;
            passed = omega (arith, more);
            left = sym (drop-drop 1 count (words line)) ∙ ap (drop 1) split ∙ sym same;
            columns =
                stored (λ (k : ℕ) (x : Span). Column line (get_or (take (count + 1) (words line)) k []) x) spans count
                record { start = at; end = end }
                (omega (arith, f.long))
                record {
                  ordered = omega arith;
                  within = omega arith;
                  text = word ∙ sym (get_or-take (count + 1) (words line) count [] (omega arith));
                }
                (λ k ne. rw (add-one, ← take-other count k (words line) ne) (f.columns k));
          }

  -- ---- where the loop is left

  spanned : ((k : ℕ) → k < 9 → get_or (take count (words line)) k [] ≡ get_or (words line) k []) → Spans line spans
  spanned same =
      record {
        ordered = λ k h. (f.columns k).ordered;
        within = λ k h. (f.columns k).within;
        text = λ k h. (f.columns k).text ∙ same k h;
      }

  -- at the line's end every word has its column
  module _ (h : length line ≤ at) where
    all : length (words line) ≤ count
    all =
        let none : drop count (words line) ≡ [] = f.left ∙ words-end line at h in
        omega (arith, length-drop count (words line), ap length none)

    pub done-counted : count ≡ min (length (words line)) 10
    done-counted = omega (arith, all, f.few, f.passed)

    pub done-spanned : Spans line spans
    done-spanned = spanned (λ k g. rw (take_all count (words line) all))

  -- nine are found
  module _ (nine : 9 ≤ count) where
    pub full-spanned : Spans line spans
    full-spanned = spanned (λ k g. get_or-take count (words line) k [] (omega arith))

    -- and no word is left
    pub nine-counted : length line ≤ at → 9 ≡ min (length (words line)) 10
    nine-counted h = omega (arith, done-counted h, f.few)

    -- or there are more
    pub full-counted : at < length line → 10 ≡ min (length (words line)) 10
    full-counted more =
        let some = words-some line at more (f.stops more) in
        omega (arith, length-drop count (words line), ap length f.left)
