-- Words in a line as the code puts them: they are the line. Assumes nothing.
use mathlib.Core.Path.{◌≡◌, refl, sym, ap, ◌∙◌}
use mathlib.Core.Bool.{Bool, true, false, cond}
use mathlib.Core.List.{List, [], ◌∷◌, ◌++◌, map, map-map, append_assoc, append-nil}
use Prim.Native.Nat.{ℕ, suc, ◌+◌, ◌*◌, ◌<◌, ◌≤◌}
use native.Mathlib.Numerals.{add-one}
use native.Mathlib.Omega.{arith}
use lib.Dec.{eqb}
use lib.IntN.{ℤ, pos}
use lib.ListN.{length, replicate, drop, get_or, drop_of_length-le}
use lib.Seq.{drop-cons}
use borrow.Author.Tests.{eq-eqb, ne_eqb}
use Rattle.whole.specs.Complex.{Complex}
use Rattle.whole.specs.Same.{same_ℤ}
use Rattle.text.specs.Decimal.{natural, decimal}
use Rattle.text.specs.Spaced.{spaced}
use Rattle.text.specs.Rows.{row_text}
use Rattle.text.proofs.RowsBack.{row_is}
use Rattle.grid.specs.declared.nodes.Pair.{Pair}
use Rattle.table.specs.declared.entries.Parts.{Parts}
use Rattle.grid.specs.Slots.{slot_of}
use Rattle.table.specs.Entries.{complex_of}
use Rattle.qtf.specs.Matrix.{billionths, list_text, frequency_text, heading_text, indexes, parts_in, matrix_line}
use Rattle.qtf.specs.own.Spacing.{gap, behind, left, index_text}

pub gap-none : (i : ℕ) → i ≡ 0 → gap i ≡ []
unfolding gap
gap-none i e = rw (eq-eqb i 0 e)

pub gap-some : (i : ℕ) → (i ≡ 0 → ⊥) → gap i ≡ 32 ∷ []
unfolding gap
gap-some i h = rw (ne_eqb i 0 h)

-- the first word, and each other with its space
pub spaced-is : (w : List ℕ) (ws : List (List ℕ)) → spaced (w ∷ ws) ≡ w ++ behind ws
unfolding spaced behind
spaced-is w [] = sym (append-nil w)
spaced-is w (v ∷ ws) = ap (λ (l : List ℕ). w ++ (32 ∷ l)) (spaced-is v ws)

behind-++ : (a b : List (List ℕ)) → behind (a ++ b) ≡ behind a ++ behind b
unfolding behind
behind-++ [] b = refl
behind-++ (w ∷ a) b = ap (λ (l : List ℕ). 32 ∷ (w ++ l)) (behind-++ a b) ∙ ap (λ (l : List ℕ). 32 ∷ l) (sym (append_assoc w (behind a) (behind b)))

-- ---- a loop over the words of a line

module _ {A : Type 0} (f : A → List ℕ) where
  abbrev pub left_of : ℕ → List A → List ℕ
  left_of i xs = left i (map f xs)

  none_left : (i : ℕ) → left i [] ≡ []
  unfolding left spaced behind
  none_left i = go (eqb i 0)
    where
      go : (t : Bool) → ◌≡◌ {A = List ℕ} (cond t [] []) []
      go true = refl
      go false = refl

  one_left : (i : ℕ) (w : List ℕ) (ws : List (List ℕ)) → left i (w ∷ ws) ≡ (gap i ++ w) ++ left (i + 1) ws
  unfolding left gap behind
  one_left i w ws =
      let later : eqb (i + 1) 0 ≡ false = ne_eqb (i + 1) 0 (omega arith) in
      rw later (go (eqb i 0))
    where
      go : (t : Bool) → cond t (spaced (w ∷ ws)) (32 ∷ (w ++ behind ws)) ≡ (cond t [] (32 ∷ []) ++ w) ++ behind ws
      go true = spaced-is w ws
      go false = refl

  -- the i-th word, with the space before it, and what is left behind it
  pub next-left : (xs : List A) (i : ℕ) (d : A) → i < length xs → left_of i (drop i xs) ≡ (gap i ++ f (get_or xs i d)) ++ left_of (i + 1) (drop (i + 1) xs)
  next-left xs i d h =
      let split : drop i xs ≡ get_or xs i d ∷ drop (i + 1) xs = rw (add-one, drop-cons xs i d) in
      ap (left_of i) split ∙ one_left i (f (get_or xs i d)) (map f (drop (i + 1) xs))

  pub all-left : (xs : List A) (i : ℕ) → length xs ≤ i → left_of i (drop i xs) ≡ []
  all-left xs i h = rw (drop_of_length-le xs {i = i} h) (none_left i)

-- numbers with the same decimals
pub list-is : (places : ℕ) (numbers : List ℤ) → list_text places numbers ≡ spaced (map (decimal places) numbers)
unfolding list_text
list-is places numbers = row_is places [] numbers

abbrev pub frequency_word : ℕ → List ℕ
frequency_word t = decimal 9 (pos (billionths t))

abbrev pub heading_word : ℤ → List ℕ
heading_word h = decimal 3 h

pub frequencies-are : (ticks : List ℕ) → left_of frequency_word 0 ticks ≡ frequency_text ticks
unfolding frequency_text left
frequencies-are ticks = sym (list-is 9 _ ∙ ap spaced (map-map (decimal 9) (λ t. pos (billionths t)) ticks))

pub headings-are : (hs : List ℤ) → left_of heading_word 0 hs ≡ heading_text hs
unfolding heading_text left
headings-are hs = sym (list-is 3 hs)

-- ---- a loop over values

abbrev pub values_text : ℕ → List Parts → List ℕ
values_text i values = behind (map (decimal 6) (parts_in (map complex_of values)))

pub next-values : (vs : List Parts) (i : ℕ) (d : Parts) → i < length vs → let v = get_or vs i d in values_text i (drop i vs) ≡ ((32 ∷ decimal 6 v.re) ++ (32 ∷ decimal 6 v.im)) ++ values_text (i + 1) (drop (i + 1) vs)
unfolding behind parts_in
next-values vs i d h =
    let v = get_or vs i d in
    rw (add-one, drop-cons vs i d) (sym (append_assoc (32 ∷ decimal 6 v.re) (32 ∷ decimal 6 v.im) (values_text 0 (drop (suc i) vs))))

pub no-values : (vs : List Parts) (i : ℕ) → length vs ≤ i → values_text i (drop i vs) ≡ []
unfolding behind parts_in
no-values vs i h = rw (drop_of_length-le vs {i = i} h)

-- ---- a row of the matrix

-- four words as the code puts them
pub four_are : (i j a b : List ℕ) → i ++ ((32 ∷ j) ++ ((32 ∷ a) ++ (32 ∷ b))) ≡ i ++ behind (j ∷ a ∷ b ∷ [])
unfolding behind
four_are i j a b = ap (λ (l : List ℕ). i ++ (32 ∷ (j ++ (32 ∷ (a ++ (32 ∷ l)))))) (sym (append-nil b))

pub parts-count : (zs : List Complex) → length (parts_in zs) ≡ 2 * length zs
unfolding parts_in
parts-count [] = omega arith
parts-count (z ∷ zs) = omega (arith, parts-count zs)

-- the indexes, and then the twelve parts
pub row-is-put : (ticks : List ℕ) (hs : List ℤ) (p : Pair) (zs : List Complex) → length zs ≡ 6 → index_text ticks hs p ++ behind (map (decimal 6) (parts_in zs)) ≡ matrix_line ticks hs p zs
unfolding index_text matrix_line indexes
row-is-put ticks hs p zs six =
    let i = slot_of eqb ticks p.first.tick in
    let j = slot_of eqb ticks p.second.tick in
    let a = slot_of same_ℤ hs p.first.heading in
    let b = slot_of same_ℤ hs p.second.heading in
    let parts = parts_in zs in
    let twelve : length parts ≡ 12 = omega (arith, parts-count zs) in
    let three : List (List ℕ) = natural j ∷ natural a ∷ natural b ∷ [] in
    append_assoc (natural i) (behind three) (behind (map (decimal 6) parts))
    ∙ ap (λ (l : List ℕ). natural i ++ l) (sym (behind-++ three (map (decimal 6) parts)))
    ∙ sym (spaced-is (natural i) (three ++ map (decimal 6) parts))
    ∙ sym (row_is 6 (i ∷ j ∷ a ∷ b ∷ []) parts)
    ∙ ap (λ (n : ℕ). row_text (replicate 4 0 ++ replicate n 6) (map pos (i ∷ j ∷ a ∷ b ∷ []) ++ parts)) twelve
