-- A row of numbers is read back from its line, for any places; and rows from their lines.
-- Assumes nothing.
use mathlib.Core.Path.{◌≡◌, refl, sym, ap, subst, ◌∙◌}
use mathlib.Core.List.{List, [], ◌∷◌, ◌++◌, map, zip_with}
use mathlib.Core.Option
use mathlib.Core.Option.{some, bind}
use Prim.Native.Nat.{ℕ, suc}
use native.Mathlib.Omega.{arith}
use lib.IntN.{ℤ, pos}
use lib.ListN.{length, replicate, length-replicate}
use borrow.Author.Tests.{eq-eqb}
use Rattle.text.specs.Decimal.{natural, decimal}
use Rattle.text.specs.Spaced.{spaced}
use Rattle.text.specs.Parts.{words_of}
use Rattle.text.specs.Reading.{read_decimal}
use Rattle.text.specs.Rows.{row_text, collected, read_row, read_list, read_rows}
use Rattle.text.proofs.Apart.{Each, Free, Word, words_back, spaced-free}
use Rattle.text.proofs.Back.{decimal-word, decimal-back, decimal-natural}

pub collected-all : {A : Type 0} (xs : List A) → collected (map some xs) ≡ some xs
unfolding collected bind
collected-all [] = refl
collected-all (x ∷ xs) = ap (Option.map (λ l. x ∷ l)) (collected-all xs)

-- ---- a row

all_words : (places : List ℕ) (row : List ℤ) → Each Word (zip_with decimal places row)
unfolding zip_with
all_words [] row = tt
all_words (p ∷ places) [] = tt
all_words (p ∷ places) (z ∷ row) = (decimal-word p z, all_words places row)

words_are : (places : List ℕ) (row : List ℤ) → words_of (row_text places row) ≡ zip_with decimal places row
unfolding row_text
words_are places row = words_back (zip_with decimal places row) (all_words places row)

count-is : (places : List ℕ) (row : List ℤ) → length row ≡ length places → length (zip_with decimal places row) ≡ length places
unfolding zip_with
count-is [] row h = refl
count-is (p ∷ places) [] h = absurd (omega arith)
count-is (p ∷ places) (z ∷ row) h = ap suc (count-is places row (omega arith))

numbers-back :
    (places : List ℕ) (row : List ℤ)
    → length row ≡ length places
    → zip_with read_decimal places (zip_with decimal places row) ≡ map some row
unfolding zip_with
numbers-back [] [] h = refl
numbers-back [] (z ∷ row) h = absurd (omega arith)
numbers-back (p ∷ places) [] h = absurd (omega arith)
numbers-back (p ∷ places) (z ∷ row) h = λ i. decimal-back p z i ∷ numbers-back places row (omega arith) i

-- a number for each column
pub row_back : (places : List ℕ) (row : List ℤ) → length row ≡ length places → read_row places (row_text places row) ≡ some row
unfolding read_row
row_back places row h =
    rw (words_are places row, eq-eqb _ _ (count-is places row h)) (ap collected (numbers-back places row h) ∙ collected-all row)

pub row-free : (places : List ℕ) (row : List ℤ) → Free 10 (row_text places row)
unfolding row_text
row-free places row = spaced-free (zip_with decimal places row) (all_words places row)

-- ---- a row of whole numbers, as indexes are, and behind them decimals with the same places; or of decimals alone

module _ (p : ℕ) where
  columns-are :
      (ns : List ℕ) (row : List ℤ)
      → zip_with decimal (replicate (length ns) 0 ++ replicate (length row) p) (map pos ns ++ row) ≡ map natural ns ++ map (decimal p) row
  unfolding zip_with
  columns-are [] [] = refl
  columns-are [] (z ∷ row) = ap (λ (ws : List (List ℕ)). decimal p z ∷ ws) (columns-are [] row)
  columns-are (n ∷ ns) row = λ i. decimal-natural n i ∷ columns-are ns row i

  count_of : (ns : List ℕ) (row : List ℤ) → length (map pos ns ++ row) ≡ length (replicate (length ns) 0 ++ replicate (length row) p)
  count_of [] row = sym (length-replicate (length row) p)
  count_of (n ∷ ns) row = ap suc (count_of ns row)

  -- as the code writes it
  pub row_is :
      (ns : List ℕ) (row : List ℤ)
      → row_text (replicate (length ns) 0 ++ replicate (length row) p) (map pos ns ++ row) ≡ spaced (map natural ns ++ map (decimal p) row)
  unfolding row_text
  row_is ns row = ap spaced (columns-are ns row)

  pub indexed-back :
      (ns : List ℕ) (row : List ℤ)
      → read_row (replicate (length ns) 0 ++ replicate (length row) p) (spaced (map natural ns ++ map (decimal p) row)) ≡ some (map pos ns ++ row)
  indexed-back ns row = rw (← row_is ns row) (row_back _ (map pos ns ++ row) (count_of ns row))

  pub indexed-free : (ns : List ℕ) (row : List ℤ) → Free 10 (spaced (map natural ns ++ map (decimal p) row))
  indexed-free ns row = subst (Free 10) (row_is ns row) (row-free _ (map pos ns ++ row))

  -- however many they are
  pub list_back : (row : List ℤ) → read_list p (spaced (map (decimal p) row)) ≡ some row
  unfolding read_list
  list_back row =
      let places = replicate (length row) p in
      let counted : length (words_of (spaced (map (decimal p) row))) ≡ length row =
      ap (λ line. length (words_of line)) (sym (row_is [] row)) ∙ ap length (words_are places row) ∙ count-is places row (count_of [] row) ∙ sym (count_of [] row)
      in
      rw counted (indexed-back [] row)

-- ---- rows

module _ (places : List ℕ) where
  each_back : (rows : List (List ℤ)) → Each (λ row. length row ≡ length places) rows → map (read_row places) (map (row_text places) rows) ≡ map some rows
  each_back [] h = refl
  each_back (row ∷ rows) h = λ i. row_back places row h.0 i ∷ each_back rows h.1 i

  pub rows_back : (rows : List (List ℤ)) → Each (λ row. length row ≡ length places) rows → read_rows places (map (row_text places) rows) ≡ some rows
  unfolding read_rows
  rows_back rows h = ap collected (each_back rows h) ∙ collected-all rows

  pub rows-free : (rows : List (List ℤ)) → Each (Free 10) (map (row_text places) rows)
  rows-free [] = tt
  rows-free (row ∷ rows) = (row-free places row, rows-free rows)
