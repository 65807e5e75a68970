-- Words and lines as they are joined, and texts put into slices a byte at a time. Assumes nothing.
use mathlib.Core.Path.{◌≡◌, refl, sym, ap, subst, ◌∙◌}
use mathlib.Core.List.{List, [], ◌∷◌, ◌++◌, append_assoc, append-nil, zip_with}
use Prim.Native.Nat.{ℕ, suc, ◌+◌, ◌≤◌, ◌<◌}
use native.Mathlib.Nat.{add-zero}
use native.Mathlib.Omega.{arith}
use lib.IntN.{ℤ}
use lib.ListN.{length, length-append}
use lib.Seq.{set-append_seam}
use borrow.Author.Tests.{lt-ltb, le-ltb}
use Rattle.text.specs.Decimal.{decimal}
use Rattle.text.specs.Spaced.{spaced}
use Rattle.text.specs.Parts.{text_of}
use Rattle.text.specs.Rows.{row_text}
use Rattle.text.specs.Put.{Placed, placed, put}
use Rattle.promises_writing.specs.WrittenLines.{Joined, WordsExactly, NumbersAre, NumbersExactly, Fed, FeedsExactly, Holds, PutWhole, PutPart, PutBeyond}
use Rattle.promises_writing.specs.WrittenLines.Joined.{no_word, one_word, more-words}
use Rattle.promises_writing.specs.WrittenLines.NumbersAre.{no_number, number}
use Rattle.promises_writing.specs.WrittenLines.Fed.{no_line, more-lines}
use Rattle.promises_writing.proofs.WrittenNumbers.{decimal-exactly}

-- ---- words of a line

joins : (words : List (List ℕ)) → Joined words (spaced words)
unfolding spaced
joins [] = no_word
joins (w ∷ []) = one_word
joins (w ∷ v ∷ ws) = more-words refl (joins (v ∷ ws))

joined-one : {words : List (List ℕ)} {text : List ℕ} → Joined words text → spaced words ≡ text
unfolding spaced
joined-one no_word = refl
joined-one one_word = refl
joined-one (more-words {word = w} e j) = ap (λ (l : List ℕ). w ++ (32 ∷ l)) (joined-one j) ∙ sym e

pub words-exactly : WordsExactly
words-exactly words text = (λ e. subst (Joined words) e (joins words), joined-one)

-- ---- a line of numbers

numbers-are : (places : List ℕ) (row : List ℤ) → length places ≡ length row → NumbersAre places row (zip_with decimal places row)
unfolding zip_with
numbers-are [] [] h = no_number
numbers-are [] (z ∷ row) h = absurd (omega arith)
numbers-are (k ∷ places) [] h = absurd (omega arith)
numbers-are (k ∷ places) (z ∷ row) h = number ((decimal-exactly k z (decimal k z)).0 refl) (numbers-are places row (omega arith))

numbers-one : {places : List ℕ} {row : List ℤ} {words : List (List ℕ)} → NumbersAre places row words → zip_with decimal places row ≡ words
unfolding zip_with
numbers-one no_number = refl
numbers-one (number {k = k} {z = z} {word = w} n ns) = λ i. (decimal-exactly k z w).1 n i ∷ numbers-one ns i

pub numbers-exactly : NumbersExactly
unfolding row_text
numbers-exactly places row text h = (
  λ e. record { words = zip_with decimal places row; numbers = numbers-are places row h; joined = (words-exactly (zip_with decimal places row) text).0 e },
  λ r. ap spaced (numbers-one r.numbers) ∙ joined-one r.joined,
)

-- ---- lines of a text

feeds : (lines : List (List ℕ)) → Fed lines (text_of lines)
unfolding text_of
feeds [] = no_line
feeds (l ∷ ls) = more-lines refl (feeds ls)

fed-one : {lines : List (List ℕ)} {text : List ℕ} → Fed lines text → text_of lines ≡ text
unfolding text_of
fed-one no_line = refl
fed-one (more-lines {line = l} e f) = ap (λ (t : List ℕ). l ++ (10 ∷ t)) (fed-one f) ∙ sym e

pub feeds-exactly : FeedsExactly
feeds-exactly lines text = (λ e. subst (Fed lines) e (feeds lines), fed-one)

-- ---- a text in a slice

beyond : (out : List ℕ) (at : ℕ) (text : List ℕ) → length out ≤ at → put out at text ≡ placed out at
unfolding put
beyond out at [] h = refl
beyond out at (b ∷ text) h = rw (le-ltb at (length out) h)

-- one byte, where there is room for it
put_byte :
    (front : List ℕ) (o b : ℕ) (rest text : List ℕ)
    → put (front ++ (o ∷ rest)) (length front) (b ∷ text) ≡ put ((front ++ (b ∷ [])) ++ rest) (length (front ++ (b ∷ []))) text
unfolding put
put_byte front o b rest text =
    let room : length front < length (front ++ (o ∷ rest)) = omega (arith, length-append front (o ∷ rest)) in
    let next : length front + 1 ≡ length (front ++ (b ∷ [])) = omega (arith, length-append front (b ∷ [])) in
    rw (lt-ltb (length front) (length (front ++ (o ∷ rest))) room, set-append_seam front o rest b, next)
    (ap (λ (l : List ℕ). put l (length (front ++ (b ∷ []))) text) (sym (append_assoc front (b ∷ []) rest)))

place-on : (front : List ℕ) (b n : ℕ) → length (front ++ (b ∷ [])) + n ≡ length front + suc n
place-on front b n = omega (arith, length-append front (b ∷ []))

all-put :
    (front old back text : List ℕ) → length old ≡ length text
    → put (front ++ (old ++ back)) (length front) text ≡ placed (front ++ (text ++ back)) (length front + length text)
unfolding put
all-put front [] back [] h = ap (placed (front ++ back)) (sym (add-zero (length front)))
all-put front [] back (b ∷ text) h = absurd (omega arith)
all-put front (o ∷ old) back [] h = absurd (omega arith)
all-put front (o ∷ old) back (b ∷ text) h =
    put_byte front o b (old ++ back) text
    ∙ all-put (front ++ (b ∷ [])) old back text (omega arith)
    ∙ (λ i. placed (append_assoc front (b ∷ []) (text ++ back) i) (place-on front b (length text) i))

part-put :
    (front old part rest : List ℕ) → length old ≡ length part
    → put (front ++ old) (length front) (part ++ rest) ≡ placed (front ++ part) (length front + length part)
part-put front [] [] rest h =
    ap (λ (l : List ℕ). put l (length front) rest) (append-nil front)
    ∙ beyond front (length front) rest (omega arith)
    ∙ sym (λ i. placed (append-nil front i) (add-zero (length front) i))
part-put front [] (b ∷ part) rest h = absurd (omega arith)
part-put front (o ∷ old) [] rest h = absurd (omega arith)
part-put front (o ∷ old) (b ∷ part) rest h =
    put_byte front o b old (part ++ rest)
    ∙ part-put (front ++ (b ∷ [])) old part rest (omega arith)
    ∙ (λ i. placed (append_assoc front (b ∷ []) part i) (place-on front b (length part) i))

holds : {p : Placed} (out : List ℕ) (at : ℕ) → p ≡ placed out at → Holds p out at
holds out at e = record { bytes = ap (λ (q : Placed). q.out) e; next = ap (λ (q : Placed). q.at) e }

pub put_whole : PutWhole
put_whole front old back text h = holds (front ++ (text ++ back)) (length front + length text) (all-put front old back text h)

pub put-part : PutPart
put-part front old part rest h = holds (front ++ part) (length front + length part) (part-put front old part rest h)

pub put-beyond : PutBeyond
put-beyond out at text h = holds out at (beyond out at text h)
