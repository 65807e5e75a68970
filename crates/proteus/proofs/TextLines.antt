-- The whole text is its lines, each as `line_at` answers it with a line feed behind; and a part of it is out of bounds exactly when one of them is spoilt.
-- Assumes nothing.
use mathlib.Core.Path.{◌≡◌, refl, sym, ap, ◌∙◌}
use mathlib.Core.Logic.{◌↔◌}
use mathlib.Core.Bool.{Bool, true, false, cond, true≢false}
use mathlib.Core.List.{List, [], ◌∷◌}
use Prim.Native.Nat.{ℕ, zero, suc, ◌+◌, ◌<◌}
use native.Mathlib.Omega.{arith}
use lib.Dec.{ltb}
use lib.ListN.{length, take, get_or}
use lib.Seq.{take-append_seam}
use borrow.Author.Tests.{ltb-true, ltb-false}
use Rattle.whole.specs.Any.{any_of}
use Rattle.whole.proofs.Any.{some_at}
use Rattle.text.specs.Parts.{text_of}
use Rattle.text.specs.Line.{line_of}
use Rattle.table.specs.Pairs.{nowhere}
use Rattle.reader.specs.declared.record.Record.{Record}
use Rattle.proteus.specs.Answer.{Lined}
use Rattle.hull.specs.Six.{Component, six_barred, are_six, is_spoilt}
use Rattle.proteus.specs.Lines.{proteus_lines}
use Rattle.proteus.specs.Answer.{line_spoilt, line_number, lined_of, line_at, any_spoilt, text_number, proteus_text}
use Rattle.proteus.proofs.Accepted.{free}
use Rattle.proteus.proofs.Answering.{past-whole}
use Rattle.proteus.proofs.Stepping.{Leads, lead, needed, line-count, row-spoilt}
use Rattle.proteus.proofs.WholeText.{whole-line}

-- the text of an answer: its first `len` bytes
abbrev pub text_in : Lined → List ℕ
text_in l = take l.line.len l.line.bytes

-- n of a sequence, from 0 on
abbrev pub first_of : {A : Type 0} → ℕ → (ℕ → A) → List A
first_of zero f = []
first_of (suc n) f = f 0 ∷ first_of n (λ k. f (suc k))

pub record TextLines (cs : List Component) : Type 0 where
  pub text : text_number cs ≡ 0 → proteus_text cs ≡ text_of (first_of (length (proteus_lines cs)) (λ k. text_in (line_at cs k)))
  pub none : text_number cs ≡ 0 → (k : ℕ) → (line_at cs k).number ≡ 0
  pub spoilt : six_barred cs ≡ 0 → (text_number cs ≡ 15) ↔ ((k : ℕ) × (k < length (proteus_lines cs)) × ((line_at cs k).number ≡ 15))

-- ---- a list by its places

by_place : {A : Type 0} (d : A) (xs : List A) → xs ≡ first_of (length xs) (λ k. get_or xs k d)
by_place d [] = refl
by_place {A} d (x ∷ xs) = ap (λ (l : List A). x ∷ l) (by_place d xs)

same-firsts : {A : Type 0} (n : ℕ) (f g : ℕ → A) → ((k : ℕ) → f k ≡ g k) → first_of n f ≡ first_of n g
same-firsts zero f g h = refl
same-firsts (suc n) f g h = λ i. h 0 i ∷ same-firsts n (λ k. f (suc k)) (λ k. g (suc k)) (λ k. h (suc k)) i

-- ---- a line's number and its text

module _ (cs : List Component) (k : ℕ) (unbarred : six_barred cs ≡ 0) where
  pub number_of : (line_at cs k).number ≡ cond (line_spoilt cs k) 15 0
  unfolding line_at lined_of line_of line_number
  number_of = rw unbarred

  text-of : line_spoilt cs k ≡ false → text_in (line_at cs k) ≡ get_or (proteus_lines cs) k []
  unfolding line_at lined_of line_of line_number
  text-of whole = rw (unbarred, whole) (take-append_seam (get_or (proteus_lines cs) k []) _)

text-number : (cs : List Component) → six_barred cs ≡ 0 → text_number cs ≡ cond (any_spoilt cs) 15 0
unfolding text_number
text-number cs unbarred = rw unbarred

-- 15 is told from 0
is-fifteen : (t : Bool) → ◌≡◌ {A = ℕ} (cond t 15 0) 15 → t ≡ true
is-fifteen true e = refl
is-fifteen false e = absurd (omega arith)

-- ---- the law

module _ {cs : List Component} {first : Record} (l : Leads cs first) where
  all_whole : any_spoilt cs ≡ false → (k : ℕ) → line_spoilt cs k ≡ false
  all_whole whole k = go (ltb k (length (proteus_lines cs))) refl
    where
      go : (t : Bool) → ltb k (length (proteus_lines cs)) ≡ t → line_spoilt cs k ≡ false
      go true h = whole-line l whole k (ltb-true k (length (proteus_lines cs)) h)
      go false h = past-whole l k (ltb-false k (length (proteus_lines cs)) h)

  led-lines : TextLines cs
  unfolding proteus_text
  led-lines =
      record {
        text = λ e.
            let f = free cs e in
            ap text_of
            (by_place [] (proteus_lines cs)
            ∙ sym (same-firsts (length (proteus_lines cs)) (λ k. text_in (line_at cs k)) (λ k. get_or (proteus_lines cs) k []) (λ k. text-of cs k f.unbarred (all_whole f.whole k))));
        none = λ e k. let f = free cs e in number_of cs k f.unbarred ∙ ap (λ (t : Bool). cond t 15 0) (all_whole f.whole k);
        spoilt = λ unbarred. (forth unbarred, back unbarred);
      }
    where
      forth : six_barred cs ≡ 0 → text_number cs ≡ 15 → (k : ℕ) × (k < length (proteus_lines cs)) × ((line_at cs k).number ≡ 15)
      forth unbarred e =
          let any = is-fifteen (any_spoilt cs) (sym (text-number cs unbarred) ∙ e) in
          let (j, there, so) = some_at (is_spoilt cs) nowhere (needed first) (sym l.any ∙ any) in
          (5 + j, omega (arith, line-count l), number_of cs (5 + j) unbarred ∙ ap (λ (t : Bool). cond t 15 0) (row-spoilt l j there ∙ so))

      back : six_barred cs ≡ 0 → (k : ℕ) × (k < length (proteus_lines cs)) × ((line_at cs k).number ≡ 15) → text_number cs ≡ 15
      back unbarred (k, there, e) = text-number cs unbarred ∙ ap (λ (t : Bool). cond t 15 0) (go (any_spoilt cs) refl)
        where
          go : (t : Bool) → any_spoilt cs ≡ t → t ≡ true
          go true h = refl
          go false h =
              absurd (true≢false (sym (is-fifteen (line_spoilt cs k) (sym (number_of cs k unbarred) ∙ e)) ∙ whole-line l h k there))

-- no tables at all are barred
none-barred : six_barred [] ≡ 18
unfolding six_barred any_of are_six
none-barred = refl

pub text-lines : (cs : List Component) → TextLines cs
text-lines [] =
    record {
      text = λ e. absurd (clash (free [] e).unbarred);
      none = λ e k. absurd (clash (free [] e).unbarred);
      spoilt = λ unbarred. absurd (clash unbarred);
    }
  where
    clash : six_barred [] ≡ 0 → ⊥
    clash e = omega (arith, none-barred)
text-lines (c ∷ cs) = led-lines (lead c cs)
