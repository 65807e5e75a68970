-- The whole text in lent bytes: its lines one behind the other, and each way in which `write` answers. Assumes nothing.
use mathlib.Core.Path.{◌≡◌, refl, sym, ap, ◌∙◌}
use mathlib.Core.Bool.{Bool, true, false}
use mathlib.Core.List.{List, [], ◌∷◌, ◌++◌, append_assoc}
use native.Mathlib.Numerals.{add-one}
use Prim.Native.Nat.{ℕ, suc, ◌+◌, ◌-◌, ◌≤◌, ◌<◌}
use native.Mathlib.Omega.{arith}
use lib.Dec.{ltb, eqb}
use lib.ListN.{length, drop, get_or, drop_of_length-le}
use lib.Seq.{sets-eq, drop-cons}
use borrow.Author.Tests.{lt-ltb, le-ltb, ltb-true, ltb-false, eq-eqb, ne_eqb}
use Rattle.whole.proofs.Any.{none-at}
use Rattle.text.specs.Parts.{text_of}
use Rattle.text.specs.Put.{Placed, placed, put}
use Rattle.text.proofs.Puts.{put_all}
use Rattle.table.specs.Pairs.{nowhere}
use Rattle.reader.specs.declared.record.Record.{Record}
use Rattle.proteus.specs.Answer.{Wrote}
use Rattle.hull.specs.Six.{Component, is_spoilt}
use Rattle.proteus.specs.Lines.{proteus_lines}
use Rattle.proteus.specs.Answer.{line_spoilt, any_spoilt, text_number, proteus_text, write_number, outcome, written}
use Rattle.proteus.specs.own.Step.{measured}
use Rattle.proteus.proofs.Stepping.{Leads, needed, line-count, head-whole, row-spoilt}

-- ---- the lines, each with its line feed

-- the k-th, and what is left behind it
pub next-line : (lines : List (List ℕ)) (k : ℕ) → k < length lines → text_of (drop k lines) ≡ (get_or lines k [] ++ (10 ∷ [])) ++ text_of (drop (k + 1) lines)
unfolding text_of
next-line lines k h = rw (add-one, drop-cons lines k []) (sym (append_assoc (get_or lines k []) (10 ∷ []) (text_of (drop (suc k) lines))))

pub no-lines : (lines : List (List ℕ)) (k : ℕ) → length lines ≤ k → text_of (drop k lines) ≡ []
unfolding text_of
no-lines lines k h = rw (drop_of_length-le lines {i = k} h)

-- ---- no line of a text with no number is spoilt

pub whole-line : {cs : List Component} {first : Record} → Leads cs first → any_spoilt cs ≡ false → (k : ℕ) → k < length (proteus_lines cs) → line_spoilt cs k ≡ false
whole-line {cs} {first} l whole k h = go (ltb k 5) refl
  where
    go : (t : Bool) → ltb k 5 ≡ t → line_spoilt cs k ≡ false
    go true low = head-whole l k (ltb-true k 5 low)
    go false low =
        let late = ltb-false k 5 low in
        let e : 5 + (k - 5) ≡ k = omega arith in
        let more : k - 5 < length (needed first) = omega (arith, line-count l) in
        ap (line_spoilt cs) (sym e) ∙ row-spoilt l (k - 5) more ∙ none-at (is_spoilt cs) nowhere (needed first) (sym l.any ∙ whole) (k - 5) more

-- ---- the answers, from what `measure` says

module _ (cs : List Component) (out : List ℕ) {w : Wrote} (m : w ≡ measured cs) where
  pub number_is : w.number ≡ text_number cs
  unfolding measured
  number_is = ap (λ (v : Wrote). v.number) m

  length-is : text_number cs ≡ 0 → w.length ≡ length (proteus_text cs)
  unfolding measured
  length-is e = ap (λ (v : Wrote). v.length) m ∙ rw (eq-eqb (text_number cs) 0 e)

  pub refused : (w.number ≡ 0 → ⊥) → outcome w out ≡ written cs out
  unfolding written write_number measured
  refused h =
      let some : eqb (text_number cs) 0 ≡ false = ne_eqb (text_number cs) 0 (λ e. h (number_is ∙ e)) in
      ap (λ (v : Wrote). outcome v out) m ∙ rw (some, some)

  pub no_room : w.number ≡ 0 → length out < w.length → outcome (record { number = 19; length = 0 }) out ≡ written cs out
  unfolding written write_number
  no_room h short =
      let none : text_number cs ≡ 0 = sym number_is ∙ h in
      let less : length out < length (proteus_text cs) = omega (arith, length-is none) in
      rw (none, lt-ltb (length out) (length (proteus_text cs)) less)

  pub put_whole : {end : List ℕ} {n : ℕ} → w.number ≡ 0 → w.length ≤ length out → placed end n ≡ put out 0 (proteus_text cs) → outcome w end ≡ written cs out
  unfolding written write_number
  put_whole h room e =
      let text = proteus_text cs in
      let none : text_number cs ≡ 0 = sym number_is ∙ h in
      let fits : 0 + length text ≤ length out = omega (arith, length-is none) in
      let enough : length text ≤ length out = omega arith in
      let place : 0 + length text ≡ length text = omega arith in
      let there : _ ≡ text ++ drop (length text) out =
      ap (λ (p : Placed). p.out) (e ∙ put_all out 0 text fits) ∙ sets-eq text out 0 fits ∙ ap (λ (k : ℕ). text ++ drop k out) place in
      rw (none, le-ltb (length out) (length text) enough)
      (λ i. outcome (record { number = h i; length = length-is none i }) (there i))
