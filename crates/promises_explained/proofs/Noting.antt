-- A line put down where none stands yet: what it leaves at each place, and a list of lines that says of each value in order of arrival which line brought it. Assumes nothing.
use mathlib.Core.Path.{◌≡◌, refl, sym, ap, subst, ◌∙◌}
use mathlib.Core.Logic.{⊎_elim}
use mathlib.Core.List.{List, [], ◌∷◌, ◌++◌}
use Prim.Native.Nat.{ℕ, ◌≤◌, ◌<◌}
use native.Mathlib.Omega.{arith}
use native.Mathlib.Decide.{ℕ_discrete}
use lib.ListN.{length, get_or, set, drop, length-set, get_or-append}
use lib.Seq.{drop-set-lt, get_or-set_same, get_or-set_other, get_or-append_seam}
use borrow.Author.Tests.{eq-eqb, ne_eqb}
use Rattle.reader.proofs.Kept.{by-eq}
use Rattle.row.specs.declared.reading.Choices.{Choices}
use Rattle.row.specs.declared.reading.Entry.{Entry}
use Rattle.grid.specs.Slots.{slot_of}
use Rattle.origins.specs.Memory.{noted}
use Rattle.promises_rows.specs.Said.{arrive}
use Rattle.promises_explained.specs.Explained.{FirstLine, BroughtBy}
use Rattle.promises_rows.proofs.Equality.{Same}
use Rattle.promises_rows.proofs.Arriving.{In, Out, in-or-out, slot-last, arrive-in, arrive-out, length_more}
use Rattle.promises_explained.proofs.FirstLines.{first_more, first_some}

module _ (line : ℕ) where
  -- it stands where none stood
  pub noted-none : (at : ℕ) (l : List ℕ) → get_or l at 0 ≡ 0 → noted line at l ≡ set l at line
  unfolding noted
  noted-none at l e = rw (eq-eqb (get_or l at 0) 0 e)

  pub noted-some : (at : ℕ) (l : List ℕ) → (get_or l at 0 ≡ 0 → ⊥) → noted line at l ≡ l
  unfolding noted
  noted-some at l n = rw (ne_eqb (get_or l at 0) 0 n)

  by-noted : (P : List ℕ → Type 0) (at : ℕ) (l : List ℕ) → (get_or l at 0 ≡ 0 → P (set l at line)) → ((get_or l at 0 ≡ 0 → ⊥) → P l) → P (noted line at l)
  unfolding noted
  by-noted P at l = by-eq P (get_or l at 0) 0 (set l at line) l

  pub noted-long : (at : ℕ) (l : List ℕ) → length (noted line at l) ≡ length l
  noted-long at l = by-noted (λ (z : List ℕ). length z ≡ length l) at l (λ e. length-set l at line) (λ n. refl)

  -- where a line stood, it stays
  pub noted-stays : (at k : ℕ) (l : List ℕ) → (get_or l k 0 ≡ 0 → ⊥) → get_or (noted line at l) k 0 ≡ get_or l k 0
  noted-stays at k l n =
      by-noted (λ (z : List ℕ). get_or z k 0 ≡ get_or l k 0) at l
      (λ e. get_or-set_other l at k line 0 (λ p. n (ap (λ (j : ℕ). get_or l j 0) p ∙ e)))
      (λ m. refl)

  -- at another place nothing changes
  pub noted_other : (at k : ℕ) (l : List ℕ) → (k ≡ at → ⊥) → get_or (noted line at l) k 0 ≡ get_or l k 0
  noted_other at k l n = by-noted (λ (z : List ℕ). get_or z k 0 ≡ get_or l k 0) at l (λ e. get_or-set_other l at k line 0 n) (λ m. refl)

  pub noted_here : (at : ℕ) (l : List ℕ) → at < length l → get_or l at 0 ≡ 0 → get_or (noted line at l) at 0 ≡ line
  noted_here at l h e = ap (λ (z : List ℕ). get_or z at 0) (noted-none at l e) ∙ get_or-set_same l at line 0 h

  pub noted-past : (at n : ℕ) (l : List ℕ) → at < n → drop n (noted line at l) ≡ drop n l
  noted-past at n l h = by-noted (λ (z : List ℕ). drop n z ≡ drop n l) at l (λ e. drop-set-lt n l at line h) (λ m. refl)

-- ---- who brought each value, in order of arrival

module _ {A : Type 0} {c : Choices} {Brings : A → Entry → Type 0} {slots : ℕ} {none : A} where
  -- lines more behind
  pub brought-more :
      {lines : List (List ℕ)} {held : List A} {l : List ℕ} (more : List (List ℕ)) → BroughtBy c lines Brings slots none held l
      → BroughtBy c (lines ++ more) Brings slots none held l
  brought-more more b = record { long = b.long; brought = λ k h. first_more more (b.brought k h); behind = b.behind }

  -- one value arrives, with the line that it comes in
  module _ (E : Same A) {lines : List (List ℕ)} {held : List A} {l : List ℕ} (b : BroughtBy c lines Brings slots none held l) (x : A) (line : ℕ) where
    known : In E held x → BroughtBy c lines Brings slots none held (noted line (slot_of E.eq held x) l)
    known h = subst (BroughtBy c lines Brings slots none held) (sym (noted-some line _ l (first_some (b.brought _ h)))) b

    new-brought :
        length held < slots → FirstLine c lines (Brings x) line → (k : ℕ) → k < length (held ++ (x ∷ []))
        → FirstLine c lines (Brings (get_or (held ++ (x ∷ [])) k none)) (get_or (noted line (length held) l) k 0)
    new-brought room f k h =
        let long = length_more E held x in
        elim (ℕ_discrete k (length held)) [
          | yes e ↦
              let value : get_or (held ++ (x ∷ [])) k none ≡ x = ap (λ (j : ℕ). get_or (held ++ (x ∷ [])) j none) e ∙ get_or-append_seam held x [] none in
              let number : get_or (noted line (length held) l) k 0 ≡ line =
              ap (λ (j : ℕ). get_or (noted line (length held) l) j 0) e
              ∙ noted_here line (length held) l (omega (arith, b.long)) (b.behind (length held) (omega arith))
              in
              subst (λ (n : ℕ). FirstLine c lines (Brings (get_or (held ++ (x ∷ [])) k none)) n) (sym number)
              (subst (λ (z : A). FirstLine c lines (Brings z) line) (sym value) f)
          | no e ↦
              let low : k < length held = omega arith in
              subst (λ (n : ℕ). FirstLine c lines (Brings (get_or (held ++ (x ∷ [])) k none)) n) (sym (noted_other line (length held) k l e))
              (subst (λ (z : A). FirstLine c lines (Brings z) (get_or l k 0)) (sym (get_or-append held (x ∷ []) none k low)) (b.brought k low))
        ]

    new : length held < slots → FirstLine c lines (Brings x) line → BroughtBy c lines Brings slots none (held ++ (x ∷ [])) (noted line (length held) l)
    new room f =
        let long = length_more E held x in
        record {
          long = noted-long line (length held) l ∙ b.long;
          brought = new-brought room f;
          behind = λ k h. noted_other line (length held) k l (λ e. omega arith) ∙ b.behind k (omega arith);
        }

    pub one-arrives :
        length (arrive E.eq held x) ≤ slots → (Out E held x → FirstLine c lines (Brings x) line)
        → BroughtBy c lines Brings slots none (arrive E.eq held x) (noted line (slot_of E.eq (arrive E.eq held x) x) l)
    one-arrives room f =
        ⊎_elim
        (λ h. subst (λ (z : List A). BroughtBy c lines Brings slots none z (noted line (slot_of E.eq z x) l)) (sym (arrive-in E held x h)) (known h))
        (λ h.
        let came = arrive-out E held x h in
        let more = length_more E held x in
        let few : length held < slots = omega (arith, ap length came) in
        subst (λ (z : List A). BroughtBy c lines Brings slots none z (noted line (slot_of E.eq z x) l)) (sym came)
        (subst (λ (n : ℕ). BroughtBy c lines Brings slots none (held ++ (x ∷ [])) (noted line n l)) (sym (slot-last E held x h)) (new few (f h))))
        (in-or-out E held x)
