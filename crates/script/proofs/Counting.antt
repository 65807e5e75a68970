-- Numbers taken one after the other are the numbers of the words; and the words of a line, one after the other. Assumes nothing.
use Rattle.std.proofs.Common.{◌≡◌, refl, sym, ap, ◌∙◌, List, [], ◌∷◌, ℕ, ◌+◌, ◌<◌, ◌≤◌, Option, Some, None, Bool, true, false, cond, nat_lt, eqb, length, take, drop, drop-drop, arith}
use Rattle.std.specs.List.{position, position_or_len}
use Rattle.std.proofs.lemmas.Option.{cond_some}
use Rattle.std.proofs.lemmas.List.Splits.{slice_split_none, slice_split_first}
use Rattle.std.proofs.lemmas.List.Sums.{fails_before_first}
use borrow.Author.Tests.{ltb-true, ltb-false}
use Rattle.script.specs.Line.{words_of}
use Rattle.script.specs.declared.numbers.Number.{Number}
use Rattle.script.specs.declared.numbers.Numbers.{Numbers}
use Rattle.script.specs.Number.{number_of, first_of, numbers_of, nothing}
use Rattle.script.specs.own.Growing.{with_number}
use Rattle.script.specs.own.Behind.{with_all}

-- past the tenth nothing changes
full : (all : List (Option Number)) (ws : List (List ℕ)) → with_all record { count = 11; all = all } ws ≡ record { count = 11; all = all }
unfolding with_number
full all [] = refl
full all (w ∷ ws) = full all ws

pub counted : (ws : List (List ℕ)) → with_all nothing ws ≡ numbers_of ws
unfolding with_number numbers_of first_of
counted [] = refl
counted (a ∷ []) = refl
counted (a ∷ b ∷ []) = refl
counted (a ∷ b ∷ c ∷ []) = refl
counted (a ∷ b ∷ c ∷ d ∷ []) = refl
counted (a ∷ b ∷ c ∷ d ∷ e ∷ []) = refl
counted (a ∷ b ∷ c ∷ d ∷ e ∷ f ∷ []) = refl
counted (a ∷ b ∷ c ∷ d ∷ e ∷ f ∷ g ∷ []) = refl
counted (a ∷ b ∷ c ∷ d ∷ e ∷ f ∷ g ∷ h ∷ []) = refl
counted (a ∷ b ∷ c ∷ d ∷ e ∷ f ∷ g ∷ h ∷ i ∷ []) = refl
counted (a ∷ b ∷ c ∷ d ∷ e ∷ f ∷ g ∷ h ∷ i ∷ j ∷ []) = refl
counted (a ∷ b ∷ c ∷ d ∷ e ∷ f ∷ g ∷ h ∷ i ∷ j ∷ k ∷ ws) =
    full (number_of a ∷ number_of b ∷ number_of c ∷ number_of d ∷ number_of e ∷ number_of f ∷ number_of g ∷ number_of h ∷ number_of i ∷ number_of j ∷ []) ws

-- ---- the words of a line

abbrev space : ℕ → Bool
space b = eqb b 32

found : (text : List ℕ) (n : ℕ) → position space text ≡ Some n → (position_or_len space text ≡ n) × (n < length text)
found text n e =
    let at : (nat_lt (position_or_len space text) (length text) ≡ true) × (position_or_len space text ≡ n) = cond_some _ _ _ e in
    (at.1, rw (← at.1) (ltb-true _ _ at.0))

-- the first is what stands before the first space
pub next-word : (text : List ℕ) (n : ℕ) → position space text ≡ Some n → (n < length text) × (words_of text ≡ take n text ∷ words_of (drop (n + 1) text))
unfolding words_of
next-word text n e =
    let at = found text n e in
    (at.1, slice_split_first space text 0 (rw at.0 at.1) ∙ (λ i. take (at.0 i) text ∷ words_of (drop (at.0 i + 1) text)))

-- its number is taken, and the words behind that space are left
pub word-taken :
    (all : Numbers) (rest : List ℕ) (n : ℕ) → position space rest ≡ Some n → {word behind : List ℕ} → word ≡ take n rest → behind ≡ drop n rest → {x : Option Number} → x ≡ number_of word
    → {next : Numbers} → next ≡ with_number all x → with_all next (words_of (drop 1 behind)) ≡ with_all all (words_of rest)
word-taken all rest n e {word} {behind} front back read added =
    let on : drop 1 behind ≡ drop (n + 1) rest = ap (drop 1) back ∙ drop-drop 1 n rest in
    (λ i. with_all ((added ∙ ap (with_number all) (read ∙ ap number_of front)) i) (words_of (on i)))
    ∙ ap (with_all all) (sym (next-word rest n e).1)

-- and where there is none it is the only one
pub last-word : (text : List ℕ) → position space text ≡ None → words_of text ≡ text ∷ []
unfolding words_of
last-word text e = slice_split_none space text (λ k d h. fails_before_first space text k d (omega (arith, whole)))
  where
    past : (t : Bool) → nat_lt (position_or_len space text) (length text) ≡ t → cond t (Some (position_or_len space text)) None ≡ None → length text ≤ position_or_len space text
    past true f g = absurd (let no : ◌≡◌ {A = ℕ} 0 1 = cc in omega arith)
    past false f g = ltb-false _ _ f

    whole : length text ≤ position_or_len space text
    whole = past (nat_lt (position_or_len space text) (length text)) refl e
