-- The first word of a text, and the words behind it. Assumes nothing.
use Rattle.std.proofs.Common.{◌≡◌, refl, sym, ◌∙◌, ap, Bool, true, false, cond, List, [], ◌∷◌, ℕ, suc, ◌+◌, ◌-◌, ◌≤◌, ◌<◌, length, take, drop, eqb, not, arith, length-drop}
use Rattle.std.specs.List.{position_or_len, slice_split, onto_first}
use Rattle.std.specs.Str.{bytes_eq}
use Rattle.std.proofs.lemmas.List.{at_drop_more, at_drop_all}
use Rattle.std.proofs.Math.Seq.{take_all}
use Rattle.field.specs.Text.{bytes}
use Rattle.script.specs.declared.words.Command.{Command}
use Rattle.script.specs.declared.words.Part.{Part}
use Rattle.script.specs.Line.{words_of}
use Rattle.script.specs.Number.{numbers_of}
use Rattle.script.specs.Command.{verb_of, plain_of, forge_of, of_words, command_of}
use Rattle.script.specs.own.Behind.{word_end, behind}

pub split : (s : List ℕ) → words_of s ≡ take (word_end s) s ∷ behind (drop (word_end s) s)
unfolding words_of word_end behind
split [] = refl
split (b ∷ s) = go (eqb b 32) (split s)
  where
    e : Bool → ℕ
    e t = cond (not t) (1 + position_or_len (λ c. eqb c 32) s) 0

    go :
        (t : Bool)
        → slice_split (λ c. eqb c 32) s ≡ take (position_or_len (λ c. eqb c 32) s) s ∷ behind (drop (position_or_len (λ c. eqb c 32) s) s)
        → cond t ([] ∷ slice_split (λ c. eqb c 32) s) (onto_first b (slice_split (λ c. eqb c 32) s))
        ≡ take (e t) (b ∷ s) ∷ behind (drop (e t) (b ∷ s))
    go true h = refl
    go false h =
        let p : ℕ = position_or_len (λ c. eqb c 32) s in
        let one : suc p ≡ 1 + p = omega arith in
        ap (onto_first b) h ∙ ap (λ (n : ℕ). take n (b ∷ s) ∷ behind (drop n (b ∷ s))) one

-- a text from a place on, as the code takes it
pub tail : (line : List ℕ) (i : ℕ) → take (length line - i) (drop i line) ≡ drop i line
tail line i = take_all (length line - i) (drop i line) (omega (arith, length-drop i line))

-- the words behind a place where a space stands, and where the line ends
module _ (line : List ℕ) (end : ℕ) where
  pub behind-here : end < length line → words_of (drop (end + 1) line) ≡ behind (drop end line)
  unfolding behind
  behind-here h = sym (at_drop_more behind line end 0 h)

  pub behind-none : length line ≤ end → [] ≡ behind (drop end line)
  unfolding behind
  behind-none h = sym (at_drop_all behind line end h)

-- ---- a command

module _ (line : List ℕ) where
  abbrev first : List ℕ
  first = take (word_end line) line

  abbrev rest : List ℕ
  rest = drop (word_end line) line

  pub plain-is : ◌≡◌ {A = Command} record { verb = verb_of first; part = Part.Unknown; numbers = numbers_of (behind rest) } (plain_of (words_of line))
  unfolding plain_of
  plain-is = ap plain_of (sym (split line))

  -- the one word of the line
  pub one-word : length line ≤ word_end line → plain_of (words_of line) ≡ command_of line
  unfolding command_of of_words
  one-word h = rw (split line, ← behind-none line (word_end line) h)

  -- more words than one, which are those of the text behind the first space
  module _ (more : word_end line < length line) where
    here : words_of line ≡ first ∷ take (word_end (drop (word_end line + 1) line)) (drop (word_end line + 1) line) ∷ behind (drop (word_end (drop (word_end line + 1) line)) (drop (word_end line + 1) line))
    here = split line ∙ ap (λ ws. first ∷ ws) (sym (behind-here line (word_end line) more) ∙ split (drop (word_end line + 1) line))

    pub forge-line : bytes_eq first (bytes "forge") ≡ true → forge_of (words_of (drop (word_end line + 1) line)) ≡ command_of line
    unfolding command_of of_words
    forge-line t = rw (here, t) (ap forge_of (split (drop (word_end line + 1) line)))

    pub other-line : bytes_eq first (bytes "forge") ≡ false → plain_of (words_of line) ≡ command_of line
    unfolding command_of of_words
    other-line t = rw (here, t)
