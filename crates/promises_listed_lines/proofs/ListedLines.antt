-- The lines of the listing are their words joined, and each word is the number's own. Assumes nothing.
use mathlib.Core.Path.{◌≡◌, refl, sym, ap, subst, ◌∙◌}
use mathlib.Core.Bool.{cond}
use mathlib.Core.List.{List, [], ◌∷◌, ◌++◌, append-nil}
use Prim.Native.Nat.{ℕ, suc}
use lib.Dec.{eqb}
use lib.IntN.{ℤ, pos}
use lib.ListN.{length}
use borrow.Author.Tests.{eqb-true, eqb-false, eq-eqb, ne_eqb}
use Rattle.field.specs.Text.{bytes}
use Rattle.text.specs.Decimal.{natural, signed}
use Rattle.text.specs.Spaced.{spaced}
use Rattle.grid.specs.declared.nodes.Pair.{Pair}
use Rattle.grid.specs.Slots.{held_ticks}
use Rattle.reader.specs.declared.reader.Place.{Place}
use Rattle.row.proofs.Deciding.{by-test}
use Rattle.lines.specs.Listing.{title_text, pair_words, pair_text}
use Rattle.lines.specs.Refusal.{place_words, refusal_text}
use Rattle.promises_writing.specs.WrittenNumbers.{WholeIs}
use Rattle.promises_writing.proofs.WrittenNumbers.{whole-exactly, natural-exactly}
use Rattle.promises_writing.proofs.WrittenLines.{words-exactly}
use Rattle.promises_listed_lines.specs.ListedLines.{Wholes, PairLineExactly, place_numbers, RefusalLineExactly}
use Rattle.promises_listed_lines.specs.ListedLines.{KindWord, CoverageWord, HeldCount, FirstLine, FirstLineExactly}
use Rattle.promises_listed_lines.specs.ListedLines.Wholes.{no_whole, whole}
use Rattle.promises_listed_lines.specs.ListedLines.KindWord.{difference, sum}
use Rattle.promises_listed_lines.specs.ListedLines.CoverageWord.{single, full}
use Rattle.promises_listed_lines.specs.ListedLines.HeldCount.{no_slot, free, held}

-- ---- words that are whole numbers

signed_is : (z : ℤ) → WholeIs z (signed z)
signed_is z = (whole-exactly z (signed z)).0 refl

natural-is : (n : ℕ) → WholeIs (pos n) (natural n)
natural-is n = (natural-exactly n (natural n)).0 refl

-- of one list of numbers there is one list of words
wholes-one : {numbers : List ℤ} {a b : List (List ℕ)} → Wholes numbers a → Wholes numbers b → a ≡ b
wholes-one no_whole no_whole = refl
wholes-one (whole {z = z} {word = v} w ws) (whole {word = u} x xs) =
    λ i. (sym ((whole-exactly z v).1 w) ∙ (whole-exactly z u).1 x) i ∷ wholes-one ws xs i

-- ---- a pair's line

pair-wholes : (p : Pair) {numbers : List ℤ} {words : List (List ℕ)} → Wholes numbers words
    → Wholes (pos p.first.tick ∷ p.first.heading ∷ pos p.second.tick ∷ p.second.heading ∷ numbers) (pair_words p ++ words)
unfolding pair_words
pair-wholes p ws =
    whole (natural-is p.first.tick) (whole (signed_is p.first.heading) (whole (natural-is p.second.tick) (whole (signed_is p.second.heading) ws)))

pub pair-line-exactly : PairLineExactly
unfolding pair_text
pair-line-exactly p v text =
    let here : Wholes _ words = pair-wholes p (whole (signed_is v.re) (whole (signed_is v.im) no_whole)) in (
      λ e. record { words = words; numbers = here; joined = (words-exactly words text).0 e },
      λ l. ap spaced (wholes-one here l.numbers) ∙ (words-exactly l.words text).1 l.joined,
    )
  where
    words : List (List ℕ)
    words = pair_words p ++ (signed v.re ∷ signed v.im ∷ [])

-- ---- a refusal

place-wholes : (place : Place) → Wholes (place_numbers place) (place_words place)
unfolding place_words
place-wholes Place.Nowhere = whole (natural-is 0) no_whole
place-wholes (Place.Line n) = whole (natural-is n) no_whole
place-wholes (Place.Pair p) = subst (Wholes (place_numbers (Place.Pair p))) (append-nil (pair_words p)) (pair-wholes p no_whole)

pub refusal-line-exactly : RefusalLineExactly
unfolding refusal_text bytes
refusal-line-exactly number place text =
    let words : List (List ℕ) = natural number ∷ place_words place in
    let here : Wholes (pos number ∷ place_numbers place) words = whole (natural-is number) (place-wholes place) in (
      λ e. record { words = words; numbers = here; joined = (words-exactly (bytes "refused" ∷ words) text).0 e },
      λ l. ap (λ (ws : List (List ℕ)). spaced (bytes "refused" ∷ ws)) (wholes-one here l.numbers) ∙ (words-exactly (bytes "refused" ∷ l.words) text).1 l.joined,
    )

-- ---- the first line

kind-said : (kind : ℕ) → KindWord kind (cond (eqb kind 0) (bytes "difference") (bytes "sum"))
unfolding bytes
kind-said kind =
    by-test (KindWord kind) (eqb kind 0) (bytes "difference") (bytes "sum") (λ e. difference (eqb-true kind 0 e) refl) (λ e. sum (eqb-false kind 0 e) refl)

said-kind : (kind : ℕ) {word : List ℕ} → KindWord kind word → cond (eqb kind 0) (bytes "difference") (bytes "sum") ≡ word
unfolding bytes
said-kind kind (difference k e) = rw (eq-eqb kind 0 k) (sym e)
said-kind kind (sum k e) = rw (ne_eqb kind 0 k) (sym e)

coverage-said : (coverage : ℕ) → CoverageWord coverage (cond (eqb coverage 0) (bytes "single") (bytes "full"))
unfolding bytes
coverage-said coverage =
    by-test (CoverageWord coverage) (eqb coverage 0) (bytes "single") (bytes "full") (λ e. single (eqb-true coverage 0 e) refl) (λ e. full (eqb-false coverage 0 e) refl)

said-coverage : (coverage : ℕ) {word : List ℕ} → CoverageWord coverage word → cond (eqb coverage 0) (bytes "single") (bytes "full") ≡ word
unfolding bytes
said-coverage coverage (single k e) = rw (eq-eqb coverage 0 k) (sym e)
said-coverage coverage (full k e) = rw (ne_eqb coverage 0 k) (sym e)

counts : (slots : List ℕ) → HeldCount slots (length (held_ticks slots))
unfolding held_ticks
counts [] = no_slot
counts (t ∷ slots) =
    let rest = counts slots in
    by-test (λ (l : List ℕ). HeldCount (t ∷ slots) (length l)) (eqb t 0) (held_ticks slots) (t ∷ held_ticks slots)
    (λ e. subst (λ (s : ℕ). HeldCount (s ∷ slots) (length (held_ticks slots))) (sym (eqb-true t 0 e)) (free rest))
    (λ e. held (eqb-false t 0 e) rest)

counted-one : {slots : List ℕ} {n : ℕ} → HeldCount slots n → length (held_ticks slots) ≡ n
unfolding held_ticks
counted-one no_slot = refl
counted-one (free h) = counted-one h
counted-one (held {tick = t} k h) = rw (ne_eqb t 0 k) (ap suc (counted-one h))

pub first-line-exactly : FirstLineExactly
unfolding title_text bytes
first-line-exactly r text = (go, back)
  where
    kind : List ℕ
    kind = cond (eqb r.choices.kind 0) (bytes "difference") (bytes "sum")

    coverage : List ℕ
    coverage = cond (eqb r.choices.coverage 0) (bytes "single") (bytes "full")

    go : title_text r ≡ text → FirstLine r text
    go e =
        let n = length (held_ticks r.slots.ticks) in
        record {
          kind = kind;
          component = natural r.choices.component;
          coverage = coverage;
          frequencies = natural n;
          headings = natural r.slots.held;
          count = n;
          kind-is = kind-said r.choices.kind;
          component-is = natural-is r.choices.component;
          coverage-is = coverage-said r.choices.coverage;
          counted = counts r.slots.ticks;
          frequencies-is = natural-is n;
          headings-is = natural-is r.slots.held;
          joined = (words-exactly (bytes "QTF" ∷ kind ∷ natural r.choices.component ∷ coverage ∷ natural n ∷ natural r.slots.held ∷ []) text).0 e;
        }

    back : FirstLine r text → title_text r ≡ text
    back l =
        let k = said-kind r.choices.kind l.kind-is in
        let c = (natural-exactly r.choices.component l.component).1 l.component-is in
        let v = said-coverage r.choices.coverage l.coverage-is in
        let f = ap natural (counted-one l.counted) ∙ (natural-exactly l.count l.frequencies).1 l.frequencies-is in
        let h = (natural-exactly r.slots.held l.headings).1 l.headings-is in
        (λ i. spaced (bytes "QTF" ∷ k i ∷ c i ∷ v i ∷ f i ∷ h i ∷ []))
        ∙ (words-exactly (bytes "QTF" ∷ l.kind ∷ l.component ∷ l.coverage ∷ l.frequencies ∷ l.headings ∷ []) text).1 l.joined
