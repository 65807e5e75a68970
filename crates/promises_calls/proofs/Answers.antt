-- What every call answers, and what each refusal leaves: the numbers 1 and 2 exactly when the table says, and they change nothing; a number 3 to 11 or 17 sticks. Each law
-- goes by the outcomes of a piece and of closing. Assumes nothing.
use mathlib.Core.Path.{◌≡◌, refl, sym, ap, ◌∙◌}
use mathlib.Core.Logic.{◌⊎◌, ⊎_elim}
use mathlib.Core.Bool.{true, true≢false}
use mathlib.Core.List.{List}
use Prim.Native.Nat.{ℕ, ◌≤◌, ◌<◌, zero-le}
use native.Mathlib.Omega.{arith}
use lib.Dec.{lit≤}
use lib.IntN.{ℤ}
use lib.ListN.{length}
use borrow.Author.Tests.{le-leb, eq-eqb, ne_eqb}
use Rattle.row.proofs.Used.{by-test}
use Rattle.reader.specs.declared.record.Record.{Record}
use Rattle.reader.specs.Valid.{valid_choices, valid_of}
use Rattle.reader.specs.declared.reader.Place.{Place}
use Rattle.reader.specs.declared.reader.Answer.{Answer}
use Rattle.reader.specs.Model.{State, Out, out, number_of, never, state_of, too_short, barred, refusal_place, refusal, open_of}
use Rattle.reader.proofs.Answers.{close-barred}
use Rattle.promises_calls.specs.Answers.{ExactlyWhen, PieceNumbers, CloseNumbers, OpenExactlyWhen, OpenNumbers, Placeless, OpenPlaceless, PiecePlaceless, ClosePlaceless, PieceUnchanged, CloseUnchanged, OpenUnchanged, Repeats, HeldPlace, line, nothing, pair, StuckRepeats, PieceSticks, CloseSticks, NumbersWithin, FromText}
use Rattle.promises_calls.proofs.Valid.{piece-valid, close-valid}
use Rattle.promises_calls.proofs.Cutting.{stuck-barred, piece-stays}
use Rattle.promises_calls.proofs.LineNumbers.{line-told, stuck-text}
use Rattle.reader.proofs.Valid.{stuck-least}
use Rattle.promises_calls.proofs.Outcomes.{short-is, long-is, not_short, Replied, no-refusal, stuck, Answered, repeats, one, two, through, piece-answered, close-answered}

number_is : (r : Record) (n : ℕ) → number_of (refusal r n) ≡ n
unfolding number_of refusal
number_is r n = refl

going-number : number_of Answer.Going ≡ 0
unfolding number_of
going-number = refl

-- ---- what 1 and 2 leave

-- the number after a text is neither
record Other (n : ℕ) : Type 0 where
  pub not-one : n ≡ 1 → ⊥
  pub not-two : n ≡ 2 → ⊥
  pub from-text : FromText n

replied-number : {o : Out} → Replied o → Other (number_of o.answer)
replied-number (no-refusal none) = record { not-one = λ e. omega arith; not-two = λ e. omega arith; from-text = rw none (FromText.few zero-le) }
replied-number (stuck {s} h) =
    let n = number_is s.reader s.reader.marks.stage in
    let low = stuck-least _ h in
    record { not-one = λ e. omega arith; not-two = λ e. omega arith; from-text = rw n (stuck-text _ h) }

module _ {s : State} where
  unchanged : {o : Out} → Answered s o → (number_of o.answer ≡ 1) ⊎ (number_of o.answer ≡ 2) → o.after ≡ s
  unchanged (repeats h) e = refl
  unchanged (one free h) e = refl
  unchanged (two free long h) e = refl
  unchanged (through free long o t) e = let n = replied-number t in absurd (⊎_elim n.not-one n.not-two e)

pub piece-unchanged : PieceUnchanged
piece-unchanged text s = unchanged (piece-answered s text)

pub close-unchanged : CloseUnchanged
close-unchanged s = unchanged (close-answered s)

pub open-unchanged : OpenUnchanged
unfolding open_of number_of
open-unchanged c cells flags =
    let Left : Out → Type 0 = λ o. 0 < number_of o.answer → o.after ≡ state_of never cells flags in
    by-test Left (too_short (length cells) (length flags)) _ _
    (λ short h. refl)
    (λ long. by-test Left (valid_choices c) _ _ (λ v h. absurd (omega arith)) (λ v h. refl))

-- ---- exactly when

module _ {s : State} where
  numbers : {o : Out} → Answered s o → ExactlyWhen s o
  numbers (repeats h) =
      let n = number_is s.reader s.reader.marks.stage in
      let low = stuck-least s.reader.marks.stage h.stage in
      record { one = (λ e. absurd (omega arith), λ b. absurd (b.0 h)); two = (λ e. absurd (omega arith), λ b. absurd (b.0 h)) }
  numbers (one free h) =
      let n = number_is s.reader 1 in
      record { one = (λ e. (free, h), λ b. n); two = (λ e. absurd (omega arith), λ b. absurd (b.1 h)) }
  numbers (two free long h) =
      let n = number_is s.reader 2 in
      record { one = (λ e. absurd (omega arith), λ b. absurd (long b.1)); two = (λ e. (free, long, h), λ b. n) }
  numbers (through free long o t) =
      record {
        one = (λ e. absurd ((replied-number t).not-one e), λ b. absurd (long b.1));
        two = (λ e. absurd ((replied-number t).not-two e), λ b. absurd (b.2 o));
      }

pub piece-numbers : PieceNumbers
piece-numbers text s = numbers (piece-answered s text)

pub close-numbers : CloseNumbers
close-numbers s = numbers (close-answered s)

pub open-numbers : OpenNumbers
unfolding open_of
open-numbers c cells flags =
    let m = length cells in
    let n = length flags in
    let first = number_is never 1 in
    let second = number_is never 2 in
    let When : Out → Type 0 = OpenExactlyWhen c cells flags in
    by-test When (too_short m n) _ _
    (λ e.
    let short = short-is m n e in
    record {
      one = (λ _. short, λ _. first);
      two = (λ e. absurd (omega arith), λ b. absurd (not_short m n (b.0, b.1) short));
      no_other = omega arith;
    })
    (λ e.
    let long = long-is m n e in
    by-test When (valid_choices c) _ _
    (λ v.
    let none = going-number in
    record {
      one = (λ e. absurd (omega arith), λ b. absurd (not_short m n long b));
      two = (λ e. absurd (omega arith), λ b. absurd (b.2 v));
      no_other = omega arith;
    })
    (λ v.
    record {
      one = (λ e. absurd (omega arith), λ b. absurd (not_short m n long b));
      two = (λ _. (long.0, long.1, λ w. true≢false (sym w ∙ v)), λ _. second);
      no_other = omega arith;
    }))

-- ---- no place

-- any other number
not-these : {n : ℕ} {a : Answer} → number_of a ≡ n → Other n → Placeless a
not-these e o = record { one = λ h. absurd (o.not-one (sym e ∙ h)); two = λ h. absurd (o.not-two (sym e ∙ h)) }

is_one : (r : Record) → Placeless (refusal r 1)
unfolding number_of refusal
is_one r = record { one = λ h. refl; two = λ h. absurd (omega arith) }

is-two : (r : Record) → Placeless (refusal r 2)
unfolding number_of refusal
is-two r = record { one = λ h. absurd (omega arith); two = λ h. refl }

module _ {s : State} where
  placeless : {o : Out} → Answered s o → Placeless o.answer
  placeless (repeats h) =
      let low = stuck-least s.reader.marks.stage h.stage in
      not-these (number_is s.reader s.reader.marks.stage) (record { not-one = λ e. omega arith; not-two = λ e. omega arith; from-text = stuck-text _ h.stage })
  placeless (one free h) = is_one s.reader
  placeless (two free long h) = is-two s.reader
  placeless (through free long o t) = not-these refl (replied-number t)

pub piece-placeless : PiecePlaceless
piece-placeless text s = placeless (piece-answered s text)

pub close-placeless : ClosePlaceless
close-placeless s = placeless (close-answered s)

pub open-placeless : OpenPlaceless
unfolding open_of
open-placeless c cells flags =
    let P : Out → Type 0 = λ o. Placeless o.answer in
    by-test P (too_short (length cells) (length flags)) _ _
    (λ short. is_one never)
    (λ long.
    by-test P (valid_choices c) _ _
    (λ v. not-these going-number (record { not-one = λ e. omega arith; not-two = λ e. omega arith; from-text = FromText.few (lit≤ tt) }))
    (λ v. is-two never))

-- ---- what sticks

-- a valid record that is stuck answers with its number and place, and stays
module _ (r : Record) (v : valid_of r ≡ true) (low : 3 ≤ r.marks.stage) where
  again : (cells : List ℤ) (flags : List ℕ) → barred (state_of r cells flags) ≡ r.marks.stage
  again cells flags = stuck-barred r (length cells) (length flags) v low

  stays : (number : ℕ) (place : Place) → refusal r r.marks.stage ≡ Answer.Refused number place → Repeats r number place
  stays number place e =
      let some : (cells : List ℤ) (flags : List ℕ) → barred (state_of r cells flags) ≡ 0 → ⊥ = λ cells flags z. omega (arith, again cells flags) in
      let same : (cells : List ℤ) (flags : List ℕ) → out (state_of r cells flags) (refusal r (barred (state_of r cells flags))) ≡ out (state_of r cells flags) (Answer.Refused number place) =
      λ cells flags. rw (again cells flags) (ap (out (state_of r cells flags)) e) in
      record {
        piece = λ text cells flags. piece-stays (state_of r cells flags) (some cells flags) text ∙ same cells flags;
        close = λ cells flags. sym (close-barred (state_of r cells flags) refl (some cells flags) refl) ∙ same cells flags;
      }

module _ (r : Record) (low : 3 ≤ r.marks.stage) where
  pub held : {place : Place} → HeldPlace r place → refusal r r.marks.stage ≡ Answer.Refused r.marks.stage place
  unfolding refusal refusal_place
  held (line h) =
      let n = r.marks.stage in
      let told = line-told h in
      rw (le-leb 3 n low, ne_eqb n 11 told.not-eleven, ne_eqb n 10 told.not-ten)
  held (nothing h) =
      let n = r.marks.stage in
      rw (le-leb 3 n low, ne_eqb n 11 (λ e. omega arith), eq-eqb n 10 h)
  held (pair h) =
      let n = r.marks.stage in
      rw (le-leb 3 n low, eq-eqb n 11 h)

pub stuck-repeats : StuckRepeats
stuck-repeats r place h p =
    let low = stuck-least r.marks.stage h.stage in
    stays r h.valid low r.marks.stage place (held r low p)

module _ (number : ℕ) (place : Place) (low : 3 ≤ number) where
  replied-sticks : {o : Out} → Replied o → valid_of o.after.reader ≡ true → o.answer ≡ Answer.Refused number place → Repeats o.after.reader number place
  unfolding number_of
  replied-sticks (no-refusal none) v e = let n = ap number_of e in absurd (omega arith)
  replied-sticks (stuck {s} h) v e = stays s.reader v (stuck-least _ h) number place e

  sticks :
      {s : State} {o : Out} → Answered s o → (valid_of s.reader ≡ true → valid_of o.after.reader ≡ true)
      → o.answer ≡ Answer.Refused number place
      → Repeats o.after.reader number place
  unfolding number_of
  sticks {s} (repeats h) kept e = stays s.reader h.valid (stuck-least _ h.stage) number place e
  sticks {s} (one free h) kept e = let n = ap number_of e in absurd (omega (arith, number_is s.reader 1))
  sticks {s} (two free long h) kept e = let n = ap number_of e in absurd (omega (arith, number_is s.reader 2))
  sticks (through free long o t) kept e = replied-sticks t (kept o.valid) e

pub piece-sticks : PieceSticks
piece-sticks text s number place shaped low = sticks number place low (piece-answered s text) (piece-valid text s shaped)

pub close-sticks : CloseSticks
close-sticks s number place shaped low = sticks number place low (close-answered s) (close-valid s shaped)

-- ---- the greatest number

within : {s : State} {o : Out} → Answered s o → FromText (number_of o.answer)
within {s} (repeats h) = rw (number_is s.reader s.reader.marks.stage) (stuck-text _ h.stage)
within {s} (one free h) = rw (number_is s.reader 1) (FromText.few (lit≤ tt))
within {s} (two free long h) = rw (number_is s.reader 2) (FromText.few (lit≤ tt))
within (through free long o t) = (replied-number t).from-text

pub numbers-within : NumbersWithin
numbers-within text s = (within (piece-answered s text), within (close-answered s))
