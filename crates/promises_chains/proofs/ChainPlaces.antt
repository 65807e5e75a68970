-- The places of a chain's refusals: a stuck record holds the right kind of place for its number, line after line and through closing, and every answer repeats it. Assumes
-- nothing.
use mathlib.Core.Path.{◌≡◌, refl, sym, subst}
use mathlib.Core.Logic.{⊎_elim}
use mathlib.Core.Bool.{Bool}
use mathlib.Core.List.{List, [], ◌∷◌, ◌++◌}
use Prim.Native.Nat.{ℕ, ◌+◌, ◌≤◌}
use native.Mathlib.Omega.{arith}
use native.Mathlib.Decide.{ℕ_discrete}
use lib.Dec.{eqb, lit≤}
use lib.IntN.{ℤ}
use borrow.Author.Tests.{ne_eqb, le-leb}
use Rattle.row.specs.declared.reading.Choices.{Choices}
use Rattle.row.specs.Told.{Row}
use Rattle.row.specs.own.Rows.{row_of}
use Rattle.row.proofs.Used.{by-test, refused-is}
use Rattle.table.specs.declared.closing.Closed.{Closed}
use Rattle.table.specs.Placing.{Placed}
use Rattle.reader.specs.declared.reader.Place.TheVariants as Place
use Rattle.reader.specs.declared.reader.Answer.TheVariants as Answer
use Rattle.reader.specs.Model.{table_at, State, Out, number_of, state_of, never, refusal, repeated, refusal_place, stuck_at, settled, passed, ended, bytes_of, settled_by, closing, close_of}
use Rattle.reader.proofs.Kept.{by-eq}
use Rattle.reader.proofs.Valid.{valid-kept}
use Rattle.promises_calls.specs.Lines.{text_lines, feeds_in, ended_lines, kept_line, limited, line_read, part_read, in_turn, AtLineStart}
use Rattle.promises_chains.specs.Chain.{Call, called, calls_of, chain_text, closes, RightPlace, OpeningPlaced, CallsPlaced, ChainPlaced}
use Rattle.promises_calls.proofs.Moves.{by-placed, by-closed}
use Rattle.promises_chains.specs.Chain.RightPlace.{at-line, past-lines, ten, eleven}
use Rattle.promises_calls.specs.Answers.{OfLine}
use Rattle.promises_calls.proofs.LineNumbers.{line-told, row_line}
use Rattle.reader.proofs.Valid.{stuck-least}
use Rattle.promises_calls.proofs.Outcomes.{Replied, no-refusal, stuck, Answered, repeats, one, two, through}
use Rattle.promises_calls.proofs.Lines.{Feedless, end, then, lines-feedless, feedless-take, by-limit, turn-open, turn-shut, line-at-line, lines-at-line, Last, none_left, one_left, unfinished-last, closing-is-lines, text-is-lines}
use Rattle.promises_chains.proofs.Calls.{called-answered, calls-left, calls-more, calls-are-text}
use Rattle.promises_chains.proofs.Chain.{start_of, Opening, shut, starts, opening-is, start-at-line}

-- what a stuck record repeats has a place of the right kind
abbrev Fits : State → Type 0
Fits s = 3 ≤ s.reader.marks.stage → RightPlace (refusal s.reader s.reader.marks.stage)

-- ---- lines

open-fits : (s : State) → s.reader.marks.stage ≡ 1 → Fits s
open-fits s o h = absurd (omega arith)

-- refused by a line's number, with its line
module _ (number line : ℕ) (s : State) (of-line : OfLine number) where
  stuck-place : refusal (stuck_at number line s).reader (stuck_at number line s).reader.marks.stage ≡ Answer.Refused number (Place.Line line)
  unfolding refusal refusal_place stuck_at
  stuck-place =
      let told = line-told of-line in
      rw (le-leb 3 number told.least, ne_eqb number 11 told.not-eleven, ne_eqb number 10 told.not-ten)

  stuck-fits : 1 ≤ line → line ≤ 1_000_000 → Fits (stuck_at number line s)
  stuck-fits some most h = subst RightPlace (sym stuck-place) (at-line of-line some most)

three : OfLine 3
three = OfLine.by_order (lit≤ tt) (lit≤ tt)

past_fits : (s : State) → Fits (stuck_at 3 1_000_001 s)
past_fits s h = subst RightPlace (sym (stuck-place 3 1_000_001 s three)) past-lines

module _ (c : Choices) (first : Bool) (line : List ℕ) (s : State) (o : s.reader.marks.stage ≡ 1) (some : 1 ≤ s.reader.marks.lines) (most : s.reader.marks.lines ≤ 1_000_000) where
  stuck-here : (number : ℕ) → OfLine number → Fits (stuck_at number s.reader.marks.lines s)
  stuck-here number of-line = stuck-fits number s.reader.marks.lines s of-line some most

  row_fits : (w : Row) → row_of c first line ≡ w → Fits (ended w s)
  unfolding ended settled passed
  row_fits Row.Blank e = λ h. absurd (omega arith)
  row_fits Row.Title e = λ h. absurd (omega arith)
  row_fits Row.PassedOver e = λ h. absurd (omega arith)
  row_fits (Row.Refused number) e = stuck-here number (row_line (refused-is c first line e))
  row_fits (Row.Used x) e =
      by-placed (λ (p : Placed). Fits (settled p s)) s.reader.choices.kind x (table_at s)
      (λ f h. absurd (omega arith))
      (stuck-here 9 (OfLine.by_order (lit≤ tt) (lit≤ tt)))
      (stuck-here 8 (OfLine.by_order (lit≤ tt) (lit≤ tt)))

module _ (s : State) (at : AtLineStart s) (line : List ℕ) where
  -- one line more
  next-line : (s.reader.marks.lines ≡ 1_000_000 → ⊥) → s.reader.marks.lines + 1 ≤ 1_000_000
  next-line more = omega (arith, (valid-kept s.reader at.valid).lines)

  limited-fits : (next : State) → ((s.reader.marks.lines ≡ 1_000_000 → ⊥) → Fits next) → Fits (limited line s next)
  limited-fits next f =
      by-limit Fits line s next
      (λ full. past_fits s)
      (λ more over. stuck-fits 3 _ _ three (omega arith) (next-line more))
      (λ more within. f more)

  line-fits : Fits (line_read line s)
  unfolding line_read kept_line
  line-fits =
      limited-fits _
      (λ more. row_fits s.reader.choices (eqb s.reader.marks.lines 0) line (kept_line line s) at.stage (omega arith) (next-line more) _ refl)

  part-fits : Fits (part_read line s)
  unfolding part_read kept_line
  part-fits = limited-fits _ (λ more. open-fits (kept_line line s) at.stage)

lines_fit : {lines : List (List ℕ)} → Feedless lines → (s : State) → AtLineStart s → Fits (in_turn line_read lines s)
unfolding in_turn
lines_fit end s at = open-fits s at.stage
lines_fit (then {line = line} {lines = lines} e f) s at =
    let after = line_read line s in
    subst Fits (sym (turn-open line_read line lines s at.stage))
    (elim (ℕ_discrete after.reader.marks.stage 1) [
      | yes o ↦ lines_fit f after (line-at-line s at line e o)
      | no n ↦ subst Fits (sym (turn-shut line_read lines after n)) (line-fits s at line)
    ])

-- a line that is not ended, if there is one
last_fits : {lines : List (List ℕ)} → Last lines → (s : State) → Fits s → (s.reader.marks.stage ≡ 1 → AtLineStart s) → Fits (in_turn part_read lines s)
unfolding in_turn
last_fits none_left s f r = f
last_fits (one_left {line = line} some) s f r =
    elim (ℕ_discrete s.reader.marks.stage 1) [
      | yes o ↦ subst Fits (sym (turn-open part_read line [] s o)) (part-fits s (r o) line)
      | no n ↦ subst Fits (sym (turn-shut part_read (line ∷ []) s n)) f
    ]

module _ (text : List ℕ) (s : State) (at : AtLineStart s) where
  text-fits : Fits (bytes_of text s)
  text-fits =
      let whole = feedless-take (feeds_in text) (lines-feedless text) in
      subst Fits (sym (text-is-lines text s at))
      (last_fits (unfinished-last text) (in_turn line_read (ended_lines text) s) (lines_fit whole s at) (lines-at-line whole s at))

  -- ---- closing

  closing-fits : (m : State) → Fits m → Fits (closing m).after
  unfolding closing repeated settled_by refusal refusal_place
  closing-fits m f =
      by-eq (λ (o : Out). Fits o.after) m.reader.marks.stage 1 _ _
      (λ is_open.
      by-closed m.reader.choices.coverage m.reader.slots m.flags
      (λ (w : Closed). Fits (settled_by w m).after)
      (λ h. ten)
      (λ pair h. eleven)
      (λ some h. absurd (omega arith)))
      (λ n. f)

  closed-fits : Fits (close_of (bytes_of text s)).after
  closed-fits =
      subst (λ (o : Out). Fits o.after) (sym (closing-is-lines text s at))
      (closing-fits (in_turn line_read (text_lines text) s) (lines_fit (lines-feedless text) s at))

-- ---- calls

calls-fit : (s : State) → AtLineStart s → (calls : List Call) → Fits (calls_of calls s)
calls-fit s at calls =
    subst Fits (sym (calls-are-text s calls at))
    (by-test Fits (closes calls) _ _ (λ e. closed-fits (chain_text calls) s at) (λ e. text-fits (chain_text calls) s at))

replied-placed : {o : Out} → Replied o → Fits o.after → RightPlace o.answer
replied-placed (no-refusal e) f = RightPlace.no-refusal e
replied-placed (stuck h) f = f (stuck-least _ h)

answered-placed : {s : State} {o : Out} → Answered s o → Fits s → Fits o.after → RightPlace o.answer
unfolding refusal
answered-placed (repeats h) f g = f (stuck-least _ h.stage)
answered-placed (one free h) f g = RightPlace.one
answered-placed (two free long h) f g = RightPlace.two
answered-placed (through free long o t) f g = replied-placed t g

-- where they fit all along
fits-placed : (s : State) → ((calls : List Call) → Fits (calls_of calls s)) → (calls : List Call) (call : Call) → RightPlace (called call (calls_of calls s)).answer
fits-placed s fits calls call =
    answered-placed (called-answered call (calls_of calls s)) (fits calls) (subst Fits (calls-more calls call s) (fits (calls ++ (call ∷ []))))

pub calls-placed : CallsPlaced
calls-placed s calls call at = fits-placed s (calls-fit s at) calls call

-- ---- a chain

module _ (c : Choices) (cells : List ℤ) (flags : List ℕ) where
  opened-placed : {o : Out} → Opening c cells flags o → RightPlace o.answer
  unfolding number_of
  opened-placed (shut number refused) =
      let At : ℕ → Type 0 = λ n. RightPlace (Answer.Refused n Place.Nowhere) in
      ⊎_elim (λ e. subst At (sym e) RightPlace.one) (λ e. subst At (sym e) RightPlace.two) number
  opened-placed (starts o) = RightPlace.no-refusal refl

  after-placed : {o : Out} → Opening c cells flags o → (calls : List Call) (call : Call) → RightPlace (called call (calls_of calls o.after)).answer
  after-placed (shut number refused) =
      let s = state_of never cells flags in
      fits-placed s (λ calls. subst Fits (sym (calls-left calls s (λ e. omega arith))) (λ h. absurd (omega arith)))
  after-placed (starts o) = λ calls call. calls-placed (start_of c cells flags) calls call (start-at-line c cells flags o)

pub opening-placed : OpeningPlaced
opening-placed c cells flags = opened-placed c cells flags (opening-is c cells flags)

pub chain-placed : ChainPlaced
chain-placed c cells flags = after-placed c cells flags (opening-is c cells flags)
