-- Calls from any state: what one call comes to, by cases on which it is, and what calls one after the other come to, which takes no call apart. Assumes nothing.
use mathlib.Core.Path.{◌≡◌, refl, sym, ap, subst, ◌∙◌}
use mathlib.Core.Logic.{⊎_elim}
use mathlib.Core.Bool.{true, cond}
use mathlib.Core.List.{List, [], ◌∷◌, ◌++◌, append_assoc, append-nil}
use Prim.Native.Nat.{ℕ, ◌≤◌}
use native.Mathlib.Omega.{arith}
use native.Mathlib.Decide.{ℕ_discrete}
use lib.Dec.{lit≤}
use borrow.Author.Tests.{le-ltb}
use Rattle.row.specs.declared.reading.Choices.{Choices}
use Rattle.table.specs.declared.closing.Closed.{Closed}
use Rattle.reader.specs.declared.reader.Place.{Place}
use Rattle.reader.specs.declared.reader.Answer.TheVariants as Answer
use Rattle.reader.specs.Model.{State, Out, out, state_of, too_short, barred, refusal, tested, repeated, stuck_at, begun, keeping, passed, bytes_of, going, piece_of, settled_by, finished, closing, close_of}
use Rattle.reader.proofs.Kept.{by-eq}
use Rattle.reader.proofs.Valid.{valid-stuck}
use Rattle.promises_calls.specs.Kept.{Beyond}
use Rattle.promises_calls.specs.Answers.{Short, ExactlyWhen}
use Rattle.promises_calls.specs.Lines.{text_lines, line_read, in_turn, AtLineStart}
use Rattle.promises_chains.specs.Chain.{Call, called, calls_of, CallsJoined, ShortLent, chain_text, closes, CallsAreText, CallsSound, SomeAccepted, now, later, CallsRefuse}
use Rattle.promises_calls.proofs.Moves.{Keeps, by-closed, KeptByClosing, piece-keeps-all, finished-keeps, close-keeps-all}
use Rattle.promises_calls.proofs.Kept.{beyond-keeps, beyond-closes, beyond-none}
use Rattle.promises_calls.proofs.Valid.{Sound, sound-keeps, sound-closes, sound-is, is-valid}
use Rattle.promises_calls.proofs.Cutting.{cut, piece-through, going-after, open-barred}
use Rattle.promises_calls.proofs.LineNumbers.{line-told}
use Rattle.reader.proofs.Valid.{stuck-least}
use Rattle.promises_calls.proofs.Outcomes.{Answered, repeats, one, two, through, piece-answered, close-answered}
use Rattle.promises_calls.proofs.Answers.{piece-numbers, close-numbers}
use Rattle.promises_calls.proofs.Lines.{closing-is-lines}

-- ---- one call: a later call is one case more in each lemma that takes a call apart

-- its outcome
pub called-answered : (call : Call) (s : State) → Answered s (called call s)
unfolding called
called-answered (Call.piece text) s = piece-answered s text
called-answered Call.close s = close-answered s

-- what it keeps: a property that withstands the steps of every call
pub record KeptByCalls (P : State → Type 0) : Type 0 where
  pub pieces : Keeps P
  pub closings : KeptByClosing P

pub called-keeps : {P : State → Type 0} → KeptByCalls P → (call : Call) (s : State) → P s → P (called call s).after
unfolding called
called-keeps {P} k (Call.piece text) s p = piece-keeps-all P k.pieces text s p
called-keeps k Call.close s p = close-keeps-all k.closings k.pieces s p

-- the numbers 1 and 2 of a call, by its outcome
called-numbers : (call : Call) (s : State) → ExactlyWhen s (called call s)
unfolding called
called-numbers (Call.piece text) s = piece-numbers text s
called-numbers Call.close s = close-numbers s

-- a record that is not open is left as it is
pub left : {s : State} {o : Out} → (s.reader.marks.stage ≡ 1 → ⊥) → Answered s o → o.after ≡ s
left n (repeats h) = refl
left n (one free h) = refl
left n (two free long h) = refl
left n (through free long o t) = absurd (n o.stage)

-- and so is one whose slices are too short
short-left : {s : State} {o : Out} → Short s → Answered s o → o.after ≡ s
short-left few (repeats h) = refl
short-left few (one free h) = refl
short-left few (two free long h) = refl
short-left few (through free long o t) = absurd (long few)

pub short-lent : ShortLent
short-lent call s cells flags few = short-left few (called-answered call (state_of s.reader cells flags))

pub calls-left : (calls : List Call) (s : State) → (s.reader.marks.stage ≡ 1 → ⊥) → calls_of calls s ≡ s
unfolding calls_of
calls-left [] s n = refl
calls-left (call ∷ calls) s n = rw (left n (called-answered call s)) (calls-left calls s n)

-- where it leads after a text: closing leaves no open record
pub closing-shut : (s : State) → (closing s).after.reader.marks.stage ≡ 1 → ⊥
unfolding closing repeated settled_by
closing-shut s =
    by-eq (λ (o : Out). o.after.reader.marks.stage ≡ 1 → ⊥) s.reader.marks.stage 1 _ _
    (λ is_open.
    by-closed s.reader.choices.coverage s.reader.slots s.flags
    (λ (w : Closed). (settled_by w s).after.reader.marks.stage ≡ 1 → ⊥)
    (λ e. omega arith)
    (λ pair e. omega arith)
    (λ some e. omega arith))
    (λ n. n)

module _ (s : State) (at : AtLineStart s) where
  whole-piece : (text : List ℕ) → piece_of text s ≡ going (bytes_of text s)
  unfolding too_short
  whole-piece text =
      piece-through s (open-barred s.reader _ _ at.valid at.stage ∙ rw (le-ltb _ _ at.cells, le-ltb _ _ at.flags)) text

  pub next-piece : (a b : List ℕ) → piece_of b (bytes_of a s) ≡ going (bytes_of (a ++ b) s)
  next-piece a b =
      let before : (piece_of a s).after ≡ bytes_of a s = ap (λ (o : Out). o.after) (whole-piece a) ∙ going-after (bytes_of a s) in
      ap (piece_of b) (sym before) ∙ cut a b s at.shaped ∙ whole-piece (a ++ b)

  -- after a text a, in whatever pieces it came, and the calls
  abbrev StandsWhere : List ℕ → List Call → Type 0
  StandsWhere a calls =
      calls_of calls (bytes_of a s) ≡ cond (closes calls) (close_of (bytes_of (a ++ chain_text calls) s)).after (bytes_of (a ++ chain_text calls) s)

  stands-piece : (a b : List ℕ) (calls : List Call) → StandsWhere (a ++ b) calls → StandsWhere a (Call.piece b ∷ calls)
  unfolding calls_of called chain_text closes
  stands-piece a b calls f =
      ap (calls_of calls) (ap (λ (o : Out). o.after) (next-piece a b) ∙ going-after (bytes_of (a ++ b) s))
      ∙ f
      ∙ ap (λ (t : List ℕ). cond (closes calls) (close_of (bytes_of t s)).after (bytes_of t s)) (append_assoc a b (chain_text calls))

  stands-close : (a : List ℕ) (calls : List Call) → StandsWhere a (Call.close ∷ calls)
  unfolding calls_of called chain_text closes
  stands-close a calls =
      let z = (close_of (bytes_of a s)).after in
      let closed : z.reader.marks.stage ≡ 1 → ⊥ =
      subst (λ (o : Out). o.after.reader.marks.stage ≡ 1 → ⊥) (sym (closing-is-lines a s at)) (closing-shut (in_turn line_read (text_lines a) s))
      in
      calls-left calls z closed ∙ rw append-nil

  stands-call : (call : Call) (calls : List Call) (a : List ℕ) → ((b : List ℕ) → StandsWhere b calls) → StandsWhere a (call ∷ calls)
  stands-call (Call.piece b) calls a f = stands-piece a b calls (f (a ++ b))
  stands-call Call.close calls a f = stands-close a calls

-- acceptance: what closing answers, and the stage that it leaves, where it began at s
data Settling (s : State) : Out → Type 0 where
  accepting : {z : State} {frequencies headings : ℕ} → z.reader.marks.stage ≡ 2 → Settling s (out z (Answer.Accepted frequencies headings))
  refusing : {z : State} {number : ℕ} {place : Place} → ((s.reader.marks.stage ≡ 2 → ⊥) → z.reader.marks.stage ≡ 2 → ⊥) → Settling s (out z (Answer.Refused number place))

-- a record that is not accepted is not by a text either
abbrev Unaccepted : State → Type 0
Unaccepted s = s.reader.marks.stage ≡ 2 → ⊥

unaccepted-keeps : Keeps Unaccepted
unfolding stuck_at passed begun keeping
unaccepted-keeps =
    record {
      stuck = λ number line s of-line b e. let told = line-told of-line in omega (arith, told.least);
      line-begun = λ s more b. b;
      byte-kept = λ x s other room b. b;
      line-passed = λ s b. b;
      row-used = λ e s row f b. b;
    }

closing-settling : (s m : State) → (Unaccepted s → Unaccepted m) → Settling s (closing m)
unfolding closing repeated settled_by refusal
closing-settling s m f =
    by-eq (Settling s) m.reader.marks.stage 1 _ _
    (λ is_open.
    by-closed m.reader.choices.coverage m.reader.slots m.flags
    (λ (w : Closed). Settling s (settled_by w m))
    (refusing (λ n e. omega arith))
    (λ pair. refusing (λ n e. omega arith))
    (λ some. accepting refl))
    (λ n. refusing f)

close-settling : (s : State) → Settling s (close_of s)
unfolding close_of tested refusal
close-settling s =
    by-eq (Settling s) (barred s) 0 _ _
    (λ clear. closing-settling s (finished s) (finished-keeps unaccepted-keeps s))
    (λ shut. refusing (λ n. n))

module _ {s : State} where
  accepted-stage : {o : Out} → Settling s o → {f h : ℕ} → o.answer ≡ Answer.Accepted f h → o.after.reader.marks.stage ≡ 2
  accepted-stage (accepting e) a = e
  accepted-stage (refusing n) a = cc

  stage-accepted : {o : Out} → Settling s o → Unaccepted s → o.after.reader.marks.stage ≡ 2 → (f : ℕ) × (h : ℕ) × (o.answer ≡ Answer.Accepted f h)
  stage-accepted (accepting {frequencies = f} {headings = h} e) n a = (f, h, refl)
  stage-accepted (refusing m) n a = absurd (m n a)

-- acceptance at this call, or later
module _ (calls : List Call) (s : State) (n : Unaccepted s) where
  abbrev Ends : Call → Type 0
  Ends call = (calls_of calls (called call s).after).reader.marks.stage ≡ 2 → SomeAccepted (call ∷ calls) s

  abbrev Onwards : Call → Type 0
  Onwards call =
      Unaccepted (called call s).after → (calls_of calls (called call s).after).reader.marks.stage ≡ 2 → SomeAccepted calls (called call s).after

  ends-call : (call : Call) → Onwards call → Ends call
  unfolding called
  ends-call (Call.piece text) f e = later (f (piece-keeps-all Unaccepted unaccepted-keeps text s n) e)
  ends-call Call.close f e =
      elim (ℕ_discrete (close_of s).after.reader.marks.stage 2) [
        | yes e₂ ↦ now (stage-accepted (close-settling s) n e₂).2
        | no other ↦ later (f other e)
      ]

-- a closing before them, or among them
closes-later : (call : Call) (calls : List Call) → closes calls ≡ true → closes (call ∷ calls) ≡ true
unfolding closes
closes-later (Call.piece text) calls e = e
closes-later Call.close calls e = refl

-- ---- calls one after the other

pub calls-joined : CallsJoined
unfolding calls_of
calls-joined [] after s = refl
calls-joined (first ∷ before) after s = calls-joined before after (called first s).after

-- one call more
pub calls-more : (calls : List Call) (call : Call) (s : State) → calls_of (calls ++ (call ∷ [])) s ≡ (called call (calls_of calls s)).after
unfolding calls_of
calls-more calls call s = calls-joined calls (call ∷ []) s

module _ {P : State → Type 0} (k : KeptByCalls P) where
  pub calls-keep : (calls : List Call) (s : State) → P s → P (calls_of calls s)
  unfolding calls_of
  calls-keep [] s p = p
  calls-keep (call ∷ calls) s p = calls-keep calls _ (called-keeps k call s p)

-- where they lead
module _ (s : State) (at : AtLineStart s) where
  stands : (calls : List Call) (a : List ℕ) → StandsWhere s at a calls
  unfolding chain_text calls_of closes
  stands [] a = rw append-nil
  stands (call ∷ calls) a = stands-call s at call calls a (stands calls)

pub calls-are-text : CallsAreText
unfolding bytes_of
calls-are-text s calls at = stands s at calls []

-- ---- what holds all along

module _ (c : Choices) where
  abbrev Chosen : State → Type 0
  Chosen s = s.reader.choices ≡ c

  chosen-keeps : Keeps Chosen
  unfolding stuck_at begun keeping passed
  chosen-keeps =
      record {
        stuck = λ number line s of-line b. b;
        line-begun = λ s more b. b;
        byte-kept = λ x s other room b. b;
        line-passed = λ s b. b;
        row-used = λ e s row f b. b;
      }

  chosen-kept : KeptByCalls Chosen
  chosen-kept = record { pieces = chosen-keeps; closings = record { refused = λ stage pair s low high b. b; accepted = λ s some b. b } }

-- once opened, a record stays so
abbrev Begun : State → Type 0
Begun s = 1 ≤ s.reader.marks.stage

begun-keeps : Keeps Begun
unfolding stuck_at passed begun keeping
begun-keeps =
    record {
      stuck = λ number line s of-line b. let told = line-told of-line in omega (arith, told.least);
      line-begun = λ s more b. b;
      byte-kept = λ x s other room b. b;
      line-passed = λ s b. b;
      row-used = λ e s row f b. b;
    }

begun_kept : KeptByCalls Begun
begun_kept =
    record { pieces = begun-keeps; closings = record { refused = λ stage pair s low high b. omega arith; accepted = λ s some b. lit≤ tt } }

sound-kept : KeptByCalls Sound
sound-kept = record { pieces = sound-keeps; closings = sound-closes }

pub beyond-kept : (s : State) → KeptByCalls (Beyond s)
beyond-kept s = record { pieces = beyond-keeps s; closings = beyond-closes s }

pub calls-sound : CallsSound
calls-sound s calls shaped valid =
    let sound = calls-keep sound-kept calls s (sound-is s shaped valid) in
    let long = calls-keep (beyond-kept s) calls s (beyond-none s) in
    record {
      shaped = sound.shaped;
      valid = is-valid _ sound.valid;
      choices = calls-keep (chosen-kept s.reader.choices) calls s refl;
      cells-long = long.cells;
      flags_long = long.flags;
    }

-- ---- 1 and 2

-- the calls end accepted exactly when some closing among them was answered so
accepted-end : {calls : List Call} {s : State} → SomeAccepted calls s → (calls_of calls s).reader.marks.stage ≡ 2
unfolding calls_of called
accepted-end (now {calls = calls} {s = s} e) =
    let a = accepted-stage (close-settling s) e in
    ap (λ (z : State). z.reader.marks.stage) (calls-left calls (close_of s).after (λ e. omega arith)) ∙ a
accepted-end (later l) = accepted-end l

end-accepted : (calls : List Call) (s : State) → Unaccepted s → (calls_of calls s).reader.marks.stage ≡ 2 → SomeAccepted calls s
unfolding calls_of
end-accepted [] s n e = absurd (n e)
end-accepted (call ∷ calls) s n e = ends-call calls s n call (end-accepted calls (called call s).after) e

-- so it is from a start
pub calls-end : (s : State) (calls : List Call) → AtLineStart s → (calls_of calls s).reader.marks.stage ≡ 2 → SomeAccepted calls s
calls-end s calls at = end-accepted calls s (λ e. omega (arith, at.stage))

-- and such a closing is a closing
pub some-closes : {calls : List Call} {s : State} → SomeAccepted calls s → closes calls ≡ true
unfolding closes
some-closes (now e) = refl
some-closes (later {call = call} {calls = calls} l) = closes-later call calls (some-closes l)

pub calls-refuse : CallsRefuse
calls-refuse start calls call at =
    let s = calls_of calls start in
    let a = calls-sound start calls at.shaped at.valid in
    let w = called-numbers call s in
    let some : 1 ≤ s.reader.marks.stage = calls-keep begun_kept calls start (omega (arith, at.stage)) in
    let long : Short s → ⊥ = ⊎_elim (λ h. omega (arith, a.cells-long, at.cells)) (λ h. omega (arith, a.flags_long, at.flags)) in
    record {
      not-one = λ e. long (w.one.0 e).1;
      two = (
        λ e.
            let h = w.two.0 e in
            let not-open : s.reader.marks.stage ≡ 1 → ⊥ = λ e₁. h.2 (record { valid = a.valid; stage = e₁ }) in
            let not_stuck : 3 ≤ s.reader.marks.stage → ⊥ = λ low. h.0 (record { valid = a.valid; stage = valid-stuck s.reader a.valid low }) in
            calls-end start calls at (omega arith),
        λ e.
            let e₂ : s.reader.marks.stage ≡ 2 = accepted-end e in
            w.two.1 ((λ h. omega (arith, stuck-least _ h.stage)), long, (λ h. omega (arith, h.stage))),
      );
    }
