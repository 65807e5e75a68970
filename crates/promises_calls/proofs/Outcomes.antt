-- The outcomes of a piece and of closing: the number that a stuck record repeats, 1, 2, or what comes after the text, which is no refusal or the stuck record's own.
-- `Answered` says which one it is, with what holds there, and the laws about the numbers go by its cases. Assumes nothing.
use mathlib.Core.Path.{◌≡◌, refl, sym, ◌∙◌}
use mathlib.Core.Logic.{◌⊎◌, inl, inr, ⊎_elim}
use mathlib.Core.Bool.{true, false, cond, ◌&&◌, true≢false}
use mathlib.Core.List.{List}
use Prim.Native.Nat.{ℕ, ◌≤◌, ◌<◌}
use native.Mathlib.Omega.{arith}
use lib.Dec.{ltb, eqb, lit≤}
use lib.ListN.{length}
use borrow.Author.Tests.{ltb-true, ltb-false, eqb-true, eq-eqb, ne_eqb}
use Rattle.whole.proofs.Any.{either, neither}
use Rattle.row.proofs.Used.{by-test}
use Rattle.row.proofs.Deciding.{both}
use Rattle.reader.specs.declared.record.Record.{Record}
use Rattle.table.specs.declared.closing.Closed.{Closed}
use Rattle.reader.specs.Valid.{sticks, valid_of}
use Rattle.reader.specs.declared.reader.Answer.{Answer}
use Rattle.reader.specs.Model.{State, Out, out, number_of, stuck_at, begun, keeping, passed, too_short, barred_by, refusal, repeated, tested, going, bytes_of, piece_of, settled_by, finished, closing, close_of}
use Rattle.reader.proofs.Kept.{by-eq}
use Rattle.reader.proofs.Valid.{stuck-least}
use Rattle.promises_calls.specs.Answers.{Stuck, Short, Open}
use Rattle.promises_calls.proofs.LineNumbers.{sticks-by-order, line-sticks}
use Rattle.promises_calls.proofs.Moves.{Keeps, bytes-keeps, finished-keeps, by-closed}

-- ---- what the tests find

module _ (cells flags : ℕ) where
  pub short-is : too_short cells flags ≡ true → (cells < 12_800) ⊎ (flags < 6_400)
  unfolding too_short
  short-is e =
      ⊎_elim
      (λ few. inl (ltb-true cells 12_800 few))
      (λ few. inr (ltb-true flags 6_400 few))
      (either (ltb cells 12_800) (ltb flags 6_400) e)

  pub long-is : too_short cells flags ≡ false → (12_800 ≤ cells) × (6_400 ≤ flags)
  unfolding too_short
  long-is e =
      let h = neither (ltb cells 12_800) (ltb flags 6_400) e in
      (ltb-false cells 12_800 h.0, ltb-false flags 6_400 h.1)

  pub not_short : (12_800 ≤ cells) × (6_400 ≤ flags) → (cells < 12_800) ⊎ (flags < 6_400) → ⊥
  not_short h = ⊎_elim (λ few. omega arith) (λ few. omega arith)

module _ (r : Record) where
  stuck-is : (valid_of r && sticks r.marks.stage) ≡ true → Stuck r
  stuck-is e = let h = both (valid_of r) (sticks r.marks.stage) e in record { valid = h.0; stage = h.1 }

  not_stuck : (valid_of r && sticks r.marks.stage) ≡ false → Stuck r → ⊥
  not_stuck e h =
      let held : (valid_of r && sticks r.marks.stage) ≡ true = rw (h.valid, h.stage) in
      true≢false (sym held ∙ e)

  open_is : (valid_of r && eqb r.marks.stage 1) ≡ true → Open r
  open_is e =
      let h = both (valid_of r) (eqb r.marks.stage 1) e in
      record { valid = h.0; stage = eqb-true r.marks.stage 1 h.1 }

  not-open : (valid_of r && eqb r.marks.stage 1) ≡ false → Open r → ⊥
  not-open e h =
      let held : (valid_of r && eqb r.marks.stage 1) ≡ true = rw h.valid (eq-eqb r.marks.stage 1 h.stage) in
      true≢false (sym held ∙ e)

-- the number that a call begins with, by the record and how many cells and flags are lent
pub data Barred (r : Record) (cells flags : ℕ) : ℕ → Type 0 where
  own : Stuck r → Barred r cells flags r.marks.stage
  short : (Stuck r → ⊥) → (cells < 12_800) ⊎ (flags < 6_400) → Barred r cells flags 1
  clear : (Stuck r → ⊥) → ((cells < 12_800) ⊎ (flags < 6_400) → ⊥) → Open r → Barred r cells flags 0
  shut : (Stuck r → ⊥) → ((cells < 12_800) ⊎ (flags < 6_400) → ⊥) → (Open r → ⊥) → Barred r cells flags 2

pub barred-is : (r : Record) (cells flags : ℕ) → Barred r cells flags (barred_by r cells flags)
unfolding barred_by
barred-is r cells flags =
    by-test (Barred r cells flags) (valid_of r && sticks r.marks.stage) _ _
    (λ e. own (stuck-is r e))
    (λ free.
    by-test (Barred r cells flags) (too_short cells flags) _ _
    (λ e. short (not_stuck r free) (short-is cells flags e))
    (λ e.
    let long = not_short cells flags (long-is cells flags e) in
    by-test (Barred r cells flags) (valid_of r && eqb r.marks.stage 1) _ _
    (λ o. clear (not_stuck r free) long (open_is r o))
    (λ o. shut (not_stuck r free) long (not-open r o))))

-- ---- what comes after the text

-- no refusal, or the stuck record's own
pub data Replied : Out → Type 0 where
  no-refusal : {s : State} {a : Answer} → number_of a ≡ 0 → Replied (out s a)
  stuck : {s : State} → sticks s.reader.marks.stage ≡ true → Replied (out s (refusal s.reader s.reader.marks.stage))

-- open, or stuck
abbrev Read : State → Type 0
Read s = (s.reader.marks.stage ≡ 1) ⊎ (sticks s.reader.marks.stage ≡ true)

read_keeps : Keeps Read
unfolding stuck_at begun keeping passed
read_keeps =
    record {
      stuck = λ number line s of-line l. inr (line-sticks of-line);
      line-begun = λ s more l. l;
      byte-kept = λ b s other room l. l;
      line-passed = λ s l. l;
      row-used = λ e s row f l. l;
    }

repeated-replied : (s : State) → Read s → (s.reader.marks.stage ≡ 1 → ⊥) → Replied (repeated s)
unfolding repeated
repeated-replied s l other = ⊎_elim (λ one. absurd (other one)) stuck l

going-replied : (s : State) → Read s → Replied (going s)
unfolding going number_of
going-replied s l = by-eq Replied s.reader.marks.stage 1 _ _ (λ one. no-refusal refl) (repeated-replied s l)

closing-replied : (s : State) → Read s → Replied (closing s)
unfolding closing settled_by number_of
closing-replied s l =
    by-eq Replied s.reader.marks.stage 1 _ _
    (λ one.
    by-closed s.reader.choices.coverage s.reader.slots s.flags
    (λ (w : Closed). Replied (settled_by w s))
    (stuck (sticks-by-order 10 (lit≤ tt) (lit≤ tt)))
    (λ pair. stuck (sticks-by-order 11 (lit≤ tt) (lit≤ tt)))
    (λ some. no-refusal refl))
    (repeated-replied s l)

-- ---- the two together

pub data Answered (s : State) : Out → Type 0 where
  repeats : Stuck s.reader → Answered s (out s (refusal s.reader s.reader.marks.stage))
  one : (Stuck s.reader → ⊥) → Short s → Answered s (out s (refusal s.reader 1))
  two : (Stuck s.reader → ⊥) → (Short s → ⊥) → (Open s.reader → ⊥) → Answered s (out s (refusal s.reader 2))
  through : {o : Out} → (Stuck s.reader → ⊥) → (Short s → ⊥) → Open s.reader → Replied o → Answered s o

module _ (s : State) (next : Out) (f : Open s.reader → Replied next) where
  by-barred : {n : ℕ} → Barred s.reader (length s.cells) (length s.flags) n → Answered s (cond (eqb n 0) next (out s (refusal s.reader n)))
  by-barred (own h) =
      let some : s.reader.marks.stage ≡ 0 → ⊥ = λ z. omega (arith, stuck-least _ h.stage) in
      rw (ne_eqb s.reader.marks.stage 0 some) (repeats h)
  by-barred (short free h) = one free h
  by-barred (clear free long o) = through free long o (f o)
  by-barred (shut free long h) = two free long h

  answered : Answered s (tested s next)
  unfolding tested
  answered = by-barred (barred-is s.reader (length s.cells) (length s.flags))

module _ (s : State) where
  pub piece-answered : (text : List ℕ) → Answered s (piece_of text s)
  unfolding piece_of
  piece-answered text = answered s _ (λ o. going-replied (bytes_of text s) (bytes-keeps read_keeps text s (inl o.stage)))

  pub close-answered : Answered s (close_of s)
  unfolding close_of
  close-answered = answered s _ (λ o. closing-replied (finished s) (finished-keeps read_keeps s (inl o.stage)))
