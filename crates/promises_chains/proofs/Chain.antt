-- Chains of calls: what opening comes to, and where it leads. Assumes nothing.
use mathlib.Core.Path.{◌≡◌, refl, sym, ap, subst, ◌∙◌}
use mathlib.Core.Logic.{◌⊎◌, inl, inr, ⊎_elim}
use mathlib.Core.Bool.{true, true≢false}
use mathlib.Core.List.{List, ◌++◌}
use Prim.Native.Nat.{ℕ}
use native.Mathlib.Omega.{arith}
use lib.IntN.{ℤ, pos}
use lib.ListN.{length, take, drop, replicate, length-append, length-drop, length-replicate}
use lib.Seq.{drop-append_seam, take-append_seam}
use Rattle.row.specs.declared.reading.Choices.{Choices}
use Rattle.row.proofs.Used.{by-test}
use Rattle.grid.specs.Slots.{held_ticks, held_headings}
use Rattle.reader.specs.Valid.{valid_choices, clean, valid_line, valid_of, sticks, valid_stage}
use Rattle.grid.specs.Valid.{valid_ticks, valid_headings, valid_presence, valid_slots}
use Rattle.reader.specs.declared.reader.Place.TheVariants as Place
use Rattle.reader.specs.declared.reader.Answer.TheVariants as Answer
use Rattle.reader.specs.Model.{State, Out, out, number_of, state_of, fresh, never, too_short, refusal, open_of}
use Rattle.promises_calls.specs.Kept.{Beyond, OpenKeeps}
use Rattle.promises_calls.specs.Lines.{AtLineStart}
use Rattle.promises_chains.specs.Chain.{Opens, opened, OpensExactlyWhen, Cleared, OpenClears, ChainIsText, ChainSound, ChainRefuses}
use Rattle.promises_calls.proofs.Outcomes.{short-is, long-is, not_short}
use Rattle.promises_chains.proofs.Calls.{calls-are-text, calls-sound, calls-refuse}

-- ---- opening

-- the state that an accepted opening leaves
unfoldable pub start_of : Choices → List ℤ → List ℕ → State
start_of c cells flags = state_of (fresh 1 c) (replicate 12_800 (pos 0) ++ drop 12_800 cells) (replicate 6_400 0 ++ drop 6_400 flags)

-- refused, and then the record was never opened; or accepted
pub data Opening (c : Choices) (cells : List ℤ) (flags : List ℕ) : Out → Type 0 where
  shut : {number : ℕ} → (number ≡ 1) ⊎ (number ≡ 2) → (Opens c cells flags → ⊥)
      → Opening c cells flags (out (state_of never cells flags) (Answer.Refused number Place.Nowhere))
  starts : Opens c cells flags → Opening c cells flags (out (start_of c cells flags) Answer.Going)

module _ (c : Choices) (cells : List ℤ) (flags : List ℕ) where
  pub opening-is : Opening c cells flags (open_of c cells flags)
  unfolding open_of refusal start_of
  opening-is =
      let m = length cells in
      let n = length flags in
      let O = Opening c cells flags in
      by-test O (too_short m n) _ _
      (λ e. shut (inl refl) (λ o. not_short m n (o.cells-long, o.flags_long) (short-is m n e)))
      (λ e.
      let long = long-is m n e in
      by-test O (valid_choices c) _ _
      (λ v. starts (record { cells-long = long.0; flags_long = long.1; choices = v }))
      (λ v. shut (inr refl) (λ o. true≢false (sym o.choices ∙ v))))

  opens-when : {o : Out} → Opening c cells flags o → number_of o.answer ≡ 0 → Opens c cells flags
  unfolding number_of
  opens-when (shut number closed) e = absurd (⊎_elim (λ h. omega arith) (λ h. omega arith) number)
  opens-when (starts o) e = o

  when-opens : {o : Out} → Opening c cells flags o → Opens c cells flags → number_of o.answer ≡ 0
  unfolding number_of
  when-opens (shut number closed) o = absurd (closed o)
  when-opens (starts p) o = refl

  whole-start : {o : Out} → Opening c cells flags o → Opens c cells flags → o ≡ out (start_of c cells flags) Answer.Going
  whole-start (shut number closed) o = absurd (closed o)
  whole-start (starts p) o = refl

  pub opened-whole : Opens c cells flags → open_of c cells flags ≡ out (start_of c cells flags) Answer.Going
  opened-whole o = whole-start opening-is o

  pub opened-is : Opens c cells flags → opened c cells flags ≡ start_of c cells flags
  opened-is o = ap (λ (z : Out). z.after) (opened-whole o)

pub opens-exactly-when : OpensExactlyWhen
opens-exactly-when c cells flags = (opens-when c cells flags (opening-is c cells flags), when-opens c cells flags (opening-is c cells flags))

-- the first record is valid, and its lists are long enough
fresh-valid : (c : Choices) → valid_choices c ≡ true → valid_of (fresh 1 c) ≡ true
unfolding valid_of valid_stage sticks valid_slots valid_ticks valid_headings valid_presence held_ticks held_headings valid_line clean
fresh-valid c v = rw v

start-chosen : (c : Choices) (cells : List ℤ) (flags : List ℕ) → (start_of c cells flags).reader.choices ≡ c
unfolding start_of
start-chosen c cells flags = refl

module _ (c : Choices) (cells : List ℤ) (flags : List ℕ) (o : Opens c cells flags) where
  start-cells : length (start_of c cells flags).cells ≡ length cells
  unfolding start_of
  start-cells =
      length-append (replicate 12_800 (pos 0)) (drop 12_800 cells) ∙ rw (length-replicate, length-drop) (omega (arith, o.cells-long))

  start-flags : length (start_of c cells flags).flags ≡ length flags
  unfolding start_of
  start-flags =
      length-append (replicate 6_400 0) (drop 6_400 flags) ∙ rw (length-replicate, length-drop) (omega (arith, o.flags_long))

  pub start-at-line : AtLineStart (start_of c cells flags)
  unfolding start_of
  start-at-line =
      record {
        shaped = record { ticks = refl; headings = refl; kept = refl };
        valid = fresh-valid c o.choices;
        stage = refl;
        count = refl;
        cells = omega (arith, start-cells, o.cells-long);
        flags = omega (arith, start-flags, o.flags_long);
      }

-- ---- what opening writes

module _ {X : Type 0} (z : X) where
  -- the first n are z, and behind them stands what stood there
  cleared-take : (n : ℕ) (l : List X) → take n (replicate n z ++ l) ≡ replicate n z
  cleared-take n l = ap (λ (k : ℕ). take k (replicate n z ++ l)) (sym (length-replicate n z)) ∙ take-append_seam (replicate n z) l

  cleared-drop : (n : ℕ) (l : List X) → drop n (replicate n z ++ l) ≡ l
  cleared-drop n l = ap (λ (k : ℕ). drop k (replicate n z ++ l)) (sym (length-replicate n z)) ∙ drop-append_seam (replicate n z) l

pub open-keeps : OpenKeeps
unfolding start_of
open-keeps c cells flags = go (opening-is c cells flags)
  where
    go : {o : Out} → Opening c cells flags o → Beyond (state_of never cells flags) o.after
    go (shut number closed) = record { cells = refl; flags = refl; past-cells = refl; past-flags = refl }
    go (starts o) =
        record {
          cells = start-cells c cells flags o;
          flags = start-flags c cells flags o;
          past-cells = cleared-drop (pos 0) 12_800 (drop 12_800 cells);
          past-flags = cleared-drop 0 6_400 (drop 6_400 flags);
        }

pub open-clears : OpenClears
unfolding start_of
open-clears c cells flags o =
    subst Cleared (sym (opened-is c cells flags o))
    (record { cells = cleared-take (pos 0) 12_800 (drop 12_800 cells); flags = cleared-take 0 6_400 (drop 6_400 flags) })

-- ---- from opening on

pub opened-at-line : (c : Choices) (cells : List ℤ) (flags : List ℕ) → Opens c cells flags → AtLineStart (opened c cells flags)
opened-at-line c cells flags o = subst AtLineStart (sym (opened-is c cells flags o)) (start-at-line c cells flags o)

pub chain-is-text : ChainIsText
chain-is-text c cells flags calls o = calls-are-text (opened c cells flags) calls (opened-at-line c cells flags o)

pub chain-sound : ChainSound
chain-sound c cells flags calls o =
    let at = opened-at-line c cells flags o in
    let sound = calls-sound (opened c cells flags) calls at.shaped at.valid in
    let is = opened-is c cells flags o in
    record {
      shaped = sound.shaped;
      valid = sound.valid;
      choices = sound.choices ∙ ap (λ (s : State). s.reader.choices) is ∙ start-chosen c cells flags;
      cells-long = sound.cells-long ∙ ap (λ (s : State). length s.cells) is ∙ start-cells c cells flags o;
      flags_long = sound.flags_long ∙ ap (λ (s : State). length s.flags) is ∙ start-flags c cells flags o;
    }

pub chain-refuses : ChainRefuses
chain-refuses c cells flags calls call o = calls-refuse (opened c cells flags) calls call (opened-at-line c cells flags o)
