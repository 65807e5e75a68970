-- What is refused 3 to 9 or 17 leaves slots, cells and flags as they were: a row, the end of a line, a byte, a text, a closing. Assumes nothing.
use mathlib.Core.Path.{◌≡◌, refl, sym, ap, ◌∙◌, subst}
use mathlib.Core.Bool.{◌&&◌}
use mathlib.Core.List.{List, [], ◌∷◌}
use Prim.Native.Nat.{ℕ, ◌≤◌, ◌<◌}
use native.Mathlib.Omega.{arith}
use native.Mathlib.Decide.{ℕ_discrete}
use lib.Dec.{ltb, eqb}
use lib.ListN.{length}
use Rattle.row.specs.Told.{Row}
use Rattle.row.proofs.Used.{by-test}
use Rattle.table.specs.declared.closing.Closed.{Closed}
use Rattle.table.specs.Placing.{Placed}
use Rattle.reader.specs.Valid.{sticks, valid_of}
use Rattle.reader.specs.Model.{State, Out, table_at, number_of, stuck_at, begun, keeping, kept_byte, settled, passed, ended, line_ended, line_feed, open_byte, byte_of, bytes_of, too_short, barred_by, barred, refusal, repeated, tested, going, settled_by, finished, closing, close_of}
use Rattle.reader.proofs.Kept.{by-eq}
use Rattle.reader.proofs.Valid.{unbarred}
use Rattle.reader.proofs.TextLoop.{bytes-stuck}
use Rattle.promises_calls.specs.Lines.{kept_line, limited, line_read}
use Rattle.promises_calls.specs.Refusals.{IsOpen, RefusedRow, RefusedLine, StopsAt, RefusedPiece, RefusedClosing}
use Rattle.promises_calls.proofs.Moves.{by-placed, by-closed}
use Rattle.promises_calls.proofs.Cutting.{piece-through, piece-stays, going-after}

pub refused-row : RefusedRow
refused-row kind e t =
    by-placed (λ (p : Placed). 0 < p.number → p.table ≡ t) kind e t (λ f h. absurd (omega arith)) (λ h. refl) (λ h. refl)

-- ---- a line

-- where the reader is not open after it, the table is as before
abbrev Leaves : State → State → Type 0
Leaves s after = (IsOpen after → ⊥) → table_at after ≡ table_at s

module _ (s : State) (now : IsOpen s) where
  ended-leaves : (w : Row) → Leaves s (ended w s)
  unfolding ended settled passed stuck_at
  ended-leaves Row.Blank = λ h. refl
  ended-leaves Row.Title = λ h. refl
  ended-leaves Row.PassedOver = λ h. refl
  ended-leaves (Row.Refused number) = λ h. refl
  ended-leaves (Row.Used e) =
      by-placed (λ (p : Placed). Leaves s (settled p s)) s.reader.choices.kind e (table_at s) (λ f h. absurd (h now)) (λ h. refl) (λ h. refl)

  pub end_leaves : Leaves s (line_ended s)
  unfolding line_ended
  end_leaves = ended-leaves _

  pub finished-leaves : Leaves s (finished s)
  unfolding finished
  finished-leaves = by-eq (Leaves s) s.reader.marks.count 0 _ _ (λ none h. refl) (λ some. end_leaves)

pub refused-line : RefusedLine
unfolding line_read limited kept_line stuck_at
refused-line line s now =
    by-test (Leaves s) (eqb s.reader.marks.lines 1_000_000) _ _
    (λ past h. refl)
    (λ more. by-test (Leaves s) (ltb 160 (length line)) _ _ (λ long h. refl) (λ short. ended-leaves (kept_line line s) now _))

-- ---- a byte, and a text

module _ (s : State) where
  feed-leaves : IsOpen s → Leaves s (line_feed s)
  unfolding line_feed begun stuck_at
  feed-leaves now =
      by-eq (Leaves s) s.reader.marks.count 0 _ _
      (λ none. by-eq (Leaves s) s.reader.marks.lines 1_000_000 _ _ (λ full h. refl) (λ more. end_leaves (begun s) now))
      (λ some. end_leaves s now)

  kept_leaves : (b : ℕ) → Leaves s (kept_byte b s)
  unfolding kept_byte keeping begun stuck_at
  kept_leaves b =
      by-eq (Leaves s) s.reader.marks.count 0 _ _
      (λ none. by-eq (Leaves s) s.reader.marks.lines 1_000_000 _ _ (λ full h. refl) (λ more h. refl))
      (λ some. by-eq (Leaves s) s.reader.marks.count 160 _ _ (λ full h. refl) (λ room h. refl))

  byte-leaves : (b : ℕ) → Leaves s (byte_of b s)
  unfolding byte_of open_byte
  byte-leaves b =
      by-eq (Leaves s) s.reader.marks.stage 1 _ _ (λ now. by-eq (Leaves s) b 10 _ _ (λ feed. feed-leaves now) (λ n. kept_leaves b)) (λ other h. refl)

text-stops : (text : List ℕ) (s : State) → IsOpen s → (IsOpen (bytes_of text s) → ⊥) → StopsAt text s (bytes_of text s)
unfolding bytes_of
text-stops [] s now h = absurd (h now)
text-stops (b ∷ text) s now h =
    elim (ℕ_discrete (byte_of b s).reader.marks.stage 1) [
      | yes on ↦
          let r = text-stops text (byte_of b s) on h in
          record {
            before = b ∷ r.before;
            byte = r.byte;
            behind = r.behind;
            split = ap (λ (l : List ℕ). b ∷ l) r.split;
            still_open = r.still_open;
            unchanged = r.unchanged;
          }
      | no off ↦
          record {
            before = [];
            byte = b;
            behind = text;
            split = refl;
            still_open = now;
            unchanged = ap table_at (bytes-stuck text (byte_of b s) off) ∙ byte-leaves s b off;
          }
    ]

-- ---- a piece

going-number : (s : State) → 3 ≤ number_of (going s).answer → IsOpen s → ⊥
unfolding going number_of
going-number s = by-eq (λ (o : Out). 3 ≤ number_of o.answer → IsOpen s → ⊥) s.reader.marks.stage 1 _ _ (λ now h o. omega arith) (λ other h o. other o)

-- an open reader is barred by nothing, or by 1 or 2
open-bar : (s : State) → IsOpen s → barred s ≤ 2
unfolding barred_by
open-bar s now =
    let r = s.reader in
    by-test (λ (n : ℕ). n ≤ 2) (valid_of r && sticks r.marks.stage) _ _
    (λ own. omega arith)
    (λ free.
    by-test (λ (n : ℕ). n ≤ 2) (too_short (length s.cells) (length s.flags)) _ _
    (λ short. omega arith)
    (λ long. by-test (λ (n : ℕ). n ≤ 2) (valid_of r && eqb r.marks.stage 1) _ _ (λ o. omega arith) (λ o. omega arith)))

pub refused-piece : RefusedPiece
unfolding number_of refusal
refused-piece text s now low =
    elim (ℕ_discrete (barred s) 0) [
      | yes clear ↦
          let e = piece-through s clear text in
          let h : 3 ≤ number_of (going (bytes_of text s)).answer = subst (λ (o : Out). 3 ≤ number_of o.answer) e low in
          subst (StopsAt text s) (sym (ap (λ (o : Out). o.after) e ∙ going-after (bytes_of text s))) (text-stops text s now (going-number (bytes_of text s) h))
      | no some ↦
          let h : 3 ≤ barred s = subst (λ (o : Out). 3 ≤ number_of o.answer) (piece-stays s some text) low in
          absurd (omega (arith, open-bar s now, h))
    ]

-- ---- closing

abbrev Left : State → Out → Type 0
Left s o = 0 < number_of o.answer → (number_of o.answer ≡ 10 → ⊥) → (number_of o.answer ≡ 11 → ⊥) → table_at o.after ≡ table_at s

closing-left : (s : State) → IsOpen s → Left s (closing (finished s))
unfolding closing settled_by repeated number_of refusal
closing-left s now =
    let f = finished s in
    by-eq (Left s) f.reader.marks.stage 1 _ _
    (λ on.
    by-closed f.reader.choices.coverage f.reader.slots f.flags
    (λ (w : Closed). Left s (settled_by w f))
    (λ some not-ten not-eleven. absurd (not-ten refl))
    (λ pair some not-ten not-eleven. absurd (not-eleven refl))
    (λ held some not-ten not-eleven. absurd (omega arith)))
    (λ off some not-ten not-eleven. finished-leaves s now off)

pub refused-closing : RefusedClosing
unfolding close_of tested
refused-closing s =
    by-eq (Left s) (barred s) 0 _ _
    (λ clear. closing-left s (unbarred s.reader (length s.cells) (length s.flags) clear).1)
    (λ some h not-ten not-eleven. refl)
