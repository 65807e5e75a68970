-- Where the text is cut makes no difference. A record that is barred answers the same whatever the text, and stays; one that is not goes through the bytes, which
-- do not see the cut, and is open and valid after them, so that it goes on, or is stuck and valid, so that it repeats its answer. Assumes nothing.
use mathlib.Core.Path.{◌≡◌, refl, sym, ap, ◌∙◌}
use mathlib.Core.Logic.{◌⊎◌, inl, inr, ⊎_elim}
use mathlib.Core.Bool.{true, cond}
use mathlib.Core.List.{List, [], ◌∷◌, ◌++◌, append_assoc, append-nil}
use Prim.Native.Nat.{ℕ, ◌≤◌}
use native.Mathlib.Omega.{arith}
use native.Mathlib.Decide.{ℕ_discrete}
use lib.ListN.{length}
use borrow.Author.Tests.{eq-eqb, ne_eqb}
use Rattle.reader.specs.declared.record.Record.{Record}
use Rattle.reader.specs.Valid.{valid_of}
use Rattle.reader.specs.Model.{State, Out, out, stuck_at, begun, keeping, passed, bytes_of, byte_of, too_short, barred_by, barred, refusal, repeated, tested, going, piece_of}
use Rattle.reader.proofs.Kept.{by-eq}
use Rattle.reader.proofs.Valid.{valid-stuck, free-stage, unbarred}
use Rattle.reader.proofs.TextLoop.{bytes-stuck}
use Rattle.reader.proofs.Answers.{piece-barred}
use Rattle.promises_calls.specs.Kept.{Shaped, Beyond}
use Rattle.promises_calls.specs.Cutting.{pieces_of, joined, Cutting}
use Rattle.promises_calls.proofs.LineNumbers.{line-told}
use Rattle.promises_calls.proofs.Moves.{Keeps, bytes-keeps}
use Rattle.promises_calls.proofs.Kept.{beyond-keeps, beyond-none}
use Rattle.promises_calls.proofs.Valid.{sound-keeps, sound-is, is-valid}

-- ---- bytes

pub bytes-append : (a b : List ℕ) (s : State) → bytes_of (a ++ b) s ≡ bytes_of b (bytes_of a s)
unfolding bytes_of
bytes-append [] b s = refl
bytes-append (x ∷ a) b s = bytes-append a b (byte_of x s)

-- while a text is read a record is open, or stuck
abbrev pub Live : State → Type 0
Live s = (s.reader.marks.stage ≡ 1) ⊎ (3 ≤ s.reader.marks.stage)

pub live-keeps : Keeps Live
unfolding stuck_at begun keeping passed
live-keeps =
    record {
      stuck = λ number line s of-line l. inr (line-told of-line).least;
      line-begun = λ s more l. l;
      byte-kept = λ b s other room l. l;
      line-passed = λ s l. l;
      row-used = λ e s row f l. l;
    }

-- ---- what bars a valid record

module _ (r : Record) (cells flags : ℕ) (v : valid_of r ≡ true) where
  pub open-barred : r.marks.stage ≡ 1 → barred_by r cells flags ≡ cond (too_short cells flags) 1 0
  unfolding barred_by
  open-barred o = rw (v, free-stage r.marks.stage (omega arith), eq-eqb r.marks.stage 1 o)

  pub stuck-barred : 3 ≤ r.marks.stage → barred_by r cells flags ≡ r.marks.stage
  unfolding barred_by
  stuck-barred h = rw (v, valid-stuck r v h)

-- ---- a piece

pub going-after : (s : State) → (going s).after ≡ s
unfolding going repeated
going-after s = by-eq (λ (o : Out). o.after ≡ s) s.reader.marks.stage 1 _ _ (λ one. refl) (λ other. refl)

going-stuck : (s : State) → (s.reader.marks.stage ≡ 1 → ⊥) → going s ≡ out s (refusal s.reader s.reader.marks.stage)
unfolding going repeated
going-stuck s o = rw (ne_eqb s.reader.marks.stage 1 o)

pub piece-through : (s : State) → barred s ≡ 0 → (text : List ℕ) → piece_of text s ≡ going (bytes_of text s)
unfolding piece_of tested
piece-through s h text = rw (eq-eqb (barred s) 0 h)

pub piece-stays : (s : State) → (barred s ≡ 0 → ⊥) → (text : List ℕ) → piece_of text s ≡ out s (refusal s.reader (barred s))
piece-stays s h text = sym (piece-barred s refl h refl text)

-- after a text, a piece goes through the bytes again
module _ (s : State) (shaped : Shaped s.reader) (clear : barred s ≡ 0) (a : List ℕ) where
  abbrev mid : State
  mid = bytes_of a s

  was : (valid_of s.reader ≡ true) × (s.reader.marks.stage ≡ 1)
  was = unbarred s.reader (length s.cells) (length s.flags) clear

  mid-valid : valid_of mid.reader ≡ true
  mid-valid = is-valid _ (bytes-keeps sound-keeps a s (sound-is s shaped was.0)).valid

  mid-beyond : Beyond s mid
  mid-beyond = bytes-keeps (beyond-keeps s) a s (beyond-none s)

  mid-clear : mid.reader.marks.stage ≡ 1 → barred mid ≡ 0
  mid-clear o =
      open-barred mid.reader _ _ mid-valid o
      ∙ (λ i. cond (too_short (mid-beyond.cells i) (mid-beyond.flags i)) 1 0)
      ∙ sym (open-barred s.reader _ _ was.0 was.1)
      ∙ clear

  on-through : (b : List ℕ) → piece_of b mid ≡ going (bytes_of b mid)
  on-through b =
      ⊎_elim
      (λ o. piece-through mid (mid-clear o) b)
      (λ h.
      let stuck = stuck-barred mid.reader (length mid.cells) (length mid.flags) mid-valid h in
      let shut : mid.reader.marks.stage ≡ 1 → ⊥ = λ o. omega arith in
      sym (piece-barred mid (sym stuck) (λ z. omega arith) refl b)
      ∙ sym (going-stuck mid shut)
      ∙ ap going (sym (bytes-stuck b mid shut)))
      (bytes-keeps live-keeps a s (inl was.1))

-- the law, of two pieces
pub cut : (a b : List ℕ) (s : State) → Shaped s.reader → piece_of b (piece_of a s).after ≡ piece_of (a ++ b) s
cut a b s shaped =
    elim (ℕ_discrete (barred s) 0) [
      | yes clear ↦
          ap (λ (o : Out). piece_of b o.after) (piece-through s clear a)
          ∙ ap (piece_of b) (going-after (bytes_of a s))
          ∙ on-through s shaped clear a b
          ∙ ap going (sym (bytes-append a b s))
          ∙ sym (piece-through s clear (a ++ b))
      | no some ↦
          ap (λ (o : Out). piece_of b o.after) (piece-stays s some a)
          ∙ piece-stays s some b
          ∙ sym (piece-stays s some (a ++ b))
    ]

-- and of any number of pieces
pub cutting : Cutting
unfolding pieces_of joined
cutting p [] s shaped = rw append-nil
cutting p (q ∷ ps) s shaped =
    ap (pieces_of ps) (cut p q s shaped) ∙ cutting (p ++ q) ps s shaped ∙ ap (λ (t : List ℕ). piece_of t s) (append_assoc p q (joined ps))
