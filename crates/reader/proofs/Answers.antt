-- What a piece and closing come to, one law for each outcome. Assumes nothing.
use mathlib.Core.Path.{◌≡◌, ap, ◌∙◌}
use mathlib.Core.List.{List}
use Prim.Native.Nat.{ℕ}
use borrow.Author.Tests.{eq-eqb, ne_eqb}
use Rattle.table.specs.Closing.{closed_of}
use Rattle.reader.specs.declared.reader.Answer.{Answer}
use Rattle.reader.specs.Model.{State, Out, out, barred, refusal, repeated, tested, going, bytes_of, piece_of, settled_by, finished, closing, close_of}

-- ---- the answer to what the text came to

module _ (s : State) where
  going-open : s.reader.marks.stage ≡ 1 → out s Answer.Going ≡ going s
  unfolding going
  going-open o = rw (eq-eqb s.reader.marks.stage 1 o)

  closing-open :
      {o : Out} → s.reader.marks.stage ≡ 1
      → o ≡ settled_by (closed_of s.reader.choices.coverage s.reader.slots s.flags) s
      → o ≡ closing s
  unfolding closing
  closing-open h f = rw (eq-eqb s.reader.marks.stage 1 h) f

  module _ {a : Answer} (o : s.reader.marks.stage ≡ 1 → ⊥) (f : a ≡ refusal s.reader s.reader.marks.stage) where
    going-stuck : out s a ≡ going s
    unfolding going repeated
    going-stuck = rw (ne_eqb s.reader.marks.stage 1 o) (ap (out s) f)

    closing-stuck : out s a ≡ closing s
    unfolding closing repeated
    closing-stuck = rw (ne_eqb s.reader.marks.stage 1 o) (ap (out s) f)

-- ---- from the tests on that both begin with; the code has their number

module _ (s : State) {number : ℕ} (e : number ≡ barred s) where
  module _ (next : Out) where
    tested-barred : {a : Answer} → (number ≡ 0 → ⊥) → a ≡ refusal s.reader number → out s a ≡ tested s next
    unfolding tested
    tested-barred h f = rw (← e, ne_eqb number 0 h) (ap (out s) f)

    tested-clear : number ≡ 0 → next ≡ tested s next
    unfolding tested
    tested-clear h = rw (← e, eq-eqb number 0 h)

  module _ {a : Answer} (h : number ≡ 0 → ⊥) (f : a ≡ refusal s.reader number) where
    pub piece-barred : (text : List ℕ) → out s a ≡ piece_of text s
    unfolding piece_of
    piece-barred text = tested-barred _ h f

    pub close-barred : out s a ≡ close_of s
    unfolding close_of
    close-barred = tested-barred _ h f

  -- s' is the state after the text
  module _ (h : number ≡ 0) (s' : State) where
    module _ (text : List ℕ) (read : s' ≡ bytes_of text s) where
      pub piece-going : s'.reader.marks.stage ≡ 1 → out s' Answer.Going ≡ piece_of text s
      unfolding piece_of
      piece-going o = going-open s' o ∙ ap going read ∙ tested-clear _ h

      pub piece-stuck : {a : Answer} → (s'.reader.marks.stage ≡ 1 → ⊥) → a ≡ refusal s'.reader s'.reader.marks.stage → out s' a ≡ piece_of text s
      unfolding piece_of
      piece-stuck o f = going-stuck s' o f ∙ ap going read ∙ tested-clear _ h

    module _ (read : s' ≡ finished s) where
      pub close-stuck : {a : Answer} → (s'.reader.marks.stage ≡ 1 → ⊥) → a ≡ refusal s'.reader s'.reader.marks.stage → out s' a ≡ close_of s
      unfolding close_of
      close-stuck o f = closing-stuck s' o f ∙ ap closing read ∙ tested-clear _ h

      pub close-settled :
          {o : Out} → s'.reader.marks.stage ≡ 1
          → o ≡ settled_by (closed_of s'.reader.choices.coverage s'.reader.slots s'.flags) s'
          → o ≡ close_of s
      unfolding close_of
      close-settled h' f = closing-open s' h' f ∙ ap closing read ∙ tested-clear _ h
