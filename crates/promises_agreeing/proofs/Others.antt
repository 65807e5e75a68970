-- Rows that are passed over and blank lines come to nothing, so texts that differ in nothing else come to the same (proofs/Agree). Assumes nothing.
use mathlib.Core.Path.{◌≡◌, sym, ap, ◌∙◌}
use mathlib.Core.Bool.{Bool}
use mathlib.Core.List.{List}
use Prim.Native.Nat.{ℕ, ◌≤◌}
use lib.Dec.{eqb}
use lib.ListN.{length}
use Rattle.row.specs.declared.reading.Choices.{Choices}
use Rattle.row.specs.Told.{Row}
use Rattle.row.specs.own.Rows.{row_of}
use Rattle.row.specs.LineRules.{LineIs}
use Rattle.row.proofs.LineRules.{line_gives}
use Rattle.reader.specs.Model.{State, passed, ended}
use Rattle.promises_agreeing.specs.Others.{Unheard, BothUnheard, OtherComponentsFrom, OtherComponents, OtherPiecesFrom, OtherPieces}
use Rattle.promises_agreeing.specs.Others.Unheard.{blank, other, two-headings}
use Rattle.promises_agreeing.proofs.Agree.{Hears, same-pieces-from, same-pieces, same-texts-from, same-texts}

unheard-row : (c : Choices) (first : Bool) (line : List ℕ) → Unheard c first line → (s : State) → ended (row_of c first line) s ≡ passed s
unfolding ended
unheard-row c first line (blank short e) s = ap (λ (w : Row). ended w s) (line_gives c first line (LineIs.blank e))
unheard-row c first line (other short f n) s = ap (λ (w : Row). ended w s) (line_gives c first line (LineIs.other-component f n))
unheard-row c first line (two-headings short r t) s = ap (λ (w : Row). ended w s) (line_gives c first line (LineIs.two-headings r t))

unheard-short : {c : Choices} {first : Bool} {line : List ℕ} → Unheard c first line → length line ≤ 160
unheard-short (blank short e) = short
unheard-short (other short f n) = short
unheard-short (two-headings short r t) = short

unheard-hears : Hears BothUnheard
unheard-hears c n a b (p, q) =
    record {
      short = unheard-short p;
      other-short = unheard-short q;
      same_row = λ s. unheard-row c (eqb n 0) a p s ∙ sym (unheard-row c (eqb n 0) b q s);
    }

pub other-pieces-from : OtherPiecesFrom
other-pieces-from = same-pieces-from unheard-hears

pub other-components-from : OtherComponentsFrom
other-components-from = same-texts-from unheard-hears

pub other-pieces : OtherPieces
other-pieces = same-pieces unheard-hears

pub other-components : OtherComponents
other-components = same-texts unheard-hears
