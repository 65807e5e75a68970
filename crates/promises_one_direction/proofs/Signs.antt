-- A heading that rounds to 180 degrees may have either sign: its field has the same form, its value is in range, and the same heading is read. So two lines that differ only so come to
-- the same row. Assumes nothing.
use Rattle.std.specs.Prelude.{Option, Some}
use mathlib.Core.Path.{◌≡◌, sym, ◌∙◌, subst}
use mathlib.Core.Logic.{⊎_elim}
use mathlib.Core.Bool.{Bool}
use mathlib.Core.List.{List}
use Prim.Native.Nat.{ℕ}
use Rattle.field.specs.Form.{starts_minus, field_of}
use Rattle.field.proofs.Signs.{signed, number-too, same_size}
use Rattle.row.specs.declared.reading.Choices.{Choices}
use Rattle.row.specs.LineRules.{fields_of}
use Rattle.row.specs.own.Rows.{row_of}
use Rattle.row.proofs.Alike.{AsRead, as-itself, both-numbers, AlikeFields, rows_alike}
use Rattle.promises_one_direction.specs.OneDirection.{EitherSign, SameButSigns}
use Rattle.field.specs.declared.decimal.Decimal.{Decimal}

either-read : {a b : List ℕ} → EitherSign a b → AsRead (field_of a) (field_of b)
either-read {a} {b} h =
    let d = h.decimal in
    let minus = starts_minus b in
    let second : field_of b ≡ Some (signed minus d) = number-too a b h.behind h.formed in
    let size = same_size minus d 3 ∙ h.rounds in
    subst (λ (f : Option Decimal). AsRead f (field_of b)) (sym h.formed)
    (subst (AsRead (Some d)) (sym second) (both-numbers d (signed minus d) h.rounds size))

alike-fields : (xs ys : List (List ℕ)) → SameButSigns xs ys → AlikeFields xs ys
alike-fields xs ys h =
    record {
      count = h.count;
      others = λ k first second. ⊎_elim (λ e. e) (λ e. absurd (⊎_elim first second e.0)) (h.columns k);
      read-so = λ k. ⊎_elim as-itself (λ e. either-read e.1) (h.columns k);
    }

pub same_row : (c : Choices) (first : Bool) (a b : List ℕ) → SameButSigns (fields_of a) (fields_of b) → row_of c first a ≡ row_of c first b
same_row c first a b h = rows_alike c first a b (alike-fields (fields_of a) (fields_of b) h)
