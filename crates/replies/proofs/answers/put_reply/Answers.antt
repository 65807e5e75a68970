-- `answers::put_reply` meets its contract: signed parts are read back from their bits. Assumes nothing.
use Rattle.std.proofs.Common.{rules, ◌≡◌, [], ◌∷◌, to_z, of_z, w32}
use Rattle.field.specs.Text.{bytes}
use Rattle.text.specs.Decimal.{natural, signed}
use Rattle.text.specs.Spaced.{spaced}
use Rattle.text.proofs.Pens.{◌then◌, puts-as}
use Rattle.behind.proofs.Words.{spaced-next}
use Rattle.replies.specs.Reply.{reply_text}
use Rattle.replies.proofs.answers.put_reply.Goals as goal

pub returns-in-Coefficient : goal.returns-in-Coefficient
unfolding reply_text bytes
returns-in-Coefficient c =
    let w = c.in-Coefficient in
    let re : to_z w32 (of_z w32 w.re) ≡ w.re = search rules in
    let im : to_z w32 (of_z w32 w.im) ≡ w.im = search rules in
    rw w.is (puts-as c.put_line-in-Coefficient.ensures (λ i. spaced (bytes "coefficient" ∷ signed (re i) ∷ signed (im i) ∷ [])))

pub returns-in-Cell : goal.returns-in-Cell
unfolding reply_text bytes
returns-in-Cell c =
    let w = c.in-Cell in
    let re : to_z w32 (of_z w32 w.re) ≡ w.re = search rules in
    let im : to_z w32 (of_z w32 w.im) ≡ w.im = search rules in
    let value = puts-as c.put_line-in-Cell.ensures (λ i. spaced (bytes "cell" ∷ signed (re i) ∷ signed (im i) ∷ [])) in
    rw w.is
    (puts-as (value then (rw c.from-in-Cell.ensures at c.next_natural.ensures))
    (spaced-next (bytes "cell") (signed w.re ∷ signed w.im ∷ []) (natural w.flag)))
