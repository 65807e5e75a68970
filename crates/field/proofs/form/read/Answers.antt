-- `form::read` meets its contract: the part that is handed on is the slice of the specification, and an empty part is no field.
-- Assumes nothing.
use mathlib.Core.Path.{ap, ◌∙◌}
use native.Mathlib.Omega.{arith}
use Rattle.field.specs.Form.{field_of}
use Rattle.field.proofs.Runs.{slice-none, slice-part}
use Rattle.field.proofs.Parts.{nothing}
use Rattle.field.proofs.form.read.Goals as goal

pub returns-then-end-a : goal.returns-then-end-a
returns-then-end-a c =
    let a = c.args in
    rw (slice-none a.a a.b a.text.now (omega arith)) nothing

pub returns : goal.returns
returns c = c.read_all.ensures ∙ ap field_of (slice-part c.args.a c.args.b c.min-end.result c.args.text.now (omega arith) (omega arith))
