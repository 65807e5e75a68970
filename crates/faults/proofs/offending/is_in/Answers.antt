-- `offending::is_in` meets its contract: what `in_units` tells is what the model's test says. Assumes nothing.
use mathlib.Core.Path.{◌≡◌, ◌∙◌, ap}
use Rattle.std.specs.Prelude.{is_some}
use Rattle.std.proofs.Common.{rules}
use mir.Syntax.{w32}
use mir.Val.{SFits}
use mir.Facts.{to_z-of_z}
use Rattle.field.specs.Units.{in_units}
use Rattle.row.specs.Ranges.{measure}
use Rattle.row.proofs.Measuring.{measured-some}
use Rattle.faults.proofs.offending.is_in.Goals as goal
use Rattle.faults.proofs.offending.is_in.Goals.{After-in_units}

told : (c : After-in_units) → c.in_units.result ≡ measure c.args.q c.args.d
told c =
    let q = c.args.q in
    let least : SFits w32 q.least = search rules in
    let most : SFits w32 q.most = search rules in
    c.in_units.ensures ∙ (λ i. in_units c.args.d q.places (to_z-of_z least i) (to_z-of_z most i))

pub returns : goal.returns
returns c = c.is_some.ensures ∙ ap is_some (told (goal.at.returns c).After-in_units) ∙ measured-some _ _
