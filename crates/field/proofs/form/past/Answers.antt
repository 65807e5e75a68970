-- `form::past`: a byte of the kind stands first, or another, or none. Assumes nothing.
use Rattle.std.proofs.Common.{ap, sym, ◌∙◌, arith}
use Rattle.field.proofs.Runs.{without-one, without_other}
use Rattle.field.proofs.form.past.Goals as goal
use Rattle.field.proofs.form.past.Goals.{in_default, in_default-2}

pub returns-in-len1-up : goal.returns-in-len1-up
returns-in-len1-up g c kind rule = without-one kind _ c.in-len1-up.len_at_least (sym (rule _ _ (c.if-is_kind.ensures)))

pub returns : goal.returns
returns g c kind rule =
    elim c.if-s-lt1.branch [
      | in_default w ↦ ap (λ r. r.now) w.result-is ∙ without_other kind _ (λ h. absurd (omega arith))
      | in_default-2 w ↦ ap (λ r. r.now) w.result-is ∙ without_other kind _ (λ h. sym (rule _ _ (w.if-is_kind.ensures)))
    ]
