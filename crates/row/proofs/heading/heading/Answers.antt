-- `heading::heading` meets its contract: a test of words for the one heading that is read as another. Assumes nothing.
use mathlib.Core.Path.{sym, ap, ◌∙◌}
use mathlib.Core.Bool.{Bool, cond}
use lib.IntN.{pos, neg_ℤ}
use mir.Syntax.{w32}
use mir.Val.{SFits}
use mir.Facts.{to_z-of_z, sfits_lit}
use Rattle.whole.proofs.Same.{same-yes, same-no}
use Rattle.row.specs.Heading.{heading_of}
use Rattle.row.proofs.heading.heading.Goals as goal

least : SFits w32 (neg_ℤ (pos 180_000))
least = sfits_lit tt

pub returns-then-millidegrees-eq-HEADING_LEAST : goal.returns-then-millidegrees-eq-HEADING_LEAST
unfolding heading_of
returns-then-millidegrees-eq-HEADING_LEAST c =
    let h = c.args.millidegrees in
    sym (ap (λ (t : Bool). cond t (pos 180_000) h) (same-yes w32 c.ranges.millidegrees least c.if-millidegrees-eq-HEADING_LEAST.true))

pub returns-else-millidegrees-eq-HEADING_LEAST : goal.returns-else-millidegrees-eq-HEADING_LEAST
unfolding heading_of
returns-else-millidegrees-eq-HEADING_LEAST c =
    let h = c.args.millidegrees in
    let f = c.ranges.millidegrees in
    to_z-of_z f ∙ sym (ap (λ (t : Bool). cond t (pos 180_000) h) (same-no w32 f least c.if-millidegrees-eq-HEADING_LEAST.false))
