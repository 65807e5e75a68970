-- `corners::worked` meets its contract: out of bounds where one of the four corners is, and else interpolated. Assumes nothing.
use Rattle.std.proofs.Common.{sym, ◌∙◌}
use Rattle.load.proofs.Bilinear.{any-bad, interpolated-is}
use Rattle.load.proofs.corners.worked.Goals as goal

pub returns-then-any_out : goal.returns-then-any_out
returns-then-any_out c =
    any-bad _ _ _ c.requires.first.0 c.requires.second.0 _ c.square-s.ensures ∙ sym c.any_out.ensures ∙ c.if-any_out.true

pub returns-else-any_out : goal.returns-else-any_out
returns-else-any_out c = (
  any-bad _ _ _ c.requires.first.0 c.requires.second.0 _ c.square-s.ensures ∙ sym c.any_out.ensures ∙ c.if-any_out.false,
  c.interpolate.ensures.value ∙ interpolated-is _ _ _ _ c.square-s.ensures,
  c.interpolate.ensures.small.0,
  c.interpolate.ensures.small.1,
)
