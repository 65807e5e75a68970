use Rattle.std.proofs.Common.{◌∙◌}
use Rattle.reasons.proofs.SamePlaces.{answers-same}
use Rattle.reasons.proofs.explanation.Stated.is_given.Goals as goal

pub returns : goal.returns
returns c = c.eq.ensures ∙ answers-same c.args.self c.args.given
