-- `refusal::line` meets its contract: what `put` put there has room. Assumes nothing.
use Rattle.std.proofs.Common.{rules}
use Rattle.lines.proofs.Held.{penned}
use Rattle.lines.proofs.refusal.line.Goals as goal

pub returns : goal.returns
returns c = penned _ c.put.ensures.place_len_bound c.new-pen.ensures.begun c.put.ensures.result_after (search rules) c.end-len.ensures
