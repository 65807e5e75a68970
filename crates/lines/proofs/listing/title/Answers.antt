-- `listing::title` meets its contract: none of its six words is long. Assumes nothing.
use Rattle.std.proofs.Common.{rules}
use Rattle.lines.proofs.Held.{penned, title-few}
use Rattle.lines.proofs.listing.title.Goals as goal

pub returns : goal.returns
returns c =
    penned _ (title-few c.args.r (search rules) (search rules) (search rules)) c.new-pen.ensures.begun c.put_title.ensures (search rules) c.end-len.ensures
