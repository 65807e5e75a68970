-- `listing::written` meets its contract: none of its six words is long. Assumes nothing.
use Rattle.std.proofs.Common.{rules}
use Rattle.lines.proofs.Held.{penned, entry-few}
use Rattle.lines.proofs.listing.written.Goals as goal

pub returns : goal.returns
returns c =
    penned _ (entry-few c.args.p (search rules) (search rules) (search rules) (search rules) _ (search rules) (search rules)) c.new-pen.ensures.begun
    c.put_entry.ensures (search rules) c.end-len.ensures
