-- `feeding::lay` meets its contract: all is laid. Assumes nothing.
use Rattle.std.proofs.Common.{sym, ◌∙◌, arith}
use lib.Seq.{take_all}
use Rattle.reader.proofs.feeding.lay.Goals as goal

pub returns : goal.returns
returns c =
    let i = c.loop-i.i in
    sym (take_all i c.loop-i.places (omega arith)) ∙ c.loop-i.invariant.0 ∙ take_all i c.args.bytes.now (omega arith)
