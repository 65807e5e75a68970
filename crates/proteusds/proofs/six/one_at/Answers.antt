-- `six::one_at` meets its contract: the call stands on the part, and what comes back goes there. Assumes nothing.
use Rattle.proteusds.proofs.Parts.{called_at_lem}
use Rattle.proteusds.proofs.six.one_at.Goals as goal

-- src/six.rt:46:13
-- src/six.rt:47:13
-- src/six.rt:50:9
-- src/six.rt:53:23
-- src/six.rt:53:9
-- src/six.rt:53:9
-- src/six.rt:53:9
-- src/six.rt:53:9
-- src/six.rt:54:23
-- src/six.rt:54:9
-- src/six.rt:54:9
-- src/six.rt:54:9
-- src/six.rt:48:5
-- src/six.rt:35:1
-- src/six.rt:35:1
-- src/six.rt:35:1
pub returns : goal.returns
returns c =
    let a = c.args in
    called_at_lem a.call a.k a.text.now a.r a.cells.now a.flags.now _ _ _ c.one.ensures
