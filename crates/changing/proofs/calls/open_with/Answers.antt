-- `calls::open_with` meets its contract: the opening, of the cells and flags that are lent (`call-told`). Assumes nothing.
use Rattle.reader.specs.Model.{open_of}
use Rattle.changing.specs.Calls.{opened_as, open_with}
use Rattle.changing.proofs.Lending.{call-told}
use Rattle.changing.proofs.calls.open_with.Goals as goal

pub returns : goal.returns
unfolding open_with
returns c =
    let a = c.args in
    call-told a.cells.now a.flags.now a.lent (open_of a.choices) (opened_as a.r) c.min-c.ensures c.min-f.ensures c.open-outcome.ensures c.opened.ensures
