-- `words::part_of` meets its contract: the code's table is that of specs/Command. Assumes nothing.
use Rattle.field.specs.Text.{bytes}
use Rattle.script.specs.Line.{named}
use Rattle.script.specs.Command.{query_of, memory_of, verb_of, slot_of, part_of}
use Rattle.script.specs.own.Tabled.{tabled}
use Rattle.script.proofs.words.part_of.Goals as goal

pub returns : goal.returns
unfolding tabled named bytes query_of memory_of verb_of slot_of part_of
returns c = c.named.ensures
