-- The entries that are left name what the whole table names.
use Rattle.std.proofs.Common.{◌≡◌, drop}
use Rattle.script.specs.own.Tabled.{tabled}
use Rattle.script.proofs.words.named.Given as goal

abbrev pub invariant-loop-name : goal.invariant-loop-name
invariant-loop-name g l = tabled l.word (drop l.name-index l.table) l.other ≡ tabled l.word l.table l.other
