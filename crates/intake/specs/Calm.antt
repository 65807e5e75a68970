-- The sea before any command: it has no lines.
use Rattle.std.specs.Prelude.{pos, replicate}
use Rattle.seaway.specs.declared.sea.Sea.{Sea}

abbrev pub calm_sea : Sea
calm_sea = record { count = 0; ticks = replicate 64 0; headings = replicate 64 (pos 0); re = replicate 64 (pos 0); im = replicate 64 (pos 0) }
