-- What a line comes to, in document 01's numbers, and the code's answer read so. A line that is refused has a number; every other line is what it is.
use Rattle.std.specs.Prelude.{ℕ, Result, Ok, Err}
use Rattle.refusals.specs.declared.refusal.Refusal.{Refusal}
use Rattle.refusals.specs.Numbered.{number_of}
use Rattle.row.specs.declared.reading.Entry.{Entry}
use Rattle.row.specs.declared.reading.Row.{Row as CodeRow}
use Rattle.row.specs.declared.reading.Row.TheVariants as Code

pub data Row : Type 0 where
  Blank : Row
  Title : Row
  PassedOver : Row
  Refused : ℕ → Row
  Used : Entry → Row

abbrev pub told : Result CodeRow Refusal → Row
told (Ok Code.Blank) = Row.Blank
told (Ok Code.Title) = Row.Title
told (Ok Code.PassedOver) = Row.PassedOver
told (Ok (Code.Used e)) = Row.Used e
told (Err refusal) = Row.Refused (number_of refusal)
