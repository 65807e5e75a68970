-- A display in document 01's numbers: the reading of a force or of a moment, or a refusal's number with its sea line, 0 for none; and the code's display read so.
use Rattle.std.specs.Prelude.{ℕ}
use Rattle.refusals.specs.Numbered.{number_of}
use Rattle.readout.specs.declared.display.Reading.{Reading}
use Rattle.readout.specs.declared.display.Display.{Display as CodeDisplay}
use Rattle.readout.specs.declared.display.Display.TheVariants as Code

pub data Display : Type 0 where
  Force : Reading → Display
  Moment : Reading → Display
  Refused : ℕ → ℕ → Display

abbrev pub told : CodeDisplay → Display
told (Code.Force reading) = Display.Force reading
told (Code.Moment reading) = Display.Moment reading
told (Code.Refused e) = Display.Refused (number_of e.refusal) e.line
