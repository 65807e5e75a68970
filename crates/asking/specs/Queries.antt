-- What the queries answer: a coefficient, the force of a sea, and what the display shows of it. A command with other numbers is none.
use Rattle.std.specs.Prelude.{cond, List, ℕ, eqb, ℤ, Option, Some, None}
use Rattle.std.specs.Float.{binary64}
use Rattle.std.specs.Float.Ieee.{of_bits, to_bits}
use Rattle.script.specs.declared.numbers.Numbers.{Numbers}
use Rattle.script.specs.Place.{number_at, natural_of, word_of, signed_of}
use Rattle.reader.specs.declared.record.Record.{Record}
use Rattle.reader.specs.declared.reader.Answer.TheVariants as Answer
use Rattle.reader.specs.declared.reader.Place.TheVariants as Place
use Rattle.seaway.specs.declared.sea.Sea.{Sea}
use Rattle.load.specs.Answers.{Coefficient}
use Rattle.load.specs.Answers.{Force}
use Rattle.readout.specs.Told.{Display}
use Rattle.load.specs.Coefficient.{coefficient_of}
use Rattle.load.specs.Force.{force_of}
use Rattle.readout.specs.Display.{display_of}
use Rattle.replies.specs.declared.reply.Reply.{Reply}
use Rattle.grid.specs.declared.nodes.Node.{Node}

-- a command with no numbers
unfoldable pub bare_as : Numbers → Reply → Reply
bare_as n reply = cond (eqb n.count 0) reply Reply.Unknown

-- a refused query: its place is a line of the question or of the sea, and line 0 is none
unfoldable pub refused_as : ℕ → ℕ → Reply
refused_as number line = Reply.Answered (Answer.Refused number (Place.Line line))

-- ---- `coefficient TICK HEADING TICK HEADING`

unfoldable pub point_of : Option ℕ → Option ℤ → Option Node
point_of (Some tick) (Some heading) = Some record { tick = tick; heading = heading }
point_of None heading = None
point_of (Some tick) None = None

unfoldable pub coefficient_as : Coefficient → Reply
coefficient_as (Coefficient.Value re im) = Reply.Coefficient re im
coefficient_as (Coefficient.Refused number line) = refused_as number line

unfoldable pub between_as : Record → Option Node → Option Node → List ℤ → Reply
between_as r (Some a) (Some b) cells = coefficient_as (coefficient_of r cells a b)
between_as r None b cells = Reply.Unknown
between_as r (Some a) None cells = Reply.Unknown

unfoldable pub coefficient_asked : Record → Numbers → List ℤ → Reply
coefficient_asked r n cells =
    cond (eqb n.count 4)
    (between_as r (point_of (word_of (natural_of (number_at n 0))) (signed_of (number_at n 1))) (point_of (word_of (natural_of (number_at n 2))) (signed_of (number_at n 3))) cells)
    Reply.Unknown

-- ---- `force T`, at whole seconds

unfoldable pub force_as : Force → Reply
force_as (Force.Value force) = Reply.Force force
force_as (Force.Refused number line) = refused_as number line

unfoldable pub force_asked : Record → Sea → Option ℕ → List ℤ → Reply
force_asked r sea None cells = Reply.Unknown
force_asked r sea (Some t) cells = force_as (force_of r cells sea t)

-- ---- `display T SCALE`: doubles go by their 64 bits

unfoldable pub display_as : Display → Reply
display_as (Display.Force x) = Reply.ShownForce (to_bits binary64 x.mean) (to_bits binary64 x.whole)
display_as (Display.Moment x) = Reply.ShownMoment (to_bits binary64 x.mean) (to_bits binary64 x.whole)
display_as (Display.Refused number line) = refused_as number line

unfoldable pub display_asked : Record → Sea → Option ℕ → Option ℕ → List ℤ → Reply
display_asked r sea None bits cells = Reply.Unknown
display_asked r sea (Some t) None cells = Reply.Unknown
display_asked r sea (Some t) (Some bits) cells = display_as (display_of r cells sea t (of_bits binary64 bits))
