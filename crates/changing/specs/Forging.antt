-- `forge PART ..`: a part of the record set to a number, as no call would. A command with other numbers is none, and leaves the record as it is.
use Rattle.std.specs.Prelude.{cond, List, ℕ, leb, ℤ, set, Option, Some, None}
use Rattle.script.specs.declared.numbers.Numbers.{Numbers}
use Rattle.script.specs.declared.words.Part.{Part}
use Rattle.script.specs.Place.{number_at, natural_of, word_of, byte_of, signed_of, first_among, only_byte_of}
use Rattle.row.specs.declared.reading.Choices.{Choices}
use Rattle.grid.specs.declared.nodes.Slots.{Slots}
use Rattle.reader.specs.declared.record.Marks.{Marks}
use Rattle.reader.specs.declared.record.Record.{Record}

-- the record, where the command was one
abbrev pub forged : Record → Option Record
forged r = Some r

-- where it was none, the bench's record stays
abbrev pub unforged : Option Record
unforged = None

-- ---- the record with one of its parts set

abbrev pub with_marks : Record → Marks → Record
with_marks r m = record { marks = m; pair = r.pair; choices = r.choices; slots = r.slots; kept = r.kept }

abbrev pub with_choices : Record → Choices → Record
with_choices r c = record { marks = r.marks; pair = r.pair; choices = c; slots = r.slots; kept = r.kept }

abbrev pub with_slots : Record → Slots → Record
with_slots r s = record { marks = r.marks; pair = r.pair; choices = r.choices; slots = s; kept = r.kept }

abbrev pub with_kept : Record → List ℕ → Record
with_kept r bytes = record { marks = r.marks; pair = r.pair; choices = r.choices; slots = r.slots; kept = bytes }

abbrev pub stage_set : Marks → ℕ → Marks
stage_set m v = record { stage = v; line = m.line; lines = m.lines; count = m.count }

abbrev pub lines_set : Marks → ℕ → Marks
lines_set m v = record { stage = m.stage; line = m.line; lines = v; count = m.count }

abbrev pub count_set : Marks → ℕ → Marks
count_set m v = record { stage = m.stage; line = m.line; lines = m.lines; count = v }

abbrev pub kind_set : Choices → ℕ → Choices
kind_set c v = record { kind = v; component = c.component; coverage = c.coverage }

abbrev pub component_set : Choices → ℕ → Choices
component_set c v = record { kind = c.kind; component = v; coverage = c.coverage }

abbrev pub coverage_set : Choices → ℕ → Choices
coverage_set c v = record { kind = c.kind; component = c.component; coverage = v }

abbrev pub held_set : Slots → ℕ → Slots
held_set s v = record { ticks = s.ticks; headings = s.headings; held = v }

abbrev pub tick_set : Slots → ℕ → ℕ → Slots
tick_set s i v = record { ticks = set s.ticks i v; headings = s.headings; held = s.held }

abbrev pub heading_set : Slots → ℕ → ℤ → Slots
heading_set s i v = record { ticks = s.ticks; headings = set s.headings i v; held = s.held }

-- ---- by the numbers of the command

unfoldable pub stage_as : Record → Option ℕ → Option Record
stage_as r (Some v) = forged (with_marks r (stage_set r.marks v))
stage_as r None = unforged

unfoldable pub choice_as : Record → (Choices → ℕ → Choices) → Option ℕ → Option Record
choice_as r chosen (Some v) = forged (with_choices r (chosen r.choices v))
choice_as r chosen None = unforged

-- 32 bits
unfoldable pub lines_as : Record → Option ℕ → Option Record
lines_as r (Some v) = cond (leb v 4_294_967_295) (forged (with_marks r (lines_set r.marks v))) (unforged)
lines_as r None = unforged

-- how many headings are held, and how many bytes are kept
unfoldable pub headings_as : Record → Option ℕ → Option Record
headings_as r (Some v) = forged (with_slots r (held_set r.slots v))
headings_as r None = unforged

unfoldable pub kept_as : Record → Option ℕ → Option Record
kept_as r (Some v) = forged (with_marks r (count_set r.marks v))
kept_as r None = unforged

-- one of the 20 ticks, of the 4 headings and of the 160 bytes, from 0 on
unfoldable pub tick_as : Record → Option ℕ → Option ℕ → Option Record
tick_as r (Some i) (Some v) = cond (leb i 19) (forged (with_slots r (tick_set r.slots i v))) (unforged)
tick_as r None v = unforged
tick_as r (Some i) None = unforged

unfoldable pub heading_as : Record → Option ℕ → Option ℤ → Option Record
heading_as r (Some i) (Some v) = cond (leb i 3) (forged (with_slots r (heading_set r.slots i v))) (unforged)
heading_as r None v = unforged
heading_as r (Some i) None = unforged

unfoldable pub byte_as : Record → Option ℕ → Option ℕ → Option Record
byte_as r (Some i) (Some v) = cond (leb i 159) (forged (with_kept r (set r.kept i v))) (unforged)
byte_as r None v = unforged
byte_as r (Some i) None = unforged

unfoldable pub forge_as : Record → Part → Numbers → Option Record
forge_as r Part.Stage n = stage_as r (only_byte_of n)
forge_as r Part.Kind n = choice_as r kind_set (only_byte_of n)
forge_as r Part.Component n = choice_as r component_set (only_byte_of n)
forge_as r Part.Coverage n = choice_as r coverage_set (only_byte_of n)
forge_as r Part.Lines n = lines_as r (first_among 1 n)
forge_as r Part.Headings n = headings_as r (first_among 1 n)
forge_as r Part.Kept n = kept_as r (first_among 1 n)
forge_as r Part.Tick n = tick_as r (first_among 2 n) (word_of (natural_of (number_at n 1)))
forge_as r Part.Heading n = heading_as r (first_among 2 n) (signed_of (number_at n 1))
forge_as r Part.Byte n = byte_as r (first_among 2 n) (byte_of (natural_of (number_at n 1)))
forge_as r Part.Unknown n = unforged
