-- A command line: the first word names the command and the others are numbers; of `forge` the second word names a part of the record.
use Rattle.std.specs.Prelude.{cond, List, [], ◌∷◌, ℕ}
use Prim.Native.String.{String}
use Rattle.field.specs.Text.{bytes}
use Rattle.script.specs.declared.words.Verb.{Verb}
use Rattle.script.specs.declared.words.Part.{Part}
use Rattle.script.specs.declared.words.Command.{Command}
use Rattle.std.specs.Str.{bytes_eq}
use Rattle.script.specs.Line.{words_of, named}
use Rattle.script.specs.Number.{numbers_of}

-- ---- the names

-- the sea, and what is asked of it and of a table
abbrev pub queries : List (String × Verb)
queries =
    ("coefficient", Verb.Coefficient) ∷ ("sea", Verb.Sea) ∷ ("force", Verb.Force) ∷ ("display", Verb.Display) ∷ []

-- the bench's own record, cells and flags, and the places where they are kept
abbrev pub memory : List (String × Verb)
memory =
    ("keep", Verb.Keep)
    ∷ ("cell", Verb.Cell)
    ∷ ("poke", Verb.Poke)
    ∷ ("spill", Verb.Spill)
    ∷ ("forge", Verb.Forge)
    ∷ ("record", Verb.Record)
    ∷ ("sum", Verb.Sum)
    ∷ []

-- what is lent, and a table's calls and texts
abbrev pub calls : List (String × Verb)
calls =
    ("lend", Verb.Lend)
    ∷ ("open", Verb.Open)
    ∷ ("piece", Verb.Piece)
    ∷ ("close", Verb.Close)
    ∷ ("listing", Verb.Listing)
    ∷ ("proteus", Verb.Proteus)
    ∷ ("explain", Verb.Explain)
    ∷ []

-- a part that is one number of the record, and a part that is one of many or says how many there are
abbrev pub choices : List (String × Part)
choices =
    ("stage", Part.Stage) ∷ ("kind", Part.Kind) ∷ ("component", Part.Component) ∷ ("coverage", Part.Coverage) ∷ []

abbrev pub slots : List (String × Part)
slots =
    ("lines", Part.Lines)
    ∷ ("headings", Part.Headings)
    ∷ ("kept", Part.Kept)
    ∷ ("tick", Part.Tick)
    ∷ ("heading", Part.Heading)
    ∷ ("byte", Part.Byte)
    ∷ []

-- ---- what a word names

unfoldable pub query_of : List ℕ → Verb
query_of w = named w queries Verb.Unknown

unfoldable pub memory_of : List ℕ → Verb
memory_of w = named w memory (query_of w)

unfoldable pub verb_of : List ℕ → Verb
verb_of w = named w calls (memory_of w)

unfoldable pub slot_of : List ℕ → Part
slot_of w = named w slots Part.Unknown

unfoldable pub part_of : List ℕ → Part
part_of w = named w choices (slot_of w)

-- ---- the command

-- of a verb and numbers
unfoldable pub plain_of : List (List ℕ) → Command
plain_of [] = record { verb = Verb.Unknown; part = Part.Unknown; numbers = numbers_of [] }
plain_of (w ∷ ws) = record { verb = verb_of w; part = Part.Unknown; numbers = numbers_of ws }

-- what stands behind `forge`: a part, and numbers
unfoldable pub forge_of : List (List ℕ) → Command
forge_of [] = record { verb = Verb.Forge; part = Part.Unknown; numbers = numbers_of [] }
forge_of (w ∷ ws) = record { verb = Verb.Forge; part = part_of w; numbers = numbers_of ws }

unfoldable pub of_words : List (List ℕ) → Command
of_words [] = plain_of []
of_words (w ∷ []) = plain_of (w ∷ [])
of_words (w ∷ v ∷ ws) = cond (bytes_eq w (bytes "forge")) (forge_of (v ∷ ws)) (plain_of (w ∷ v ∷ ws))

unfoldable pub command_of : List ℕ → Command
command_of line = of_words (words_of line)
