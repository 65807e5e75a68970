-- The program's words: KIND COMPONENT COVERAGE NUMBER PLACE.., the refusal with its place as `listing` prints it behind `refused`.
use Rattle.std.specs.Prelude.{cond, List, [], ◌∷◌, ℕ, ℤ, eqb, Option, Some, None}
use Prim.Native.String.{String}
use Rattle.script.specs.declared.numbers.Numbers.{Numbers}
use Rattle.script.specs.Line.{named}
use Rattle.script.specs.Place.{number_at, natural_of, word_of, byte_of, signed_of}
use Rattle.reader.specs.declared.reader.Place.TheVariants as Place
use Rattle.reasons.specs.declared.explanation.Stated.{Stated}
use Rattle.explainer.specs.declared.words.Question.{Question}

-- ---- the choices, as opening takes them

abbrev pub kinds : List (String × Option ℕ)
kinds = ("difference", Some 0) ∷ ("sum", Some 1) ∷ []

abbrev pub components : List (String × Option ℕ)
components = ("1", Some 1) ∷ ("2", Some 2) ∷ ("3", Some 3) ∷ ("4", Some 4) ∷ ("5", Some 5) ∷ ("6", Some 6) ∷ []

abbrev pub coverages : List (String × Option ℕ)
coverages = ("single", Some 0) ∷ ("full", Some 1) ∷ []

unfoldable pub kind_of : List ℕ → Option ℕ
kind_of w = named w kinds None

unfoldable pub component_of : List ℕ → Option ℕ
component_of w = named w components None

unfoldable pub coverage_of : List ℕ → Option ℕ
coverage_of w = named w coverages None

-- ---- the refusal

-- a place of one number: the line, or 0 for none
unfoldable pub line_claim : ℕ → Option ℕ → Option Stated
line_claim number None = None
line_claim number (Some line) =
    cond (eqb line 0) (Some record { number = number; place = Place.Nowhere }) (Some record { number = number; place = Place.Line line })

-- a place of four: tick, heading, tick, heading
unfoldable pub pair_claim : ℕ → Option ℕ → Option ℤ → Option ℕ → Option ℤ → Option Stated
pair_claim number (Some tick1) (Some heading1) (Some tick2) (Some heading2) =
    Some record {
      number = number;
      place = Place.Pair record { first = record { tick = tick1; heading = heading1 }; second = record { tick = tick2; heading = heading2 } };
    }
pair_claim number None h1 t2 h2 = None
pair_claim number (Some tick1) None t2 h2 = None
pair_claim number (Some tick1) (Some heading1) None h2 = None
pair_claim number (Some tick1) (Some heading1) (Some tick2) None = None

-- the number, and behind it four numbers for 11, and one for any other
unfoldable pub claim_of : Option ℕ → Numbers → Option Stated
claim_of None n = None
claim_of (Some number) n =
    cond (eqb number 11)
    (cond (eqb n.count 5)
    (pair_claim number (word_of (natural_of (number_at n 1))) (signed_of (number_at n 2)) (word_of (natural_of (number_at n 3))) (signed_of (number_at n 4)))
    None)
    (cond (eqb n.count 2) (line_claim number (word_of (natural_of (number_at n 1)))) None)

unfoldable pub stated_of : Numbers → Option Stated
stated_of n = claim_of (byte_of (natural_of (number_at n 0))) n

-- ---- all of it

unfoldable pub asked_of : Option ℕ → Option ℕ → Option ℕ → Option Stated → Option Question
asked_of (Some kind) (Some component) (Some coverage) (Some stated) =
    Some record { choices = record { kind = kind; component = component; coverage = coverage }; stated = stated }
asked_of None component coverage stated = None
asked_of (Some kind) None coverage stated = None
asked_of (Some kind) (Some component) None stated = None
asked_of (Some kind) (Some component) (Some coverage) None = None
