-- What `explain` is asked: ten numbers, WAY KIND COMPONENT COVERAGE NUMBER P1 P2 P3 P4 N.
use Rattle.std.specs.Prelude.{Bool, cond, ◌&&◌, ℕ, eqb, ℤ, pos, Option, Some, None}
use Rattle.whole.specs.Same.{same_ℤ}
use Rattle.script.specs.declared.numbers.Numbers.{Numbers}
use Rattle.script.specs.Place.{number_at, natural_of, word_of, byte_of, signed_of, first_among}
use Rattle.grid.specs.declared.nodes.Pair.{Pair}
use Rattle.reader.specs.declared.reader.Place.TheVariants as Place
use Rattle.reasons.specs.declared.explanation.Stated.{Stated}
use Rattle.row.specs.declared.reading.Choices.{Choices}
use Rattle.asking.specs.declared.question.Question.{Question}

-- KIND, COMPONENT and COVERAGE, 0 to 255 each
unfoldable pub chosen_of : Option ℕ → Option ℕ → Option ℕ → Option Choices
chosen_of (Some kind) (Some component) (Some coverage) =
    Some record { kind = kind; component = component; coverage = coverage }
chosen_of None component coverage = None
chosen_of (Some kind) None coverage = None
chosen_of (Some kind) (Some component) None = None

-- P1 to P4 as a pair
unfoldable pub paired_of : Option ℕ → Option ℤ → Option ℕ → Option ℤ → Option Pair
paired_of (Some p1) (Some p2) (Some p3) (Some p4) =
    Some record { first = record { tick = p1; heading = p2 }; second = record { tick = p3; heading = p4 } }
paired_of None p2 p3 p4 = None
paired_of (Some p1) None p3 p4 = None
paired_of (Some p1) (Some p2) None p4 = None
paired_of (Some p1) (Some p2) (Some p3) None = None

-- "the pair for 11, else the line or 0 in P1 and zeros"
unfoldable pub only_first : Pair → Bool
only_first p = same_ℤ p.first.heading (pos 0) && (eqb p.second.tick 0 && same_ℤ p.second.heading (pos 0))

unfoldable pub stated_as : ℕ → Pair → Option Stated
stated_as number p =
    cond (eqb number 11)
    (Some record { number = number; place = Place.Pair p })
    (cond (only_first p)
    (cond (eqb p.first.tick 0)
    (Some record { number = number; place = Place.Nowhere })
    (Some record { number = number; place = Place.Line p.first.tick }))
    None)

unfoldable pub claim_of : Option ℕ → Option Pair → Option Stated
claim_of (Some number) (Some p) = stated_as number p
claim_of None p = None
claim_of (Some number) None = None

-- WAY is 0, nine columns
unfoldable pub asking : Option ℕ → Option Choices → Option Stated → Option ℕ → Option Question
asking (Some way) (Some choices) (Some stated) (Some bytes) =
    cond (eqb way 0) (Some record { choices = choices; stated = stated; bytes = bytes }) None
asking None choices stated bytes = None
asking (Some way) None stated bytes = None
asking (Some way) (Some choices) None bytes = None
asking (Some way) (Some choices) (Some stated) None = None

unfoldable pub question_of : Numbers → Option Question
question_of n =
    asking (first_among 10 n)
    (chosen_of (byte_of (natural_of (number_at n 1))) (byte_of (natural_of (number_at n 2))) (byte_of (natural_of (number_at n 3))))
    (claim_of (byte_of (natural_of (number_at n 4)))
    (paired_of (word_of (natural_of (number_at n 5))) (signed_of (number_at n 6)) (word_of (natural_of (number_at n 7))) (signed_of (number_at n 8))))
    (natural_of (number_at n 9))
