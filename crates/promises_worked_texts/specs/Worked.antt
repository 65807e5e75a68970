-- Worked texts (document 01, "Checked by hand", and document 02, M-101 and M-102): the rules of Accepted decide them, each in its own way. A difference table, component 1, single
-- coverage where nothing else is said.
use Rattle.std.specs.Prelude.{[], ◌∷◌, ◌≡◌, ℕ, ℤ, pos, replicate}
use Prim.Native.String.{String}
use Rattle.field.specs.Text.{bytes}
use Rattle.row.specs.declared.reading.Choices.{Choices}
use Rattle.grid.specs.declared.nodes.Node.{Node}
use Rattle.reader.specs.declared.reader.Place.TheVariants as Place
use Rattle.reader.specs.declared.reader.Answer.TheVariants as Answer
use Rattle.promises_calls.specs.Lines.{text_lines, ended_lines, unfinished}
use Rattle.promises_worked.specs.Starred.{example_h}
use Rattle.promises_texts.specs.Accepted.{Verdict, PieceVerdict}
use Rattle.promises_one_direction.specs.OneDirection.{choices_full}

abbrev pub choices_h : Choices
choices_h = record { kind = 0; component = 1; coverage = 0 }

abbrev pub node_with : ℕ → ℤ → Node
node_with tick heading = record { tick = tick; heading = heading }

abbrev pub at : ℕ → Node
at tick = node_with tick (pos 0)

-- example H with a fourth row, 8 s then 10 s
unfoldable pub fourth_agrees : String
fourth_agrees = "10 10 0 0 1 0.02 0 -0.02 0\n8 8 0 0 1 0.036 0 -0.036 0\n10 8 0 0 1 0.030265 0 -0.03 0.004\n8 10 0 0 1 0.030265 0 -0.03 -0.004"

unfoldable pub fourth_differs : String
fourth_differs = "10 10 0 0 1 0.02 0 -0.02 0\n8 8 0 0 1 0.036 0 -0.036 0\n10 8 0 0 1 0.030265 0 -0.03 0.004\n8 10 0 0 1 0.030265 0 -0.03 +0.004"

-- a title, a blank line, a row of another component and one with two headings bring nothing, and neither row is asked whether its MOD fits
unfoldable pub passed_over_text : String
passed_over_text = "WAMIT\n\n10 8 0 0 2 0 0 5000 0\n10 8 0 45 1 0 0 1 0\n10 10 0 0 1 0.02 0 -0.02 0\n"

-- a frequency with no row for its pairs
unfoldable pub pair_missing : String
pair_missing = "10 10 0 0 1 0.02 0 -0.02 0\n10 8 0 0 1 0.030265 0 -0.03 0.004\n"

-- example H up to PHS, with RE and IM of another run: its first row is the same, and the second is not
unfoldable pub pasted : String
pasted = "10 10 0 0 1 0.02 180 -0.02 0\n8 8 0 0 1 0.036 180 -0.037 0\n10 8 0 0 1 0.0302655 172.405 -0.031 0.005\n"

-- ---- 180 degrees written with both signs (M-102)

-- Full coverage, one frequency, headings of 90 and 180 degrees, every needed pair. Taken for two, -180 and 180 made three headings, and the text was refused 11 for this alone
unfoldable pub both_signs : String
both_signs = "10 10 90 90 1 0.02 0 -0.02 0\n10 10 90 180 1 0.01005 0 -0.01 0.001\n10 10 -180 -180 1 0.03 0 -0.03 0\n"

-- single coverage, two frequencies: the third row has one heading, and is not passed over
unfoldable pub both_signs_single : String
both_signs_single = "10 10 180 180 1 0.02 0 -0.02 0\n8 8 -180 -180 1 0.036 0 -0.036 0\n10 8 -180 180 1 0.030265 0 -0.03 0.004\n"

-- two rows that say different things of one heading, directly, and by the mirror in full coverage
unfoldable pub different_things : String
different_things = "10 10 180 180 1 0.02 0 -0.02 0\n10 10 -180 -180 1 0.03 0 -0.03 0\n"

unfoldable pub different_mirrors : String
different_mirrors = "10 8 180 90 1 0.030265 0 -0.03 0.004\n8 10 90 -180 1 0.030265 0 -0.03 0.004\n"

-- equal nodes, with an imaginary part
unfoldable pub equal_nodes : String
equal_nodes = "10 10 180 -180 1 1 0 0 1\n"

-- a pair is missing in full coverage, and its place has 180,000
unfoldable pub missing_at180 : String
missing_at180 = "10 10 -180 -180 1 0.02 0 -0.02 0\n10 10 90 90 1 0.02 0 -0.02 0\n"

pub record WorkedTexts : Type 0 where
  pub example : Verdict choices_h (bytes example_h) (Answer.Accepted 2 1)
  pub fourth-agrees : Verdict choices_h (bytes fourth_agrees) (Answer.Accepted 2 1)
  pub fourth-differs : Verdict choices_h (bytes fourth_differs) (Answer.Refused 9 (Place.Line 4))
  pub passed_over : Verdict choices_h (bytes passed_over_text) (Answer.Accepted 1 1)
  pub pair-missing : Verdict choices_h (bytes pair_missing) (Answer.Refused 11 (Place.Pair record { first = at 1_250; second = at 1_250 }))
  pub two_runs : Verdict choices_h (bytes pasted) (Answer.Refused 17 (Place.Line 2))
  pub no_text : Verdict choices_h [] (Answer.Refused 10 Place.Nowhere)
  pub few-fields : Verdict choices_h (bytes "1 2 3") (Answer.Refused 4 (Place.Line 1))
  pub stars : Verdict choices_h (bytes "\n10 10 0 0 1 0 0 ***** 0\n") (Answer.Refused 5 (Place.Line 2))
  -- "160 bytes pass, 161 are 3"
  pub long-line : Verdict choices_h (replicate 160 32) (Answer.Refused 10 Place.Nowhere)
  pub longer-line : Verdict choices_h (replicate 161 32) (Answer.Refused 3 (Place.Line 1))
  pub both-signs : Verdict choices_full (bytes both_signs) (Answer.Accepted 1 2)
  pub both-signs-single : Verdict choices_h (bytes both_signs_single) (Answer.Accepted 2 1)
  pub different-things : Verdict choices_h (bytes different_things) (Answer.Refused 9 (Place.Line 2))
  pub different-mirrors : Verdict choices_full (bytes different_mirrors) (Answer.Refused 9 (Place.Line 2))
  pub equal-nodes : Verdict choices_h (bytes equal_nodes) (Answer.Refused 7 (Place.Line 1))
  pub missing-at-180 :
      Verdict choices_full (bytes missing_at180) (Answer.Refused 11 (Place.Pair record { first = node_with 1_000 (pos 90_000); second = node_with 1_000 (pos 180_000) }))
  -- and before closing the fourth row is not judged, since no line feed ends it
  pub not_yet : PieceVerdict choices_h (bytes fourth_differs) Answer.Going

-- the lines of a text: no line follows a final line feed, and an empty line has its own
pub record WorkedLines : Type 0 where
  pub none : text_lines [] ≡ []
  pub one-feed : text_lines (bytes "\n") ≡ [] ∷ []
  pub two : text_lines (bytes "a\nb") ≡ bytes "a" ∷ bytes "b" ∷ []
  pub two-ended : text_lines (bytes "a\nb\n") ≡ bytes "a" ∷ bytes "b" ∷ []
  pub ended : ended_lines (bytes "a\nb") ≡ bytes "a" ∷ []
  pub left : unfinished (bytes "a\nb") ≡ bytes "b" ∷ []
