-- A refusal as a line: "refused 7 3107" for the refusal 7 in line 3107, "refused 2 0" for one that has no place, and "refused 11 1000 180000 1200 -90000" for
-- one of a pair, with tick and heading of its first node and then of its second.
use Rattle.std.specs.Prelude.{List, [], ◌∷◌, ℕ}
use Rattle.field.specs.Text.{bytes}
use Rattle.text.specs.Decimal.{natural}
use Rattle.text.specs.Spaced.{spaced}
use Rattle.reader.specs.declared.reader.Place.{Place}
use Rattle.lines.specs.Listing.{pair_words}

unfoldable pub place_words : Place → List (List ℕ)
place_words Place.Nowhere = natural 0 ∷ []
place_words (Place.Line n) = natural n ∷ []
place_words (Place.Pair p) = pair_words p

unfoldable pub refusal_text : ℕ → Place → List ℕ
refusal_text number place = spaced (bytes "refused" ∷ natural number ∷ place_words place)
