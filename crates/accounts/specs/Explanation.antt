-- What explains a refusal, as a line without its line feed (document 02, M-103).
use Rattle.std.specs.Prelude.{List, [], ◌∷◌, ◌++◌, map, ℕ}
use Rattle.field.specs.Text.{bytes}
use Rattle.text.specs.Decimal.{natural, signed}
use Rattle.text.specs.Spaced.{spaced}
use Rattle.reader.specs.declared.reader.Place.TheVariants as Place
use Rattle.lines.specs.Refusal.{refusal_text}
use Rattle.origins.specs.declared.memory.Origins.{Origins}
use Rattle.reasons.specs.declared.explanation.Clash.{Clash}
use Rattle.reasons.specs.declared.explanation.Bringers.{Bringers}
use Rattle.reasons.specs.Told.{Explanation}

-- the line that set the cell, the value held and then the value said
unfoldable pub clash_text : Clash → List ℕ
clash_text c =
    spaced
    (bytes "set" ∷ natural c.line ∷ signed c.held.re ∷ signed c.held.im ∷ signed c.said.re ∷ signed c.said.im ∷ [])

-- first tick, first heading, second tick, second heading
unfoldable pub bringers_text : Bringers → List ℕ
bringers_text b =
    spaced (bytes "brought" ∷ natural b.tick1 ∷ natural b.heading1 ∷ natural b.tick2 ∷ natural b.heading2 ∷ [])

-- the lines of the twenty frequency slots, and then of the four heading slots
unfoldable pub origins_text : Origins → List ℕ
origins_text o = spaced (bytes "held" ∷ (map natural o.ticks ++ map natural o.headings))

-- the lines that brought the slots stand beside an explanation
unfoldable pub explanation_text : Origins → Explanation → List ℕ
explanation_text origins Explanation.Nothing = bytes "nothing"
explanation_text origins (Explanation.Field field) = spaced (bytes "field" ∷ natural field ∷ [])
explanation_text origins Explanation.Held = origins_text origins
explanation_text origins (Explanation.Set clash) = clash_text clash
explanation_text origins (Explanation.Brought bringers) = bringers_text bringers
explanation_text origins (Explanation.Refused number) = refusal_text number Place.Nowhere
