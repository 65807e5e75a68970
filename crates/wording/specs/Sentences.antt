-- What stands behind a refusal, in a mate's words: a sentence for each kind of explanation, and for refusal 8 one more for each slot that is held.
use Rattle.std.specs.Prelude.{cond, List, [], ◌∷◌, ◌++◌, ℕ, ◌-◌, eqb, ltb, ℤ, pos, get_or}
use Rattle.field.specs.Text.{bytes}
use Rattle.row.specs.declared.reading.Entry.{Entry}
use Rattle.grid.specs.declared.nodes.Pair.{Pair}
use Rattle.grid.specs.declared.nodes.Slots.{Slots}
use Rattle.origins.specs.declared.memory.Origins.{Origins}
use Rattle.reasons.specs.declared.explanation.Clash.{Clash}
use Rattle.reasons.specs.declared.explanation.Bringers.{Bringers}
use Rattle.template.specs.Filling.{filled}

-- ---- 5 and 6: "line 3: field 8, RE, has the wrong form", "line 3: field 6, MOD, is out of range"

-- the nine columns, counted from 1
unfoldable pub column_name : ℕ → List ℕ
column_name field =
    cond (eqb field 1)
    (bytes "PER1")
    (cond (eqb field 2)
    (bytes "PER2")
    (cond (eqb field 3)
    (bytes "BETA1")
    (cond (eqb field 4)
    (bytes "BETA2")
    (cond (eqb field 5)
    (bytes "I")
    (cond (eqb field 6) (bytes "MOD") (cond (eqb field 7) (bytes "PHS") (cond (eqb field 8) (bytes "RE") (cond (eqb field 9) (bytes "IM") []))))))))

unfoldable pub broken_rule : ℕ → List ℕ
broken_rule number = cond (eqb number 5) (bytes ", has the wrong form") (bytes ", is out of range")

unfoldable pub field_text : ℕ → ℕ → ℕ → List ℕ
field_text line number field =
    filled (bytes "line #: field #, ") (pos line ∷ pos field ∷ []) ++ column_name field ++ broken_rule number

-- ---- 8: "line 22 says 4000 0 4000 0, and there is no slot left for it", and then "line 1 brought frequency 1000", .., "line 1 brought heading 0"

unfoldable pub full_text : ℕ → Entry → List ℕ
full_text line e =
    filled (bytes "line # says # @ # @, and there is no slot left for it")
    (pos line ∷ pos e.tick1 ∷ e.heading1 ∷ pos e.tick2 ∷ e.heading2 ∷ [])

-- there is no line for a slot that no line brought
unfoldable pub tick_text : ℕ → ℕ → List ℕ
tick_text line tick = cond (eqb line 0) [] (filled (bytes "line # brought frequency #") (pos line ∷ pos tick ∷ []))

unfoldable pub heading_text : ℕ → ℤ → List ℕ
heading_text line heading = cond (eqb line 0) [] (filled (bytes "line # brought heading @") (pos line ∷ heading ∷ []))

-- the line of the k-th slot: the frequencies are 0 to 19, and the headings 20 to 23
unfoldable pub slot_text : Slots → Origins → ℕ → List ℕ
slot_text s o k =
    cond (ltb k 20)
    (tick_text (get_or o.ticks k 0) (get_or s.ticks k 0))
    (cond (ltb k 24) (heading_text (get_or o.headings (k - 20) 0) (get_or s.headings (k - 20) (pos 0))) [])

-- ---- 9: "line 4 says -0.030000 0.004000 of 1250 0 1000 0; line 3 set it to -0.030000 -0.004000"

unfoldable pub clash_text : ℕ → Entry → Clash → List ℕ
clash_text line e c =
    filled (bytes "line # says % % of # @ # @; line # set it to % %")
    (pos line
    ∷ c.said.re
    ∷ c.said.im
    ∷ pos e.tick1
    ∷ e.heading1
    ∷ pos e.tick2
    ∷ e.heading2
    ∷ pos c.line
    ∷ c.held.re
    ∷ c.held.im
    ∷ [])

-- ---- 11: "no row says 1000 0 1250 0: line 1 brought frequency 1000 and line 1 heading 0; line 2 brought frequency 1250 and line 1 heading 0"

unfoldable pub missing_text : Pair → Bringers → List ℕ
missing_text p b =
    filled (bytes "no row says # @ # @: line # brought frequency # and line # heading @; line # brought frequency # and line # heading @")
    (pos p.first.tick
    ∷ p.first.heading
    ∷ pos p.second.tick
    ∷ p.second.heading
    ∷ pos b.tick1
    ∷ pos p.first.tick
    ∷ pos b.heading1
    ∷ p.first.heading
    ∷ pos b.tick2
    ∷ pos p.second.tick
    ∷ pos b.heading2
    ∷ p.second.heading
    ∷ [])
