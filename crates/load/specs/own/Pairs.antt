-- What the crate's own functions say of two waves with each other both ways, and of one with itself, once.
use Rattle.std.specs.Prelude.{Bool, true, false, cond, ◌||◌, List, ◌≡◌, ℕ, ◌≤◌, ℤ, nat_abs, Option, Some, None}
use Rattle.whole.specs.Complex.{Complex, ◌+ᶜ◌}
use Rattle.phase.specs.Turn.{Quarter}
use Rattle.table.specs.declared.entries.Parts.{Parts}
use Rattle.table.specs.Entries.{complex_of}
use Rattle.load.specs.Corners.{any_bad}
use Rattle.load.specs.Force.{term_of}
use Rattle.load.specs.own.Brackets.{bracket_corners, bracket_coefficient}
use Rattle.load.specs.own.Terms.{second_of}
use Rattle.load.specs.own.Waves.{amplitude_of}
use Rattle.load.specs.declared.locating.Bracket.{Bracket}
use Rattle.load.specs.declared.waves.Wave.{Wave}

-- a corner of the one way, or of the way back, is bad
unfoldable pub pair_bad : List ℤ → Bool → Bracket → Bracket → Bool
pair_bad cells once p q =
    let on = any_bad (bracket_corners cells p q) in
    cond once on (on || any_bad (bracket_corners cells q p))

-- the coefficient, with that of the way back: a difference table conjugates it
unfoldable pub pair_coefficient : ℕ → List ℤ → Bool → Bracket → Bracket → Complex
pair_coefficient kind cells once p q =
    let on = bracket_coefficient cells p q in
    cond once on (on +ᶜ second_of kind (bracket_coefficient cells q p))

-- and the term that they make
unfoldable pub pair_term : Quarter → ℕ → List ℤ → ℕ → Bool → Wave → Wave → ℤ
pair_term clock kind cells t once m n =
    term_of clock kind t (amplitude_of m) (amplitude_of n) m.tick n.tick (pair_coefficient kind cells once m.bracket n.bracket)

-- 15, or a coefficient whose parts are at most so large
abbrev pub CoefficientWorked : Bool → Complex → ℕ → Option Parts → Type 0
CoefficientWorked bad value most None = bad ≡ true
CoefficientWorked bad value most (Some q) = (bad ≡ false) × (complex_of q ≡ value) × (nat_abs q.re ≤ most) × (nat_abs q.im ≤ most)
