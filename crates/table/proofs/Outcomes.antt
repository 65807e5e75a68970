-- What comes of a row, one law for each outcome; and what a row that has room stays below. Assumes nothing.
use mathlib.Core.Path.{◌≡◌, sym, subst}
use Rattle.grid.specs.declared.nodes.Slots.{Slots}
use mathlib.Core.Bool.{Bool, true, false, ◌&&◌}
use Prim.Native.Nat.{ℕ, ◌<◌}
use lib.Dec.{T, ltb}
use mir.Facts.{and_yes, ltb_yes}
use Rattle.row.specs.declared.reading.Entry.{Entry}
use Rattle.table.specs.Cells.{node_at, place_of, mirror}
use Rattle.table.specs.Placing.{fits, tick₁, tick₂, heading₁, heading₂, node₁, node₂, here, there, value_of, Table, clashes, written, placed}

-- ---- outcomes

module _ (kind : ℕ) (e : Entry) (t : Table) where
  pub placed-no-room : fits t.slots e ≡ false → placed kind e t ≡ record { number = 8; table = t }
  unfolding placed
  placed-no-room full = rw full

  module _ (room : fits t.slots e ≡ true) where
    pub placed-clash-here :
        clashes t (here t.slots e) (value_of e) ≡ true → placed kind e t ≡ record { number = 9; table = t }
    unfolding placed
    placed-clash-here one = rw (room, one)

    module _ (free : clashes t (here t.slots e) (value_of e) ≡ false) where
      pub placed-clash-there :
          clashes t (there t.slots e) (mirror kind (value_of e)) ≡ true
          → placed kind e t ≡ record { number = 9; table = t }
      unfolding placed
      placed-clash-there two = rw (room, free, two)

      pub placed-written :
          clashes t (there t.slots e) (mirror kind (value_of e)) ≡ false
          → placed kind e t ≡ record { number = 0; table = written kind e t }
      unfolding placed
      placed-written two = rw (room, free, two)

-- ---- what was taken is the rule's: a, b, c and d are what the code has for the four slots

abbrev pub room : ℕ → ℕ → ℕ → ℕ → Bool
room a b c d = ltb a 20 && (ltb b 20 && (ltb c 4 && ltb d 4))

module _ (s : Slots) (e : Entry) {a b c d : ℕ} (first-tick : a ≡ tick₁ s e) (second-tick : b ≡ tick₂ s e) (first-heading : c ≡ heading₁ s e) (second-heading : d ≡ heading₂ s e) where
  pub fits-is : fits s e ≡ room a b c d
  unfolding fits
  fits-is i = room (sym first-tick i) (sym second-tick i) (sym first-heading i) (sym second-heading i)

  pub here-is : place_of (node_at c a) (node_at d b) ≡ here s e
  unfolding here node₁ node₂
  here-is i = place_of (node_at (first-heading i) (first-tick i)) (node_at (second-heading i) (second-tick i))

  pub there-is : place_of (node_at d b) (node_at c a) ≡ there s e
  unfolding there node₁ node₂
  there-is i = place_of (node_at (second-heading i) (second-tick i)) (node_at (first-heading i) (first-tick i))

-- there is a slot for each
pub record Room (tick1 tick2 heading1 heading2 : ℕ) : Type 0 where
  pub first-tick : tick1 < 20
  pub second-tick : tick2 < 20
  pub first-heading : heading1 < 4
  pub second-heading : heading2 < 4

pub has_room :
    {a b c d : ℕ} → (ltb a 20 && (ltb b 20 && (ltb c 4 && ltb d 4))) ≡ true → Room a b c d
has_room {a} {b} {c} {d} e =
    let all = and_yes (ltb a 20) (ltb b 20 && (ltb c 4 && ltb d 4)) (subst T (sym e) tt) in
    let rest = and_yes (ltb b 20) (ltb c 4 && ltb d 4) all.1 in
    let headings = and_yes (ltb c 4) (ltb d 4) rest.1 in
    record {
      first-tick = ltb_yes all.0;
      second-tick = ltb_yes rest.0;
      first-heading = ltb_yes headings.0;
      second-heading = ltb_yes headings.1;
    }
