-- `locating::locate` meets its contract: each return is one outcome, by the laws of Outcomes, from what was found on the way. Assumes nothing.
use Rattle.std.proofs.Common.{◌≡◌, ℕ, ◌+◌, ◌*◌, ◌^◌, ◌<◌, ◌≤◌, Bool, true, false, not, ◌||◌, eqb, leb, List, ℤ, sym, ap, ◌∙◌, subst, arith, rules, length, get_or, Option, Some, None, Result, Ok, w32, SFits, to_z, of_z, to_z-of_z}
use lib.Signed.{mag}
use Rattle.std.specs.Option.{option_map}
use Rattle.whole.specs.Same.{same_ℤ}
use Rattle.row.specs.Heading.{heading_of}
use Rattle.grid.specs.Slots.{slot_of, held_ticks}
use Rattle.grid.proofs.Checking.{holds, fails}
use Rattle.grid.proofs.Places.{heading-place}
use Rattle.reader.specs.declared.record.Record.{Record}
use Rattle.reader.specs.Valid.{valid_of}
use Rattle.table.specs.Closing.{node_of}
use Rattle.neighbours.specs.Standing.{low_of, high_of, between, apart}
use Rattle.neighbours.specs.Neighbours.{FoundAt}
use Rattle.neighbours.specs.declared.standing.Neighbour.{Neighbour}
use Rattle.neighbours.specs.declared.standing.Neighbours.{Neighbours}
use Rattle.neighbours.specs.declared.standing.Weights.{Weights}
use Rattle.neighbours.proofs.Neighbours.{Nearest, low-is, high_is, low-most, nearest-above}
use Rattle.neighbours.proofs.Weights.{slot-below}
use Rattle.load.specs.Locating.{located}
use Rattle.load.specs.own.Brackets.{bracketed_in, bracket_of, bracketed, ProperBracket, InTable}
use Rattle.load.specs.declared.locating.Bracket.{Bracket}
use Rattle.load.specs.own.Brackets.{Bracketed}
use Rattle.load.specs.declared.refused.Refused.{Refused}
use Rattle.load.proofs.Queries.{valid-held, valid-ticks}
use Rattle.load.proofs.Outcomes.{not_own, own, node-is, none_below, none_above, unsuited, suited, at-proper}
use Rattle.load.proofs.locating.locate.Goals as goal
use Rattle.load.proofs.locating.locate.Goals.{then-r-at-via-then-r-at, then-r-at-via-else-r-at+then-not-goes_with}

-- ---- what was found

found_as : {ticks : List ℕ} {o : Option ℕ} {n : Option Neighbour} (m : Option Neighbour) → FoundAt ticks o n → n ≡ m → o ≡ option_map (λ (x : Neighbour). x.tick) m
found_as m f e = sym f.tick ∙ ap (option_map (λ (x : Neighbour). x.tick)) e

module _ (r : Record) (first : ℤ) (tick : ℕ) (heading : ℤ) (n : Neighbours)
    (low-found : FoundAt r.slots.ticks (low_of leb (held_ticks r.slots.ticks) tick) n.low)
    (high-found : 0 < tick → FoundAt r.slots.ticks (high_of leb (held_ticks r.slots.ticks) tick) n.high)
  where
    abbrev answer : Bracketed
    answer = bracketed r.slots (located r first tick heading)

    nothing_below : n.low ≡ None → Bracketed.Refused 13 ≡ answer
    nothing_below e = sym (none_below r first tick heading (found_as None low-found e))

    module _ (low : Neighbour) (below : n.low ≡ Some low) where
      low-some : low_of leb (held_ticks r.slots.ticks) tick ≡ Some low.tick
      low-some = found_as (Some low) low-found below

      low-nearest : Nearest ◌≤◌ tick (held_ticks r.slots.ticks) (Some low.tick)
      low-nearest = subst (Nearest ◌≤◌ tick (held_ticks r.slots.ticks)) low-some (low-is (held_ticks r.slots.ticks) tick)

      low-above : 0 < low.tick
      low-above = nearest-above r.slots.ticks low-nearest

      high-at : FoundAt r.slots.ticks (high_of leb (held_ticks r.slots.ticks) tick) n.high
      high-at = high-found (omega (arith, low-most low-nearest, low-above))

      nothing_above : n.high ≡ None → Bracketed.Refused 13 ≡ answer
      nothing_above e = sym (none_above r first tick heading low.tick low-some (found_as None high-at e))

      module _ (high : Neighbour) (above : n.high ≡ Some high) where
        high-some : high_of leb (held_ticks r.slots.ticks) tick ≡ Some high.tick
        high-some = found_as (Some high) high-at above

        high-above : 0 < high.tick
        high-above =
            nearest-above r.slots.ticks (subst (Nearest (λ a b. b ≤ a) tick (held_ticks r.slots.ticks)) high-some (high_is (held_ticks r.slots.ticks) tick))

        -- the heading's place
        module _ (valid : valid_of r ≡ true) (twenty : length r.slots.ticks ≡ 20) (four : length r.slots.headings ≡ 4) (at : ℕ) (place : at ≡ slot_of same_ℤ r.slots.headings (heading_of heading)) where
          other_heading : r.slots.held ≤ at → Bracketed.Refused 14 ≡ answer
          other_heading k = sym (unsuited r first tick heading low.tick low-some high.tick high-some (sym (fails _ (not_own r.slots four (valid-held r valid) _ at place k))))

          module _ (k : at < r.slots.held) where
            few : at < 4
            few = omega (arith, k, valid-held r valid)

            abbrev goes : Bool → Type 0
            goes b = (not (eqb r.choices.coverage 0) || same_ℤ (heading_of heading) (heading_of first)) ≡ b

            heading_alone : goes false → Bracketed.Refused 14 ≡ answer
            heading_alone e = sym (unsuited r first tick heading low.tick low-some high.tick high-some (sym (holds (own r.slots four (valid-held r valid) _ at place k) (sym e))))

            -- a neighbour's slot, and the number of its node
            module _ (m : Neighbour) (slot : get_or r.slots.ticks m.slot 0 ≡ m.tick) (some : 0 < m.tick) where
              slot-few : m.slot < 20
              slot-few = omega (arith, slot-below r.slots.ticks m.slot (omega (arith, slot)), twenty)

              node : 20 * at + m.slot ≡ node_of r.slots (record { tick = m.tick; heading = heading_of heading })
              node = node-is r.slots four (valid-held r valid) _ at place k (valid-ticks r valid) m slot some

            low-slot : low.slot < 20
            low-slot = slot-few low (low-found.slot low below) low-above

            high-slot : high.slot < 20
            high-slot = slot-few high (high-at.slot high above) high-above

            -- the bracket, and that it is proper
            module _ (w : Weights) (e : between leb apart tick (Some low.tick) (Some high.tick) ≡ Some (record { low = low.tick; high = high.tick; to_low = w.to_low; to_high = w.to_high; width = w.width })) (g : goes true) where
              abbrev bracket : Bracket
              bracket = record { low = 20 * at + low.slot; high = 20 * at + high.slot; to_low = w.to_low; to_high = w.to_high; width = w.width }

              in_place : Bracketed.At bracket ≡ answer
              unfolding bracket_of
              in_place =
                  let low-node = node low (low-found.slot low below) low-above in
                  let high-node = node high (high-at.slot high above) high-above in
                  (λ i. Bracketed.At (record { low = low-node i; high = high-node i; to_low = w.to_low; to_high = w.to_high; width = w.width }))
                  ∙ sym (suited r first tick heading low.tick low-some high.tick high-some _ e (sym (holds (own r.slots four (valid-held r valid) _ at place k) (sym g))))

              proper : (p : Bracket) → ◌≡◌ {A = Result Bracket Refused} (Ok bracket) (Ok p) → ProperBracket p × InTable p
              proper p e = at-proper r first tick heading valid twenty four (Bracketed.At bracket) in_place p (ap bracketed_in e)

-- a heading in its one form, read back from its bits
read : (x h : ℤ) → SFits w32 x → mag h < 2 ^ 31 → h ≡ heading_of (to_z w32 (of_z w32 x)) → to_z w32 (of_z w32 h) ≡ heading_of x
read x h f g e = to_z-of_z {w = w32} record { sfits = g } ∙ e ∙ ap heading_of (to_z-of_z f)

same-read : (coverage : ℕ) (a b x y : ℤ) → a ≡ x → b ≡ y → (not (eqb coverage 0) || same_ℤ x y) ≡ (not (eqb coverage 0) || same_ℤ a b)
same-read coverage a b x y e f = λ i. not (eqb coverage 0) || same_ℤ (sym e i) (sym f i)

-- ---- the answers

pub returns-in_default-clause-place : goal.returns-in_default-clause-place
returns-in_default-clause-place c =
    let n = c.neighbours_of-n.ensures in
    nothing_above _ _ _ _ _ n.low n.high _ c.in_default.is-0 c.in_default.is-1

pub returns-in_default-2-clause-place : goal.returns-in_default-2-clause-place
returns-in_default-2-clause-place c =
    let n = c.neighbours_of-n.ensures in
    nothing_below _ _ _ _ _ n.low n.high c.in_default.is-0

pub returns-then-r-at-clause-place : goal.returns-then-r-at-clause-place
returns-then-r-at-clause-place c =
    let a = c.args in
    let n = c.neighbours_of-n.ensures in
    let found = c.in-Some-Some in
    let twenty : length a.r.slots.ticks ≡ 20 = search rules in
    let four : length a.r.slots.headings ≡ 4 = search rules in
    let h = read _ _ c.ranges.heading c.heading-h.type_inv c.heading-h.ensures in
    let place = c.place-at.ensures.slot ∙ heading-place _ _ ∙ ap (slot_of same_ℤ a.r.slots.headings) h in
    elim c.then-r-at.branch [
      | then-r-at-via-then-r-at w ↦ other_heading _ _ _ _ _ n.low n.high _ found.is-0 _ found.is-1 c.requires twenty four _ place w.if-r-at.true
      | then-r-at-via-else-r-at+then-not-goes_with w ↦
          let f = read _ _ c.ranges.first w.heading.type_inv w.heading.ensures in
          heading_alone _ _ _ _ _ n.low n.high _ found.is-0 _ found.is-1 c.requires twenty four _ place w.if-r-at.false
          (same-read a.r.choices.coverage _ _ _ _ h f ∙ sym w.goes_with.ensures ∙ w.if-not-goes_with.true)
    ]

pub overflow_cast-nodes_before : goal.overflow_cast-nodes_before
overflow_cast-nodes_before c = record { fits = omega (arith, c.if-r-at.false, valid-held _ c.requires) }

pub overflow_mul-nodes_before : goal.overflow_mul-nodes_before
overflow_mul-nodes_before c = record { fits = omega (arith, c.if-r-at.false, valid-held _ c.requires) }

pub overflow_add-result : goal.overflow_add-result
overflow_add-result c =
    let a = c.args in
    let n = c.neighbours_of-n.ensures in
    let found = c.in-Some-Some in
    let twenty : length a.r.slots.ticks ≡ 20 = search rules in
    let four : length a.r.slots.headings ≡ 4 = search rules in
    let h = read _ _ c.ranges.heading c.heading-h.type_inv c.heading-h.ensures in
    let place = c.place-at.ensures.slot ∙ heading-place _ _ ∙ ap (slot_of same_ℤ a.r.slots.headings) h in
    record { fits = omega (arith, c.if-r-at.false, valid-held _ c.requires, low-slot _ a.first _ _ _ n.low n.high _ found.is-0 _ found.is-1 c.requires twenty four _ place c.if-r-at.false) }

pub overflow_add-result-2 : goal.overflow_add-result-2
overflow_add-result-2 c =
    let a = c.args in
    let n = c.neighbours_of-n.ensures in
    let found = c.in-Some-Some in
    let twenty : length a.r.slots.ticks ≡ 20 = search rules in
    let four : length a.r.slots.headings ≡ 4 = search rules in
    let h = read _ _ c.ranges.heading c.heading-h.type_inv c.heading-h.ensures in
    let place = c.place-at.ensures.slot ∙ heading-place _ _ ∙ ap (slot_of same_ℤ a.r.slots.headings) h in
    record { fits = omega (arith, c.if-r-at.false, valid-held _ c.requires, high-slot _ a.first _ _ _ n.low n.high _ found.is-0 _ found.is-1 c.requires twenty four _ place c.if-r-at.false) }

pub returns : goal.returns
returns c =
    let a = c.args in
    let n = c.neighbours_of-n.ensures in
    let found = c.in-Some-Some in
    let twenty : length a.r.slots.ticks ≡ 20 = search rules in
    let four : length a.r.slots.headings ≡ 4 = search rules in
    let h = read _ _ c.ranges.heading c.heading-h.type_inv c.heading-h.ensures in
    let f = read _ _ c.ranges.first c.heading.type_inv c.heading.ensures in
    let place = c.place-at.ensures.slot ∙ heading-place _ _ ∙ ap (slot_of same_ℤ a.r.slots.headings) h in
    let goes = same-read a.r.choices.coverage _ _ _ _ h f ∙ sym c.goes_with.ensures ∙ c.if-not-goes_with.false in
    record {
      place = in_place _ _ _ _ _ n.low n.high _ found.is-0 _ found.is-1 c.requires twenty four _ place c.if-r-at.false _ c.weigh-w.ensures goes;
      line = tt;
      proper = proper _ _ _ _ _ n.low n.high _ found.is-0 _ found.is-1 c.requires twenty four _ place c.if-r-at.false _ c.weigh-w.ensures goes;
    }
