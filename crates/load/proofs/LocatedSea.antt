-- The lines of a sea, put into their places from the last to the first: what the loop goes by. Assumes nothing.
use mathlib.Core.Path.{◌≡◌, refl, sym, ap, ◌∙◌, subst}
use mathlib.Core.Bool.{Bool, true, false, cond, not, ◌&&◌, ◌||◌}
use mathlib.Core.List.{List, ◌∷◌}
use Rattle.std.proofs.Common.{Option, None, Some}
use Prim.Native.Nat.{ℕ, zero, suc, ◌+◌, ◌-◌, ◌≤◌, ◌<◌}
use native.Mathlib.Numerals.{add-one}
use native.Mathlib.Omega.{arith}
use lib.Dec.{eqb}
use lib.IntN.{ℤ, pos}
use lib.ListN.{length, get_or, set, take, length-set}
use lib.Seq.{get_or-set_same, get_or-set_other}
use Rattle.whole.specs.Same.{same_ℤ}
use Rattle.row.specs.Heading.{heading_of}
use Rattle.table.specs.declared.entries.Parts.{Parts}
use Rattle.reader.specs.declared.record.Record.{Record}
use Rattle.table.specs.Entries.{parts_of}
use Rattle.table.specs.View.{has_heading}
use Rattle.neighbours.specs.Standing.{Standing}
use Rattle.load.specs.Corners.{Point}
use Rattle.load.specs.Locating.{Located, at, outside, at_heading, located}
use Rattle.seaway.specs.Sea.{Line, line_at, lines_from, lines_of}
use Rattle.load.specs.own.Brackets.{bracket_of, bracketed}
use Rattle.load.specs.Force.{LocatedSea, all, stopped, more, located_from, first_heading, located_sea}
use Rattle.load.specs.own.Waves.{waves, SeaLocated, placed, refused}
use Rattle.seaway.specs.declared.sea.Sea.{Sea}
use Rattle.load.specs.own.Brackets.{Bracketed}
use Rattle.load.specs.declared.waves.Wave.{Wave}
use Rattle.load.specs.own.Waves.{LocatedWaves}
use Rattle.seaway.proofs.Seas.{next-line, all_lines}
use Rattle.load.proofs.Adding.{next-wave}
use Rattle.load.proofs.Unordered.{nowhere, waves_from, waves-are}

-- what comes of line i, with what came of the lines after it
unfoldable pub waves_with : LocatedWaves → ℕ → Bracketed → ℕ → Parts → LocatedWaves
waves_with c i (Bracketed.Refused number) tick amplitude = record { number = number; line = i + 1; waves = c.waves }
waves_with c i (Bracketed.At p) tick amplitude =
    record { number = c.number; line = c.line; waves = set c.waves i (record { bracket = p; tick = tick; amplitude = amplitude }) }

-- a point that has no place has a number
pub data Numbered : Located → Type 0 where
  found : {p : Point} → Numbered (at p)
  numbered : {number : ℕ} → (number ≡ 0 → ⊥) → Numbered (outside number)

by-standing : (r : Record) (first h : ℤ) (o : Option (Standing ℕ)) → Numbered (at_heading r first h o)
unfolding at_heading
by-standing r first h None = numbered {number = 13} (λ (e : ◌≡◌ {A = ℕ} 13 0). omega arith)
by-standing r first h (Some f) = go (has_heading r.slots h && (not (eqb r.choices.coverage 0) || same_ℤ h first))
  where
    go : (b : Bool) → Numbered (cond b (at (record { frequency = f; heading = h })) (outside 14))
    go true = found
    go false = numbered {number = 14} (λ (e : ◌≡◌ {A = ℕ} 14 0). omega arith)

pub located-numbered : (r : Record) (first : ℤ) (tick : ℕ) (heading : ℤ) → Numbered (located r first tick heading)
unfolding located
located-numbered r first tick heading = by-standing r (heading_of first) (heading_of heading) _

-- the heading of line 1
pub first-is : (sea : Sea) → 0 < sea.count → get_or sea.headings 0 (pos 0) ≡ first_heading (lines_of sea)
unfolding first_heading line_at
first-is sea h = sym (ap first_heading (all_lines sea ∙ next-line sea 0 h))

-- a wave that is stored below those that stand
waves-kept : (ws : List Wave) (i : ℕ) (w : Wave) (k n : ℕ) → i < k → waves_from (set ws i w) k n ≡ waves_from ws k n
unfolding waves_from
waves-kept ws i w k zero h = refl
waves-kept ws i w k (suc n) h =
    λ j. get_or-set_other ws i k w nowhere (λ e. let clash : ⊥ = omega (arith, h, e) in clash) j ∷ waves-kept ws i w (suc k) n (omega arith) j

module _ (r : Record) (sea : Sea) where
  abbrev first : ℤ
  first = first_heading (lines_of sea)

  -- what comes of the lines from j on
  abbrev onward : ℕ → LocatedSea
  onward j = located_from r first (suc j) (lines_from sea j (sea.count - j))

  none_left : (outcome : LocatedWaves) (j : ℕ) → outcome.number ≡ 0 → SeaLocated r.slots outcome.number outcome.line (waves_from outcome.waves j 0) (located_from r first (suc j) (lines_from sea j 0))
  unfolding located_from lines_from waves waves_from
  none_left outcome j free = placed free refl

  -- at the loop's head: the lines from i on have been located
  pub record LocatingLines (outcome : LocatedWaves) (i : ℕ) : Type 0 where
    pub within : i ≤ sea.count
    pub long : length outcome.waves ≡ 64
    pub lines-located : SeaLocated r.slots outcome.number outcome.line (waves_from outcome.waves i (sea.count - i)) (onward i)

  pub locating-start : (outcome : LocatedWaves) → length outcome.waves ≡ 64 → outcome.number ≡ 0 → LocatingLines outcome sea.count
  locating-start outcome long free =
      let e : sea.count - sea.count ≡ 0 = omega arith in
      record { within = omega arith; long = long; lines-located = rw e (none_left outcome sea.count free) }

  module _ (few : sea.count ≤ 64) (outcome : LocatedWaves) (i : ℕ) (v : LocatingLines outcome (i + 1)) where
    abbrev line : Line
    line = line_at sea i

    -- the lines from i on
    from-here : onward i ≡ more line (located r first line.tick line.heading) (onward (suc i)) (suc i)
    unfolding located_from
    from-here = ap (located_from r first (suc i)) (next-line sea i (omega (arith, v.within)))

    -- a line, before what came of those after it
    module _ (number stop : ℕ) (ws : List Wave) (long : length ws ≡ 64) where
      abbrev with : Located → LocatedWaves
      with l =
          waves_with (record { number = number; line = stop; waves = ws }) i (bracketed r.slots l) line.tick (parts_of line.amplitude)

      abbrev left : List Wave
      left = waves_from ws (suc i) (sea.count - suc i)

      with-long : (l : Located) → length (with l).waves ≡ 64
      unfolding waves_with bracketed
      with-long (outside n) = long
      with-long (at p) = length-set ws i _ ∙ long

      by_place :
          (l : Located) (s : LocatedSea)
          → Numbered l
          → SeaLocated r.slots number stop left s
          → SeaLocated r.slots (with l).number (with l).line (waves_from (with l).waves i (sea.count - i)) (more line l s (suc i))
      unfolding more waves_with bracketed waves
      by_place (outside n) s (numbered given) f = refused given refl (add-one i)
      by_place (at p) (stopped n k) found (refused given e g) = refused given e g
      by_place (at p) (all ps) found (placed e g) =
          let wave : Wave = record { bracket = bracket_of r.slots p; tick = line.tick; amplitude = parts_of line.amplitude } in
          let inside : i < length ws = rw long (omega (arith, v.within)) in
          placed e
          (next-wave (set ws i wave) sea.count i (omega (arith, v.within))
          ∙ (λ j. get_or-set_same ws i wave nowhere inside j ∷ (waves-kept ws i wave (suc i) (sea.count - suc i) (omega arith) ∙ g) j))

    pub locating-on :
        (x : Bracketed) (next : LocatedWaves)
        → x ≡ bracketed r.slots (located r first line.tick line.heading)
        → next ≡ waves_with outcome i x line.tick (parts_of line.amplitude)
        → LocatingLines next i
    locating-on x next e f =
        let l = located r first line.tick line.heading in
        let same : next ≡ with outcome.number outcome.line outcome.waves v.long l = f ∙ ap (λ y. waves_with outcome i y line.tick (parts_of line.amplitude)) e in
        let rest = rw (add-one i) at v.lines-located in
        rw same
        (record {
          within = omega (arith, v.within);
          long = with-long outcome.number outcome.line outcome.waves v.long l;
          lines-located = rw from-here (by_place outcome.number outcome.line outcome.waves v.long l (onward (suc i)) (located-numbered r first line.tick line.heading) rest);
        })

  pub locating-end : sea.count ≤ 64 → (outcome : LocatedWaves) → LocatingLines outcome 0
      → SeaLocated r.slots outcome.number outcome.line (take sea.count outcome.waves) (located_sea r (lines_of sea))
  unfolding located_sea
  locating-end few outcome v =
      let e : sea.count - 0 ≡ sea.count = omega arith in
      subst (λ (ls : List Line). SeaLocated r.slots outcome.number outcome.line (take sea.count outcome.waves) (located_from r first 1 ls))
      (sym (all_lines sea))
      (subst (λ (ws : List Wave). SeaLocated r.slots outcome.number outcome.line ws (onward 0))
      (ap (waves_from outcome.waves 0) e ∙ waves-are outcome.waves 0 sea.count (omega (arith, v.long)))
      v.lines-located)
