-- What comes of a point, one law for each outcome, from what the code has found; and where it is in its place its bracket is proper. Assumes nothing.
use mathlib.Core.Path.{◌≡◌, sym, ap, ◌∙◌, subst}
use mathlib.Core.Bool.{Bool, true, false, cond, not, ◌&&◌, ◌||◌}
use Rattle.std.proofs.Common.{Option, None, Some}
use mathlib.Core.List.{List, [], ◌∷◌}
use Prim.Native.Nat.{ℕ, zero, suc, min, ◌+◌, ◌*◌, ◌≤◌, ◌<◌}
use native.Mathlib.Omega.{arith}
use lib.Dec.{T, leb, ltb, eqb}
use lib.IntN.{ℤ}
use lib.ListN.{length, take, get_or, length-take}
use borrow.Author.Tests.{lt-ltb, le-ltb}
use Rattle.whole.specs.Same.{same_ℤ}
use Rattle.whole.proofs.OrderLaws.{cond_ind}
use Rattle.row.specs.Heading.{heading_of}
use Rattle.reader.specs.declared.record.Record.{Record}
use Rattle.grid.specs.declared.nodes.Slots.{Slots}
use Rattle.grid.specs.Slots.{slot_of, held_ticks, held_headings, heading_slot}
use Rattle.table.specs.Cells.{node_at}
use Rattle.table.specs.Closing.{node_of}
use Rattle.grid.specs.Valid.{valid_ticks}
use Rattle.reader.specs.Valid.{valid_of}
use Rattle.table.specs.View.{has_heading}
use Rattle.neighbours.specs.Standing.{Standing, low_of, high_of, between, standing, apart}
use Rattle.load.specs.Locating.{Located, at, outside, at_heading, located}
use Rattle.load.specs.own.Brackets.{bracket_of, bracketed, ProperBracket, InTable}
use Rattle.neighbours.specs.declared.standing.Neighbour.{Neighbour}
use Rattle.load.specs.declared.locating.Bracket.{Bracket}
use Rattle.load.specs.own.Brackets.{Bracketed}
use Rattle.neighbours.proofs.Weights.{ProperWeights, slot_is}
use Rattle.load.proofs.Queries.{valid-ticks}
use Rattle.load.proofs.Ranges.{Placed, placed_at, proper-located, inside-located, proper-bracket}

-- ---- where headings and nodes stand

-- a place among the first n is the place among all, and n where that is no less
slot-take : {A : Type 0} (same : A → A → Bool) (n : ℕ) (l : List A) (x : A) → slot_of same (take n l) x ≡ min n (slot_of same l x)
unfolding slot_of
slot-take same zero l x = omega arith
slot-take same (suc n) [] x = omega arith
slot-take same (suc n) (y ∷ ys) x = go (same y x) (slot-take same n ys x)
  where
    go :
        (b : Bool) → slot_of same (take n ys) x ≡ min n (slot_of same ys x)
        → cond b zero (suc (slot_of same (take n ys) x)) ≡ min (suc n) (cond b zero (suc (slot_of same ys x)))
    go true h = omega arith
    go false h = omega arith

module _ (s : Slots) (four : length s.headings ≡ 4) (few : s.held ≤ 4) (h : ℤ) (at : ℕ) (place : at ≡ slot_of same_ℤ s.headings h) where
  heading-at : heading_slot s.headings s.held h ≡ min s.held at
  unfolding heading_slot
  heading-at = slot-take same_ℤ s.held s.headings h ∙ ap (min s.held) (sym place)

  has : has_heading s h ≡ ltb (min s.held at) (min s.held 4)
  unfolding has_heading held_headings heading_slot
  has = λ i. ltb (heading-at i) ((length-take s.held s.headings ∙ ap (min s.held) four) i)

  -- a heading is one of the table's own where its place is among those held
  pub not_own : s.held ≤ at → has_heading s h ≡ false
  not_own k = has ∙ le-ltb (min s.held at) (min s.held 4) (omega arith)

  module _ (k : at < s.held) where
    pub own : has_heading s h ≡ true
    own = has ∙ lt-ltb (min s.held at) (min s.held 4) (omega arith)

    -- the number of a node, by a slot that holds its tick
    pub node-is :
        T (valid_ticks s.ticks) → (n : Neighbour) → get_or s.ticks n.slot 0 ≡ n.tick → 0 < n.tick
        → 20 * at + n.slot ≡ node_of s (record { tick = n.tick; heading = h })
    unfolding node_of node_at
    node-is valid n slot above =
        let heading : heading_slot s.headings s.held h ≡ at = heading-at ∙ omega arith in
        let tick = ap (slot_of eqb s.ticks) (sym slot) ∙ slot_is s.ticks valid n.slot (omega (arith, slot)) in
        λ i. 20 * sym heading i + sym tick i

-- of a point in its place
abbrev pub ProperIn : Bracketed → Type 0
ProperIn (Bracketed.At p) = ProperBracket p × InTable p
ProperIn (Bracketed.Refused n) = Unit

module _ (r : Record) (first : ℤ) (tick : ℕ) (heading : ℤ) where
  abbrev low : Option ℕ
  low = low_of leb (held_ticks r.slots.ticks) tick

  abbrev high : Option ℕ
  high = high_of leb (held_ticks r.slots.ticks) tick

  abbrev answer : Bracketed
  answer = bracketed r.slots (located r first tick heading)

  -- the heading is the table's own, and goes with that of line 1
  abbrev suits : Bool
  suits = has_heading r.slots (heading_of heading) && (not (eqb r.choices.coverage 0) || same_ℤ (heading_of heading) (heading_of first))

  abbrev then : Option (Standing ℕ) → Bracketed
  then o = bracketed r.slots (at_heading r (heading_of first) (heading_of heading) o)

  -- ---- the outcomes

  pub none_below : low ≡ None → answer ≡ Bracketed.Refused 13
  unfolding located standing between at_heading bracketed
  none_below e = ap (λ (o : Option ℕ). then (between leb apart tick o high)) e

  module _ (l : ℕ) (below : low ≡ Some l) where
    pub none_above : high ≡ None → answer ≡ Bracketed.Refused 13
    unfolding located standing between at_heading bracketed
    none_above e = λ i. then (between leb apart tick (below i) (e i))

    module _ (h : ℕ) (above : high ≡ Some h) where
      found : answer ≡ then (between leb apart tick (Some l) (Some h))
      unfolding located standing
      found = λ i. then (between leb apart tick (below i) (above i))

      pub unsuited : suits ≡ false → answer ≡ Bracketed.Refused 14
      unfolding between at_heading bracketed
      unsuited e =
          found
          ∙ cond_ind (λ (o : Option (Standing ℕ)). then o ≡ Bracketed.Refused 14) (leb h l) (λ t. rw e) (λ t. rw e)

      pub suited : (f : Standing ℕ) → between leb apart tick (Some l) (Some h) ≡ Some f → suits ≡ true
          → answer ≡ Bracketed.At (bracket_of r.slots (record { frequency = f; heading = heading_of heading }))
      unfolding at_heading bracketed
      suited f e s = found ∙ ap then e ∙ rw s

  -- ---- in a valid record every bracket is proper

  module _ (valid : valid_of r ≡ true) (twenty : length r.slots.ticks ≡ 20) (four : length r.slots.headings ≡ 4) where
    both-proper : (l : Located) → Placed (λ p. ProperWeights p.frequency) l → Placed (λ p. InTable (bracket_of r.slots p)) l → ProperIn (bracketed r.slots l)
    unfolding bracketed
    both-proper (at p) w i = (proper-bracket r.slots p (placed_at w), placed_at i)
    both-proper (outside number) w i = tt

    answer-proper : ProperIn answer
    answer-proper =
        both-proper (located r first tick heading) (proper-located r (valid-ticks r valid) first tick heading) (inside-located r twenty four first tick heading)

    -- what the code's answer says of the bracket that it holds
    pub at-proper : (x : Bracketed) → x ≡ answer → (p : Bracket) → x ≡ Bracketed.At p → ProperBracket p × InTable p
    at-proper x e p h = subst ProperIn (sym e ∙ h) answer-proper
