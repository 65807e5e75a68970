-- Where the model puts a line or a point of a coefficient call is where specs/Places has it, and there is one such place. Assumes nothing.
use mathlib.Core.Path.{◌≡◌, refl, sym, ◌∙◌, ap}
use mathlib.Core.Bool.{Bool, true, false, not, ◌&&◌, ◌||◌, true≢false}
use Rattle.std.proofs.Common.{Option, None, Some}
use Prim.Native.Nat.{ℕ}
use lib.Dec.{eqb}
use lib.IntN.{ℤ}
use borrow.Author.Tests.{eqb-true, eq-eqb}
use Rattle.whole.specs.Same.{same_ℤ}
use Rattle.whole.proofs.Same.{same_ℤ-true, same_ℤ-yes}
use Rattle.row.specs.Heading.{heading_of}
use Rattle.row.proofs.Used.{by-test}
use Rattle.row.proofs.Deciding.{both}
use Rattle.grid.specs.declared.nodes.Node.{Node}
use Rattle.reader.specs.declared.record.Record.{Record}
use Rattle.grid.specs.Slots.{held_headings}
use Rattle.table.specs.View.{has_heading}
use Rattle.neighbours.specs.Standing.{Standing}
use Rattle.load.specs.Corners.{Point}
use Rattle.load.specs.Locating.{Located, at, outside, at_heading, located}
use Rattle.promises_queries.specs.Places.{HoldsHeading, Foreign, not-held, not_first, Off, thirteen, fourteen}
use Rattle.promises_rows.proofs.Members.{heading-mem, no-heading}
use Rattle.promises_queries.proofs.Standings.{Stands, Found, lost, stands, found, not-outside, stands_one}

-- the heading is one of the table's own, and in single coverage that of line 1
pub record Own (r : Record) (first heading : ℤ) : Type 0 where
  pub holds : HoldsHeading r (heading_of heading)
  pub goes : r.choices.coverage ≡ 0 → heading_of heading ≡ heading_of first

pub own-not-foreign : {r : Record} {first heading : ℤ} → Own r first heading → Foreign r first heading → ⊥
own-not-foreign own (not-held h) = h own.holds
own-not-foreign own (not_first single h) = h (own.goes single)

-- the point of a line or point of a call that is in its place: where its frequency stands, and its heading
pub record At (r : Record) (first : ℤ) (n : Node) (p : Point) : Type 0 where
  pub stands : Stands r n.tick p.frequency
  pub heading : p.heading ≡ heading_of n.heading
  pub own : Own r first n.heading

-- where it lies, if `first` is the heading of line 1: off the table, or in its place
pub data Lies (r : Record) (first : ℤ) (n : Node) : Located → Type 0 where
  away : {number : ℕ} → Off r first n number → Lies r first n (outside number)
  here : {p : Point} → At r first n p → Lies r first n (at p)

module _ (r : Record) (first : ℤ) (n : Node) where
  abbrev h : ℤ
  h = heading_of n.heading

  abbrev goes : Bool
  goes = not (eqb r.choices.coverage 0) || same_ℤ h (heading_of first)

  goes_with : goes ≡ true → r.choices.coverage ≡ 0 → h ≡ heading_of first
  goes_with e single = go (same_ℤ h (heading_of first)) refl (sym (ap (λ (t : Bool). not t || same_ℤ h (heading_of first)) (eq-eqb r.choices.coverage 0 single)) ∙ e)
    where
      go : (t : Bool) → same_ℤ h (heading_of first) ≡ t → (false || t) ≡ true → h ≡ heading_of first
      go t k m = same_ℤ-true h (heading_of first) (k ∙ m)

  goes-not : goes ≡ false → Foreign r first n.heading
  goes-not e = go (eqb r.choices.coverage 0) refl e
    where
      go : (t : Bool) → eqb r.choices.coverage 0 ≡ t → (not t || same_ℤ h (heading_of first)) ≡ false → Foreign r first n.heading
      go true k m = not_first (eqb-true r.choices.coverage 0 k) (λ same. true≢false (sym (same_ℤ-yes h (heading_of first) same) ∙ m))
      go false k m = absurd (true≢false m)

  heading-found : (o : Option (Standing ℕ)) → Found r n.tick o → Lies r first n (at_heading r (heading_of first) h o)
  unfolding at_heading has_heading
  heading-found None (lost b) = away (thirteen b)
  heading-found (Some f) (stands s) =
      by-test (Lies r first n) (has_heading r.slots h && goes) _ _
      (λ e.
      let (has, with) = both (has_heading r.slots h) goes e in
      here (record { stands = s; heading = refl; own = record { holds = heading-mem (held_headings r.slots) h has; goes = goes_with with } }))
      (λ e. away (fourteen (not-outside r n.tick s) (foreign (has_heading r.slots h) refl e)))
    where
      foreign : (t : Bool) → has_heading r.slots h ≡ t → (t && goes) ≡ false → Foreign r first n.heading
      foreign true k m = goes-not m
      foreign false k m = not-held (no-heading (held_headings r.slots) h k)

  pub lies : Lies r first n (located r first n.tick n.heading)
  unfolding located
  lies = heading-found _ (found r n.tick)

-- in one place only
pub lies-one : {r : Record} {first : ℤ} {n : Node} {x y : Located} → Lies r first n x → Lies r first n y → x ≡ y
lies-one (away (thirteen b)) (away (thirteen c)) = refl
lies-one (away (thirteen b)) (away (fourteen c f)) = absurd (c b)
lies-one (away (fourteen c f)) (away (thirteen b)) = absurd (c b)
lies-one (away (fourteen c f)) (away (fourteen d g)) = refl
lies-one {r} {n = n} (away (thirteen b)) (here x) = absurd (not-outside r n.tick x.stands b)
lies-one (away (fourteen c f)) (here x) = absurd (own-not-foreign x.own f)
lies-one {r} {n = n} (here x) (away (thirteen b)) = absurd (not-outside r n.tick x.stands b)
lies-one (here x) (away (fourteen c f)) = absurd (own-not-foreign x.own f)
lies-one {r} {n = n} (here x) (here y) =
    let frequency = stands_one r n.tick x.stands y.stands in
    let heading = x.heading ∙ sym y.heading in
    λ i. at (record { frequency = frequency i; heading = heading i })
