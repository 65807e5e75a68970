-- Tables with the same values are alike: the same choices, the same ticks and headings held, and the same entry at every pair of nodes that the coverage needs. That is all that
-- a query reads of a table. Assumes nothing.
use mathlib.Core.Path.{◌≡◌, sym, ap, ◌∙◌, subst}
use mathlib.Core.Bool.{Bool, true}
use mathlib.Core.List.Memᴰ
use mathlib.Core.List.{List, map, Memᴰ}
use Prim.Native.Nat.{ℕ}
use lib.Dec.{leb}
use lib.IntN.{ℤ}
use lib.ListN.{get_or, get_or-map}
use lib.Signed.{le_z}
use Rattle.whole.specs.Complex.{Complex}
use Rattle.whole.proofs.Same.{Tells, eqb_tells, same_ℤ-tells}
use Rattle.row.proofs.Deciding.{both}
use Rattle.grid.specs.declared.nodes.Node.{Node}
use Rattle.grid.specs.declared.nodes.Pair.{Pair}
use Rattle.grid.specs.declared.nodes.Slots.{Slots}
use Rattle.grid.specs.Slots.{among, held_ticks, held_headings}
use Rattle.table.specs.Pairs.{ascending, pairs_of}
use Rattle.table.specs.Entries.{entry_at}
use Rattle.table.specs.View.{has_tick, has_heading, has_node}
use Rattle.table.proofs.Ascending.{ascending-only, ascending-has}
use Rattle.grid.proofs.Members.{among-member, among_same}
use Rattle.table.proofs.Drawn.{pairs-have}
use Rattle.hull.specs.Six.{Component, frequencies, headings}
use Rattle.proteus.specs.Reading.{values_of}

-- two lists that are the same in ascending order have the same values among them
ascending-among :
    {A : Type 0} (le : A → A → Bool) {same : A → A → Bool} → Tells same → (l m : List A)
    → ascending le l ≡ ascending le m
    → (x : A)
    → among same l x ≡ among same m x
ascending-among le t l m e =
    among_same t l m
    (λ x k. ascending-only le m x (subst (Memᴰ x) e (ascending-has le l x k)))
    (λ x k. ascending-only le l x (subst (Memᴰ x) (sym e) (ascending-has le m x k)))

-- two nodes that are held make a pair that the coverage needs
needed-pair :
    (coverage : ℕ) (s : Slots) (a b : Node)
    → has_node s a ≡ true
    → has_node s b ≡ true
    → (coverage ≡ 0 → a.heading ≡ b.heading)
    → Memᴰ (record { first = a; second = b }) (pairs_of coverage s)
unfolding pairs_of has_node has_tick has_heading
needed-pair coverage s a b h k single =
    let first = both (has_tick s a.tick) (has_heading s a.heading) h in
    let second = both (has_tick s b.tick) (has_heading s b.heading) k in
    let tick : (t : ℕ) → has_tick s t ≡ true → Memᴰ t (ascending leb (held_ticks s.ticks)) = λ t e. ascending-has leb _ t (among-member eqb_tells _ t e) in
    let heading : (d : ℤ) → has_heading s d ≡ true → Memᴰ d (ascending le_z (held_headings s)) = λ d e. ascending-has le_z _ d (among-member same_ℤ-tells _ d e) in
    pairs-have coverage _ _ _
    (record {
      tick₁ = tick a.tick first.0;
      heading₁ = heading a.heading first.1;
      tick₂ = tick b.tick second.0;
      heading₂ = heading b.heading second.1;
      single = single;
    })

-- what is told of each of a list is told of it in any list that is the same
told_same :
    {A B : Type 0} (f g : A → B) (l m : List A) → map {B = A × B} (λ x. (x, f x)) l ≡ map (λ x. (x, g x)) m → (x : A) → Memᴰ x l → f x ≡ g x
told_same {A} {B} f g l m e x k =
    let t = Memᴰ.of_map (λ y. (y, g y)) m (subst (Memᴰ (x, f x)) e (Memᴰ.map (λ y. (y, f y)) k)) in
    sym (ap (λ (q : A × B). q.1) t.2) ∙ ap g (ap (λ (q : A × B). q.0) t.2)

module _ (c d : Component) (same : values_of c ≡ values_of d) where
  pub same-choices : c.table.choices ≡ d.table.choices
  unfolding values_of
  same-choices = λ i. record { kind = (same i).kind; component = (same i).component; coverage = (same i).coverage }

  -- the ticks, the headings and the needed entries
  pub same-values :
      ((f : ℕ) → has_tick c.table.slots f ≡ has_tick d.table.slots f)
      × ((h : ℤ) → has_heading c.table.slots h ≡ has_heading d.table.slots h)
      × ((a b : Node)
      → has_node c.table.slots a ≡ true
      → has_node c.table.slots b ≡ true
      → (c.table.choices.coverage ≡ 0 → a.heading ≡ b.heading)
      → entry_at c.table.slots c.cells a b ≡ entry_at d.table.slots d.cells a b)
  unfolding values_of frequencies headings has_tick has_heading
  same-values = (
    ascending-among leb eqb_tells _ _ (λ i. (same i).frequencies),
    ascending-among le_z same_ℤ-tells _ _ (λ i. (same i).headings),
    λ a b h k single.
        told_same (said c) (said d) (needed c) (needed d) (λ i. (same i).entries)
        (record { first = a; second = b })
        (needed-pair c.table.choices.coverage c.table.slots a b h k single),
  )
    where
      said : Component → Pair → Complex
      said t p = entry_at t.table.slots t.cells p.first p.second

      needed : Component → List Pair
      needed t = pairs_of t.table.choices.coverage t.table.slots

-- of two sixes, one table after the other
pub each_same :
    (six others : List Component)
    → map values_of six ≡ map values_of others
    → (i : ℕ) (none : Component)
    → values_of (get_or six i none) ≡ values_of (get_or others i none)
each_same six others e i none =
    sym (get_or-map values_of six i none) ∙ ap (λ l. get_or l i (values_of none)) e ∙ get_or-map values_of others i none
