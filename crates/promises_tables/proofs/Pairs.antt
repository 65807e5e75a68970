-- The pairs that the coverage needs, over ticks and headings in ascending order, stand in ascending order, by the first node and then by the
-- second. Assumes nothing.
use mathlib.Core.List.{List}
use mathlib.Core.Logic.{inl, inr, ⊎_elim}
use mathlib.Core.Path.{sym, ap, ◌∙◌, subst}
use Prim.Native.Nat.{ℕ}
use lib.Dec.{eqb}
use lib.IntN.{ℤ}
use lib.Signed.{◌<ℤ◌}
use Rattle.row.proofs.Used.{by-test}
use Rattle.grid.specs.declared.nodes.Node.{Node}
use Rattle.grid.specs.declared.nodes.Pair.{Pair}
use Rattle.table.specs.Pairs.{node, nodes, at_one_heading, pairs_over}
use Rattle.promises_tables.specs.Rules.{NodeBelow, PairBelow}
use Rattle.promises_rows.proofs.Ordering.{Ascending, Order, TickBelow, tick-order, heading-order, InTurn, product-ascends, map-ascends}

-- ---- the order of nodes and of pairs

pub node-order : Order NodeBelow
node-order =
    record {
      irreflexive = λ a h. ⊎_elim (λ k. heading-order.irreflexive _ k) (λ k. tick-order.irreflexive _ k.1) h;
      transitive = λ a b c h k.
          ⊎_elim
          (λ (x : a.heading <ℤ b.heading).
          ⊎_elim
          (λ (y : b.heading <ℤ c.heading). inl (heading-order.transitive _ _ _ x y))
          (λ y. inl (subst (λ (z : ℤ). a.heading <ℤ z) y.0 x))
          k)
          (λ x.
          ⊎_elim
          (λ (y : b.heading <ℤ c.heading). inl (subst (λ (z : ℤ). z <ℤ c.heading) (sym x.0) y))
          (λ y. inr (x.0 ∙ y.0, tick-order.transitive _ _ _ x.1 y.1))
          k)
          h;
    }

pub pair-asymmetric : (p q : Pair) → PairBelow p q → PairBelow q p → ⊥
pair-asymmetric p q (inl h) (inl k) = node-order.irreflexive _ (node-order.transitive _ _ _ h k)
pair-asymmetric p q (inl h) (inr k) = node-order.irreflexive _ (subst (λ (z : Node). NodeBelow p.first z) k.0 h)
pair-asymmetric p q (inr h) (inl k) = node-order.irreflexive _ (subst (λ (z : Node). NodeBelow q.first z) h.0 k)
pair-asymmetric p q (inr h) (inr k) = node-order.irreflexive _ (node-order.transitive _ _ _ h.1 k.1)

pub pair-order : Order PairBelow
pair-order = record { irreflexive = λ p h. pair-asymmetric p p h h; transitive = on }
  where
    on : (a b c : Pair) → PairBelow a b → PairBelow b c → PairBelow a c
    on a b c (inl h) (inl k) = inl (node-order.transitive _ _ _ h k)
    on a b c (inl h) (inr k) = inl (subst (λ (z : Node). NodeBelow a.first z) k.0 h)
    on a b c (inr h) (inl k) = inl (subst (λ (z : Node). NodeBelow z c.first) (sym h.0) k)
    on a b c (inr h) (inr k) = inr (h.0 ∙ k.0, node-order.transitive _ _ _ h.1 k.1)

-- ---- in which order the needed pairs stand

module _ (coverage : ℕ) (ts : List ℕ) (hs : List ℤ) where
  pub pairs-ascend : Ascending TickBelow ts → Ascending ◌<ℤ◌ hs → Ascending PairBelow (pairs_over coverage ts hs)
  unfolding pairs_over nodes at_one_heading node
  pairs-ascend a b =
      by-test (Ascending PairBelow) (eqb coverage 0) _ _
      (λ _.
      map-ascends {Below₁ = InTurn ◌<ℤ◌ (InTurn TickBelow TickBelow)} {Below₂ = PairBelow} at_one_heading
      (λ p q h.
      ⊎_elim
      (λ k. inl (inl k))
      (λ k.
      ⊎_elim
      (λ l. inl (inr (k.0, l)))
      (λ l. inr ((λ i. record { tick = l.0 i; heading = k.0 i }), inr (k.0, l.1)))
      k.1)
      h)
      (product-ascends ◌<ℤ◌ (InTurn TickBelow TickBelow) b (product-ascends TickBelow TickBelow a a)))
      (λ _.
      map-ascends {Below₁ = InTurn (InTurn ◌<ℤ◌ TickBelow) (InTurn ◌<ℤ◌ TickBelow)} {Below₂ = PairBelow} nodes
      (λ p q h. ⊎_elim (λ k. inl k) (λ k. inr (ap node k.0, k.1)) h)
      (product-ascends (InTurn ◌<ℤ◌ TickBelow) (InTurn ◌<ℤ◌ TickBelow)
      (product-ascends ◌<ℤ◌ TickBelow b a)
      (product-ascends ◌<ℤ◌ TickBelow b a)))
