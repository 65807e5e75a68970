-- Which pairs the coverage needs, over ticks and headings in any order: those whose ticks and headings are among these, with equal headings in single coverage.
-- Assumes nothing.
use mathlib.Core.List.Memᴰ
use mathlib.Core.List.{List, Memᴰ}
use mathlib.Core.Path.{◌≡◌, refl, sym, subst}
use Prim.Native.Nat.{ℕ}
use lib.Dec.{eqb}
use lib.IntN.{ℤ}
use borrow.Author.Tests.{eqb-true, eqb-false}
use Rattle.row.proofs.Deciding.{by-test}
use Rattle.grid.specs.declared.nodes.Pair.{Pair}
use Rattle.table.specs.Pairs.{product, node, nodes, at_one_heading, pairs_over}
use Rattle.table.proofs.Products.{product-only, product-has}

-- a pair over the ticks ts and the headings hs, with equal headings in single coverage
pub record Drawn (coverage : ℕ) (ts : List ℕ) (hs : List ℤ) (p : Pair) : Type 0 where
  pub tick₁ : Memᴰ p.first.tick ts
  pub heading₁ : Memᴰ p.first.heading hs
  pub tick₂ : Memᴰ p.second.tick ts
  pub heading₂ : Memᴰ p.second.heading hs
  pub single : coverage ≡ 0 → p.first.heading ≡ p.second.heading

module _ (coverage : ℕ) (ts : List ℕ) (hs : List ℤ) where
  pub pairs-only : (p : Pair) → Memᴰ p (pairs_over coverage ts hs) → Drawn coverage ts hs p
  unfolding pairs_over nodes at_one_heading node
  pairs-only p =
      by-test (λ (l : List Pair). Memᴰ p l → Drawn coverage ts hs p) (eqb coverage 0) _ _
      (λ _ m.
      let f = Memᴰ.of_map at_one_heading (product hs (product ts ts)) m in
      let g = product-only hs (product ts ts) f.0 f.1 in
      let h = product-only ts ts f.0.1 g.1 in
      subst (Drawn coverage ts hs) f.2
      (record { tick₁ = h.0; heading₁ = g.0; tick₂ = h.1; heading₂ = g.0; single = λ _. refl }))
      (λ n m.
      let f = Memᴰ.of_map nodes (product (product hs ts) (product hs ts)) m in
      let g = product-only (product hs ts) (product hs ts) f.0 f.1 in
      let h = product-only hs ts f.0.0 g.0 in
      let k = product-only hs ts f.0.1 g.1 in
      subst (Drawn coverage ts hs) f.2
      (record { tick₁ = h.1; heading₁ = h.0; tick₂ = k.1; heading₂ = k.0; single = λ z. absurd (eqb-false coverage 0 n z) }))

  pub pairs-have : (p : Pair) → Drawn coverage ts hs p → Memᴰ p (pairs_over coverage ts hs)
  unfolding pairs_over nodes at_one_heading node
  pairs-have p d =
      by-test (λ (l : List Pair). Memᴰ p l) (eqb coverage 0) _ _
      (λ e.
      let one = d.single (eqb-true coverage 0 e) in
      Memᴰ.cast
      (λ i. record { first = p.first; second = record { tick = p.second.tick; heading = sym one i } })
      (Memᴰ.map at_one_heading (product-has hs (product ts ts) _ _ d.heading₁ (product-has ts ts _ _ d.tick₁ d.tick₂))))
      (λ _.
      Memᴰ.map nodes
      (product-has (product hs ts) (product hs ts) _ _
      (product-has hs ts _ _ d.heading₁ d.tick₁)
      (product-has hs ts _ _ d.heading₂ d.tick₂)))
