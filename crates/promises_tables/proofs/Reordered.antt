-- Order and repeats of rows make no difference to the rules and to what closing answers. Assumes nothing.
use mathlib.Core.List.Memᴰ
use mathlib.Core.List.{List, [], ◌∷◌, Memᴰ}
use mathlib.Core.Path.{◌≡◌, refl, sym, ap₂, subst}
use Prim.Native.Nat.{ℕ}
use native.Mathlib.Omega.{arith}
use lib.ListN.{length}
use Rattle.whole.specs.Complex.{Complex}
use Rattle.row.specs.declared.reading.Entry.{Entry}
use Rattle.grid.specs.declared.nodes.Node.{Node}
use Rattle.grid.specs.declared.nodes.Pair.{Pair}
use Rattle.table.specs.declared.closing.Closed.{Closed}
use Rattle.promises_rows.specs.Said.{Said, ticks_said, headings_said, ticks_of, headings_of}
use Rattle.promises_rows.specs.Said.Says.{directly}
use Rattle.promises_tables.specs.Rules.{Needed, RowRules, Complete, Unsaid}
use Rattle.promises_rows.specs.Said.{Over}
use Rattle.promises_tables.specs.Closing.{Closes}
use Rattle.promises_tables.specs.Closing.Closes.{no_row, lacks, every-pair}
use Rattle.promises_tables.specs.Lookup.{SameSaid}
use Rattle.promises_tables.specs.Reordered.{RulesAlike, ClosesAlike}
use Rattle.promises_rows.proofs.Equality.{Same_ℕ, Same_ℤ}
use Rattle.promises_rows.proofs.Distinct.{distinct-count}
use Rattle.promises_tables.proofs.Lookup.{tick-said, heading-said}

module _ {kind : ℕ} {rows more : List Entry} (same : (a b : Node) (v : Complex) → Said kind rows a b v → Said kind more a b v) where
  over-too : {a : Node} → Over rows a → Over more a
  over-too {a} o = record { tick = tick-said same a.tick o.tick; heading = heading-said same a.heading o.heading }

  needed-too : {coverage : ℕ} {a b : Node} → Needed coverage rows a b → Needed coverage more a b
  needed-too n = record { first = over-too n.first; second = over-too n.second; single = n.single }

  -- some row is some row
  pub none-too : more ≡ [] → rows ≡ []
  none-too e =
      go rows
      (λ r m.
      let o = same _ _ _ (record { row = r; listed = m; says = directly }) in
      Memᴰ.not-nil (subst (Memᴰ o.row) e o.listed))
    where
      go : (l : List Entry) → ((r : Entry) → Memᴰ r l → ⊥) → l ≡ []
      go [] f = refl
      go (r ∷ l) f = absurd (f r (Memᴰ.head refl))

module _ (kind : ℕ) (rows more : List Entry) (same : SameSaid kind rows more) where
  there : (a b : Node) (v : Complex) → Said kind rows a b v → Said kind more a b v
  there a b v = (same a b v).0

  back : (a b : Node) (v : Complex) → Said kind more a b v → Said kind rows a b v
  back a b v = (same a b v).1

  pub frequencies-are : length (ticks_of rows) ≡ length (ticks_of more)
  unfolding ticks_of
  frequencies-are = distinct-count Same_ℕ (ticks_said rows) (ticks_said more) (tick-said there) (tick-said back)

  pub headings-are : length (headings_of rows) ≡ length (headings_of more)
  unfolding headings_of
  headings-are = distinct-count Same_ℤ (headings_said rows) (headings_said more) (heading-said there) (heading-said back)

  rules-too : RowRules kind rows → RowRules kind more
  rules-too r =
      record {
        frequencies = let e = frequencies-are in let h = r.frequencies in omega arith;
        headings = let e = headings-are in let h = r.headings in omega arith;
        consistent = λ a b v w o u. r.consistent a b v w (back a b v o) (back a b w u);
      }

  module _ (coverage : ℕ) where
    unsaid-back : {p : Pair} → Unsaid kind coverage more p → Unsaid kind coverage rows p
    unsaid-back u = record { needed = needed-too back u.needed; order = u.order; unsaid = λ v o. u.unsaid v (there _ _ v o) }

    unsaid-there : {p : Pair} → Unsaid kind coverage rows p → Unsaid kind coverage more p
    unsaid-there u = record { needed = needed-too there u.needed; order = u.order; unsaid = λ v o. u.unsaid v (back _ _ v o) }

    pub complete-too : Complete kind coverage rows → Complete kind coverage more
    complete-too f a b w = let o = f a b (needed-too back w) in (o.0, there a b o.0 o.1)

    closes-too : (c : Closed) → Closes kind coverage rows c → Closes kind coverage more c
    closes-too c (no_row e) = no_row (none-too back e)
    closes-too c (lacks m) = lacks (record { lacking = unsaid-there m.lacking; least = λ q u. m.least q (unsaid-back u) })
    closes-too c (every-pair n f) =
        subst (Closes kind coverage more) (ap₂ Closed.Complete (sym frequencies-are) (sym headings-are))
        (every-pair (λ e. n (none-too there e)) (complete-too f))

pub rules-alike : RulesAlike
rules-alike = rules-too

pub closes-alike : ClosesAlike
closes-alike kind coverage rows more c same = closes-too kind rows more same coverage c
