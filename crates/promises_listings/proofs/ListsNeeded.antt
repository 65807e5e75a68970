-- The listing's lines after the first are those of the pairs that the coverage needs, in order. Assumes nothing.
use mathlib.Core.Bool.{true, false, cond}
use mathlib.Core.List.{List, [], Memᴰ}
use mathlib.Core.Path.{◌≡◌, refl, ap, ◌∙◌, subst}
use Prim.Native.Nat.{ℕ, suc, ◌-◌, ◌≤◌, ◌<◌}
use native.Mathlib.Omega.{arith}
use lib.Dec.{eqb, leb}
use lib.IntN.{ℤ}
use lib.ListN.{length, get_or}
use lib.Signed.{le_z}
use borrow.Author.Tests.{ne_eqb, lt-ltb, le-ltb}
use Rattle.grid.specs.declared.nodes.Pair.{Pair}
use Rattle.std.proofs.Common.{Some, None}
use Rattle.table.specs.Pairs.{pairs_of, nowhere, nth_of}
use Rattle.table.specs.View.{view_of}
use Rattle.reader.specs.declared.record.Record.{Record}
use Rattle.grid.specs.Valid.{valid_slots}
use Rattle.table.proofs.Ascending.{ascending-only, ascending-has}
use Rattle.table.proofs.Drawn.{pairs-only, pairs-have}
use Rattle.lines.specs.Listing.{title_text, pair_text, nth_text, text_of, listed}
use Rattle.promises_calls.specs.Kept.{Shaped}
use Rattle.promises_tables.specs.Rules.{PairBelow}
use Rattle.promises_queries.specs.Queries.{Asked}
use Rattle.promises_listings.specs.Listings.{NeededPair, InOrder, line_with, ListsNeeded}
use Rattle.promises_rows.proofs.Ordering.{Ascending, ascending-behind, ticks-ascend, headings-ascend}
use Rattle.promises_tables.proofs.Pairs.{pairs-ascend}
use Rattle.promises_calls.proofs.SlotsOnce.{slots-distinct, valid-slots}
use Rattle.promises_queries.proofs.Queries as queries

-- ---- which pairs, and in which order

module _ (r : Record) where
  abbrev pub needed : List Pair
  needed = pairs_of r.choices.coverage r.slots

  pub needed-only : (p : Pair) → Memᴰ p needed → NeededPair r p
  unfolding pairs_of
  needed-only p m =
      let d = pairs-only r.choices.coverage _ _ p m in
      record {
        tick₁ = ascending-only leb _ _ d.tick₁;
        heading₁ = ascending-only le_z _ _ d.heading₁;
        tick₂ = ascending-only leb _ _ d.tick₂;
        heading₂ = ascending-only le_z _ _ d.heading₂;
        single = d.single;
      }

  pub needed-all : (p : Pair) → NeededPair r p → Memᴰ p needed
  unfolding pairs_of
  needed-all p n =
      pairs-have r.choices.coverage _ _ p
      (record {
        tick₁ = ascending-has leb _ _ n.tick₁;
        heading₁ = ascending-has le_z _ _ n.heading₁;
        tick₂ = ascending-has leb _ _ n.tick₂;
        heading₂ = ascending-has le_z _ _ n.heading₂;
        single = n.single;
      })

  module _ (shaped : Shaped r) (asked : valid_slots r.marks.stage r.slots ≡ true) where
    pub needed-ascend : Ascending PairBelow needed
    unfolding pairs_of
    needed-ascend =
        let s = slots-distinct r shaped asked in
        pairs-ascend r.choices.coverage _ _ (ticks-ascend s.ticks) (headings-ascend s.headings)

    pub needed-order : InOrder needed
    needed-order before behind p q e m = ascending-behind before p behind (subst (Ascending PairBelow) e needed-ascend) q m

-- ---- the lines

module _ (r : Record) (cells : List ℤ) (asked : Asked r cells) where
  listed-is : (k : ℕ) → listed r cells k ≡ line_with (text_of r cells k)
  unfolding listed
  listed-is k = rw (queries.free r cells asked)

  module _ (k : ℕ) where
    abbrev at : Pair
    at = get_or (needed r) k nowhere

    text-is : text_of r cells (suc k) ≡ nth_text (view_of r.slots cells) (nth_of r.choices.coverage r.slots k)
    unfolding text_of
    text-is =
        let some : eqb (suc k) 0 ≡ false = ne_eqb (suc k) 0 (λ z. omega arith) in
        let e : suc k - 1 ≡ k = omega arith in
        λ i. cond (some i) (title_text r) (nth_text (view_of r.slots cells) (nth_of r.choices.coverage r.slots (e i)))

    line_at : k < length (needed r) → nth_of r.choices.coverage r.slots k ≡ Some at
    unfolding nth_of
    line_at h = rw (lt-ltb k (length (needed r)) h)

    line-past : length (needed r) ≤ k → nth_of r.choices.coverage r.slots k ≡ None
    unfolding nth_of
    line-past h = rw (le-ltb k (length (needed r)) h)

    line-is : k < length (needed r) → text_of r cells (suc k) ≡ pair_text at ((view_of r.slots cells).entry at.first at.second)
    unfolding nth_text
    line-is h = text-is ∙ ap (nth_text (view_of r.slots cells)) (line_at h)

    past_is : length (needed r) ≤ k → text_of r cells (suc k) ≡ []
    unfolding nth_text
    past_is h = text-is ∙ ap (nth_text (view_of r.slots cells)) (line-past h)

  title-is : text_of r cells 0 ≡ title_text r
  unfolding text_of
  title-is = refl

pub lists-needed : ListsNeeded
lists-needed r cells shaped asked =
    let valid = valid-slots r asked.accepted.valid in
    let told = listed-is r cells asked in (
      needed r,
      record {
        needed = λ p. (needed-only r p, needed-all r p);
        order = needed-order r shaped valid;
        title = told 0 ∙ ap line_with (title-is r cells asked);
        lines = λ k h. told (suc k) ∙ ap line_with (line-is r cells asked k h);
        past = λ k h. told (suc k) ∙ ap line_with (past_is r cells asked k h);
      },
    )
