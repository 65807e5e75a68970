-- The listing reads a table by values alone. Assumes nothing.
use mathlib.Core.Bool.{Bool, true, false, cond, ◌&&◌}
use mathlib.Core.List.{List, [], ◌∷◌, Memᴰ}
use mathlib.Core.Path.{◌≡◌, refl, sym, ap, ap₂, ◌∙◌}
use Prim.Native.Nat.{ℕ, zero, suc, ◌-◌, ◌<◌}
use native.Mathlib.Omega.{arith}
use lib.Dec.{eqb, ltb, leb}
use lib.IntN.{ℤ}
use lib.ListN.{length, get_or}
use lib.Signed.{le_z}
use borrow.Author.Tests.{eqb-true, ltb-true}
use Rattle.field.specs.Text.{bytes}
use Rattle.text.specs.Decimal.{natural}
use Rattle.text.specs.Spaced.{spaced}
use Rattle.row.proofs.Used.{by-test}
use Rattle.row.specs.declared.reading.Choices.{Choices}
use Rattle.row.proofs.Deciding.{both}
use Rattle.grid.specs.declared.nodes.Node.{Node}
use Rattle.grid.specs.declared.nodes.Pair.{Pair}
use Rattle.reader.specs.declared.record.Record.{Record}
use Rattle.grid.specs.declared.nodes.Slots.{Slots}
use Rattle.std.proofs.Common.{Option, Some, None}
use Rattle.grid.specs.Slots.{held_ticks, held_headings, among}
use Rattle.table.specs.Pairs.{ascending, pairs_over, pairs_of, nowhere, nth_of}
use Rattle.grid.specs.Valid.{valid_slots}
use Rattle.reader.specs.Valid.{valid_of, query_barred}
use Rattle.table.proofs.Ascending.{length-ascending, ascending-only}
use Rattle.table.specs.Entries.{entry_at}
use Rattle.table.specs.View.{has_tick, has_heading, has_node, view_of}
use Rattle.table.proofs.Drawn.{pairs-only}
use Rattle.lines.specs.Line.{line_of}
use Rattle.lines.specs.Listing.{title_text, pair_text, nth_text, text_of, listed}
use Rattle.promises_rows.specs.ByValue.{AlikeOver}
use Rattle.promises_listings.specs.Listings.{TextAlike, ListingAlike}
use Rattle.promises_rows.proofs.Equality.{Same, Same_ℕ, Same_ℤ}
use Rattle.promises_rows.proofs.Arriving.{in-member, member-in, among_in, in-among}
use Rattle.promises_rows.proofs.Ordering.{Ascending, Order, members-ascend, tick-order, ticks-ascend, heading-order, headings-ascend}
use Rattle.promises_calls.proofs.SlotsOnce.{Distinct, slots-distinct, valid-slots}

-- ---- two tables that are alike over a coverage

module _ (coverage : ℕ) (s t : Slots) (cells others : List ℤ) (S : Distinct s) (T : Distinct t) (A : AlikeOver coverage (view_of s cells) (view_of t others)) where
  -- the same values are held
  module _ {X : Type 0} (E : Same X) (l m : List X) (same : (x : X) → among E.eq l x ≡ among E.eq m x) where
    there : (x : X) → Memᴰ x l → Memᴰ x m
    there x k = in-member E m x (among_in E m x (sym (same x) ∙ in-among E l x (member-in E k)))

    back : (x : X) → Memᴰ x m → Memᴰ x l
    back x k = in-member E l x (among_in E l x (same x ∙ in-among E m x (member-in E k)))

    in_order :
        (le : X → X → Bool) {Below : X → X → Type 0} → Order Below → Ascending Below (ascending le l) → Ascending Below (ascending le m)
        → ascending le l ≡ ascending le m
    in_order le o a b = members-ascend le l m o a b there back

  pub same-ticks : ascending leb (held_ticks s.ticks) ≡ ascending leb (held_ticks t.ticks)
  unfolding has_tick
  same-ticks =
      in_order Same_ℕ (held_ticks s.ticks) (held_ticks t.ticks) A.ticks leb tick-order (ticks-ascend S.ticks) (ticks-ascend T.ticks)

  pub same-headings : ascending le_z (held_headings s) ≡ ascending le_z (held_headings t)
  unfolding has_heading
  same-headings =
      in_order Same_ℤ (held_headings s) (held_headings t) A.headings le_z heading-order (headings-ascend S.headings) (headings-ascend T.headings)

  pub same-frequencies : length (held_ticks s.ticks) ≡ length (held_ticks t.ticks)
  same-frequencies = sym (length-ascending leb _) ∙ ap length same-ticks ∙ length-ascending leb _

  pub same-held : s.held ≡ t.held
  same-held = sym S.count ∙ sym (length-ascending le_z _) ∙ ap length same-headings ∙ length-ascending le_z _ ∙ T.count

  pub same-pairs : pairs_of coverage s ≡ pairs_of coverage t
  unfolding pairs_of
  same-pairs = ap₂ (pairs_over coverage) same-ticks same-headings

-- the nodes of a pair that the coverage needs are held, in single coverage with one heading
module _ (coverage : ℕ) (s : Slots) where
  node-held : (a : Node) → Memᴰ a.tick (ascending leb (held_ticks s.ticks)) → Memᴰ a.heading (ascending le_z (held_headings s)) → has_node s a ≡ true
  unfolding has_node has_tick has_heading
  node-held a m n =
      let tick = in-among Same_ℕ (held_ticks s.ticks) a.tick (member-in Same_ℕ (ascending-only leb _ a.tick m)) in
      let heading = in-among Same_ℤ (held_headings s) a.heading (member-in Same_ℤ (ascending-only le_z _ a.heading n)) in
      λ i. tick i && heading i

  pub pair_held :
      (p : Pair) → Memᴰ p (pairs_of coverage s)
      → (has_node s p.first ≡ true) × (has_node s p.second ≡ true) × (coverage ≡ 0 → p.first.heading ≡ p.second.heading)
  unfolding pairs_of
  pair_held p m =
      let d = pairs-only coverage _ _ p m in
      (node-held p.first d.tick₁ d.heading₁, node-held p.second d.tick₂ d.heading₂, d.single)

pub get_or-member : {X : Type 0} (l : List X) (k : ℕ) (d : X) → k < length l → Memᴰ (get_or l k d) l
get_or-member [] k d h = absurd (omega arith)
get_or-member (x ∷ xs) zero d h = Memᴰ.head refl
get_or-member (x ∷ xs) (suc k) d h = Memᴰ.tail (get_or-member xs k d (omega arith))

-- ---- the lines

module _ (r q : Record) (cells others : List ℤ) (S : Distinct r.slots) (T : Distinct q.slots) (c : r.choices ≡ q.choices)
    (A : AlikeOver r.choices.coverage (view_of r.slots cells) (view_of q.slots others)) where
  title : title_text r ≡ title_text q
  unfolding title_text
  title =
      let frequencies = same-frequencies r.choices.coverage r.slots q.slots cells others S T A in
      let headings = same-held r.choices.coverage r.slots q.slots cells others S T A in
      λ i.
      spaced
      (bytes "QTF"
      ∷ cond (eqb (c i).kind 0) (bytes "difference") (bytes "sum")
      ∷ natural (c i).component
      ∷ cond (eqb (c i).coverage 0) (bytes "single") (bytes "full")
      ∷ natural (frequencies i)
      ∷ natural (headings i)
      ∷ [])

  pub same-needed : pairs_of r.choices.coverage r.slots ≡ pairs_of q.choices.coverage q.slots
  same-needed = same-pairs r.choices.coverage r.slots q.slots cells others S T A ∙ ap (λ (d : Choices). pairs_of d.coverage q.slots) c

  same-nth : (k : ℕ) → nth_of r.choices.coverage r.slots k ≡ nth_of q.choices.coverage q.slots k
  unfolding nth_of
  same-nth k = λ i. cond (ltb k (length (same-needed i))) (Some (get_or (same-needed i) k nowhere)) None

  pair_line : (k : ℕ) → nth_text (view_of r.slots cells) (nth_of r.choices.coverage r.slots k) ≡ nth_text (view_of q.slots others) (nth_of r.choices.coverage r.slots k)
  unfolding nth_of nth_text entry_at
  pair_line k =
      by-test (λ (n : Option Pair). nth_text (view_of r.slots cells) n ≡ nth_text (view_of q.slots others) n) (ltb k (length (pairs_of r.choices.coverage r.slots))) _ _
      (λ e.
      let p = get_or (pairs_of r.choices.coverage r.slots) k nowhere in
      let held = pair_held r.choices.coverage r.slots p (get_or-member _ k nowhere (ltb-true _ _ e)) in
      ap (pair_text p) (A.entries p.first p.second held.0 held.1 held.2))
      (λ e. refl)

  lines-alike : (k : ℕ) → text_of r cells k ≡ text_of q others k
  unfolding text_of
  lines-alike k =
      let rest = pair_line (k - 1) ∙ ap (nth_text (view_of q.slots others)) (same-nth (k - 1)) in
      λ i. cond (eqb k 0) (title i) (rest i)

pub text-alike : TextAlike
text-alike r q cells others shaped shaped' valid valid' c A k =
    lines-alike r q cells others (slots-distinct r shaped valid) (slots-distinct q shaped' valid') c A k

-- ---- the answer

-- where two numbers are one, a text for 0 alone is one where the texts are
chosen : (m n : ℕ) → m ≡ n → (a b : List ℕ) → (m ≡ 0 → n ≡ 0 → a ≡ b) → cond (eqb m 0) a [] ≡ cond (eqb n 0) b []
chosen m n e a b f = go (eqb m 0) refl ∙ ap (λ (k : ℕ). cond (eqb k 0) b []) e
  where
    go : (t : Bool) → eqb m 0 ≡ t → cond t a [] ≡ cond t b []
    go true z = let zero-m = eqb-true m 0 z in f zero-m (sym e ∙ zero-m)
    go false z = refl

-- a query that nothing bars has valid slots
not-barred : (r : Record) (n : ℕ) → query_barred r n ≡ 0 → valid_slots r.marks.stage r.slots ≡ true
unfolding query_barred
not-barred r n =
    by-test (λ (m : ℕ). m ≡ 0 → valid_slots r.marks.stage r.slots ≡ true) (ltb n 12_800) _ _
    (λ _ z. absurd (omega arith))
    (λ _.
    by-test (λ (m : ℕ). m ≡ 0 → valid_slots r.marks.stage r.slots ≡ true) (valid_of r && eqb r.marks.stage 2) _ _
    (λ e _. valid-slots r (both (valid_of r) (eqb r.marks.stage 2) e).0)
    (λ _ z. absurd (omega arith)))

pub listing-alike : ListingAlike
unfolding listed
listing-alike r q cells others shaped shaped' barred c A k =
    let line =
    chosen (query_barred r (length cells)) (query_barred q (length others)) barred (text_of r cells k) (text_of q others k)
    (λ e f. text-alike r q cells others shaped shaped' (not-barred r _ e) (not-barred q _ f) c A k)
    in
    λ i. record { number = barred i; line = line_of (line i) }
