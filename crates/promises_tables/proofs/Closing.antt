-- What closing answers over a table that holds rows, in the words of the rules: 10, 11 with its pair, or accepted with the two counts; and that the rules leave one answer.
-- Assumes nothing.
use mathlib.Core.Bool.{Bool, true, false, not, ◌&&◌, false≢true, true≢false}
use mathlib.Core.List.Memᴰ
use mathlib.Core.List.{
  List,
  [],
  ◌∷◌,
  ◌++◌,
  Memᴰ,
}
use mathlib.Core.Logic.{◌⊎◌, inl, inr, ⊎_elim}
use mathlib.Core.Path.{◌≡◌, refl, sym, ap, ap₂, ◌∙◌, subst}
use Prim.Native.Nat.{ℕ}
use native.Mathlib.Omega.{arith}
use native.Mathlib.Decide.{dec_lt}
use lib.Dec.{eqb, leb}
use lib.ListN.{length}
use lib.Signed.{le_z}
use borrow.Author.Tests.{eqb-true, eqb-false}
use Rattle.whole.specs.Complex.{Complex}
use Rattle.whole.proofs.OrderLaws.{lt_ℤ-or-ge, ≤ℤ-antisymm}
use Rattle.row.specs.declared.reading.Entry.{Entry}
use Rattle.row.proofs.Used.{by-test}
use Rattle.row.proofs.Deciding.{both}
use Rattle.grid.specs.declared.nodes.Node.{Node}
use Rattle.grid.specs.declared.nodes.Pair.{Pair}
use Rattle.grid.specs.declared.nodes.Slots.{Slots}
use Rattle.table.specs.declared.closing.Closed.{Closed}
use Rattle.grid.specs.Slots.{held_ticks, held_headings}
use Rattle.table.specs.Cells.{is_set}
use Rattle.table.specs.Pairs.{ascending, pairs_over, pairs_of}
use Rattle.table.specs.Placing.{Table}
use Rattle.table.specs.Closing.{both_set, closed_over, closed_of}
use Rattle.table.proofs.Ascending.{ascending-only, ascending-has}
use Rattle.table.proofs.Drawn.{pairs-only, pairs-have}
use Rattle.promises_rows.specs.Said.{mirror_of, Said, arrived, distinct, EachOnce, two_of, ticks_said, headings_said, ticks_of, headings_of}
use Rattle.promises_tables.specs.Rules.{Needed, Complete, NodeBelow, PairBelow, Missing}
use Rattle.promises_rows.specs.Said.{Over}
use Rattle.promises_tables.specs.Holds.{FlaggedCell, flagged_at, Holds}
use Rattle.promises_tables.specs.Closing.{Closes, ClosedIs, ClosesOne, ClosedExactly}
use Rattle.promises_tables.specs.Closing.Closes.{no_row, lacks, every-pair}
use Rattle.promises_rows.proofs.Equality.{Same_ℕ, Same_ℤ, node-path}
use Rattle.promises_rows.proofs.Arriving.{member-in}
use Rattle.promises_rows.proofs.Distinct.{distinct-once, distinct-members, members-distinct, ticks-distinct, headings-distinct}
use Rattle.promises_tables.proofs.Held.{ticks-count, headings-count}
use Rattle.promises_rows.proofs.Said.{said-swap, row-over}
use Rattle.promises_rows.proofs.Ordering.{Ascending, Order, ascending-behind, members-ascend, tick-order, ticks-ascend, heading-order, headings-ascend}
use Rattle.promises_tables.proofs.Pairs.{node-order, pair-asymmetric, pairs-ascend}
use Rattle.promises_tables.proofs.FlaggedCells.{cell_of, said-cell, said-or-blank}

-- ---- the first pair that is not said

pub data Found (s : Slots) (flags : List ℕ) (ps : List Pair) (frequencies headings : ℕ) : Closed → Type 0 where
  all_said : ((p : Pair) → Memᴰ p ps → both_set s flags p ≡ true) → Found s flags ps frequencies headings (Closed.Complete frequencies headings)
  first-unsaid :
      (before : List Pair) (p : Pair) (behind : List Pair) → ps ≡ before ++ (p ∷ behind)
      → ((q : Pair) → Memᴰ q before → both_set s flags q ≡ true)
      → both_set s flags p ≡ false
      → Found s flags ps frequencies headings (Closed.Missing p)

module _ (s : Slots) (flags : List ℕ) (frequencies headings : ℕ) where
  further :
      (p : Pair) (ps : List Pair) → both_set s flags p ≡ true → (c : Closed) → Found s flags ps frequencies headings c
      → Found s flags (p ∷ ps) frequencies headings c
  further p ps e c (all_said f) =
      all_said (λ q m. ⊎_elim (λ z. subst (λ (w : Pair). both_set s flags w ≡ true) (sym z) e) (f q) (Memᴰ.cases_cons m))
  further p ps e c (first-unsaid before q behind w f t) =
      first-unsaid (p ∷ before) q behind (ap (λ (l : List Pair). p ∷ l) w)
      (λ u m. ⊎_elim (λ z. subst (λ (v : Pair). both_set s flags v ≡ true) (sym z) e) (f u) (Memᴰ.cases_cons m))
      t

  pub found : (ps : List Pair) → Found s flags ps frequencies headings (closed_over frequencies headings s flags ps)
  unfolding closed_over
  found [] = all_said (λ p m. absurd (Memᴰ.not-nil m))
  found (p ∷ ps) =
      let below = found ps in
      by-test (Found s flags (p ∷ ps) frequencies headings) (both_set s flags p) _ _
      (λ e. further p ps e _ below)
      (λ e. first-unsaid [] p ps refl (λ q m. absurd (Memᴰ.not-nil m)) e)

-- ---- nodes over the frequencies and headings of rows

-- one node is below the other, or they are one
pub node-cases : (a b : Node) → NodeBelow a b ⊎ ((a ≡ b) ⊎ NodeBelow b a)
node-cases a b =
    ⊎_elim
    (λ h. inl (inl h))
    (λ above.
    ⊎_elim
    (λ h. inr (inr (inl h)))
    (λ below.
    let one : a.heading ≡ b.heading = ≤ℤ-antisymm below above in
    elim (dec_lt a.tick b.tick) [
      | yes h ↦ inl (inr (one, h))
      | no h ↦
          elim (dec_lt b.tick a.tick) [
            | yes k ↦ inr (inr (inr (sym one, k)))
            | no k ↦ inr (inl (node-path (omega arith) one))
          ]
    ])
    (lt_ℤ-or-ge b.heading a.heading))
    (lt_ℤ-or-ge a.heading b.heading)

needed-swap : {coverage : ℕ} {rows : List Entry} {a b : Node} → Needed coverage rows a b → Needed coverage rows b a
needed-swap n = record { first = n.second; second = n.first; single = λ z. sym (n.single z) }

abbrev pub swapped : Pair → Pair
swapped p = record { first = p.second; second = p.first }

-- a pair that does not stand behind itself swapped has its first node not above its second
pub not-above : (p : Pair) → (swapped p ≡ p) ⊎ PairBelow p (swapped p) → (p.first ≡ p.second) ⊎ NodeBelow p.first p.second
not-above p first =
    ⊎_elim
    (λ h. inr h)
    (λ w.
    ⊎_elim
    (λ e. inl e)
    (λ h.
    absurd
    (⊎_elim
    (λ e. node-order.irreflexive _ (subst (λ (z : Node). NodeBelow z p.first) (ap (λ (q : Pair). q.first) e) h))
    (λ b. pair-asymmetric p (swapped p) b (inl h))
    first))
    w)
    (node-cases p.first p.second)

-- ---- the pairs of the rows

module _ (coverage : ℕ) (rows : List Entry) where
  abbrev listed : List Pair
  listed = pairs_over coverage (ascending leb (ticks_of rows)) (ascending le_z (headings_of rows))

  listed-ascend : Ascending PairBelow listed
  unfolding ticks_of headings_of
  listed-ascend =
      pairs-ascend coverage _ _
      (ticks-ascend (distinct-once Same_ℕ (ticks_said rows)))
      (headings-ascend (distinct-once Same_ℤ (headings_said rows)))

  over-listed : (a : Node) → Over rows a → Memᴰ a.tick (ascending leb (ticks_of rows)) × Memᴰ a.heading (ascending le_z (headings_of rows))
  unfolding ticks_of headings_of
  over-listed a o = (
    ascending-has leb _ a.tick (members-distinct Same_ℕ (ticks_said rows) a.tick o.tick),
    ascending-has le_z _ a.heading (members-distinct Same_ℤ (headings_said rows) a.heading o.heading),
  )

  listed-over : (a : Node) → Memᴰ a.tick (ascending leb (ticks_of rows)) → Memᴰ a.heading (ascending le_z (headings_of rows)) → Over rows a
  unfolding ticks_of headings_of
  listed-over a m n =
      record {
        tick = distinct-members Same_ℕ (ticks_said rows) a.tick (ascending-only leb _ a.tick m);
        heading = distinct-members Same_ℤ (headings_said rows) a.heading (ascending-only le_z _ a.heading n);
      }

  needed-listed : (p : Pair) → Needed coverage rows p.first p.second → Memᴰ p listed
  needed-listed p n =
      let f = over-listed p.first n.first in
      let g = over-listed p.second n.second in
      pairs-have coverage _ _ p
      (record { tick₁ = f.0; heading₁ = f.1; tick₂ = g.0; heading₂ = g.1; single = n.single })

  listed-needed : (p : Pair) → Memᴰ p listed → Needed coverage rows p.first p.second
  listed-needed p m =
      let d = pairs-only coverage _ _ p m in
      record {
        first = listed-over p.first d.tick₁ d.heading₁;
        second = listed-over p.second d.tick₂ d.heading₂;
        single = d.single;
      }

-- ---- the answer

none_of : (rows : List Entry) → length (ticks_of rows) ≡ 0 → rows ≡ []
none_of [] e = refl
none_of (r ∷ rows) e =
    let h = member-in Same_ℕ (((ticks-distinct (r ∷ rows)).values r.tick1).1 (row-over {rows = r ∷ rows} (Memᴰ.head refl)).0.tick) in absurd (omega arith)

none_read : length (ticks_of []) ≡ 0
unfolding ticks_of two_of distinct arrived
none_read = refl

-- two lists of the same values, each once, are one list in ascending order
each-ascending :
    {A : Type 0} (le : A → A → Bool) {Below : A → A → Type 0} {l m said : List A} → Order Below → Ascending Below (ascending le l) → Ascending Below (ascending le m)
    → EachOnce l said → EachOnce m said
    → ascending le l ≡ ascending le m
each-ascending le o up up' a b = members-ascend le _ _ o up up' (λ x k. (b.values x).1 ((a.values x).0 k)) (λ x k. (a.values x).1 ((b.values x).0 k))

module _ (kind coverage : ℕ) (rows : List Entry) (t : Table) (H : Holds kind rows t) where
  pairs-are : pairs_of coverage t.slots ≡ listed coverage rows
  unfolding pairs_of held_headings
  pairs-are =
      ap₂ (pairs_over coverage)
      (each-ascending leb tick-order (ticks-ascend H.ticks.each.once) (ticks-ascend (ticks-distinct rows).once) H.ticks.each (ticks-distinct rows))
      (each-ascending le_z heading-order (headings-ascend H.headings.each.once) (headings-ascend (headings-distinct rows).once) H.headings.each (headings-distinct rows))

  -- both flags are set exactly when a row says the pair
  abbrev set : Node → Node → Bool
  set a b = not (eqb (cell_of t a b).flag 0)

  said-is : (p : Pair) → both_set t.slots t.flags p ≡ set p.first p.second && set p.second p.first
  unfolding both_set is_set flagged_at
  said-is p = refl

  both-set : (p : Pair) (v : Complex) → Said kind rows p.first p.second v → both_set t.slots t.flags p ≡ true
  both-set p v o =
      said-is p
      ∙ (λ i.
      not (eqb (said-cell kind rows t H p.first p.second v o i).flag 0)
      && not (eqb (said-cell kind rows t H p.second p.first (mirror_of kind v) (said-swap o) i).flag 0))

  said_of : (p : Pair) → Needed coverage rows p.first p.second → both_set t.slots t.flags p ≡ true → (v : Complex) × Said kind rows p.first p.second v
  said_of p n e =
      ⊎_elim
      (λ o. o)
      (λ z.
      absurd
      (false≢true
      (sym (ap (λ (s : FlaggedCell). not (eqb s.flag 0)) z)
      ∙ (both (set p.first p.second) (set p.second p.first) (sym (said-is p) ∙ e)).0)))
      (said-or-blank kind rows t H p.first p.second n.first n.second)

  -- what is not said one way is not said the other way
  unsaid-swap : (p : Pair) → both_set t.slots t.flags p ≡ false → both_set t.slots t.flags (swapped p) ≡ true → ⊥
  unsaid-swap p e f =
      let g = both (set p.second p.first) (set p.first p.second) (sym (said-is (swapped p)) ∙ f) in
      true≢false (sym (said-is p ∙ (λ i. g.1 i && g.0 i)) ∙ e)

  complete : ((p : Pair) → Memᴰ p (listed coverage rows) → both_set t.slots t.flags p ≡ true) → Complete kind coverage rows
  complete f a b n =
      let p : Pair = record { first = a; second = b } in
      said_of p n (f p (needed-listed coverage rows p n))

  module _ (before : List Pair) (p : Pair) (behind : List Pair) (split : listed coverage rows ≡ before ++ (p ∷ behind))
      (said : (q : Pair) → Memᴰ q before → both_set t.slots t.flags q ≡ true) (none : both_set t.slots t.flags p ≡ false) where
    needed : Needed coverage rows p.first p.second
    needed = listed-needed coverage rows p (subst (Memᴰ p) (sym split) (Memᴰ.append_right before (Memᴰ.head refl)))

    -- a pair of the list that no row says is this one, or stands behind it
    not-before : (q : Pair) → Needed coverage rows q.first q.second → (both_set t.slots t.flags q ≡ true → ⊥) → (q ≡ p) ⊎ PairBelow p q
    not-before q n unsaid =
        ⊎_elim
        (λ m. absurd (unsaid (said q m)))
        (λ m.
        ⊎_elim
        (λ z. inl z)
        (λ k. inr (ascending-behind before p behind (subst (Ascending PairBelow) split (listed-ascend coverage rows)) q k))
        (Memᴰ.cases_cons m))
        (Memᴰ.append_cases before (subst (Memᴰ q) split (needed-listed coverage rows q n)))

    -- its first node is not above its second: the pair swapped would stand before it
    order : (p.first ≡ p.second) ⊎ NodeBelow p.first p.second
    order = not-above p (not-before (swapped p) (needed-swap needed) (unsaid-swap p none))

    missing : Missing kind coverage rows p
    missing =
        record {
          lacking = record { needed = needed; order = order; unsaid = λ v o. true≢false (sym (both-set p v o) ∙ none) };
          least = λ q u. not-before q u.needed (λ e. let o = said_of q u.needed e in u.unsaid o.0 o.1);
        }

  by-found :
      (length (ticks_of rows) ≡ 0 → ⊥) → (c : Closed)
      → Found t.slots t.flags (listed coverage rows) (length (ticks_of rows)) (length (headings_of rows)) c
      → Closes kind coverage rows c
  by-found some c (all_said f) = every-pair (λ e. some (ap (λ (l : List Entry). length (ticks_of l)) e ∙ none_read)) (complete f)
  by-found some c (first-unsaid before p behind split said none) = lacks (missing before p behind split said none)

  closed-is-of : Closes kind coverage rows (closed_of coverage t.slots t.flags)
  unfolding closed_of
  closed-is-of =
      let count = ticks-count rows H.ticks in
      by-test (Closes kind coverage rows) (eqb (length (held_ticks t.slots.ticks)) 0) _ _
      (λ e. no_row (none_of rows (sym count ∙ eqb-true _ 0 e)))
      (λ e.
      by-found (λ z. eqb-false _ 0 e (count ∙ z)) _
      (rw (sym pairs-are, sym count, sym (headings-count rows H.headings)) (found t.slots t.flags _ _ (pairs_of coverage t.slots))))

pub closed_is : ClosedIs
closed_is = closed-is-of

-- ---- one answer

missing-one : {kind coverage : ℕ} {rows : List Entry} {p q : Pair} → Missing kind coverage rows p → Missing kind coverage rows q → p ≡ q
missing-one {p = p} {q = q} m n =
    ⊎_elim
    (λ e. sym e)
    (λ h. ⊎_elim (λ e. e) (λ g. absurd (pair-asymmetric p q h g)) (n.least p m.lacking))
    (m.least q n.lacking)

none-missing : {kind coverage : ℕ} {rows : List Entry} {p : Pair} → rows ≡ [] → Missing kind coverage rows p → ⊥
unfolding two_of
none-missing {p = p} e m =
    Memᴰ.not-nil (subst (λ (l : List Entry). Memᴰ p.first.tick (ticks_said l)) e m.lacking.needed.first.tick)

not-missing : {kind coverage : ℕ} {rows : List Entry} {p : Pair} → Complete kind coverage rows → Missing kind coverage rows p → ⊥
not-missing {p = p} f m = let o = f p.first p.second m.lacking.needed in m.lacking.unsaid o.0 o.1

one_answer : {kind coverage : ℕ} {rows : List Entry} {c d : Closed} → Closes kind coverage rows c → Closes kind coverage rows d → c ≡ d
one_answer (no_row e) (no_row f) = refl
one_answer (no_row e) (lacks m) = absurd (none-missing e m)
one_answer (no_row e) (every-pair n f) = absurd (n e)
one_answer (lacks m) (no_row e) = absurd (none-missing e m)
one_answer (lacks m) (lacks n) = ap Closed.Missing (missing-one m n)
one_answer (lacks m) (every-pair n f) = absurd (not-missing f m)
one_answer (every-pair n f) (no_row e) = absurd (n e)
one_answer (every-pair n f) (lacks m) = absurd (not-missing f m)
one_answer (every-pair n f) (every-pair m g) = refl

pub closes-one : ClosesOne
closes-one kind coverage rows c d = one_answer

pub closed-exactly : ClosedExactly
closed-exactly kind coverage rows t H c = (
  (λ e. subst (Closes kind coverage rows) e (closed_is kind coverage rows t H)),
  (λ v. one_answer (closed_is kind coverage rows t H) v),
)
