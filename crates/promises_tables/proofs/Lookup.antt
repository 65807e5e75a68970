-- A table by values is what its rows say. Assumes nothing.
use mathlib.Core.Bool.{Bool, true, false, cond, ◌&&◌}
use mathlib.Core.List.Memᴰ
use mathlib.Core.List.{List, [], ◌∷◌, Memᴰ}
use mathlib.Core.Logic.{⊎_elim}
use mathlib.Core.Path.{◌≡◌, refl, sym, ap, ◌∙◌, subst}
use Prim.Native.Nat.{ℕ}
use native.Mathlib.Omega.{arith}
use lib.Dec.{eqb}
use lib.IntN.{ℤ}
use Rattle.whole.specs.Complex.{Complex, conj}
use Rattle.row.specs.declared.reading.Entry.{Entry}
use Rattle.row.proofs.Deciding.{both}
use Rattle.grid.specs.declared.nodes.Node.{Node}
use Rattle.grid.specs.Slots.{held_ticks, held_headings}
use Rattle.table.specs.Placing.{Table}
use Rattle.table.specs.Entries.{entry_at}
use Rattle.table.specs.View.{has_tick, has_heading, has_node, view_of}
use Rattle.promises_rows.specs.Said.{first_of, second_of, mirror_of, Said, two_of, ticks_said, headings_said}
use Rattle.promises_rows.specs.Said.Says.{directly}
use Rattle.promises_tables.specs.Rules.{Consistent}
use Rattle.promises_rows.specs.Said.{Over}
use Rattle.promises_tables.specs.Holds.{FlaggedCell, flagged_at, blank, Holds}
use Rattle.promises_rows.specs.ByValue.{Alike}
use Rattle.promises_tables.specs.Lookup.{
  TicksHeld,
  HeadingsHeld,
  Looked,
  EntryLooked,
  EntrySwapped,
  SameSaid,
  TablesAlike,
  SameRows,
  OrderAlike,
}
use Rattle.promises_tables.specs.Lookup.Looked.{said, unsaid}
use Rattle.promises_rows.proofs.Members.{tick-mem, mem-tick, heading-mem, mem-heading}
use Rattle.promises_rows.proofs.Said.{said-swap, said-over}
use Rattle.promises_tables.proofs.Placed.{row-rules}
use Rattle.promises_tables.proofs.FlaggedCells.{said-cell, said-or-blank}

-- ---- ticks and headings

-- what holds of both values of each row holds of every value
pub two-each :
    {A : Type 0} (first second : Entry → A) (P : A → Type 0) (rows : List Entry) → ((e : Entry) → Memᴰ e rows → P (first e) × P (second e))
    → (x : A) → Memᴰ x (two_of first second rows)
    → P x
unfolding two_of
two-each first second P [] f x m = absurd (Memᴰ.not-nil m)
two-each first second P (e ∷ rows) f x m =
    let g = f e (Memᴰ.head refl) in
    ⊎_elim
    (λ z. subst P (sym z) g.0)
    (λ n. ⊎_elim (λ z. subst P (sym z) g.1) (two-each first second P rows (λ d k. f d (Memᴰ.tail k)) x) (Memᴰ.cases_cons n))
    (Memᴰ.cases_cons m)

pub ticks-held : TicksHeld
unfolding has_tick
ticks-held kind rows t H f = (
  (λ e. (H.ticks.each.values f).0 (tick-mem (held_ticks t.slots.ticks) f e)),
  (λ o. mem-tick (held_ticks t.slots.ticks) f ((H.ticks.each.values f).1 o)),
)

pub headings-held : HeadingsHeld
unfolding has_heading held_headings
headings-held kind rows t H h = (
  (λ e. (H.headings.each.values h).0 (heading-mem (held_headings t.slots) h e)),
  (λ o. mem-heading (held_headings t.slots) h ((H.headings.each.values h).1 o)),
)

-- a node that the table has is over the rows
pub has-over : (kind : ℕ) (rows : List Entry) (t : Table) → Holds kind rows t → (a : Node) → has_node t.slots a ≡ true → Over rows a
unfolding has_node
has-over kind rows t H a e =
    let f = both (has_tick t.slots a.tick) (has_heading t.slots a.heading) e in
    record { tick = (ticks-held kind rows t H a.tick).0 f.0; heading = (headings-held kind rows t H a.heading).0 f.1 }

-- ---- entries

module _ (kind : ℕ) (rows : List Entry) (t : Table) (H : Holds kind rows t) (a b : Node) where
  -- what is said stands there
  pub entry-said : (v : Complex) → Said kind rows a b v → entry_at t.slots t.cells a b ≡ v
  unfolding entry_at flagged_at
  entry-said v o = ap (λ (s : FlaggedCell). s.value) (said-cell kind rows t H a b v o)

  module _ (ha : has_node t.slots a ≡ true) (hb : has_node t.slots b ≡ true) where
    looked : Looked kind rows a b (entry_at t.slots t.cells a b)
    unfolding entry_at flagged_at
    looked =
        ⊎_elim
        (λ o. subst (Looked kind rows a b) (sym (entry-said o.0 o.1)) (said o.1))
        (λ z.
        subst (Looked kind rows a b) (sym (ap (λ (s : FlaggedCell). s.value) z))
        (unsaid (λ v o. zero≢one (sym (ap (λ (s : FlaggedCell). s.flag) z) ∙ ap (λ (s : FlaggedCell). s.flag) (said-cell kind rows t H a b v o)))))
        (said-or-blank kind rows t H a b (has-over kind rows t H a ha) (has-over kind rows t H b hb))
      where
        zero≢one : ◌≡◌ {A = ℕ} 0 1 → ⊥
        zero≢one e = omega arith

pub entry-looked : EntryLooked
entry-looked = looked

-- rows that agree come to one value
looked-one : {kind : ℕ} {rows more : List Entry} {a b : Node} {v w : Complex}
    → SameSaid kind rows more → Consistent kind more → Looked kind rows a b v → Looked kind more a b w → v ≡ w
looked-one {a = a} {b = b} same c (said {v = v} o) (said {v = w} u) = c a b v w ((same a b v).0 o) u
looked-one {a = a} {b = b} same c (said {v = v} o) (unsaid n) = absurd (n v ((same a b v).0 o))
looked-one {a = a} {b = b} same c (unsaid n) (said {v = w} u) = absurd (n w ((same a b w).1 u))
looked-one same c (unsaid n) (unsaid m) = refl

mirror-zero : (kind : ℕ) → mirror_of kind blank.value ≡ blank.value
unfolding mirror_of
mirror-zero kind = go (eqb kind 0)
  where
    go : (t : Bool) → cond t (conj blank.value) blank.value ≡ blank.value
    go true = refl
    go false = refl

looked-swap : {kind : ℕ} {rows : List Entry} {a b : Node} {v : Complex} → Looked kind rows a b v → Looked kind rows b a (mirror_of kind v)
looked-swap (said o) = said (said-swap o)
looked-swap {kind} {rows} {a} {b} (unsaid n) =
    subst (Looked kind rows b a) (sym (mirror-zero kind)) (unsaid (λ v o. n (mirror_of kind v) (said-swap o)))

pub entry-swapped : EntrySwapped
entry-swapped kind rows t H a b ha hb =
    looked-one (λ _ _ _. ((λ o. o), (λ o. o))) (row-rules H).consistent (looked kind rows t H b a hb ha) (looked-swap (looked kind rows t H a b ha hb))

-- ---- two lists of rows

-- what rows say tells their ticks and headings
module _ {kind : ℕ} {rows more : List Entry} (same : (a b : Node) (v : Complex) → Said kind rows a b v → Said kind more a b v) where
  row-said : (e : Entry) → Memᴰ e rows → Over more (first_of e) × Over more (second_of e)
  row-said e m = said-over (same _ _ _ (record { row = e; listed = m; says = directly }))

  pub tick-said : (f : ℕ) → Memᴰ f (ticks_said rows) → Memᴰ f (ticks_said more)
  tick-said =
      two-each (λ e. e.tick1) (λ e. e.tick2) (λ f. Memᴰ f (ticks_said more)) rows
      (λ e m. let k = row-said e m in (k.0.tick, k.1.tick))

  pub heading-said : (h : ℤ) → Memᴰ h (headings_said rows) → Memᴰ h (headings_said more)
  heading-said =
      two-each (λ e. e.heading1) (λ e. e.heading2) (λ h. Memᴰ h (headings_said more)) rows
      (λ e m. let k = row-said e m in (k.0.heading, k.1.heading))

-- two tests that hold together are one
one-test : (s t : Bool) → (s ≡ true → t ≡ true) → (t ≡ true → s ≡ true) → s ≡ t
one-test true t f g = sym (f refl)
one-test false true f g = g refl
one-test false false f g = refl

module _ (kind : ℕ) (rows more : List Entry) (t u : Table) (H : Holds kind rows t) (J : Holds kind more u) (same : SameSaid kind rows more) where
  there : (a b : Node) (v : Complex) → Said kind rows a b v → Said kind more a b v
  there a b v = (same a b v).0

  back : (a b : Node) (v : Complex) → Said kind more a b v → Said kind rows a b v
  back a b v = (same a b v).1

  same-ticks : (f : ℕ) → has_tick t.slots f ≡ has_tick u.slots f
  same-ticks f =
      one-test _ _
      (λ e. (ticks-held kind more u J f).1 (tick-said there f ((ticks-held kind rows t H f).0 e)))
      (λ e. (ticks-held kind rows t H f).1 (tick-said back f ((ticks-held kind more u J f).0 e)))

  same-headings : (h : ℤ) → has_heading t.slots h ≡ has_heading u.slots h
  same-headings h =
      one-test _ _
      (λ e. (headings-held kind more u J h).1 (heading-said there h ((headings-held kind rows t H h).0 e)))
      (λ e. (headings-held kind rows t H h).1 (heading-said back h ((headings-held kind more u J h).0 e)))

  same-node : (a : Node) → has_node t.slots a ≡ true → has_node u.slots a ≡ true
  unfolding has_node
  same-node a e = (λ i. sym (same-ticks a.tick) i && sym (same-headings a.heading) i) ∙ e

  alike : Alike (view_of t.slots t.cells) (view_of u.slots u.cells)
  alike =
      record {
        ticks = same-ticks;
        headings = same-headings;
        entries = λ a b ha hb.
            looked-one same (row-rules J).consistent (looked kind rows t H a b ha hb) (looked kind more u J a b (same-node a ha) (same-node b hb));
      }

pub tables-alike : TablesAlike
tables-alike = alike

pub same-rows-said : (kind : ℕ) (rows more : List Entry) → SameRows rows more → SameSaid kind rows more
same-rows-said kind rows more same a b v = (
  (λ o. record { row = o.row; listed = (same o.row).0 o.listed; says = o.says }),
  (λ o. record { row = o.row; listed = (same o.row).1 o.listed; says = o.says }),
)

pub order_alike : OrderAlike
order_alike kind rows more t u H J same = tables-alike kind rows more t u H J (same-rows-said kind rows more same)
