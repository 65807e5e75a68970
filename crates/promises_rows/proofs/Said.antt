-- What rows say: by cases, of one more row, and that the nodes said are over the rows. Assumes nothing.
use mathlib.Core.Bool.{Bool, true, false, cond}
use mathlib.Core.List.Memᴰ
use mathlib.Core.List.{
  List,
  [],
  ◌∷◌,
  ◌++◌,
  Memᴰ,
}
use mathlib.Core.Logic.{◌⊎◌, inl, inr, ⊎_elim}
use mathlib.Core.Path.{◌≡◌, refl, sym, ap, ◌∙◌, subst}
use Prim.Native.Nat.{ℕ, ◌≤◌}
use borrow.Author.Tests.{eqb-true}
use lib.Dec.{eqb}
use lib.IntN.{ℤ, pos, neg_ℤ, neg_ℤ-neg_ℤ}
use lib.ListN.{length}
use Rattle.whole.proofs.OrderLaws.{<ℤ→≤ℤ}
use Rattle.whole.specs.Same.{same_ℤ}
use Rattle.whole.specs.Complex.{Complex, conj}
use Rattle.whole.proofs.Same.{same_ℤ-no}
use Rattle.row.specs.declared.reading.Choices.{Choices}
use Rattle.row.specs.declared.reading.Entry.{Entry}
use Rattle.row.proofs.Used.{Usable}
use Rattle.grid.specs.declared.nodes.Node.{Node}
use Rattle.table.specs.Cells.{opposite, mirror}
use Rattle.table.specs.Placing.{value_of}
use Rattle.promises_rows.specs.Said.{
  first_of,
  second_of,
  Within,
  Proper,
  mirror_of,
  Says,
  Said,
  arrive,
  distinct,
  two_of,
  ticks_said,
  headings_said,
  ticks_of,
  headings_of,
}
use Rattle.promises_rows.specs.Said.Says.{directly, mirrored}
use Rattle.promises_rows.specs.Said.{Over}
use Rattle.promises_rows.proofs.Equality.{Same, Same_ℕ, Same_ℤ, value-path}
use Rattle.promises_rows.proofs.Arriving.{distinct_more, distinct-length}

-- ---- a row that is used is proper

pub usable-proper : (c : Choices) {e : Entry} → Usable c e → Proper c.kind e
usable-proper c u =
    record {
      tick1 = record { low = u.tick1.low; high = u.tick1.high };
      tick2 = record { low = u.tick2.low; high = u.tick2.high };
      heading1 = record { above = <ℤ→≤ℤ u.heading1.above; below = u.heading1.below };
      heading2 = record { above = <ℤ→≤ℤ u.heading2.above; below = u.heading2.below };
      re = record { above = u.re.above; below = u.re.below };
      im = record { above = u.im.above; below = u.im.below };
      real = λ zero one. u.real zero (ap (λ (a : Node). a.tick) one) (ap (λ (a : Node). a.heading) one);
    }

-- ---- mirrors

-- a part in range has its opposite in a cell
opposite-is : (z : ℤ) → Within 1_000_000_000 z → opposite z ≡ neg_ℤ z
unfolding opposite
opposite-is z w = rw (same_ℤ-no z (neg_ℤ (pos 2_147_483_648)) (λ e. far (subst (Within 1_000_000_000) e w)))
  where
    far : Within 1_000_000_000 (neg_ℤ (pos 2_147_483_648)) → ⊥
    far h = absurd h.above.le

-- so the table's mirror is the rule's
pub mirror-is : {kind : ℕ} {e : Entry} → Proper kind e → mirror kind (value_of e) ≡ mirror_of kind (value_of e)
unfolding mirror mirror_of
mirror-is {kind} {e} p = go (eqb kind 0)
  where
    go : (t : Bool) → record { re = e.re; im = cond t (opposite e.im) e.im } ≡ cond t (conj (value_of e)) (value_of e)
    go true = value-path refl (opposite-is e.im p.im)
    go false = refl

-- twice over it is the value
pub mirror_of-twice : (kind : ℕ) (v : Complex) → mirror_of kind (mirror_of kind v) ≡ v
unfolding mirror_of
mirror_of-twice kind v = go (eqb kind 0)
  where
    go : (t : Bool) → cond t (conj (cond t (conj v) v)) (cond t (conj v) v) ≡ v
    go true = value-path refl (neg_ℤ-neg_ℤ v.im)
    go false = refl

-- a proper row that has one node twice says one thing
pub proper-mirror : {kind : ℕ} {e : Entry} → Proper kind e → first_of e ≡ second_of e → mirror_of kind (value_of e) ≡ value_of e
unfolding mirror_of
proper-mirror {kind} {e} p one = go (eqb kind 0) refl
  where
    go : (t : Bool) → eqb kind 0 ≡ t → cond t (conj (value_of e)) (value_of e) ≡ value_of e
    go true z = let none = p.real (eqb-true kind 0 z) one in value-path refl (ap neg_ℤ none ∙ sym none)
    go false z = refl

-- ---- a row says two things, one the mirror of the other

pub says-cases :
    {kind : ℕ} {e : Entry} (P : Node → Node → Complex → Type 0) → P (first_of e) (second_of e) (value_of e)
    → P (second_of e) (first_of e) (mirror_of kind (value_of e))
    → {a b : Node} {v : Complex} → Says kind e a b v → P a b v
says-cases P f g directly = f
says-cases P f g mirrored = g

pub says-swap : {kind : ℕ} {e : Entry} {a b : Node} {v : Complex} → Says kind e a b v → Says kind e b a (mirror_of kind v)
says-swap {kind} {e} s =
    says-cases {kind = kind} {e = e} (λ a b v. Says kind e b a (mirror_of kind v)) mirrored
    (subst (λ (w : Complex). Says kind e (first_of e) (second_of e) w) (sym (mirror_of-twice kind (value_of e))) directly)
    s

-- "swapping both frequency and heading conjugates a difference entry and keeps a sum entry"
pub said-swap : {kind : ℕ} {rows : List Entry} {a b : Node} {v : Complex} → Said kind rows a b v → Said kind rows b a (mirror_of kind v)
said-swap s = record { row = s.row; listed = s.listed; says = says-swap s.says }

-- ---- one more row

pub said-before :
    {kind : ℕ} {rows : List Entry} (more : List Entry) {a b : Node} {v : Complex} → Said kind rows a b v → Said kind (rows ++ more) a b v
said-before more s = record { row = s.row; listed = Memᴰ.append_left more s.listed; says = s.says }

pub said-last :
    {kind : ℕ} (rows : List Entry) {e : Entry} {a b : Node} {v : Complex} → Says kind e a b v → Said kind (rows ++ (e ∷ [])) a b v
said-last rows {e} s = record { row = e; listed = Memᴰ.append_right rows (Memᴰ.head refl); says = s }

pub said-cases :
    {kind : ℕ} (rows : List Entry) (e : Entry) {a b : Node} {v : Complex} → Said kind (rows ++ (e ∷ [])) a b v
    → Said kind rows a b v ⊎ Says kind e a b v
said-cases {kind} rows e {a} {b} {v} s =
    ⊎_elim
    (λ m. inl (record { row = s.row; listed = m; says = s.says }))
    (λ m. inr (subst (λ (q : Entry). Says kind q a b v) (Memᴰ.eq_of_singleton m) s.says))
    (Memᴰ.append_cases rows s.listed)

-- ---- two values of each row

module _ {A : Type 0} (first second : Entry → A) where
  two-append : (rows more : List Entry) → two_of first second (rows ++ more) ≡ two_of first second rows ++ two_of first second more
  unfolding two_of
  two-append [] more = refl
  two-append (e ∷ rows) more = ap (λ (l : List A). first e ∷ (second e ∷ l)) (two-append rows more)

  pub row-two :
      {e : Entry} {rows : List Entry} → Memᴰ e rows
      → Memᴰ (first e) (two_of first second rows) × Memᴰ (second e) (two_of first second rows)
  unfolding two_of
  row-two (Memᴰ.head e) = (Memᴰ.head (ap first e), Memᴰ.tail (Memᴰ.head (ap second e)))
  row-two (Memᴰ.tail m) = let f = row-two m in (Memᴰ.tail (Memᴰ.tail f.0), Memᴰ.tail (Memᴰ.tail f.1))

  -- the distinct ones, with one row more, and with more rows
  module _ (E : Same A) (rows : List Entry) where
    two-more :
        (e : Entry) → distinct E.eq (two_of first second (rows ++ (e ∷ [])))
        ≡ arrive E.eq (arrive E.eq (distinct E.eq (two_of first second rows)) (first e)) (second e)
    unfolding two_of
    two-more e = rw (two-append rows (e ∷ [])) (distinct_more E (two_of first second rows) (first e) (second e))

    two-length : (more : List Entry) → length (distinct E.eq (two_of first second rows)) ≤ length (distinct E.eq (two_of first second (rows ++ more)))
    two-length more = rw (two-append rows more) (distinct-length E (two_of first second rows) (two_of first second more))

module _ (rows : List Entry) where
  pub ticks_of-more : (e : Entry) → ticks_of (rows ++ (e ∷ [])) ≡ arrive eqb (arrive eqb (ticks_of rows) e.tick1) e.tick2
  unfolding ticks_of
  ticks_of-more e = two-more (λ x. x.tick1) (λ x. x.tick2) Same_ℕ rows e

  pub headings_of-more :
      (e : Entry) → headings_of (rows ++ (e ∷ [])) ≡ arrive same_ℤ (arrive same_ℤ (headings_of rows) e.heading1) e.heading2
  unfolding headings_of
  headings_of-more e = two-more (λ x. x.heading1) (λ x. x.heading2) Same_ℤ rows e

  pub ticks_of-length : (more : List Entry) → length (ticks_of rows) ≤ length (ticks_of (rows ++ more))
  unfolding ticks_of
  ticks_of-length more = two-length (λ x. x.tick1) (λ x. x.tick2) Same_ℕ rows more

  pub headings_of-length : (more : List Entry) → length (headings_of rows) ≤ length (headings_of (rows ++ more))
  unfolding headings_of
  headings_of-length more = two-length (λ x. x.heading1) (λ x. x.heading2) Same_ℤ rows more

-- ---- the nodes said

pub row-over : {e : Entry} {rows : List Entry} → Memᴰ e rows → Over rows (first_of e) × Over rows (second_of e)
row-over m =
    let t = row-two (λ x. x.tick1) (λ x. x.tick2) m in
    let h = row-two (λ x. x.heading1) (λ x. x.heading2) m in (record { tick = t.0; heading = h.0 }, record { tick = t.1; heading = h.1 })

pub said-over : {kind : ℕ} {rows : List Entry} {a b : Node} {v : Complex} → Said kind rows a b v → Over rows a × Over rows b
said-over {rows = rows} s =
    let f = row-over s.listed in says-cases (λ a b v. Over rows a × Over rows b) f (f.1, f.0) s.says

-- with one row more
module _ (rows : List Entry) (e : Entry) where
  pub ticks_said-more : ticks_said (rows ++ (e ∷ [])) ≡ ticks_said rows ++ (e.tick1 ∷ (e.tick2 ∷ []))
  unfolding two_of
  ticks_said-more = two-append (λ x. x.tick1) (λ x. x.tick2) rows (e ∷ [])

  pub headings_said-more : headings_said (rows ++ (e ∷ [])) ≡ headings_said rows ++ (e.heading1 ∷ (e.heading2 ∷ []))
  unfolding two_of
  headings_said-more = two-append (λ x. x.heading1) (λ x. x.heading2) rows (e ∷ [])

  pub over-before : {a : Node} → Over rows a → Over (rows ++ (e ∷ [])) a
  over-before {a} o =
      record {
        tick = subst (Memᴰ a.tick) (sym ticks_said-more) (Memᴰ.append_left _ o.tick);
        heading = subst (Memᴰ a.heading) (sym headings_said-more) (Memᴰ.append_left _ o.heading);
      }

  pub over_last : Over (rows ++ (e ∷ [])) (first_of e) × Over (rows ++ (e ∷ [])) (second_of e)
  over_last = row-over (Memᴰ.append_right rows (Memᴰ.head refl))
