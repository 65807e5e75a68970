-- Slots that are valid hold no frequency and no heading twice. Assumes nothing.
use mathlib.Core.Bool.{Bool, true, false, cond, not, ◌&&◌, ◌||◌, false≢true}
use mathlib.Core.List.Memᴰ
use mathlib.Core.List.{List, [], ◌∷◌, Memᴰ}
use mathlib.Core.Logic.{⊎_elim}
use mathlib.Core.Path.{◌≡◌, sym, ◌∙◌}
use Prim.Native.Nat.{ℕ}
use native.Mathlib.Omega.{arith}
use lib.Dec.{eqb, leb}
use lib.IntN.{ℤ, pos, neg_ℤ}
use lib.ListN.{length, take}
use lib.Seq.{length-take-le}
use lib.Signed.{le_z, lt_z}
use borrow.Author.Tests.{leb-true, not-true}
use Rattle.whole.specs.Same.{same_ℤ}
use Rattle.row.proofs.Used.{by-test}
use Rattle.row.proofs.Deciding.{both}
use Rattle.reader.specs.declared.record.Record.{Record}
use Rattle.grid.specs.declared.nodes.Slots.{Slots}
use Rattle.grid.specs.Slots.{held_ticks, held_headings, among}
use Rattle.grid.specs.Valid.{valid_ticks, valid_headings, valid_presence, valid_slots}
use Rattle.reader.specs.Valid.{valid_choices, valid_line, valid_of, valid_stage}
use Rattle.promises_calls.specs.Kept.{Shaped}
use Rattle.promises_rows.proofs.Equality.{Same, Same_ℕ, Same_ℤ}
use Rattle.promises_rows.proofs.Arriving.{member-in, in-among}
use Rattle.promises_rows.specs.Said.{Once}
use Rattle.promises_rows.specs.Said.Once.{none, more}

not_there : {A : Type 0} (E : Same A) (l : List A) (x : A) → not (among E.eq l x) ≡ true → Memᴰ x l → ⊥
not_there E l x e m = false≢true (sym (not-true (among E.eq l x) e) ∙ in-among E l x (member-in E m))

-- a tick that is held stands in a slot
pub held-member : (ts : List ℕ) (t : ℕ) → Memᴰ t (held_ticks ts) → Memᴰ t ts
unfolding held_ticks
held-member [] t = λ m. m
held-member (y ∷ ys) t =
    let below = held-member ys t in
    by-test (λ (l : List ℕ). Memᴰ t l → Memᴰ t (y ∷ ys)) (eqb y 0) _ _
    (λ _ m. Memᴰ.tail (below m))
    (λ _ m. ⊎_elim (λ e. Memᴰ.head e) (λ n. Memᴰ.tail (below n)) (Memᴰ.cases_cons m))

ticks-once : (ts : List ℕ) → valid_ticks ts ≡ true → Once (held_ticks ts)
unfolding valid_ticks held_ticks
ticks-once [] e = none
ticks-once (t ∷ ts) e = go (eqb t 0) (both (eqb t 0 || rest) (valid_ticks ts) e).0 (ticks-once ts (both (eqb t 0 || rest) (valid_ticks ts) e).1)
  where
    rest : Bool
    rest = leb 100 t && (leb t 10_000 && not (among eqb ts t))

    go : (z : Bool) → (z || rest) ≡ true → Once (held_ticks ts) → Once (cond z (held_ticks ts) (t ∷ held_ticks ts))
    go true f o = o
    go false f o =
        let g = both (leb t 10_000) (not (among eqb ts t)) (both (leb 100 t) (leb t 10_000 && not (among eqb ts t)) f).1 in
        more (λ m. not_there Same_ℕ ts t g.1 (held-member ts t m)) o

headings-once : (hs : List ℤ) → valid_headings hs ≡ true → Once hs
unfolding valid_headings
headings-once [] e = none
headings-once (h ∷ hs) e =
    let low = lt_z (neg_ℤ (pos 180_000)) h in
    let high = le_z h (pos 180_000) in
    let new = not (among same_ℤ hs h) in
    let f = both (low && (high && new)) (valid_headings hs) e in
    more (not_there Same_ℤ hs h (both high new (both low (high && new) f.0).1).1) (headings-once hs f.1)

pub record Distinct (s : Slots) : Type 0 where
  pub ticks : Once (held_ticks s.ticks)
  pub headings : Once (held_headings s)
  pub count : length (held_headings s) ≡ s.held

pub slots-distinct : (r : Record) → Shaped r → valid_slots r.marks.stage r.slots ≡ true → Distinct r.slots
unfolding valid_slots held_headings
slots-distinct r shaped e =
    let s = r.slots in
    let presence = valid_presence r.marks.stage s in
    let headings = valid_headings (take s.held s.headings) in
    let f = both (leb s.held 4) (valid_ticks s.ticks && (headings && presence)) e in
    let g = both (valid_ticks s.ticks) (headings && presence) f.1 in
    let few = leb-true s.held 4 f.0 in
    let long = shaped.headings in
    record {
      ticks = ticks-once s.ticks g.0;
      headings = headings-once _ (both headings presence g.1).0;
      count = length-take-le s.held s.headings (omega arith);
    }

pub valid-slots : (r : Record) → valid_of r ≡ true → valid_slots r.marks.stage r.slots ≡ true
unfolding valid_of
valid-slots r e =
    let line = valid_line r.kept r.marks.count in
    let slots = valid_slots r.marks.stage r.slots in
    let f = both (valid_stage r.marks.stage) _ e in
    let g = both (leb r.marks.lines 1_000_000) _ f.1 in
    let h = both (valid_choices r.choices) (slots && line) g.1 in
    (both slots line h.1).0
