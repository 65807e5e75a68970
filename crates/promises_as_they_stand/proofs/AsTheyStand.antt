-- What rows and closings are refused, by slots, cells and flags as they stand. Assumes nothing.
use mathlib.Core.Bool.{Bool, true, false, cond, not, ◌&&◌, ◌||◌, true≢false, false≢true}
use mathlib.Core.List.Memᴰ
use mathlib.Core.List.{List, [], ◌∷◌, ◌++◌, Memᴰ}
use mathlib.Core.Logic.{◌⊎◌, inl, inr, ⊎_elim}
use mathlib.Core.Path.{◌≡◌, refl, sym, ap, ◌∙◌, subst}
use Prim.Native.Nat.{ℕ, ◌+◌, ◌≤◌}
use native.Mathlib.Decide.{ℕ_discrete}
use native.Mathlib.Omega.{arith}
use lib.Dec.{eqb}
use lib.ListN.{length, get_or}
use borrow.Author.Tests.{lt-ltb, le-ltb, eqb-true, eq-eqb, ne_eqb, not-true, not-false}
use Rattle.whole.specs.Complex.{Complex}
use Rattle.whole.proofs.Any.{either, neither}
use Rattle.row.specs.declared.reading.Entry.{Entry}
use Rattle.row.specs.Told.{Row}
use Rattle.row.specs.own.Rows.{row_of}
use Rattle.row.proofs.LineRules.{line_gives}
use Rattle.row.proofs.Used.{by-test, used-is}
use Rattle.row.proofs.Deciding.{both}
use Rattle.grid.specs.declared.nodes.Pair.{Pair}
use Rattle.grid.specs.declared.nodes.Slots.{Slots}
use Rattle.table.specs.declared.closing.Closed.{Closed}
use Rattle.grid.specs.Slots.{held_ticks}
use Rattle.table.specs.Cells.{cell_at, is_set, same_value, mirror}
use Rattle.table.specs.Placing.{fits, tick₁, tick₂, heading₁, heading₂, here, there, value_of, Table, clashes, Placed, placed}
use Rattle.table.specs.Closing.{both_set, closed_of}
use Rattle.reader.specs.declared.record.Record.{Record}
use Rattle.reader.specs.declared.reader.Place.TheVariants as Place
use Rattle.reader.specs.declared.reader.Answer.{Answer}
use Rattle.reader.specs.Model.{State, table_at, stuck_at, passed, settled, ended, too_short, barred, refusal_place, refusal, tested, settled_by, finished, closing, close_of}
use Rattle.promises_calls.specs.Kept.{Shaped}
use Rattle.promises_calls.specs.Answers.{Short, Open}
use Rattle.promises_calls.specs.Lines.{kept_line, limited, line_read}
use Rattle.promises_calls.specs.Refusals.{IsOpen}
use Rattle.promises_rows.specs.Said.{Proper, mirror_of}
use Rattle.promises_tables.specs.Rules.{NodeBelow, PairBelow}
use Rattle.promises_as_they_stand.specs.AsTheyStand.{
  IsSet,
  HasRoom,
  SetToOther,
  Contradicts,
  PlacedAs,
  eight,
  nine,
  none,
  PlacedExactly,
  UsedLine,
  StuckWith,
  UsedLineExactly,
  Lacks,
  FirstLacking,
  ClosedAs,
  ten,
  eleven,
  accepted,
  ClosedAsExactly,
}
use Rattle.promises_rows.proofs.Equality.{same_value-true, same_value-self}
use Rattle.promises_calls.proofs.Slotted.{room-is}
use Rattle.promises_rows.proofs.Said.{usable-proper, mirror-is}
use Rattle.promises_calls.proofs.Moves.{finished-keeps}
use Rattle.promises_calls.proofs.Valid.{sound-keeps, sound-is, is-valid}
use Rattle.promises_rows.proofs.Ordering.{Ascending, ascending-behind}
use Rattle.promises_tables.proofs.Pairs.{pair-asymmetric}
use Rattle.promises_tables.proofs.Closing.{Found, all_said, first-unsaid, found, swapped, not-above}
use Rattle.promises_calls.proofs.SlotsOnce.{valid-slots}
use Rattle.promises_listings.proofs.ListsNeeded.{needed, needed-only, needed-all, needed-ascend}
use Rattle.promises_calls.proofs.Cutting.{open-barred}
use Rattle.promises_calls.proofs.Outcomes.{short-is}

-- ---- flags

is-set : (flags : List ℕ) (p : ℕ) → is_set flags p ≡ true → IsSet flags p
unfolding is_set
is-set flags p e z = false≢true (sym (not-true (eqb (get_or flags p 0) 0) e) ∙ eq-eqb (get_or flags p 0) 0 z)

set_is : (flags : List ℕ) (p : ℕ) → IsSet flags p → is_set flags p ≡ true
unfolding is_set
set_is flags p h = ap not (ne_eqb (get_or flags p 0) 0 h)

not_set : (flags : List ℕ) (p : ℕ) → is_set flags p ≡ false → get_or flags p 0 ≡ 0
unfolding is_set
not_set flags p e = eqb-true (get_or flags p 0) 0 (not-false (eqb (get_or flags p 0) 0) e)

-- one of two fails
lacks-one : (a b : Bool) → (a && b) ≡ false → (a ≡ false) ⊎ (b ≡ false)
lacks-one true b e = inr e
lacks-one false b e = inl refl

-- ---- a row

module _ (t : Table) (p : ℕ) (v : Complex) where
  clash-is : clashes t p v ≡ true → SetToOther t p v
  unfolding clashes
  clash-is e =
      let f = both (is_set t.flags p) (not (same_value (cell_at t.cells p) v)) e in
      record {
        set = is-set t.flags p f.0;
        other = λ same. false≢true (sym (not-true (same_value (cell_at t.cells p) v) f.1) ∙ subst (λ (w : Complex). same_value (cell_at t.cells p) w ≡ true) same (same_value-self (cell_at t.cells p)));
      }

  no-clash : clashes t p v ≡ false → SetToOther t p v → ⊥
  unfolding clashes
  no-clash e h =
      ⊎_elim
      (λ f. true≢false (sym (set_is t.flags p h.set) ∙ f))
      (λ f. h.other (same_value-true (cell_at t.cells p) v (not-false (same_value (cell_at t.cells p) v) f)))
      (lacks-one (is_set t.flags p) (not (same_value (cell_at t.cells p) v)) e)

has_room : (s : Slots) (e : Entry) → fits s e ≡ true → HasRoom s e
has_room s e f =
    let r = room-is s e f in
    record { first-tick = r.first-tick; second-tick = r.second-tick; first-heading = r.first-heading; second-heading = r.second-heading }

room_fits : (s : Slots) (e : Entry) → HasRoom s e → fits s e ≡ true
unfolding fits
room_fits s e r =
    rw (lt-ltb (tick₁ s e) 20 r.first-tick, lt-ltb (tick₂ s e) 20 r.second-tick, lt-ltb (heading₁ s e) 4 r.first-heading)
    (lt-ltb (heading₂ s e) 4 r.second-heading)

module _ (kind : ℕ) (e : Entry) (t : Table) (proper : Proper kind e) where
  abbrev here-test : Bool
  here-test = clashes t (here t.slots e) (value_of e)

  abbrev there-test : Bool
  there-test = clashes t (there t.slots e) (mirror kind (value_of e))

  there-is : there-test ≡ clashes t (there t.slots e) (mirror_of kind (value_of e))
  there-is = ap (clashes t (there t.slots e)) (mirror-is proper)

  contradicts : (here-test || there-test) ≡ true → Contradicts kind e t
  contradicts c =
      ⊎_elim (λ h. inl (clash-is t _ _ h)) (λ h. inr (clash-is t _ _ (sym there-is ∙ h))) (either here-test there-test c)

  agrees : (here-test || there-test) ≡ false → Contradicts kind e t → ⊥
  agrees c =
      let n = neither here-test there-test c in
      ⊎_elim (no-clash t _ _ n.0) (no-clash t _ _ (sym there-is ∙ n.1))

  placed-as : PlacedAs kind e t (placed kind e t).number
  unfolding placed
  placed-as =
      by-test (λ (p : Placed). PlacedAs kind e t p.number) (fits t.slots e) _ _
      (λ f.
      let room = has_room t.slots e f in
      by-test (λ (p : Placed). PlacedAs kind e t p.number) (here-test || there-test) _ _ (λ c. nine room (contradicts c)) (λ c. none room (agrees c)))
      (λ f. eight (λ room. true≢false (sym (room_fits t.slots e room) ∙ f)))

placed_one : {kind : ℕ} {e : Entry} {t : Table} {m n : ℕ} → PlacedAs kind e t m → PlacedAs kind e t n → m ≡ n
placed_one (eight h) (eight k) = refl
placed_one (eight h) (nine r c) = absurd (h r)
placed_one (eight h) (none r c) = absurd (h r)
placed_one (nine r c) (eight k) = absurd (k r)
placed_one (nine r c) (nine s d) = refl
placed_one (nine r c) (none s d) = absurd (d c)
placed_one (none r c) (eight k) = absurd (k r)
placed_one (none r c) (nine s d) = absurd (c d)
placed_one (none r c) (none s d) = refl

pub placed-exactly : PlacedExactly
placed-exactly kind e t proper n =
    let p = placed-as kind e t proper in
    ((λ z. subst (PlacedAs kind e t) z p), (λ q. placed_one p q))

-- ---- a line

module _ (p : Placed) (s : State) where
  settled-taken : p.number ≡ 0 → (settled p s).reader.marks.stage ≡ s.reader.marks.stage
  unfolding settled passed
  settled-taken e = rw (eq-eqb p.number 0 e)

  settled-refused : (p.number ≡ 0 → ⊥) → StuckWith p.number s.reader.marks.lines (settled p s)
  unfolding settled stuck_at
  settled-refused e =
      by-test (StuckWith p.number s.reader.marks.lines) (eqb p.number 0) _ _
      (λ z. absurd (e (eqb-true p.number 0 z)))
      (λ z. record { stage = refl; place = refl })

module _ (line : List ℕ) (s : State) (e : Entry) (u : UsedLine line s e) where
  abbrev kind : ℕ
  kind = s.reader.choices.kind

  abbrev came : Placed
  came = placed kind e (table_at s)

  row_is : row_of s.reader.choices (eqb s.reader.marks.lines 0) line ≡ Row.Used e
  row_is = line_gives s.reader.choices (eqb s.reader.marks.lines 0) line u.is

  read_is : line_read line s ≡ settled came (kept_line line s)
  unfolding line_read limited ended kept_line
  read_is =
      let few : s.reader.marks.lines ≡ 1_000_000 → ⊥ = λ z. omega (arith, u.limits.few, z) in
      rw (ne_eqb s.reader.marks.lines 1_000_000 few, le-ltb 160 (length line) u.limits.short)
      (ap (λ (w : Row). ended w (kept_line line s)) row_is)

  proper-row : Proper kind e
  proper-row = usable-proper s.reader.choices (used-is s.reader.choices (eqb s.reader.marks.lines 0) line row_is)

  module _ (number : ℕ) (low : 3 ≤ number) where
    stuck-so : StuckWith number (s.reader.marks.lines + 1) (settled came (kept_line line s)) → PlacedAs kind e (table_at s) number
    unfolding kept_line
    stuck-so w =
        elim (ℕ_discrete came.number 0) [
          | yes z ↦
              let one : s.reader.marks.stage ≡ number = sym (settled-taken came (kept_line line s) z) ∙ w.stage in
              absurd (omega (arith, one, u.still))
          | no z ↦ subst (PlacedAs kind e (table_at s)) (sym (settled-refused came (kept_line line s) z).stage ∙ w.stage) (placed-as kind e (table_at s) proper-row)
        ]

    so-stuck : PlacedAs kind e (table_at s) number → StuckWith number (s.reader.marks.lines + 1) (settled came (kept_line line s))
    unfolding kept_line
    so-stuck p =
        let same : came.number ≡ number = placed_one (placed-as kind e (table_at s) proper-row) p in
        subst (λ (n : ℕ). StuckWith n (s.reader.marks.lines + 1) (settled came (kept_line line s))) same
        (settled-refused came (kept_line line s) (λ z. omega (arith, z, same)))

pub used-line-exactly : UsedLineExactly
used-line-exactly line s e u number low =
    let Stuck : State → Type 0 = StuckWith number (s.reader.marks.lines + 1) in
    let there = read_is line s e u in
    ((λ w. stuck-so line s e u number low (subst Stuck there w)), (λ p. subst Stuck (sym there) (so-stuck line s e u number low p)))

-- ---- closing

module _ (r : Record) (flags : List ℕ) where
  unset-lacks : (p : Pair) → Memᴰ p (needed r) → both_set r.slots flags p ≡ false → Lacks r flags p
  unfolding both_set
  unset-lacks p m e =
      record {
        needed = needed-only r p m;
        either = ⊎_elim (λ f. inl (not_set flags _ f)) (λ f. inr (not_set flags _ f)) (lacks-one _ _ e);
      }

  set-not-lacks : (p : Pair) → both_set r.slots flags p ≡ true → Lacks r flags p → ⊥
  unfolding both_set
  set-not-lacks p e l =
      let b = both _ _ e in
      ⊎_elim (is-set flags _ b.0) (is-set flags _ b.1) l.either

  lacks-swapped : (p : Pair) → Lacks r flags p → Lacks r flags (swapped p)
  lacks-swapped p l =
      let n = l.needed in
      record {
        needed = record { tick₁ = n.tick₂; heading₁ = n.heading₂; tick₂ = n.tick₁; heading₂ = n.heading₁; single = λ z. sym (n.single z) };
        either = ⊎_elim (λ e. inr e) (λ e. inl e) l.either;
      }

  module _ (up : Ascending PairBelow (needed r)) (before : List Pair) (p : Pair) (behind : List Pair) (split : needed r ≡ before ++ (p ∷ behind))
      (said : (q : Pair) → Memᴰ q before → both_set r.slots flags q ≡ true) (unsaid : both_set r.slots flags p ≡ false) where
    lacking : Lacks r flags p
    lacking = unset-lacks p (subst (Memᴰ p) (sym split) (Memᴰ.append_right before (Memᴰ.head refl))) unsaid

    least : (q : Pair) → Lacks r flags q → (q ≡ p) ⊎ PairBelow p q
    least q l =
        ⊎_elim
        (λ m. absurd (set-not-lacks q (said q m) l))
        (λ m. ⊎_elim (λ z. inl z) (λ k. inr (ascending-behind before p behind (subst (Ascending PairBelow) split up) q k)) (Memᴰ.cases_cons m))
        (Memᴰ.append_cases before (subst (Memᴰ q) split (needed-all r q l.needed)))

    -- the pair swapped lacks a flag too, and would stand before it
    order : (p.first ≡ p.second) ⊎ NodeBelow p.first p.second
    order = not-above p (least (swapped p) (lacks-swapped p lacking))

    first-lacking : FirstLacking r flags p
    first-lacking = record { lacks = lacking; order = order; least = least }

-- an empty list is the one of length 0
no_length : {A : Type 0} (l : List A) → length l ≡ 0 → l ≡ []
no_length [] e = refl
no_length (x ∷ xs) e = absurd (omega arith)

module _ (s : State) (up : Ascending PairBelow (needed s.reader)) where
  abbrev r : Record
  r = s.reader

  by-found :
      (held_ticks r.slots.ticks ≡ [] → ⊥) → (c : Closed)
      → Found r.slots s.flags (needed r) (length (held_ticks r.slots.ticks)) r.slots.held c
      → ClosedAs r s.flags (settled_by c s).answer
  unfolding settled_by refusal refusal_place
  by-found some c (all_said f) = accepted some (λ p l. set-not-lacks r s.flags p (f p (needed-all r p l.needed)) l)
  by-found some c (first-unsaid before p behind split said unsaid) = eleven (first-lacking r s.flags up before p behind split said unsaid)

  settled-as : ClosedAs r s.flags (settled_by (closed_of r.choices.coverage r.slots s.flags) s).answer
  unfolding closed_of settled_by refusal refusal_place
  settled-as =
      by-test (λ (c : Closed). ClosedAs r s.flags (settled_by c s).answer) (eqb (length (held_ticks r.slots.ticks)) 0) _ _
      (λ e. ten (no_length _ (eqb-true _ 0 e)))
      (λ e.
      by-found (λ z. false≢true (sym e ∙ eq-eqb (length (held_ticks r.slots.ticks)) 0 (ap length z))) _
      (found r.slots s.flags _ _ (needed r)))

-- ---- one answer

nothing-lacks : {r : Record} {flags : List ℕ} {p : Pair} → held_ticks r.slots.ticks ≡ [] → Lacks r flags p → ⊥
nothing-lacks {p = p} e l = Memᴰ.not-nil (subst (Memᴰ p.first.tick) e l.needed.tick₁)

first_one : {r : Record} {flags : List ℕ} {p q : Pair} → FirstLacking r flags p → FirstLacking r flags q → p ≡ q
first_one {p = p} {q = q} m n =
    ⊎_elim
    (λ e. sym e)
    (λ h. ⊎_elim (λ e. e) (λ g. absurd (pair-asymmetric p q h g)) (n.least p m.lacks))
    (m.least q n.lacks)

closed-one : {r : Record} {flags : List ℕ} {a b : Answer} → ClosedAs r flags a → ClosedAs r flags b → a ≡ b
closed-one (ten e) (ten f) = refl
closed-one (ten e) (eleven m) = absurd (nothing-lacks e m.lacks)
closed-one (ten e) (accepted n f) = absurd (n e)
closed-one (eleven m) (ten e) = absurd (nothing-lacks e m.lacks)
closed-one (eleven m) (eleven n) = ap (λ (p : Pair). Answer.Refused 11 (Place.Pair p)) (first_one m n)
closed-one (eleven {p} m) (accepted n f) = absurd (f p m.lacks)
closed-one (accepted n f) (ten e) = absurd (n e)
closed-one (accepted n f) (eleven {p} m) = absurd (f p m.lacks)
closed-one (accepted n f) (accepted m g) = refl

-- ---- the call

open-clear : (s : State) → Open s.reader → (Short s → ⊥) → barred s ≡ 0
open-clear s now long =
    let m = length s.cells in
    let n = length s.flags in
    open-barred s.reader m n now.valid now.stage ∙ go (too_short m n) refl
  where
    go : (t : Bool) → too_short (length s.cells) (length s.flags) ≡ t → ◌≡◌ {A = ℕ} (cond t 1 0) 0
    go true e = absurd (long (short-is (length s.cells) (length s.flags) e))
    go false e = refl

module _ (s : State) (shaped : Shaped s.reader) (now : Open s.reader) (long : Short s → ⊥) (still : IsOpen (finished s)) where
  clear : barred s ≡ 0
  clear = open-clear s now long

  answer-is : (close_of s).answer ≡ (settled_by (closed_of (finished s).reader.choices.coverage (finished s).reader.slots (finished s).flags) (finished s)).answer
  unfolding close_of tested closing
  answer-is = rw (eq-eqb (barred s) 0 clear, eq-eqb (finished s).reader.marks.stage 1 still)

  closed-as : ClosedAs (finished s).reader (finished s).flags (close_of s).answer
  closed-as =
      let sound = finished-keeps sound-keeps s (sound-is s shaped now.valid) in
      let valid = valid-slots (finished s).reader (is-valid (finished s).reader sound.valid) in
      subst (ClosedAs (finished s).reader (finished s).flags) (sym answer-is) (settled-as (finished s) (needed-ascend (finished s).reader sound.shaped valid))

pub closed-as-exactly : ClosedAsExactly
closed-as-exactly s shaped now long still a =
    let c = closed-as s shaped now long still in
    ((λ e. subst (ClosedAs (finished s).reader (finished s).flags) e c), (λ d. closed-one c d))
