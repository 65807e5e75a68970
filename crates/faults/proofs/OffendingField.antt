-- The field that is named for a line refused by 5 or by 6 is the first that offends, as specs/Offending has it. Assumes nothing.
use Rattle.std.specs.Prelude.{Option, Some, None, is_none}
use Rattle.std.specs.List.{find, range_with_len}
use mathlib.Core.Path.{◌≡◌, refl, sym, ap, subst, ◌∙◌}
use mathlib.Core.Bool.{Bool, true, false, true≢false, false≢true}
use mathlib.Core.List.{List}
use Prim.Native.Nat.{ℕ, zero, suc, ◌≤◌, ◌<◌}
use native.Mathlib.Omega.{arith}
use borrow.Author.Tests.{eq-eqb, ne_eqb, not-true, not-false}
use lib.Dec.{eqb, lit<}
use lib.ListN.{length}
use Rattle.field.specs.declared.decimal.Decimal.{Decimal}
use Rattle.field.specs.Form.{field_of}
use Rattle.field.specs.Units.{units}
use Rattle.row.specs.declared.ranges.Quantity.{Quantity}
use Rattle.row.specs.Layout.{wamit_layout, column_of, Column, column_at, quantity_of}
use Rattle.row.specs.LineRules.{fields_of, Component, Written, Right, Wrong, Between, InRange}
use Rattle.row.specs.LineRules.LineIs.{breaks-5, breaks-6}
use Rattle.faults.specs.Offending.{FormOffends, RangeOffends, FirstField, FieldOfFive, FieldOfSix, FieldOne, FieldOfNone, FieldOfNine, offending_field}
use Rattle.row.specs.own.Values.{component_of}
use Rattle.row.specs.own.Rows.{is_in}
use Rattle.faults.specs.own.Offends.{is_misformed, place_of, quantity_at, is_out, is_out_of, is_outside, offends, named, first_offending}
use Rattle.row.proofs.Deciding.{by-test, refuted}
use Rattle.row.proofs.Measuring.{between_is, is-between}
use Rattle.row.proofs.LineRules.{Numbered, numbered, each, is-wrong}
use Rattle.faults.proofs.FirstHeld.{Looked, looked}

-- ---- a test that says of each column of a row whether it offends

record Tells (Offends : ℕ → Type 0) (test : ℕ → Bool) : Type 0 where
  says : (k : ℕ) → k < 9 → test k ≡ true → Offends k
  passes : (k : ℕ) → Offends k → test k ≡ true

-- where it holds of some column, it finds the first that offends
first_field :
    (Offends : ℕ → Type 0) (test : ℕ → Bool) → Tells Offends test → (((k : ℕ) → k < 9 → test k ≡ false) → ⊥)
    → FirstField Offends (named (find test (range_with_len 0 9)))
unfolding named
first_field Offends test t some_one = go (looked test 9 0)
  where
    go : {r : Option ℕ} → Looked test 9 0 r → FirstField Offends (named r)
    go (Looked.none f) = absurd (some_one (λ k h. f k (omega arith) (omega arith)))
    go (Looked.some j h e f) =
        record {
          column = j;
          counted = refl;
          offends = t.says j (omega arith) e;
          first = λ k g o. true≢false (sym (t.passes k o) ∙ f k (omega arith) g);
        }

-- ---- what a column holds

data Holds (k : ℕ) : Type 0 where
  value : (column : Column) → k ≡ column_at wamit_layout column → Holds k
  component : k ≡ wamit_layout.component → Holds k
  phase : k ≡ wamit_layout.phase → Holds k

holds : (k : ℕ) → k < 9 → Holds k
unfolding wamit_layout
holds zero h = Holds.value Column.per1 refl
holds (suc zero) h = Holds.value Column.per2 refl
holds (suc (suc zero)) h = Holds.value Column.beta1 refl
holds (suc (suc (suc zero))) h = Holds.value Column.beta2 refl
holds (suc (suc (suc (suc zero)))) h = Holds.component refl
holds (suc (suc (suc (suc (suc zero))))) h = Holds.value Column.modulus refl
holds (suc (suc (suc (suc (suc (suc zero)))))) h = Holds.phase refl
holds (suc (suc (suc (suc (suc (suc (suc zero))))))) h = Holds.value Column.re refl
holds (suc (suc (suc (suc (suc (suc (suc (suc zero)))))))) h = Holds.value Column.im refl
holds (suc (suc (suc (suc (suc (suc (suc (suc (suc k))))))))) h = absurd (omega arith)

-- a value's column is one of the nine, and neither it nor that of the phase is the component's
value-within : (column : Column) → column_at wamit_layout column < 9
unfolding wamit_layout
value-within =
    each (λ column. column_at wamit_layout column < 9) (lit< tt) (lit< tt) (lit< tt) (lit< tt) (lit< tt) (lit< tt) (lit< tt)

no-component : (column : Column) → column_at wamit_layout column ≡ wamit_layout.component → ⊥
unfolding wamit_layout
no-component =
    each (λ column. column_at wamit_layout column ≡ 4 → ⊥)
    (λ e. omega arith)
    (λ e. omega arith)
    (λ e. omega arith)
    (λ e. omega arith)
    (λ e. omega arith)
    (λ e. omega arith)
    (λ e. omega arith)

phase-other : wamit_layout.phase ≡ wamit_layout.component → ⊥
unfolding wamit_layout
phase-other e = omega arith

-- ---- 5

-- there is a number, or the field is no component
none-numbered : {field : List ℕ} {n : Option ℕ} → Numbered field n → is_none n ≡ true → (m : ℕ) → Component field m → ⊥
none-numbered (Numbered.some h) e m k = false≢true e
none-numbered (Numbered.none f) e m k = f m k

numbered-none : {field : List ℕ} {n : Option ℕ} → Numbered field n → ((m : ℕ) → Component field m → ⊥) → is_none n ≡ true
numbered-none (Numbered.some {n = n} h) f = absurd (f n h)
numbered-none (Numbered.none g) f = refl

module _ (fields : List (List ℕ)) where
  abbrev at : ℕ → List ℕ
  at k = column_of fields k

  -- the test of a column, which is the component's or not
  by_field : (k : ℕ) → (k ≡ wamit_layout.component → ⊥) → is_misformed wamit_layout fields k ≡ is_none (field_of (at k))
  unfolding is_misformed
  by_field k other = rw (ne_eqb k wamit_layout.component other)

  by_number : (k : ℕ) → k ≡ wamit_layout.component → is_misformed wamit_layout fields k ≡ is_none (component_of (at k))
  unfolding is_misformed
  by_number k same = rw (eq-eqb k wamit_layout.component same)

  wrong-field : (k : ℕ) → (k ≡ wamit_layout.component → ⊥) → is_misformed wamit_layout fields k ≡ true → field_of (at k) ≡ None
  wrong-field k other e = is-wrong (field_of (at k)) (not-true _ (sym (by_field k other) ∙ e))

  field-wrong : (k : ℕ) → (k ≡ wamit_layout.component → ⊥) → field_of (at k) ≡ None → is_misformed wamit_layout fields k ≡ true
  field-wrong k other e = by_field k other ∙ rw e

  form-tells : Tells (FormOffends wamit_layout fields) (is_misformed wamit_layout fields)
  form-tells = record { says = λ k h e. says k e (holds k h); passes = passes }
    where
      says : (k : ℕ) → is_misformed wamit_layout fields k ≡ true → Holds k → FormOffends wamit_layout fields k
      says k e (Holds.value column p) = FormOffends.decimal column p (wrong-field k (λ q. no-component column (sym p ∙ q)) e)
      says k e (Holds.component p) =
          FormOffends.component p (none-numbered (numbered (at k)) (sym (by_number k p) ∙ e))
      says k e (Holds.phase p) = FormOffends.phase p (wrong-field k (λ q. phase-other (sym p ∙ q)) e)

      passes : (k : ℕ) → FormOffends wamit_layout fields k → is_misformed wamit_layout fields k ≡ true
      passes k (FormOffends.component p f) = by_number k p ∙ numbered-none (numbered (at k)) f
      passes k (FormOffends.decimal column p e) = field-wrong k (λ q. no-component column (sym p ∙ q)) e
      passes k (FormOffends.phase p e) = field-wrong k (λ q. phase-other (sym p ∙ q)) e

  -- a field of the wrong form has its column
  record WrongColumn : Type 0 where
    column : ℕ
    within : column < 9
    offends : FormOffends wamit_layout fields column

  wrong-column : Wrong wamit_layout fields → WrongColumn
  unfolding wamit_layout
  wrong-column (Wrong.component f) = record { column = 4; within = lit< tt; offends = FormOffends.component refl f }
  wrong-column (Wrong.decimal column e) =
      record { column = column_at wamit_layout column; within = value-within column; offends = FormOffends.decimal column refl e }
  wrong-column (Wrong.phase e) = record { column = 6; within = lit< tt; offends = FormOffends.phase refl e }

  -- what is found in a row of nine fields is named
  named-first :
      (number : ℕ) → length fields ≡ wamit_layout.columns → {field : ℕ → Type 0} → FirstField field (named (find (offends wamit_layout number fields) (range_with_len 0 9)))
      → FirstField field (first_offending wamit_layout number fields)
  unfolding first_offending wamit_layout
  named-first number count f = rw (eq-eqb (length fields) 9 count) f

  five : length fields ≡ wamit_layout.columns → Wrong wamit_layout fields → FirstField (FormOffends wamit_layout fields) (first_offending wamit_layout 5 fields)
  unfolding offends
  five count w =
      named-first 5 count
      (first_field _ (is_misformed wamit_layout fields) form-tells
      (λ f. let o = wrong-column w in true≢false (sym (form-tells.passes o.column o.offends) ∙ f o.column o.within)))

-- ---- 6

-- a number out of range
record Outside (q : Quantity) (f : Option Decimal) : Type 0 where
  decimal : Decimal
  number : f ≡ Some decimal
  out : Between q.least q.most (units decimal q.places) → ⊥

out-is : (q : Quantity) (f : Option Decimal) → is_out q f ≡ true → Outside q f
unfolding is_out
out-is q (Some d) e = record { decimal = d; number = refl; out = λ b. true≢false (sym (is-between q d b) ∙ not-true _ e) }
out-is q None e = absurd (false≢true e)

is-out : (q : Quantity) (f : Option Decimal) → Outside q f → is_out q f ≡ true
unfolding is_out
is-out q f o = rw (o.number, refuted (is_in q o.decimal) (between_is q o.decimal) o.out)

module _ (fields : List (List ℕ)) where
  -- the test of a value's column
  abbrev ByQuantity : Column → Type 0
  ByQuantity column =
      let k = column_at wamit_layout column in
      is_outside wamit_layout fields k ≡ is_out (quantity_of column) (field_of (column_of fields k))

  by-quantity : (column : Column) → ByQuantity column
  unfolding is_outside is_out_of quantity_at place_of wamit_layout
  by-quantity = each ByQuantity refl refl refl refl refl refl refl

  range-tells : Tells (RangeOffends wamit_layout fields) (is_outside wamit_layout fields)
  unfolding is_outside is_out_of quantity_at place_of wamit_layout
  range-tells = record { says = λ k h e. says k e (holds k h); passes = passes }
    where
      value-says : (column : Column) → is_outside wamit_layout fields (column_at wamit_layout column) ≡ true → RangeOffends wamit_layout fields (column_at wamit_layout column)
      value-says column e =
          let o = out-is _ _ (sym (by-quantity column) ∙ e) in
          record { column = column; place = refl; decimal = o.decimal; number = o.number; out = o.out }

      says : (k : ℕ) → is_outside wamit_layout fields k ≡ true → Holds k → RangeOffends wamit_layout fields k
      says k e (Holds.value column p) =
          subst (RangeOffends wamit_layout fields) (sym p) (value-says column (ap (is_outside wamit_layout fields) (sym p) ∙ e))
      says k e (Holds.component p) = absurd (false≢true (ap (is_outside wamit_layout fields) (sym p) ∙ e))
      says k e (Holds.phase p) = absurd (false≢true (ap (is_outside wamit_layout fields) (sym p) ∙ e))

      passes : (k : ℕ) → RangeOffends wamit_layout fields k → is_outside wamit_layout fields k ≡ true
      passes k r =
          let number = subst (λ (j : ℕ). field_of (column_of fields j) ≡ Some r.decimal) r.place r.number in
          ap (is_outside wamit_layout fields) r.place
          ∙ by-quantity r.column
          ∙ is-out _ _ (record { decimal = r.decimal; number = number; out = r.out })

  six : {w : Written} → Right wamit_layout fields w → (InRange w → ⊥) → FirstField (RangeOffends wamit_layout fields) (first_offending wamit_layout 6 fields)
  unfolding offends is_out
  six {w} r n = named-first fields 6 r.count (first_field _ (is_outside wamit_layout fields) range-tells (λ f. n (in-range f)))
    where
      in-range : ((k : ℕ) → k < 9 → is_outside wamit_layout fields k ≡ false) → InRange w
      in-range f column =
          let e = ap (is_out (quantity_of column)) (sym (r.decimal column)) ∙ sym (by-quantity column) ∙ f (column_at wamit_layout column) (value-within column) in
          between_is _ _ (not-false _ e)

-- ---- the laws

pub field-of-five : FieldOfFive
unfolding offending_field
field-of-five c first line (breaks-5 row count h) = five (fields_of line) count h

pub field-of-six : FieldOfSix
unfolding offending_field
field-of-six c first line (breaks-6 o n) = six (fields_of line) o.formed.right n

pub field-of-none : FieldOfNone
unfolding offending_field first_offending named wamit_layout offends
field-of-none number line not-5 not-6 =
    by-test (λ field. field ≡ 0) (eqb (length (fields_of line)) 9) _ _ (λ e. go (looked test 9 0)) (λ e. refl)
  where
    test : ℕ → Bool
    test = offends wamit_layout number (fields_of line)

    go : {r : Option ℕ} → Looked test 9 0 r → named r ≡ 0
    go (Looked.none f) = refl
    go (Looked.some j h e f) =
        let never : test j ≡ false = rw (ne_eqb number 5 not-5, ne_eqb number 6 not-6) in
        absurd (true≢false (sym e ∙ never))

pub field-of-nine : FieldOfNine
unfolding offending_field first_offending named wamit_layout
field-of-nine number line =
    by-test (λ field. field ≤ 9) (eqb (length (fields_of line)) 9) _ _ (λ e. go (looked (offends wamit_layout number (fields_of line)) 9 0)) (λ e. omega arith)
  where
    go : {r : Option ℕ} → Looked (offends wamit_layout number (fields_of line)) 9 0 r → named r ≤ 9
    go (Looked.none f) = omega arith
    go (Looked.some j h e f) = omega arith

pub field-one : FieldOne
field-one Offends f g a b =
    let not-before : a.column < b.column → ⊥ = λ h. b.first a.column h a.offends in
    let not_after : b.column < a.column → ⊥ = λ h. a.first b.column h b.offends in
    omega arith
