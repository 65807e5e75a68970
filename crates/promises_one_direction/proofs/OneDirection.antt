-- Plus and minus 180: the laws of a heading as it is read (crates/row) give the statements of specs/OneDirection; texts by proofs/Agree, since lines that differ in such a sign come to
-- the same row (proofs/Signs), and records by what a valid one holds. Seas and coefficient calls are in proofs/SameSeas. Assumes nothing.
use mathlib.Core.Path.{◌≡◌, refl, sym, ap, subst, ◌∙◌}
use mathlib.Core.Bool.{Bool, true, false}
use mathlib.Core.Logic.{◌⊎◌, inl, inr, ⊎_elim, ◌↔◌}
use mathlib.Core.List.Memᴰ
use mathlib.Core.List.{List, ◌∷◌, Memᴰ}
use Prim.Native.Nat.{ℕ, zero, suc, ◌≤◌}
use lib.Dec.{eqb, lit≤}
use lib.IntN.{ℤ, pos, neg_ℤ}
use lib.ListN.{length}
use lib.Signed.{◌<ℤ◌, <ℤ_irrefl}
use Rattle.whole.specs.Nearest.{rounds_up, nearest}
use Rattle.field.specs.Text.{bytes}
use Rattle.field.specs.Form.{without, starts_minus, leading, after, all_digits, numeral, before_point, decimals, exponent, exponent_of, number_with, field_of}
use Rattle.field.specs.Units.{with_sign, exact, units, in_range, in_units, tick_of}
use Rattle.row.specs.declared.reading.Choices.{Choices}
use Rattle.row.specs.declared.reading.Entry.{Entry}
use Rattle.row.specs.Told.{Row}
use Rattle.row.specs.Line.{without_return, ends, before, words, starts_letter}
use Rattle.row.specs.Heading.{heading_of}
use Rattle.row.specs.Layout.{wamit_layout, column_of, Column}
use Rattle.row.specs.LineRules.{fields_of, Written, units_of, Ranged, entry_of, LineIs}
use Rattle.row.specs.own.Values.{component_of, decimal_of, all_below, values_at, values_of}
use Rattle.row.specs.own.Rows.{is_in, same_node, is_fit, fitted, judged, entry_in, ranged_row, formed_row, words_row, row_of}
use Rattle.row.proofs.Deciding.{refuted}
use Rattle.row.proofs.Headings.{heading-turned, heading-kept, HeadingIn}
use Rattle.row.proofs.LineRules.{line-is, line_gives}
use Rattle.row.proofs.Used.{used-is}
use Rattle.grid.specs.Slots.{held_headings}
use Rattle.grid.proofs.Bounds.{headings-range}
use Rattle.reader.specs.declared.record.Record.{Record}
use Rattle.reader.specs.Valid.{valid_of}
use Rattle.reader.specs.Model.{ended}
use Rattle.promises_texts.specs.Accepted.{Brings, nothing, a-row, Reads, VerdictFrom}
use Rattle.promises_texts.specs.Accepted.Reads.{end as end-of-lines, then}
use Rattle.promises_agreeing.specs.Agree.{AgreeBy}
use Rattle.promises_agreeing.specs.Agree.AgreeBy.{end, same, differ}
use Rattle.promises_rows.specs.Said.{headings_said}
use Rattle.promises_worked.specs.Starred.{is_refused, every}
use Rattle.promises_misfit.specs.Misfit.{is_used}
use Rattle.promises_one_direction.specs.OneDirection.{ReadAs, HeadingRead, UsedHeadings, EitherSign, some_signs, other_signs, SignsWorked, SignsDiffer, SignPiecesFrom, SignPieces, SignTextsFrom, SignTexts, SignRows, HoldsMinus, MinusNotValid, NoMinusAfter, NoMinusInChain, NoMinusPlace, heading_cases, in_first, in_second, read_so, HeadingsWorked}
use Rattle.promises_calls.proofs.Valid.{valid-is}
use Rattle.promises_chains.proofs.Calls.{calls-sound}
use Rattle.promises_chains.proofs.Chain.{chain-sound}
use Rattle.promises_tables.proofs.Lookup.{two-each}
use Rattle.promises_agreeing.proofs.Agree.{Hears, same-pieces-from, same-pieces, same-texts-from, same-texts}
use Rattle.promises_one_direction.proofs.Signs.{same_row}

-- ---- a heading

pub heading-read : HeadingRead
heading-read h = record { turned = λ e. ap heading_of e ∙ heading-turned; kept = heading-kept h }

module _ (c : Choices) (first : Bool) (line : List ℕ) where
  used-read :
      {e : Entry} → LineIs c first line (Row.Used e)
      → (w : Written) × Ranged c first line w × ReadAs (units_of w Column.beta1) e.heading1 × ReadAs (units_of w Column.beta2) e.heading2
  unfolding entry_of
  used-read (LineIs.used {w = w} r t f i) = (w, r, heading-read (units_of w Column.beta1), heading-read (units_of w Column.beta2))

pub used-headings : UsedHeadings
used-headings c first line e l = used-read c first line l

-- ---- texts

-- two such lines come to the same row
signs-row : {c : Choices} {n : ℕ} {a b : List ℕ} → SignsDiffer c n a b → row_of c (eqb n 0) a ≡ row_of c (eqb n 0) b
signs-row {c} {n} {a} {b} d = same_row c (eqb n 0) a b d.fields

signs-hear : Hears SignsDiffer
signs-hear c n a b d = record { short = d.short; other-short = d.other-short; same_row = λ s. ap (λ (w : Row). ended w s) (signs-row d) }

pub sign-pieces-from : SignPiecesFrom
sign-pieces-from = same-pieces-from signs-hear

pub sign-pieces : SignPieces
sign-pieces = same-pieces signs-hear

pub sign-texts-from : SignTextsFrom
sign-texts-from = same-texts-from signs-hear

pub sign-texts : SignTexts
sign-texts = same-texts signs-hear

-- the worked lines differ so, column by column
pub signs-worked : SignsWorked
unfolding some_signs other_signs bytes without_return ends before words rounds_up nearest without starts_minus leading after all_digits numeral before_point decimals exponent exponent_of number_with field_of with_sign exact units
signs-worked c n = record { short = lit≤ tt; other-short = lit≤ tt; fields = record { count = refl; columns = column } }
  where
    column : (k : ℕ) → (column_of (fields_of (bytes some_signs)) k ≡ column_of (fields_of (bytes other_signs)) k)
        ⊎ (((k ≡ 2) ⊎ (k ≡ 3)) × EitherSign (column_of (fields_of (bytes some_signs)) k) (column_of (fields_of (bytes other_signs)) k))
    column zero = inl refl
    column (suc zero) = inl refl
    column (suc (suc zero)) = inr (inl refl, record { decimal = record { negative = true; digits = 180; up = 0; down = 0 }; formed = refl; rounds = refl; behind = refl })
    column (suc (suc (suc zero))) =
        inr (inr refl, record { decimal = record { negative = false; digits = 1_799_996; up = 0; down = 4 }; formed = refl; rounds = refl; behind = refl })
    column (suc (suc (suc (suc k)))) = inl refl

-- ---- rows

module _ (c : Choices) (n : ℕ) (a b : List ℕ) (short : length b ≤ 160) (e : row_of c (eqb n 0) a ≡ row_of c (eqb n 0) b) where
  line-too : {row : Row} → LineIs c (eqb n 0) a row → LineIs c (eqb n 0) b row
  line-too l = subst (LineIs c (eqb n 0) b) (sym e ∙ line_gives c (eqb n 0) a l) (line-is c (eqb n 0) b)

  brings-too : {more : List Entry} → Brings c n a more → Brings c n b more
  brings-too (nothing limits l silent) = nothing (record { few = limits.few; short = short }) (line-too l) silent
  brings-too (a-row limits l) = a-row (record { few = limits.few; short = short }) (line-too l)

-- one line more, and the lines behind it
next :
    {c : Choices} {n : ℕ} {a b : List ℕ} {lines others : List (List ℕ)} → ((more : List Entry) → Brings c n a more → Brings c n b more)
    → ((rows : List Entry) → Reads c (suc n) lines rows → Reads c (suc n) others rows)
    → {rows : List Entry} → Reads c n (a ∷ lines) rows
    → Reads c n (b ∷ others) rows
next f g (then b r) = then (f _ b) (g _ r)

both_read :
    {c : Choices} {n : ℕ} {lines others : List (List ℕ)} → AgreeBy SignsDiffer c n lines others → (rows : List Entry)
    → Reads c n lines rows ↔ Reads c n others rows
both_read end rows = (λ r. r, λ r. r)
both_read (same g) rows = (next (λ more b. b) (λ k. (both_read g k).0), next (λ more b. b) (λ k. (both_read g k).1))
both_read (differ d g) rows = (
  next (λ more. brings-too _ _ _ _ d.other-short (signs-row d)) (λ k. (both_read g k).0),
  next (λ more. brings-too _ _ _ _ d.short (sym (signs-row d))) (λ k. (both_read g k).1),
)

pub sign-rows : SignRows
sign-rows c n lines others rows g = both_read g rows

-- ---- records

no_minus : (r : Record) → valid_of r ≡ true → HoldsMinus r → ⊥
no_minus r v m = <ℤ_irrefl (headings-range (held_headings r.slots) (valid-is r v).slots.headings _ m).0

pub minus-not-valid : MinusNotValid
minus-not-valid r m = refuted (valid_of r) (λ v. no_minus r v m) (λ n. n)

pub no-minus-after : NoMinusAfter
no-minus-after s calls shaped v = no_minus _ (calls-sound s calls shaped v).valid

pub no-minus-in-chain : NoMinusInChain
no-minus-in-chain c cells flags calls o = no_minus _ (chain-sound c cells flags calls o).valid

-- ---- places

not-minus : {h : ℤ} → HeadingIn h → h ≡ neg_ℤ (pos 180_000) → ⊥
not-minus k z = <ℤ_irrefl (subst (λ (y : ℤ). neg_ℤ (pos 180_000) <ℤ y) z k.above)

-- what rows say
rows-read : {c : Choices} {n : ℕ} {lines : List (List ℕ)} {rows : List Entry} → Reads c n lines rows → (e : Entry) → Memᴰ e rows → HeadingIn e.heading1 × HeadingIn e.heading2
rows-read end-of-lines e m = absurd (Memᴰ.not-nil m)
rows-read (then (nothing limits l silent) r) e m = rows-read r e m
rows-read {c} {n} (then {line = line} (a-row limits l) r) e m =
    let u = used-is c (eqb n 0) line (line_gives c (eqb n 0) line l) in
    ⊎_elim (λ same. subst (λ (d : Entry). HeadingIn d.heading1 × HeadingIn d.heading2) (sym same) (u.heading1, u.heading2)) (λ k. rows-read r e k) (Memᴰ.cases_cons m)

heading-shown : {c : Choices} {n : ℕ} {lines : List (List ℕ)} {rows : List Entry} → Reads c n lines rows → (h : ℤ) → Memᴰ h (headings_said rows) → HeadingIn h
heading-shown {rows = rows} r = two-each (λ e. e.heading1) (λ e. e.heading2) HeadingIn rows (rows-read r)

pub no-minus-place : NoMinusPlace
no-minus-place c text pair (VerdictFrom.lacks reads rules missing) =
    let needed = missing.lacking.needed in
    (not-minus (heading-shown reads _ needed.first.heading), not-minus (heading-shown reads _ needed.second.heading))

-- ---- the worked headings

pub headings-worked : HeadingsWorked
unfolding heading_cases is_used in_first in_second read_so is_refused every rounds_up nearest bytes without starts_minus leading after all_digits numeral before_point decimals exponent exponent_of number_with field_of with_sign exact units in_range in_units tick_of without_return ends before words starts_letter heading_of wamit_layout component_of decimal_of all_below values_at values_of is_in same_node is_fit fitted judged entry_in ranged_row formed_row words_row row_of
headings-worked = tt
