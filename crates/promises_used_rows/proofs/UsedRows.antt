-- What a used row says is what its fields' exact decimals round to. Assumes nothing.
use Rattle.std.specs.Prelude.{Some}
use mathlib.Core.Bool.{Bool}
use mathlib.Core.List.{List}
use mathlib.Core.Path.{◌≡◌, refl, sym, ap, subst, ◌∙◌}
use Prim.Native.Nat.{ℕ, ◌*◌, ◌^◌, ◌<◌}
use native.Mathlib.Nat.{one-le-pow}
use native.Mathlib.Omega.{arith}
use lib.Dec.{lit<}
use lib.IntN.{ℤ, pos, negsuc, neg_ℤ, nat_abs, ◌*ℤ◌}
use lib.Signed.{◌≤ℤ◌}
use Rattle.whole.specs.Nearest.{nearest_ℤ, IsNearest}
use Rattle.whole.proofs.Laws.{neg_ℤ-*ℤ}
use Rattle.whole.proofs.Nearest.{nearest-is, nearest-unique}
use Rattle.field.specs.declared.decimal.Decimal.{Decimal}
use Rattle.field.specs.Form.{field_of}
use Rattle.field.specs.Units.{with_sign, exact, units, tick_of}
use Rattle.row.specs.declared.reading.Choices.{Choices}
use Rattle.row.specs.declared.reading.Entry.{Entry}
use Rattle.row.specs.Told.{Row}
use Rattle.row.specs.Heading.{heading_of}
use Rattle.row.specs.Layout.{wamit_layout, Column}
use Rattle.row.specs.LineRules.{fields_of, Written, Between, Ranged, entry_of, LineIs}
use Rattle.row.proofs.Sizes.{size_above, size_below}
use Rattle.row.proofs.Headings.{heading-turned, heading-kept}
use Rattle.promises_fields.proofs.Fields.{field-exactly}
use Rattle.promises_used_rows.specs.UsedRows.{Rounds, RoundsOnce, Counted, UnitsCounted, TickFrom, HeadingFrom, PartFrom, SaysFrom, UsedRowSays}

-- ---- rounding

rounds : {x : ℤ} {d : ℕ} {q : ℤ} → IsNearest x d q → Rounds x d q
rounds n = record { half = n.close; even = n.tie }

pub rounds-once : RoundsOnce
rounds-once x d p q some a b = nearest-unique d some {x = x} (record { close = a.half; tie = a.even }) (record { close = b.half; tie = b.even })

ten-above : (n : ℕ) → 0 < 10 ^ n
ten-above n = one-le-pow n 10 (lit< tt)

counted : (d : Decimal) (places : ℕ) → Counted d (10 ^ places) (units d places)
unfolding units exact with_sign
counted d places =
    let n = d.digits * 10 ^ d.up in
    let u = 10 ^ places in
    let over = 10 ^ d.down in
    let up = rounds (nearest-is (pos (n * u)) over (ten-above d.down)) in
    let down = rounds (nearest-is (neg_ℤ (pos (n * u))) over (ten-above d.down)) in
    record {
      plus = λ e. subst (λ (s : Bool). Rounds (pos (n * u)) over (nearest_ℤ (with_sign s n *ℤ pos u) over)) (sym e) up;
      minus = λ e.
          subst (λ (s : Bool). Rounds (neg_ℤ (pos (n * u))) over (nearest_ℤ (with_sign s n *ℤ pos u) over)) (sym e)
          (subst (λ (z : ℤ). Rounds (neg_ℤ (pos (n * u))) over (nearest_ℤ z over)) (sym (neg_ℤ-*ℤ (pos n) (pos u))) down);
    }

pub units-counted : UnitsCounted
units-counted d = (counted d 6, counted d 3)

-- ---- the fields of a row

is-size : (n : ℕ) (z : ℤ) → pos n ≤ℤ z → z ≡ pos (nat_abs z)
is-size n (pos m) h = refl
is-size n (negsuc m) h = absurd h.le

module _ (field : List ℕ) (d : Decimal) (formed : field_of field ≡ Some d) where
  tick-from : Between (pos 1_000_000) (pos 100_000_000) (units d 6) → TickFrom field (tick_of (nat_abs (units d 6)))
  unfolding tick_of
  tick-from b =
      let m = nat_abs (units d 6) in
      let low = size_above 1_000_000 (units d 6) b.above in
      record {
        decimal = d;
        says = (field-exactly field d).0 formed;
        microseconds = m;
        rounded = subst (Counted d 1_000_000) (is-size 1_000_000 (units d 6) b.above) (counted d 6);
        least = low;
        most = size_below 1_000_000 100_000_000 (units d 6) b.above b.below;
        frequency = rounds (nearest-is (pos 10_000_000_000) m (omega arith));
      }

  heading-from : HeadingFrom field (heading_of (units d 3))
  heading-from =
      record {
        decimal = d;
        says = (field-exactly field d).0 formed;
        millidegrees = units d 3;
        rounded = counted d 3;
        turned = λ e. ap heading_of e ∙ heading-turned;
        kept = heading-kept (units d 3);
      }

  part-from : PartFrom field (units d 6)
  part-from = record { decimal = d; says = (field-exactly field d).0 formed; rounded = counted d 6 }

-- ---- a row

module _ (c : Choices) (first : Bool) (line : List ℕ) where
  says-from : (w : Written) → Ranged c first line w → SaysFrom (fields_of line) (entry_of w)
  unfolding entry_of wamit_layout
  says-from w r =
      let right = r.own.formed.right in
      let formed = right.decimal in
      record {
        nine = right.count;
        per1 = tick-from _ (w.decimal Column.per1) (formed Column.per1) (r.range Column.per1);
        per2 = tick-from _ (w.decimal Column.per2) (formed Column.per2) (r.range Column.per2);
        beta1 = heading-from _ (w.decimal Column.beta1) (formed Column.beta1);
        beta2 = heading-from _ (w.decimal Column.beta2) (formed Column.beta2);
        re = part-from _ (w.decimal Column.re) (formed Column.re);
        im = part-from _ (w.decimal Column.im) (formed Column.im);
      }

  by-line : {e : Entry} → LineIs c first line (Row.Used e) → SaysFrom (fields_of line) e
  by-line (LineIs.used {w = w} r t f i) = says-from w r

pub used-row-says : UsedRowSays
used-row-says c first line e l = by-line c first line l
