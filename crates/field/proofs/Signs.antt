-- A field under another sign: it has the same form, and its value has the same size in every unit. Assumes nothing.
use mathlib.Core.Path.{◌≡◌, refl, sym, ap, ◌∙◌}
use mathlib.Core.Bool.{Bool, true, false, cond, ◌&&◌}
use mathlib.Core.List.{List, ◌++◌}
use Prim.Native.Nat.{ℕ, ◌+◌}
use lib.Dec.{leb}
use Rattle.std.specs.Prelude.{Option, Some, None}
use lib.IntN.{pos, nat_abs}
use lib.ListN.{length}
use Rattle.whole.proofs.Magnitude.{nat_abs-neg}
use Rattle.field.specs.declared.decimal.Decimal.{Decimal}
use Rattle.field.specs.declared.form.Exponent.{Exponent}
use Rattle.field.specs.Form.{is_sign, is_point, without, starts_minus, leading, after, numeral, before_point, decimals, exponent, exponent_of, number_with, field_of}
use Rattle.field.specs.Units.{with_sign, units}
use Rattle.field.proofs.Scales.{units-size}

-- a decimal with this sign
abbrev pub signed : Bool → Decimal → Decimal
signed minus d = record { negative = minus; digits = d.digits; up = d.up; down = d.down }

-- a field's decimal by its sign and by what stands behind that
numbered : Bool → List ℕ → Option Exponent → Option Decimal
numbered minus s (Some e) =
    let fraction = leading (without is_point (after s)) in
    Some record {
      negative = minus;
      digits = numeral 0 (leading s ++ fraction);
      up = cond e.minus 0 e.power;
      down = length fraction + cond e.minus e.power 0;
    }
numbered minus s None = None

unsigned : Bool → List ℕ → Option Decimal
unsigned minus s =
    let fraction = leading (without is_point (after s)) in
    let count = length (leading s ++ fraction) in
    cond (leb 1 count && leb count 15) (numbered minus s (exponent_of (after (without is_point (after s))))) None

field_is : (s : List ℕ) → field_of s ≡ unsigned (starts_minus s) (without is_sign s)
unfolding field_of number_with before_point decimals exponent unsigned numbered
field_is s =
    let u = without is_sign s in
    let count = length (leading u ++ leading (without is_point (after u))) in
    ap (λ (f : Option Decimal). cond (leb 1 count && leb count 15) f None) (same (exponent_of (after (without is_point (after u)))))
  where
    same : (e : Option Exponent) → number_with s e ≡ numbered (starts_minus s) (without is_sign s) e
    same (Some e) = refl
    same None = refl

-- another sign makes a number of a number, and nothing of what has the wrong form
resigned : Bool → Option Decimal → Option Decimal
resigned minus (Some d) = Some (signed minus d)
resigned minus None = None

unsigned-other : (m n : Bool) (s : List ℕ) → unsigned n s ≡ resigned n (unsigned m s)
unfolding unsigned numbered resigned
unsigned-other m n s =
    let count = length (leading s ++ leading (without is_point (after s))) in
    other (leb 1 count && leb count 15) (exponent_of (after (without is_point (after s))))
  where
    other : (t : Bool) (e : Option Exponent) → cond t (numbered n s e) None ≡ resigned n (cond t (numbered m s e) None)
    other true (Some e) = refl
    other true None = refl
    other false e = refl

other_sign : (a b : List ℕ) → without is_sign a ≡ without is_sign b → field_of b ≡ resigned (starts_minus b) (field_of a)
other_sign a b e =
    field_is b
    ∙ ap (unsigned (starts_minus b)) (sym e)
    ∙ unsigned-other (starts_minus a) (starts_minus b) (without is_sign a)
    ∙ ap (resigned (starts_minus b)) (sym (field_is a))

pub number-too :
    (a b : List ℕ) {d : Decimal} → without is_sign a ≡ without is_sign b → field_of a ≡ Some d → field_of b ≡ Some (signed (starts_minus b) d)
unfolding resigned
number-too a b e f = other_sign a b e ∙ ap (resigned (starts_minus b)) f

-- the size of a value does not ask for the sign
sign-size : (minus : Bool) (n : ℕ) → nat_abs (with_sign minus n) ≡ n
unfolding with_sign
sign-size true n = nat_abs-neg (pos n)
sign-size false n = refl

pub same_size : (minus : Bool) (d : Decimal) (places : ℕ) → nat_abs (units (signed minus d) places) ≡ nat_abs (units d places)
same_size minus d places =
    ap nat_abs (units-size (signed minus d) places) ∙ sign-size minus _ ∙ sym (ap nat_abs (units-size d places) ∙ sign-size d.negative _)
