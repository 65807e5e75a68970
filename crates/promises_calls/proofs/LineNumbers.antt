-- The refusals of a line, 3 to 9 and 17: what every proof asks of such a number. Assumes nothing.
use mathlib.Core.Path.{◌≡◌, refl}
use mathlib.Core.Bool.{Bool, true, false, ◌&&◌, ◌||◌, false≢true}
use Prim.Native.Nat.{ℕ, ◌≤◌}
use native.Mathlib.Omega.{arith}
use borrow.Author.Tests.{le-leb, leb-true, eqb-true}
use lib.Dec.{leb, eqb}
use Rattle.row.proofs.Used.{RefusesRow}
use Rattle.reader.specs.Valid.{sticks}
use Rattle.promises_calls.specs.Answers.{OfLine, FromText}

-- a line's refusal is neither 1 nor 2, and not one of closing
pub record Told (number : ℕ) : Type 0 where
  pub least : 3 ≤ number
  pub not-ten : number ≡ 10 → ⊥
  pub not-eleven : number ≡ 11 → ⊥

pub line-told : {number : ℕ} → OfLine number → Told number
line-told (OfLine.by_order low high) = record { least = low; not-ten = λ e. omega arith; not-eleven = λ e. omega arith }
line-told OfLine.seventeen = record { least = omega arith; not-ten = λ e. omega arith; not-eleven = λ e. omega arith }

-- those of a row are among them
pub row_line : {number : ℕ} → RefusesRow number → OfLine number
row_line (RefusesRow.by_order {number} low high) = OfLine.by_order {number = number} (omega arith) (omega arith)
row_line RefusesRow.seventeen = OfLine.seventeen

-- ---- what sticks

pub sticks-by-order : (number : ℕ) → 3 ≤ number → number ≤ 11 → sticks number ≡ true
unfolding sticks
sticks-by-order number low high = rw (le-leb 3 number low, le-leb number 11 high)

pub line-sticks : {number : ℕ} → OfLine number → sticks number ≡ true
unfolding sticks
line-sticks (OfLine.by_order {number} low high) = sticks-by-order number low (omega arith)
line-sticks OfLine.seventeen = refl

-- 3 to 11, or 17
pub stuck-by : (P : ℕ → Type 0) → ((number : ℕ) → 3 ≤ number → number ≤ 11 → P number) → P 17 → (number : ℕ) → sticks number ≡ true → P number
unfolding sticks
stuck-by P order last number = go (leb 3 number) (leb number 11) (eqb number 17) refl refl refl
  where
    go : (low high at : Bool) → leb 3 number ≡ low → leb number 11 ≡ high → eqb number 17 ≡ at → ((low && high) || at) ≡ true → P number
    go true true at l h e t = order number (leb-true 3 number l) (leb-true number 11 h)
    go true false true l h e t = rw (eqb-true number 17 e) last
    go false high true l h e t = rw (eqb-true number 17 e) last
    go true false false l h e t = absurd (false≢true t)
    go false high false l h e t = absurd (false≢true t)

pub stuck-text : (number : ℕ) → sticks number ≡ true → FromText number
stuck-text = stuck-by FromText (λ number low high. FromText.few high) FromText.seventeen
