-- A sentence put into a slice byte by byte: what is left of it is still to come. Assumes nothing.
use mathlib.Core.Path.{◌≡◌}
use mathlib.Core.Bool.{Bool, true, false, cond}
use mathlib.Core.List.{List, [], ◌++◌}
use Prim.Native.Nat.{ℕ, ◌+◌, ◌<◌, ◌≤◌, ◌%◌, ◌/◌}
use native.Mathlib.Numerals.{add-one}
use native.Mathlib.Omega.{arith}
use lib.Dec.{eqb}
use lib.IntN.{ℤ, pos, nat_abs}
use lib.ListN.{length, drop, get_or, drop_of_length-le}
use lib.Seq.{drop-cons}
use borrow.Author.Tests.{eq-eqb, ne_eqb}
use Rattle.text.specs.Decimal.{natural, minus, decimal}
use Rattle.template.specs.Filling.{degrees, shown, uses, filled_from}

-- one byte more: what it stands for, and what is left behind it. Its number as the code holds it, and how many it takes
pub next-shown :
    (s : List ℕ) (i k : ℕ) (numbers : List ℤ) {z : ℤ} {used : ℕ}
    → i < length s
    → z ≡ get_or numbers k (pos 0)
    → used ≡ uses (get_or s i 0)
    → filled_from (drop i s) k numbers ≡ shown (get_or s i 0) z ++ filled_from (drop (i + 1) s) (k + used) numbers
unfolding filled_from
next-shown s i k numbers h e u = rw (e, u, add-one, drop-cons s i 0)

-- none left
pub all_shown : (s : List ℕ) (i k : ℕ) (numbers : List ℤ) → length s ≤ i → filled_from (drop i s) k numbers ≡ []
unfolding filled_from
all_shown s i k numbers h = rw (drop_of_length-le s {i = i} h)

-- a byte takes one number at most
pub uses-few : (b : ℕ) {n : ℕ} → n ≡ uses b → n ≤ 1
unfolding uses
uses-few b e = rw e (go (eqb b 35) (eqb b 37) (eqb b 64))
  where
    go : (p q r : Bool) → cond p 1 (cond q 1 (cond r 1 0)) ≤ 1
    go true q r = omega arith
    go false true r = omega arith
    go false false true = omega arith
    go false false false = omega arith

-- ---- headings

pub degrees-whole : (z : ℤ) {size : ℕ} → size ≡ nat_abs z → size % 1_000 ≡ 0 → minus z ++ natural (size / 1_000) ≡ degrees z
unfolding degrees
degrees-whole z e h = rw (← e, eq-eqb _ _ h)

pub degrees-part : (z : ℤ) {size : ℕ} → size ≡ nat_abs z → (size % 1_000 ≡ 0 → ⊥) → decimal 3 z ≡ degrees z
unfolding degrees
degrees-part z e h = rw (← e, ne_eqb _ _ h)
