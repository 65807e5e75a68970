-- The listing's answers, each from what the code has found; and there are no more ticks than slots.
-- Assumes nothing.
use mathlib.Core.Path.{◌≡◌}
use mathlib.Core.Bool.{Bool, true, false, cond}
use mathlib.Core.List.{List, [], ◌∷◌}
use Prim.Native.Nat.{ℕ, suc, ◌-◌, ◌≤◌, zero-le, suc-le-suc}
use native.Mathlib.Omega.{arith}
use lib.Dec.{eqb}
use lib.IntN.{ℤ}
use lib.ListN.{length}
use borrow.Author.Tests.{eq-eqb, ne_eqb}
use Rattle.grid.specs.declared.nodes.Pair.{Pair}
use Rattle.reader.specs.declared.record.Record.{Record}
use Rattle.std.proofs.Common.{Option, Some, None}
use Rattle.grid.specs.Slots.{held_ticks}
use Rattle.reader.specs.Valid.{query_barred}
use Rattle.table.specs.Entries.{entry_at}
use Rattle.table.specs.Pairs.{nth_of}
use Rattle.text.specs.declared.line.Line.{Line}
use Rattle.lines.specs.Listing.{Listed}
use Rattle.lines.specs.Line.{line_of}
use Rattle.lines.specs.Listing.{title_text, pair_text, nth_text, text_of, listed}

-- ---- the count of frequencies

pub ticks-few : (l : List ℕ) → length (held_ticks l) ≤ length l
unfolding held_ticks
ticks-few [] = zero-le
ticks-few (t ∷ ts) = go (eqb t 0) (ticks-few ts)
  where
    go : (b : Bool) → length (held_ticks ts) ≤ length ts → length (cond b (held_ticks ts) (t ∷ held_ticks ts)) ≤ suc (length ts)
    go true h = omega arith
    go false h = suc-le-suc h

-- ---- the answers

module _ (r : Record) (cells : List ℤ) (k : ℕ) where
  abbrev answer : ℕ → Line 80 → Listed
  answer n l = record { number = n; line = l }

  pub refused : (n : ℕ) (l : Line 80) → n ≡ query_barred r (length cells) → (n ≡ 0 → ⊥) → l ≡ line_of [] → answer n l ≡ listed r cells k
  unfolding listed
  refused n l asked barred e = rw (← asked, ne_eqb n 0 barred, e)

  pub told : (n : ℕ) (l : Line 80) → n ≡ query_barred r (length cells) → n ≡ 0 → l ≡ line_of (text_of r cells k) → answer n l ≡ listed r cells k
  unfolding listed
  told n l asked free e = rw (← asked, eq-eqb n 0 free, e)

  pub first-text : k ≡ 0 → text_of r cells k ≡ title_text r
  unfolding text_of
  first-text e = rw (eq-eqb k 0 e)

  abbrev nth : Option Pair
  nth = nth_of r.choices.coverage r.slots (k - 1)

  pub pair-text : (p : Pair) → (k ≡ 0 → ⊥) → nth ≡ Some p → text_of r cells k ≡ pair_text p (entry_at r.slots cells p.first p.second)
  unfolding text_of nth_text
  pair-text p later e = rw (ne_eqb k 0 later, e)

  pub past-text : (k ≡ 0 → ⊥) → nth ≡ None → text_of r cells k ≡ []
  unfolding text_of nth_text
  past-text later e = rw (ne_eqb k 0 later, e)
