-- Every lent cell of a table that holds rows is a part in range, and so it is all along a chain. Assumes nothing.
use mathlib.Core.Bool.{Bool, true, false, cond}
use mathlib.Core.List.{List, ◌++◌}
use mathlib.Core.Logic.{◌⊎◌, inl, inr, ⊎_elim}
use mathlib.Core.Path.{◌≡◌, sym, ap, ap₂, ◌∙◌, subst}
use Prim.Native.Nat.{ℕ, ◌+◌, ◌*◌, ◌/◌, ◌%◌, ◌<◌}
use native.Mathlib.Omega.{arith}
use native.Mathlib.Decide.{ℕ_discrete}
use lib.Dec.{eqb}
use lib.IntN.{ℤ, pos, neg_ℤ, neg_ℤ-neg_ℤ}
use lib.ListN.{get_or}
use lib.Signed.{◌≤ℤ◌}
use Rattle.whole.specs.Complex.{Complex, conj}
use Rattle.whole.proofs.Magnitude.{nat_abs-le-of}
use Rattle.whole.proofs.OrderLaws.{neg_ℤ-anti}
use Rattle.row.specs.declared.reading.Entry.{Entry}
use Rattle.table.specs.Cells.{place_of, cell_at}
use Rattle.table.specs.Placing.{value_of, Table}
use Rattle.reader.specs.Model.{table_at}
use Rattle.promises_rows.specs.Said.{Within, mirror_of}
use Rattle.promises_tables.specs.Holds.{grid_of, FlaggedCell, flagged_at, marked, Holds}
use Rattle.promises_chains.specs.Chain.{calls_of, opened}
use Rattle.promises_texts.specs.Start.{from_opening}
use Rattle.promises_accepted.specs.Bounded.{RowsBounded, CallsBounded, ChainBounded}
use Rattle.promises_rows.proofs.Said.{says-cases}
use Rattle.promises_texts.proofs.Start.{open-starts}
use Rattle.promises_texts.proofs.Along.{calls_table}

-- both parts of a value
record PartsIn (v : Complex) : Type 0 where
  pub re : Within 1_000_000_000 v.re
  pub im : Within 1_000_000_000 v.im

within-neg : (n : ℕ) (z : ℤ) → Within n z → Within n (neg_ℤ z)
within-neg n z w =
    record {
      above = neg_ℤ-anti w.below;
      below = subst (λ (y : ℤ). neg_ℤ z ≤ℤ y) (neg_ℤ-neg_ℤ (pos n)) (neg_ℤ-anti w.above);
    }

parts-mirror : (kind : ℕ) (v : Complex) → PartsIn v → PartsIn (mirror_of kind v)
unfolding mirror_of
parts-mirror kind v p = go (eqb kind 0)
  where
    go : (t : Bool) → PartsIn (cond t (conj v) v)
    go true = record { re = p.re; im = within-neg 1_000_000_000 v.im p.im }
    go false = p

-- a place is even or odd
even-or-odd : (i : ℕ) → (i ≡ 2 * (i / 2)) ⊎ (i ≡ 2 * (i / 2) + 1)
even-or-odd i =
    elim (ℕ_discrete (i % 2) 0) [
      | yes e ↦ inl (omega arith)
      | no n ↦ inr (omega arith)
    ]

module _ (kind : ℕ) (rows : List Entry) (t : Table) (H : Holds kind rows t) where
  spot_in : (n m : ℕ) → n < 80 → m < 80 → PartsIn (flagged_at (grid_of t) (place_of n m)).value
  spot_in n m hn hm =
      ⊎_elim
      (λ z.
      subst (λ (s : FlaggedCell). PartsIn s.value) (sym z)
      (record { re = record { above = record { le = tt }; below = record { le = tt } }; im = record { above = record { le = tt }; below = record { le = tt } } }))
      (λ o.
      let row = o.said.row in
      let p = H.proper row o.said.listed in
      let own : PartsIn (value_of row) = record { re = p.re; im = p.im } in
      let stands : flagged_at (grid_of t) (place_of n m) ≡ marked o.v =
      ap₂ (λ (i j : ℕ). flagged_at (grid_of t) (place_of i j)) (sym o.first) (sym o.second) ∙ H.in_cells o.a o.b o.v o.said
      in
      subst (λ (s : FlaggedCell). PartsIn s.value) (sym stands)
      (says-cases (λ a b v. PartsIn v) own (parts-mirror kind (value_of row) own) o.said.says))
      (H.rest n m hn hm)

  cell_in : (i p : ℕ) → p < 6_400 → (i ≡ 2 * p) ⊎ (i ≡ 2 * p + 1) → Within 1_000_000_000 (get_or t.cells i (pos 0))
  unfolding flagged_at cell_at place_of
  cell_in i p h w =
      let at : 80 * (p / 80) + p % 80 ≡ p = omega arith in
      let s = spot_in (p / 80) (p % 80) (omega arith) (omega arith) in
      ⊎_elim
      (λ e. subst (λ (j : ℕ). Within 1_000_000_000 (get_or t.cells j (pos 0))) (ap (λ (k : ℕ). 2 * k) at ∙ sym e) s.re)
      (λ e. subst (λ (j : ℕ). Within 1_000_000_000 (get_or t.cells j (pos 0))) (ap (λ (k : ℕ). 2 * k + 1) at ∙ sym e) s.im)
      w

pub rows-bounded : RowsBounded
rows-bounded kind rows t H =
    record {
      part = λ i h.
          let w = cell_in kind rows t H i (i / 2) (omega arith) (even-or-odd i) in nat_abs-le-of (get_or t.cells i (pos 0)) 1_000_000_000 w.above w.below;
    }

-- ---- a chain

pub calls-bounded : CallsBounded
calls-bounded g s calls at =
    let (rows, is) = calls_table g s calls at in rows-bounded g.choices.kind (g.rows ++ rows) (table_at (calls_of calls s)) is.holds

pub chain-bounded : ChainBounded
chain-bounded c cells flags calls o = calls-bounded (from_opening c) (opened c cells flags) calls (open-starts c cells flags o)
