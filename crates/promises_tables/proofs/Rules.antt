-- The rules of rows among themselves, row by row: no row of a list that keeps them is refused after the rows before it. Assumes nothing.
use mathlib.Core.List.{List, [], ◌∷◌, ◌++◌, append_assoc}
use mathlib.Core.Path.{◌≡◌, refl, sym, subst}
use Prim.Native.Nat.{ℕ}
use native.Mathlib.Omega.{arith}
use Rattle.row.specs.declared.reading.Entry.{Entry}
use Rattle.promises_tables.specs.Rules.{RowNumber, RowRules}
use Rattle.promises_tables.specs.Rules.RowNumber.{eight, nine, none}
use Rattle.promises_rows.proofs.Said.{said-before, ticks_of-length, headings_of-length}
use Rattle.promises_tables.proofs.Placed.{no-differs, not-too-many}

-- the rows at the front of a list that keeps the rules keep them
rules-front : (kind : ℕ) (rows more : List Entry) → RowRules kind (rows ++ more) → RowRules kind rows
rules-front kind rows more r =
    record {
      frequencies = let n = ticks_of-length rows more in let h = r.frequencies in omega arith;
      headings = let n = headings_of-length rows more in let h = r.headings in omega arith;
      consistent = λ a b v w o u. r.consistent a b v w (said-before more o) (said-before more u);
    }

-- and none of its rows is refused
pub not-refused : (kind : ℕ) (rows : List Entry) (e : Entry) (more : List Entry) (n : ℕ) → RowRules kind (rows ++ (e ∷ more)) → RowNumber kind rows e n → n ≡ 0
not-refused kind rows e more n r w = go n w
  where
    front : RowRules kind (rows ++ (e ∷ []))
    front = rules-front kind (rows ++ (e ∷ [])) more (subst (RowRules kind) (sym (append_assoc rows (e ∷ []) more)) r)

    go : (m : ℕ) → RowNumber kind rows e m → m ≡ 0
    go m (eight t) = absurd (not-too-many front t)
    go m (nine f d) = absurd (no-differs front.consistent d)
    go m (none f g) = refl
