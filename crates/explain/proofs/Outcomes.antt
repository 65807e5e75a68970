-- What opening comes to where the reader's own opening succeeds, and that closing goes on with valid records alone. Assumes nothing.
use mathlib.Core.Path.{◌≡◌, refl, sym, ◌∙◌}
use mathlib.Core.Bool.{Bool, true, false, cond, ◌&&◌}
use mathlib.Core.List.{List, ◌++◌}
use Prim.Native.Nat.{ℕ, ◌≤◌, min}
use native.Mathlib.Omega.{arith}
use lib.Dec.{eqb}
use lib.IntN.{ℤ}
use lib.ListN.{length, drop, replicate}
use borrow.Author.Tests.{eq-eqb, le-ltb}
use Rattle.row.specs.declared.reading.Choices.{Choices}
use Rattle.reader.specs.Valid.{sticks, valid_of}
use Rattle.reader.specs.Model.{Out, too_short, barred_by, open_of}
use Rattle.reasons.specs.declared.explanation.Stated.{Stated}
use Rattle.explain.specs.declared.explainer.Explainer.{Explainer}
use Rattle.origins.specs.Memory.{lines_lent}
use Rattle.explain.specs.Model.{Reading, Stepped, reading_of, fresh_with, open_for, close_barred}

-- o is what the reader's own opening came to, x the explainer with its record, and l the lines, all that are lent set to 0
pub opened :
    (c : Choices) (w : Stated) (cells : List ℤ) (flags lines : List ℕ) {o : Out} {x : Explainer} {l : List ℕ} → lines_lent ≤ length lines
    → o ≡ open_of c cells flags → x ≡ fresh_with o.after.reader w → o.after.reader.marks.stage ≡ 1 → l ≡ replicate lines_lent 0 ++ drop lines_lent lines
    → ◌≡◌ {A = Stepped} (record { after = reading_of x o.after.cells o.after.flags l; answer = o.answer }) (open_for c w cells flags lines)
unfolding open_for
opened c w cells flags lines {o} long e f h g =
    rw (le-ltb (length lines) lines_lent long, ← e, eq-eqb o.after.reader.marks.stage 1 h)
    (λ i. record { after = reading_of (f i) o.after.cells o.after.flags (g i); answer = o.answer })

-- a record that closing goes on with is valid: it is open, or stuck
pub close-valid : (x : Reading) → {n : ℕ} → n ≡ close_barred x → n ≡ 0 → valid_of x.state.reader ≡ true
unfolding close_barred barred_by
close-valid x {n} e h =
    let r = x.state.reader in
    go (valid_of r) (sticks r.marks.stage) (too_short (length x.state.cells) (min (length x.state.flags) (length x.memory.lines)))
    r.marks.stage refl (sym e ∙ h)
  where
    go :
        (valid stuck short : Bool) (stage : ℕ) → valid_of x.state.reader ≡ valid
        → ◌≡◌ {A = ℕ} (cond short 1 (cond (eqb (cond (valid && stuck) stage (cond short 1 (cond (valid && eqb stage 1) 0 2))) 2) 2 0)) 0
        → valid_of x.state.reader ≡ true
    go true stuck short stage v g = v
    go false stuck true stage v g = absurd (omega arith)
    go false stuck false stage v g = absurd (omega arith)
