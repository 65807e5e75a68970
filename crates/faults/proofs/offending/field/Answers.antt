-- `offending::field` meets its contract: a line of nine fields has them in the nine columns that WAMIT writes, and of any other none offends. Assumes nothing.
use Rattle.std.proofs.Common.{◌≡◌, sym, ap, ◌∙◌, Some, List, ℕ, ◌<◌, min, length, arith}
use Rattle.std.specs.List.{find, range_with_len}
use borrow.Author.Tests.{eq-eqb, ne_eqb}
use Rattle.row.specs.declared.layout.Layout.{Layout}
use Rattle.row.specs.Line.{without_return, words}
use Rattle.row.specs.Layout.{wamit_layout}
use Rattle.row.specs.LineRules.{fields_of}
use Rattle.row.specs.own.Found.{first_nine}
use Rattle.row.proofs.Spanned.{no-more}
use Rattle.faults.specs.Offending.{offending_field}
use Rattle.faults.specs.own.Offends.{offends, named, first_offending}
use Rattle.faults.proofs.FirstHeld.{looked-below}
use Rattle.faults.proofs.offending.field.Goals as goal
use Rattle.faults.proofs.offending.field.Goals.{After-first}

-- how many fields there are
counted : {n : ℕ} {bare : List ℕ} (line : List ℕ) → n ≡ min (length (words bare)) 10 → bare ≡ without_return line → n ≡ min (length (fields_of line)) 10
counted line n cut = n ∙ ap (λ (l : List ℕ). min (length (words l)) 10) cut

nine : {layout : Layout} → layout ≡ wamit_layout → layout.columns ≡ 9
unfolding wamit_layout
nine e = ap (λ (l : Layout). l.columns) e

-- in a row of nine
module _ (c : After-first) where
  as_many : length (fields_of c.args.line.now) ≡ 9
  as_many =
      let n = counted _ c.of_line-columns.result.counted c.of_line-columns.ensures in
      omega (arith, n, nine c.wamit-layout.ensures, c.if-columns-layout.false)

  -- what is found is what offends first
  found : c.first.result ≡ find (offends wamit_layout c.args.number (fields_of c.args.line.now)) (range_with_len 0 9)
  found =
      let all : first_nine c.of_line-columns.result.line.now ≡ fields_of c.args.line.now =
      ap first_nine c.of_line-columns.ensures ∙ no-more (without_return c.args.line.now) (omega (arith, as_many)) in
      let layout = c.wamit-layout.ensures in
      c.first.ensures ∙ (λ i. find (offends (layout i) c.args.number (all i)) (range_with_len 0 (nine layout i)))

  below : {k : ℕ} → Some k ≡ c.first.result → k < 9
  below e = looked-below (offends wamit_layout c.args.number (fields_of c.args.line.now)) 9 0 (e ∙ found)

pub returns-then-columns-layout : goal.returns-then-columns-layout
unfolding offending_field first_offending wamit_layout
returns-then-columns-layout c =
    let n = counted _ c.of_line-columns.result.counted c.of_line-columns.ensures in
    let other : length (fields_of c.args.line.now) ≡ 9 → ⊥ =
    λ e. c.if-columns-layout.true (omega (arith, n, nine c.wamit-layout.ensures, e)) in
    rw (ne_eqb _ _ other)

pub overflow_add-result : goal.overflow_add-result
overflow_add-result c =
    let a = (goal.at.overflow_add-result c).After-first in
    omega (arith, below a (sym c.in-Some.is))

pub overflow_cast-result : goal.overflow_cast-result
overflow_cast-result c =
    let a = (goal.at.overflow_cast-result c).After-first in
    omega (arith, below a (sym c.in-Some.is))

pub returns-in-Some : goal.returns-in-Some
unfolding offending_field first_offending named wamit_layout
returns-in-Some c =
    let a = (goal.at.returns-in-Some c).After-first in
    rw (eq-eqb _ 9 (as_many a)) (ap named (sym c.in-Some.is ∙ found a))

pub returns-in-None : goal.returns-in-None
unfolding offending_field first_offending named wamit_layout
returns-in-None c =
    let a = (goal.at.returns-in-None c).After-first in
    rw (eq-eqb _ 9 (as_many a)) (ap named (sym c.in-None.is ∙ found a))
