-- `reading::bare_row` meets its contract: as many words as were counted, a first word that tells a title, and each return is a case of `words_row`.
-- Assumes nothing.
use Rattle.std.proofs.Common.{◌≡◌, sym, ap, ◌∙◌, false, ◌&&◌, eqb, List, ℕ, min, length, arith}
use borrow.Author.Tests.{eq-eqb, ne_eqb}
use Rattle.row.specs.Line.{words, starts_letter}
use Rattle.row.specs.own.Found.{first_nine}
use Rattle.row.specs.own.Values.{values_of}
use Rattle.row.specs.own.Rows.{formed_row, words_row}
use Rattle.row.proofs.Spanned.{no-more}
use Rattle.row.proofs.reading.bare_row.Goals as goal
use Rattle.row.proofs.reading.bare_row.Goals.{After-find-columns, Joined-else-first, else-first-via-then-first+else-starts_with_letter, else-first-via-else-first}

-- how many there are
counted : (c : After-find-columns) → c.find-columns.result.count ≡ min (length (words c.args.line.now)) 10
counted c = c.find-columns.result.counted ∙ ap (λ (l : List ℕ). min (length (words l)) 10) c.find-columns.ensures

-- there are some
not-blank : (c : After-find-columns) → (c.find-columns.result.count ≡ 0 → ⊥) → eqb (length (words c.args.line.now)) 0 ≡ false
not-blank c some = let any : length (words c.args.line.now) ≡ 0 → ⊥ = λ e. some (omega (arith, counted c, e)) in ne_eqb _ _ any

-- whether the line is a title
letter : (c : After-find-columns) → starts_letter (words c.find-columns.result.line.now) ≡ starts_letter (words c.args.line.now)
letter c = ap (λ (l : List ℕ). starts_letter (words l)) c.find-columns.ensures

no-title : (c : Joined-else-first) → (c.args.first && starts_letter (words c.args.line.now)) ≡ false
no-title c =
    elim c.else-first.branch [
      | else-first-via-then-first+else-starts_with_letter w ↦
          rw (w.if-first.true, ← ap (λ (l : List ℕ). starts_letter (words l)) c.find-columns.ensures) (sym w.if-starts_with_letter.ensures)
      | else-first-via-else-first w ↦ rw w.if-first.false
    ]

-- ---- the answers

pub returns-then-columns-eq0 : goal.returns-then-columns-eq0
unfolding words_row
returns-then-columns-eq0 c =
    let n = counted (goal.at.returns-then-columns-eq0 c).After-find-columns in
    let none : length (words c.args.line.now) ≡ 0 = omega (arith, n) in
    rw (eq-eqb _ _ none)

pub returns-then-starts_with_letter : goal.returns-then-starts_with_letter
unfolding words_row
returns-then-starts_with_letter c =
    let a = (goal.at.returns-then-starts_with_letter c).After-find-columns in
    rw (not-blank a c.if-columns-eq0.false, c.if-first.true, ← letter a, ← c.if-starts_with_letter.ensures)

pub returns-then-columns-layout : goal.returns-then-columns-layout
unfolding words_row
returns-then-columns-layout c =
    let a = (goal.at.returns-then-columns-layout c).After-find-columns in
    let other : length (words c.args.line.now) ≡ c.args.layout.columns → ⊥ = λ e. c.if-columns-layout.true (omega (arith, counted a, e)) in
    rw (not-blank a c.if-columns-eq0.false, no-title (goal.at.returns-then-columns-layout c).Joined-else-first, ne_eqb _ _ other)

pub returns-else-columns-layout : goal.returns-else-columns-layout
unfolding words_row
returns-else-columns-layout c =
    let a = (goal.at.returns-else-columns-layout c).After-find-columns in
    let as_many : length (words c.args.line.now) ≡ c.args.layout.columns = omega (arith, counted a, c.if-columns-layout.false) in
    let all : first_nine c.find-columns.result.line.now ≡ words c.args.line.now =
    ap first_nine c.find-columns.ensures ∙ no-more c.args.line.now (omega (arith, as_many)) in
    rw (not-blank a c.if-columns-eq0.false, no-title (goal.at.returns-else-columns-layout c).Joined-else-first, eq-eqb _ _ as_many)
    (c.formed_row.ensures ∙ ap (λ (l : List (List ℕ)). formed_row c.args.c (values_of c.args.layout l)) all)
