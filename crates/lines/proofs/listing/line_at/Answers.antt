-- `listing::line_at` meets its contract: each way out is an answer of proofs/Answers.antt. Assumes nothing.
use Rattle.std.proofs.Common.{◌≡◌, refl, sym, ap, ◌∙◌, arith, []}
use Rattle.std.proofs.lemmas.Grind.{common_steps}
use Rattle.refusals.specs.Numbered.{number_of, number_in}
use Rattle.refusals.proofs.Numbers.{some-number}
use Rattle.lines.specs.Line.{line_of}
use Rattle.lines.specs.Listing.{Listed, listed_in}
use Rattle.lines.proofs.Answers.{refused, told, first-text, pair-text, past-text}
use Rattle.lines.proofs.listing.line_at.Goals as goal

pub returns-in_err-query_barred : goal.returns-in_err-query_barred
returns-in_err-query_barred c =
    let a = c.args in
    let e = c.in_err-query_barred.field-0.0 in
    let number : number_in c.query_barred.result ≡ number_of e = ap number_in c.in_err-query_barred.was in
    let given : ◌≡◌ {A = Listed} (listed_in c.from_residual.result) (record { number = number_of e; line = line_of [] }) = grind (arith, common_steps) in
    given ∙ refused a.r a.cells.now a.k _ _ (sym number ∙ c.query_barred.ensures) (some-number e) refl

pub returns-then-k-eq0 : goal.returns-then-k-eq0
returns-then-k-eq0 c =
    let a = c.args in
    let free = ap number_in (sym c.in_ok-query_barred.was) ∙ c.query_barred.ensures in
    told a.r a.cells.now a.k _ _ free refl
    (c.title.ensures ∙ ap line_of (sym (first-text a.r a.cells.now a.k c.if-k-eq0.true)))

pub returns-in_default : goal.returns-in_default
returns-in_default c =
    let a = c.args in
    let free = ap number_in (sym c.in_ok-query_barred.was) ∙ c.query_barred.ensures in
    let past = sym c.kth.ensures ∙ c.in_default.is in
    told a.r a.cells.now a.k _ _ free refl
    (c.empty.ensures ∙ ap line_of (sym (past-text a.r a.cells.now a.k c.if-k-eq0.false past)))

pub returns : goal.returns
returns c =
    let a = c.args in
    let free = ap number_in (sym c.in_ok-query_barred.was) ∙ c.query_barred.ensures in
    let there = sym c.kth.ensures ∙ c.in-Some.is in
    told a.r a.cells.now a.k _ _ free refl
    (c.pair_line.ensures ∙ ap line_of (sym (pair-text a.r a.cells.now a.k _ c.if-k-eq0.false there)))
