-- `reading::judge` meets its contract: whichever way single coverage is passed, its test is false, and the fit decides what comes behind it. Assumes nothing.
use Rattle.std.proofs.Common.{◌≡◌, ◌∙◌, false, not, ◌&&◌, eqb, nat_abs, rules}
use mathlib.Core.Bool.{and-false}
use borrow.Author.Tests.{eq-eqb, ne_eqb}
use mir.Syntax.{w32}
use mir.Val.{SFits}
use mir.Facts.{to_z-of_z}
use Rattle.whole.specs.Same.{same_ℤ}
use Rattle.row.specs.own.Rows.{is_fit, judged}
use Rattle.whole.proofs.Same.{same-yes, same-no}
use Rattle.row.proofs.reading.judge.Goals as goal
use Rattle.row.proofs.reading.judge.Goals.{After-fits, else-c-eq0-via-then-c-eq0+else-e, else-c-eq0-via-else-c-eq0}

pub returns-then-e : goal.returns-then-e
unfolding judged
returns-then-e c =
    let fits1 : SFits w32 c.args.e.heading1 = search rules in
    let fits2 : SFits w32 c.args.e.heading2 = search rules in
    rw (eq-eqb _ _ c.if-c-eq0.true, same-no w32 fits1 fits2 c.if-e.true)

-- single coverage has passed
passed : (c : After-fits) → (eqb c.args.c.coverage 0 && not (same_ℤ c.args.e.heading1 c.args.e.heading2)) ≡ false
passed c =
    let fits1 : SFits w32 c.args.e.heading1 = search rules in
    let fits2 : SFits w32 c.args.e.heading2 = search rules in
    elim c.else-c-eq0.branch [
      | else-c-eq0-via-then-c-eq0+else-e w ↦ simp (same-yes w32 fits1 fits2 w.if-e.false, and-false)
      | else-c-eq0-via-else-c-eq0 w ↦ simp (ne_eqb _ _ w.if-c-eq0.false)
    ]

-- what `fits` was told
fit-told : (c : After-fits) → c.fits.result ≡ is_fit (nat_abs c.args.modulus) c.args.e.re c.args.e.im
fit-told c =
    let fits-re : SFits w32 c.args.e.re = search rules in
    let fits-im : SFits w32 c.args.e.im = search rules in
    c.fits.ensures ∙ (λ i. is_fit (nat_abs (to_z-of_z c.ranges.modulus i)) (to_z-of_z fits-re i) (to_z-of_z fits-im i))

pub returns-then-fits : goal.returns-then-fits
unfolding judged
returns-then-fits c =
    let a = (goal.at.returns-then-fits c).After-fits in
    rw (passed a, ← fit-told a, c.if-fits.true) c.fitted.ensures

pub returns-else-fits : goal.returns-else-fits
unfolding judged
returns-else-fits c =
    let a = (goal.at.returns-else-fits c).After-fits in
    rw (passed a, ← fit-told a, c.if-fits.false)
