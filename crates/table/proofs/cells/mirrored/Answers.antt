-- `cells::mirrored` meets its contract: the negation that wraps leaves the least word. Assumes nothing.
use Rattle.std.proofs.Common.{◌≡◌, ◌∙◌, ap, sym, cond, Bool, w32, rules, to_z, of_z}
use mir.Val.{SFits}
use Rattle.std.specs.Int.{int_wrapping_neg}
use borrow.Author.Tests.{eq-eqb}
use Rattle.table.specs.Cells.{mirror, opposite}
use Rattle.table.proofs.Opposites.{opposite-is}
use Rattle.table.proofs.cells.mirrored.Goals as goal

pub returns-then-kind-eq0 : goal.returns-then-kind-eq0
unfolding mirror
returns-then-kind-eq0 c =
    let v = c.args.v in
    let re : to_z w32 (of_z w32 v.re) ≡ v.re = search rules in
    let im : to_z w32 (of_z w32 v.im) ≡ v.im = search rules in
    let neg : to_z w32 (of_z w32 c.wrapping_neg.result) ≡ c.wrapping_neg.result = search rules in
    let fits : SFits w32 v.im = search rules in
    let e = neg ∙ c.wrapping_neg.ensures ∙ ap (int_wrapping_neg w32) im ∙ opposite-is v.im fits ∙ sym (ap (λ (t : Bool). cond t (opposite v.im) v.im) (eq-eqb _ _ c.if-kind-eq0.true)) in
    λ i. record { re = re i; im = e i }
