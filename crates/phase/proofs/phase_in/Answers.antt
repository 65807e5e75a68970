-- `phase::phase_in` meets its contract: by the laws of Folding, from where the step falls in the table. Assumes nothing.
use Rattle.std.proofs.Common.{◌≡◌, ◌-◌, ◌<◌, not, pos, sym, ap, ◌∙◌, arith, w64, to_z-of_z}
use lib.ListN.{get_or-eq_default}
use Rattle.phase.specs.Turn.{quarter_of, entry}
use Rattle.phase.proofs.Folding.{signed_by, cosine-folded, sine-folded, cosine-none, sine-none}
use Rattle.phase.proofs.phase_in.Goals as goal

-- an empty table has 0 for its first entry
pub returns-in-empty : goal.returns-in-empty
returns-in-empty c =
    let q = quarter_of c.args.table.now in
    let none : entry q 0 ≡ 0 = get_or-eq_default c.args.table.now 0 (omega (arith, c.in-empty.len_below)) in
    let zero = sym (ap pos none) in
    λ i. record {
      re = (zero ∙ sym (cosine-none q (omega (arith, c.in-empty.len_below)) c.args.step)) i;
      im = (zero ∙ sym (sine-none q (omega (arith, c.in-empty.len_below)) c.args.step)) i;
    }

pub returns-in-len1 : goal.returns-in-len1
returns-in-len1 c =
    let q = quarter_of c.args.table.now in
    let none : q.steps ≡ 0 = omega (arith, c.in-len1.len_below) in
    let only = to_z-of_z {w = w64} record { sfits = c.from-only.type_inv } ∙ c.from-only.ensures in
    λ i. record { re = (only ∙ sym (cosine-none q none c.args.step)) i; im = (only ∙ sym (sine-none q none c.args.step)) i }

pub returns-in_default : goal.returns-in_default
returns-in_default c =
    let q = quarter_of c.args.table.now in
    let some : 0 < q.steps = omega (arith, c.in_default.len_at_least) in
    let place = c.fold-i.ensures.place in
    let cosine =
    to_z-of_z {w = w64} record { sfits = c.signed.type_inv }
    ∙ c.signed.ensures
    ∙ (λ i. signed_by (c.is_within.ensures i) (entry q (place i)))
    ∙ sym (cosine-folded q some c.args.step) in
    let sine =
    to_z-of_z {w = w64} record { sfits = c.signed-in_default.type_inv }
    ∙ c.signed-in_default.ensures
    ∙ (λ i. signed_by (not (c.is_within-in_default.ensures i)) (entry q (q.steps - place i)))
    ∙ sym (sine-folded q some c.args.step) in
    λ i. record { re = cosine i; im = sine i }
