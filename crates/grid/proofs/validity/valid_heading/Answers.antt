-- `validity::valid_heading` meets its contract: the last test asks whether a later slot holds the heading. Assumes nothing.
use Rattle.std.proofs.Common.{◌≡◌, ◌∙◌, ap, not, true, ◌+◌, get_or, pos, neg_ℤ, rules, to_z, of_z, w32, sym, ◌&&◌}
use Rattle.std.specs.Int.Signed.{le_z, lt_z}
use Rattle.std.specs.Ordering.{int_eq}
use Rattle.grid.proofs.Places.{heading-among}
use Rattle.grid.proofs.Checking.{holds, alone}
use Rattle.grid.proofs.validity.valid_heading.Goals as goal

pub returns-then-in_range : goal.returns-then-in_range
returns-then-in_range c =
    let headings = c.args.headings.now in
    let i = c.args.i in
    let h = get_or headings i (pos 0) in
    let back : to_z w32 (of_z w32 h) ≡ h = search rules in
    let range : (lt_z (neg_ℤ (pos 180_000)) h && le_z h (pos 180_000)) ≡ true = rw back at (sym c.in_range.ensures ∙ c.if-in_range.true) in
    holds range (alone int_eq headings (i + 1) h (rw back at c.contains.ensures.value) ∙ ap not (heading-among _ _))
