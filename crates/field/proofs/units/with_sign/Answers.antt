-- `field::units::with_sign` meets its contract: a size below 2^32 is itself as a signed word, and keeps its minus whole. Assumes nothing.
use Rattle.std.proofs.Common.{◌≡◌, ◌∙◌, ap, ℕ, ◌<◌, ◌^◌, pos, negsuc, neg_ℤ, ◌-ℤ◌, zero, suc, arith}
use lib.IntN.{+ℤ_idl}
use mir.Syntax.{w64}
use mir.Val.{to_z, of_z}
use mir.Facts.{to_z_pos, to_z-of_z}
use Rattle.field.specs.Units.{with_sign}
use Rattle.field.proofs.units.with_sign.Goals as goal

wide : {n : ℕ} → n < 2 ^ 32 → to_z w64 n ≡ pos n
wide h = to_z_pos w64 (omega arith)

minus : (n : ℕ) → n < 2 ^ 32 → to_z w64 (of_z w64 (neg_ℤ (pos n))) ≡ neg_ℤ (pos n)
minus zero h = to_z-of_z {w = w64} {z = pos 0} record { sfits = omega arith }
minus (suc k) h = to_z-of_z {w = w64} {z = negsuc k} record { sfits = omega arith }

pub returns-then-negative : goal.returns-then-negative
unfolding with_sign
returns-then-negative c =
    let none = +ℤ_idl (neg_ℤ (pos c.args.size)) in
    rw c.if-negative.true
    (ap (λ z. to_z w64 (of_z w64 (pos 0 -ℤ z))) (wide c.requires) ∙ ap (λ z. to_z w64 (of_z w64 z)) none ∙ minus c.args.size c.requires)

pub returns-else-negative : goal.returns-else-negative
unfolding with_sign
returns-else-negative c = rw (wide c.requires, c.if-negative.false)
