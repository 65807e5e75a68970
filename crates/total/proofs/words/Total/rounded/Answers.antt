-- `total::words::Total::rounded` meets its contract: the size is rounded and held to 2^63, and the high word's first bit is the sign. Assumes nothing.
use Rattle.std.proofs.Common.{◌≡◌, ℕ, ◌^◌, ◌<◌, min, pos, neg_ℤ, sym, ap, ◌∙◌, arith, to_z-of_z, w64}
use mir.Facts.{to_z_pos}
use Rattle.whole.specs.Nearest.{nearest}
use Rattle.total.specs.Total.{words}
use Rattle.total.proofs.Totals.{top-clear, top_set}
use Rattle.total.proofs.Rounds.{rounded-pos, rounded-neg}
use Rattle.total.proofs.words.Total.rounded.Goals as goal

pub returns-then-self-ge9223372036854775808 : goal.returns-then-self-ge9223372036854775808
returns-then-self-ge9223372036854775808 c =
    let t = c.args.self in
    let r = c.negated.result in
    let e : min c.quotient.result (2 ^ 63) ≡ min (nearest (words r) (2 ^ 30)) (2 ^ 63) = omega (arith, c.quotient.ensures) in
    to_z-of_z {w = w64} record { sfits = c.minus.type_inv }
    ∙ c.minus.ensures
    ∙ ap (λ (n : ℕ). neg_ℤ (pos n)) e
    ∙ sym (rounded-neg t (words r) (top_set (omega arith) (omega arith) c.negated.ensures c.if-self-ge9223372036854775808.true))

pub returns-else-self-ge9223372036854775808 : goal.returns-else-self-ge9223372036854775808
returns-else-self-ge9223372036854775808 c =
    let t = c.args.self in
    let q = c.quotient-else-self-ge9223372036854775808 in
    let h : c.min.result < 2 ^ 63 = omega (arith, c.min.ensures) in
    to_z_pos w64 h
    ∙ ap pos (omega (arith, c.min.ensures, q.ensures))
    ∙ sym (rounded-pos t (words t) (top-clear (omega arith) c.if-self-ge9223372036854775808.false))
