-- `corners::along` meets its contract: a weight times a value is far within a word, and so is the sum of two. Assumes nothing.
use Rattle.std.proofs.Common.{◌≡◌, ℕ, ◌*◌, ◌≤◌, ap, ◌∙◌, arith, ℤ, pos, nat_abs, ◌*ℤ◌, w64, SFits, to_z, of_z, to_z-of_z}
use Rattle.whole.proofs.Words.{◌within◌, fits, within-pos, within-+, within-*}
use Rattle.load.specs.own.Square.{along_of}
use Rattle.load.proofs.Bilinear.{low-few, high-few}
use Rattle.load.proofs.corners.along.Goals as goal

-- a weight times a value, as the code has it
module _ {x z : ℤ} {n : ℕ} (e : x ≡ pos n) (few : n ≤ 9_900) (small : nat_abs z ≤ 9_900_000_000_000) (word : SFits w64 z) where
  term-within : pos n *ℤ z within 9_901 * 9_900_000_000_001
  term-within =
      let weight : pos n within 9_901 = within-pos (omega arith) in
      let value : z within 9_900_000_000_001 = record { small = omega arith } in
      within-* weight value

  term-back : to_z w64 (of_z w64 (to_z w64 (of_z w64 x) *ℤ to_z w64 (of_z w64 z))) ≡ pos n *ℤ z
  term-back =
      let weight : to_z w64 (of_z w64 x) ≡ pos n = ap (λ y. to_z w64 (of_z w64 y)) e ∙ to_z-of_z {w = w64} record { sfits = omega arith } in
      (λ i. to_z w64 (of_z w64 (weight i *ℤ to_z-of_z word i))) ∙ to_z-of_z {w = w64} (fits tt term-within)

-- and the two
pub overflow_add-result : goal.overflow_add-result
overflow_add-result c =
    let p = c.args.p in
    let low-weight = low-few p c.requires.bracket in
    let high-weight = high-few p c.requires.bracket in
    rw (term-back c.from.ensures low-weight c.requires.low c.ranges.low, term-back c.from-2.ensures high-weight c.requires.high c.ranges.high)
    (fits tt (within-+ (term-within c.from.ensures low-weight c.requires.low c.ranges.low) (term-within c.from-2.ensures high-weight c.requires.high c.ranges.high)))

pub returns : goal.returns
unfolding along_of
returns c =
    let p = c.args.p in
    let low-weight = low-few p c.requires.bracket in
    let high-weight = high-few p c.requires.bracket in
    rw (term-back c.from.ensures low-weight c.requires.low c.ranges.low, term-back c.from-2.ensures high-weight c.requires.high c.ranges.high)
    (to_z-of_z {w = w64} (fits tt (within-+ (term-within c.from.ensures low-weight c.requires.low c.ranges.low) (term-within c.from-2.ensures high-weight c.requires.high c.ranges.high))))
