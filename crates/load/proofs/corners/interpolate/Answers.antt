-- `corners::interpolate` meets its contract: none of the four corners is out of bounds, so each part is small, and comes back from its bits. Assumes nothing.
use Rattle.std.proofs.Common.{◌≡◌, ◌≤◌, ◌∙◌, ℤ, nat_abs, w32, to_z, of_z, to_z-of_z}
use Rattle.load.specs.own.Square.{part_of, CornersInBounds}
use Rattle.load.specs.declared.locating.Bracket.{Bracket}
use Rattle.load.proofs.Bilinear.{small_word, all_small}
use Rattle.load.proofs.corners.interpolate.Goals as goal

-- a part in bounds, read back from its bits
abbrev back : ℤ → ℤ
back z = to_z w32 (of_z w32 z)

back_is : (z : ℤ) → nat_abs z ≤ 1_000_000_000 → back z ≡ z
back_is z h = to_z-of_z (small_word z h)

module _ {a b c d : ℤ} (small : CornersInBounds a b c d) where
  all_back : CornersInBounds (back a) (back b) (back c) (back d)
  all_back =
      record {
        low-low = rw (back_is a small.low-low) small.low-low;
        low-high = rw (back_is b small.low-high) small.low-high;
        high-low = rw (back_is c small.high-low) small.high-low;
        high-high = rw (back_is d small.high-high) small.high-high;
      }

  part-back : (p q : Bracket) → part_of p q (back a) (back b) (back c) (back d) ≡ part_of p q a b c d
  part-back p q = λ i. part_of p q (back_is a small.low-low i) (back_is b small.low-high i) (back_is c small.high-low i) (back_is d small.high-high i)

pub part-requires-clause-bounds : goal.part-requires-clause-bounds
part-requires-clause-bounds c = all_back (all_small c.args.s c.requires.bounds).0

pub part-requires-2-clause-bounds : goal.part-requires-2-clause-bounds
part-requires-2-clause-bounds c = all_back (all_small c.args.s c.requires.bounds).1

pub returns : goal.returns
returns c =
    let small = all_small c.args.s c.requires.bounds in
    let re = to_z-of_z {w = w32} {z = c.part.result} record { sfits = c.part.type_inv } in
    let im = to_z-of_z {w = w32} {z = c.part-2.result} record { sfits = c.part-2.type_inv } in
    let re-is = re ∙ c.part.ensures.value ∙ part-back small.0 c.args.p c.args.q in
    let im-is = im ∙ c.part-2.ensures.value ∙ part-back small.1 c.args.p c.args.q in
    record { value = λ i. record { re = re-is i; im = im-is i }; small = (rw re c.part.ensures.small, rw im c.part-2.ensures.small) }
