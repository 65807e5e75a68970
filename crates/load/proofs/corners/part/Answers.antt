-- `corners::part` meets its contract: the corners go along the one bracket and then the other; the sum is raised so that it has no sign, and its quotient lowered again. Each
-- step is small. Assumes nothing.
use Rattle.std.proofs.Common.{◌≡◌, ℕ, ◌*◌, ◌≤◌, ap, ◌∙◌, arith, ℤ, pos, nat_abs, ◌+ℤ◌, ◌-ℤ◌, ◌*ℤ◌, w32, w64, SFits, to_z, of_z, to_z-of_z}
use mir.Facts.{to_z_pos}
use Rattle.whole.specs.Nearest.{nearest}
use Rattle.whole.proofs.Nearest.{nearest-le}
use Rattle.load.specs.own.Brackets.{ProperBracket}
use Rattle.load.specs.own.Square.{along_of, part_of, CornersInBounds}
use Rattle.load.specs.declared.locating.Bracket.{Bracket}
use Rattle.load.proofs.Bilinear.{small_word, along-small, part_small, over-few, Raised, top-raised, part-raised}
use Rattle.load.proofs.Terms.{word_of}
use Rattle.load.proofs.corners.part.Goals as goal

abbrev back : ℤ → ℤ
back z = to_z w64 (of_z w64 z)

-- two corners along a bracket, as the code has them, and that they are small
along_is : (q : Bracket) (x y r a b : ℤ) → SFits w64 x → SFits w64 y → SFits w64 r → x ≡ a → y ≡ b → r ≡ along_of q (back x) (back y) → back r ≡ along_of q a b
along_is q x y r a b f g h d e is = to_z-of_z {w = w64} h ∙ is ∙ (λ i. along_of q ((to_z-of_z {w = w64} f ∙ d) i) ((to_z-of_z {w = w64} g ∙ e) i))

module _ (p q : Bracket) (a b c d : ℤ) (fp : ProperBracket p) (fq : ProperBracket q) (small : CornersInBounds a b c d) where
  lows-small : nat_abs (along_of q a b) ≤ 9_900_000_000_000
  lows-small = omega (arith, along-small q fq a b 1_000_000_000 small.low-low small.low-high, fq.most)

  highs-small : nat_abs (along_of q c d) ≤ 9_900_000_000_000
  highs-small = omega (arith, along-small q fq c d 1_000_000_000 small.high-low small.high-high, fq.most)

  abbrev over : ℕ
  over = p.width * q.width

  few : over ≤ 98_010_000
  few = over-few _ _ fp fq _ _ _ _ small

  abbrev top : ℤ
  top = along_of p (along_of q a b) (along_of q c d)

  lift : Raised top (1_000_000_000 * over)
  lift = top-raised _ _ fp fq _ _ _ _ small

  abbrev part : ℤ
  part = part_of p q a b c d

  part-few : nat_abs part ≤ 1_000_000_000
  part-few = part_small _ _ fp fq _ _ _ _ small

  sum_fits : SFits w64 (pos lift.size)
  sum_fits = record { sfits = omega (arith, few, lift.most) }

  -- what is added, and the sum, read back from their bits
  module _ (x y : ℕ) (e : x ≡ p.width) (f : y ≡ q.width) (t : ℤ) (top-is : back t ≡ top) where
    over-is : x * y ≡ over
    over-is = λ i. e i * f i

    times-back : back (pos 1_000_000_000 *ℤ to_z w64 (x * y)) ≡ pos (1_000_000_000 * over)
    times-back =
        let wide : to_z w64 (x * y) ≡ pos over = ap (to_z w64) over-is ∙ to_z_pos w64 (omega (arith, few)) in
        (λ i. back (pos 1_000_000_000 *ℤ wide i)) ∙ to_z-of_z {w = w64} {z = pos (1_000_000_000 * over)} record { sfits = omega (arith, few) }

    sum_is : back t +ℤ back (pos 1_000_000_000 *ℤ to_z w64 (x * y)) ≡ pos lift.size
    sum_is = (λ i. top-is i +ℤ times-back i) ∙ lift.same

    sum_back : back (back t +ℤ back (pos 1_000_000_000 *ℤ to_z w64 (x * y))) ≡ pos lift.size
    sum_back = ap back sum_is ∙ to_z-of_z sum_fits

    -- the quotient, lowered
    module _ (n : ℕ) (g : n ≡ nearest (nat_abs (back (back t +ℤ back (pos 1_000_000_000 *ℤ to_z w64 (x * y))))) (x * y)) where
      quotient : n ≡ nearest lift.size over
      quotient = g ∙ (λ i. nearest (nat_abs (sum_back i)) (over-is i))

      quotient-few : n ≤ 200_000_000_000_000_000
      quotient-few = omega (arith, quotient, nearest-le lift.size over, few, lift.most)

      lowered : to_z w64 n -ℤ pos 1_000_000_000 ≡ part
      lowered =
          ap (λ z. z -ℤ pos 1_000_000_000) (to_z_pos w64 (omega (arith, quotient-few)) ∙ ap pos quotient)
          ∙ part-raised _ _ fp fq _ _ _ _ small lift.size lift.same

      lowered-word : SFits w64 (to_z w64 n -ℤ pos 1_000_000_000)
      lowered-word = rw lowered (word_of part (omega (arith, part-few)))

      lowered-back : back (to_z w64 n -ℤ pos 1_000_000_000) ≡ part
      lowered-back = to_z-of_z lowered-word ∙ lowered

      part-back : to_z w32 (of_z w32 (back (to_z w64 n -ℤ pos 1_000_000_000))) ≡ part
      part-back = ap (λ z. to_z w32 (of_z w32 z)) lowered-back ∙ to_z-of_z (small_word part part-few)

-- a corner in the wider word
wide_corner : (x a : ℤ) → SFits w32 a → x ≡ to_z w32 (of_z w32 a) → x ≡ a
wide_corner x a f e = e ∙ to_z-of_z f

pub along-top-requires-clause-low : goal.along-top-requires-clause-low
along-top-requires-clause-low c =
    let lows = along_is _ _ _ _ _ _ record { sfits = c.from.type_inv } record { sfits = c.from-2.type_inv } record { sfits = c.along.type_inv }
    (wide_corner _ _ c.ranges.a c.from.ensures) (wide_corner _ _ c.ranges.b c.from-2.ensures) c.along.ensures in
    rw lows (lows-small _ _ _ _ _ _ c.requires.first c.requires.second c.requires.bounds)

pub along-top-requires-clause-high : goal.along-top-requires-clause-high
along-top-requires-clause-high c =
    let highs = along_is _ _ _ _ _ _ record { sfits = c.from-3.type_inv } record { sfits = c.from-4.type_inv } record { sfits = c.along-2.type_inv }
    (wide_corner _ _ c.ranges.c c.from-3.ensures) (wide_corner _ _ c.ranges.d c.from-4.ensures) c.along-2.ensures in
    rw highs (highs-small _ _ _ _ _ _ c.requires.first c.requires.second c.requires.bounds)

pub overflow_add-raised : goal.overflow_add-raised
overflow_add-raised c =
    let fp = c.requires.first in
    let fq = c.requires.second in
    let bounds = c.requires.bounds in
    let lows = along_is _ _ _ _ _ _ record { sfits = c.from.type_inv } record { sfits = c.from-2.type_inv } record { sfits = c.along.type_inv }
    (wide_corner _ _ c.ranges.a c.from.ensures) (wide_corner _ _ c.ranges.b c.from-2.ensures) c.along.ensures in
    let highs = along_is _ _ _ _ _ _ record { sfits = c.from-3.type_inv } record { sfits = c.from-4.type_inv } record { sfits = c.along-2.type_inv }
    (wide_corner _ _ c.ranges.c c.from-3.ensures) (wide_corner _ _ c.ranges.d c.from-4.ensures) c.along-2.ensures in
    let top-is = to_z-of_z {w = w64} record { sfits = c.along-top.type_inv } ∙ c.along-top.ensures ∙ (λ i. along_of c.args.p (lows i) (highs i)) in
    rw (sum_is _ _ _ _ _ _ fp fq bounds _ _ c.from-5.ensures c.from-6.ensures c.along-top.result top-is) (sum_fits _ _ _ _ _ _ fp fq bounds)

pub overflow_cast-raised-2 : goal.overflow_cast-raised-2
overflow_cast-raised-2 c =
    let fp = c.requires.first in
    let fq = c.requires.second in
    let bounds = c.requires.bounds in
    let lows = along_is _ _ _ _ _ _ record { sfits = c.from.type_inv } record { sfits = c.from-2.type_inv } record { sfits = c.along.type_inv }
    (wide_corner _ _ c.ranges.a c.from.ensures) (wide_corner _ _ c.ranges.b c.from-2.ensures) c.along.ensures in
    let highs = along_is _ _ _ _ _ _ record { sfits = c.from-3.type_inv } record { sfits = c.from-4.type_inv } record { sfits = c.along-2.type_inv }
    (wide_corner _ _ c.ranges.c c.from-3.ensures) (wide_corner _ _ c.ranges.d c.from-4.ensures) c.along-2.ensures in
    let top-is = to_z-of_z {w = w64} record { sfits = c.along-top.type_inv } ∙ c.along-top.ensures ∙ (λ i. along_of c.args.p (lows i) (highs i)) in
    rw (sum_back _ _ _ _ _ _ fp fq bounds _ _ c.from-5.ensures c.from-6.ensures c.along-top.result top-is) (tt, record { fits = omega (arith, few _ _ _ _ _ _ fp fq bounds, (lift _ _ _ _ _ _ fp fq bounds).most) })

pub overflow_cast-result : goal.overflow_cast-result
overflow_cast-result c =
    let fp = c.requires.first in
    let fq = c.requires.second in
    let bounds = c.requires.bounds in
    let lows = along_is _ _ _ _ _ _ record { sfits = c.from.type_inv } record { sfits = c.from-2.type_inv } record { sfits = c.along.type_inv }
    (wide_corner _ _ c.ranges.a c.from.ensures) (wide_corner _ _ c.ranges.b c.from-2.ensures) c.along.ensures in
    let highs = along_is _ _ _ _ _ _ record { sfits = c.from-3.type_inv } record { sfits = c.from-4.type_inv } record { sfits = c.along-2.type_inv }
    (wide_corner _ _ c.ranges.c c.from-3.ensures) (wide_corner _ _ c.ranges.d c.from-4.ensures) c.along-2.ensures in
    let top-is = to_z-of_z {w = w64} record { sfits = c.along-top.type_inv } ∙ c.along-top.ensures ∙ (λ i. along_of c.args.p (lows i) (highs i)) in
    record { sfits = omega (arith, quotient-few _ _ _ _ _ _ fp fq bounds _ _ c.from-5.ensures c.from-6.ensures c.along-top.result top-is _ c.nearest.ensures) }

pub overflow_sub-result : goal.overflow_sub-result
overflow_sub-result c =
    let fp = c.requires.first in
    let fq = c.requires.second in
    let bounds = c.requires.bounds in
    let lows = along_is _ _ _ _ _ _ record { sfits = c.from.type_inv } record { sfits = c.from-2.type_inv } record { sfits = c.along.type_inv }
    (wide_corner _ _ c.ranges.a c.from.ensures) (wide_corner _ _ c.ranges.b c.from-2.ensures) c.along.ensures in
    let highs = along_is _ _ _ _ _ _ record { sfits = c.from-3.type_inv } record { sfits = c.from-4.type_inv } record { sfits = c.along-2.type_inv }
    (wide_corner _ _ c.ranges.c c.from-3.ensures) (wide_corner _ _ c.ranges.d c.from-4.ensures) c.along-2.ensures in
    let top-is = to_z-of_z {w = w64} record { sfits = c.along-top.type_inv } ∙ c.along-top.ensures ∙ (λ i. along_of c.args.p (lows i) (highs i)) in
    lowered-word _ _ _ _ _ _ fp fq bounds _ _ c.from-5.ensures c.from-6.ensures c.along-top.result top-is _ c.nearest.ensures

pub overflow_cast-result-2 : goal.overflow_cast-result-2
overflow_cast-result-2 c =
    let fp = c.requires.first in
    let fq = c.requires.second in
    let bounds = c.requires.bounds in
    let lows = along_is _ _ _ _ _ _ record { sfits = c.from.type_inv } record { sfits = c.from-2.type_inv } record { sfits = c.along.type_inv }
    (wide_corner _ _ c.ranges.a c.from.ensures) (wide_corner _ _ c.ranges.b c.from-2.ensures) c.along.ensures in
    let highs = along_is _ _ _ _ _ _ record { sfits = c.from-3.type_inv } record { sfits = c.from-4.type_inv } record { sfits = c.along-2.type_inv }
    (wide_corner _ _ c.ranges.c c.from-3.ensures) (wide_corner _ _ c.ranges.d c.from-4.ensures) c.along-2.ensures in
    let top-is = to_z-of_z {w = w64} record { sfits = c.along-top.type_inv } ∙ c.along-top.ensures ∙ (λ i. along_of c.args.p (lows i) (highs i)) in
    rw (lowered-back _ _ _ _ _ _ fp fq bounds _ _ c.from-5.ensures c.from-6.ensures c.along-top.result top-is _ c.nearest.ensures) (small_word _ (part-few _ _ _ _ _ _ fp fq bounds))

pub returns : goal.returns
returns c =
    let fp = c.requires.first in
    let fq = c.requires.second in
    let bounds = c.requires.bounds in
    let lows = along_is _ _ _ _ _ _ record { sfits = c.from.type_inv } record { sfits = c.from-2.type_inv } record { sfits = c.along.type_inv }
    (wide_corner _ _ c.ranges.a c.from.ensures) (wide_corner _ _ c.ranges.b c.from-2.ensures) c.along.ensures in
    let highs = along_is _ _ _ _ _ _ record { sfits = c.from-3.type_inv } record { sfits = c.from-4.type_inv } record { sfits = c.along-2.type_inv }
    (wide_corner _ _ c.ranges.c c.from-3.ensures) (wide_corner _ _ c.ranges.d c.from-4.ensures) c.along-2.ensures in
    let top-is = to_z-of_z {w = w64} record { sfits = c.along-top.type_inv } ∙ c.along-top.ensures ∙ (λ i. along_of c.args.p (lows i) (highs i)) in
    let back-is = part-back _ _ _ _ _ _ fp fq bounds _ _ c.from-5.ensures c.from-6.ensures c.along-top.result top-is _ c.nearest.ensures in
    record { value = back-is; small = rw back-is (part-few _ _ _ _ _ _ fp fq bounds) }
