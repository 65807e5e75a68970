-- `pairs::turned` meets its contract: the raised products and what they are lowered by are exact, and far below 2^127. Assumes nothing.
use Rattle.std.proofs.Common.{◌≡◌, ℕ, ◌+◌, ◌*◌, ◌^◌, ◌≤◌, sym, ap, ◌∙◌, lt_of_le_of_lt, mul-le-mul, arith, lit<, ℤ, pos, neg_ℤ, nat_abs, ◌+ℤ◌, ◌-ℤ◌, ◌*ℤ◌, w64, to_z, of_z, to_z-of_z}
use lib.IntN.{+ℤ_idl}
use Rattle.whole.proofs.Magnitude.{nat_abs-neg}
use Rattle.total.specs.Total.{words, meaning, Added, Negated}
use Rattle.total.specs.declared.words.Total.{Total}
use Rattle.total.proofs.Sums.{exact-add, exact-negated}
use Rattle.total.proofs.Totals.{plain}
use Rattle.load.specs.own.Terms.{complex}
use Rattle.load.proofs.Terms.{word_of, turned-small, lowered}
use Rattle.load.proofs.pairs.turned.Goals as goal

-- a product with no sign, far below 2^127
few-product : (r k : ℕ) → r ≤ 9_000_000_000_000_000_000 → k ≤ 2 ^ 31 → r * k ≤ 9_000_000_000_000_000_000 * 2 ^ 31
few-product r k h l = mul-le-mul h l

plain-product : (t : Total) (r k : ℕ) → words t ≡ r * k → r ≤ 9_000_000_000_000_000_000 → k ≤ 2 ^ 31 → meaning t ≡ pos (r * k)
plain-product t r k e h l =
    let small : words t ≤ 9_000_000_000_000_000_000 * 2 ^ 31 = rw e (few-product r k h l) in
    plain t (lt_of_le_of_lt small (lit< tt)) ∙ ap pos e

-- the opposite of the imaginary part, which the code has as 0 - im
module _ (im : ℤ) (few : nat_abs im ≤ 3_200_000_000_000_000_000) where
  less-few : nat_abs (neg_ℤ im) ≤ 4_000_000_000_000_000_000
  less-few = rw (nat_abs-neg im) (omega (arith, few))

  less-back : to_z w64 (of_z w64 (pos 0 -ℤ to_z w64 (of_z w64 im))) ≡ neg_ℤ im
  less-back =
      let back : to_z w64 (of_z w64 im) ≡ im = to_z-of_z (word_of im (omega (arith, few))) in
      ap (λ z. to_z w64 (of_z w64 z)) (ap (λ z. pos 0 -ℤ z) back ∙ +ℤ_idl (neg_ℤ im)) ∙ to_z-of_z (word_of (neg_ℤ im) (omega (arith, less-few)))

-- ---- three products, and their sum

module _ (re im cosine sine : ℤ) (a b : ℕ) (a-few : a ≤ 2 ^ 30) (b-few : b ≤ 2 ^ 30) (a-is : a ≡ nat_abs cosine) (b-is : b ≡ nat_abs sine)
    (r s : ℕ) (r-few : r ≤ 9_000_000_000_000_000_000) (s-few : s ≤ 9_000_000_000_000_000_000)
    (r-is : pos (r * nat_abs cosine) ≡ re *ℤ cosine +ℤ pos (2 ^ 62 * nat_abs cosine))
    (s-is : pos (s * nat_abs sine) ≡ neg_ℤ im *ℤ sine +ℤ pos (2 ^ 62 * nat_abs sine))
    (along across lift down both all : Total)
    (along-is : words along ≡ r * a) (across-is : words across ≡ s * b) (lift-is : words lift ≡ 2 ^ 62 * (a + b))
    (down-is : Negated lift down) (both-is : Added along across both) (all-is : Added both down all)
  where
    along-plain : meaning along ≡ pos (r * a)
    along-plain = plain-product along r a along-is r-few (omega (arith, a-few))

    across-plain : meaning across ≡ pos (s * b)
    across-plain = plain-product across s b across-is s-few (omega (arith, b-few))

    lift-plain : meaning lift ≡ pos (2 ^ 62 * (a + b))
    lift-plain = plain-product lift (2 ^ 62) (a + b) lift-is (omega arith) (omega (arith, a-few, b-few))

    few-along : r * a ≤ 9_000_000_000_000_000_000 * 2 ^ 31
    few-along = few-product r a r-few (omega (arith, a-few))

    few-across : s * b ≤ 9_000_000_000_000_000_000 * 2 ^ 31
    few-across = few-product s b s-few (omega (arith, b-few))

    few-lift : 2 ^ 62 * (a + b) ≤ 9_000_000_000_000_000_000 * 2 ^ 31
    few-lift = few-product (2 ^ 62) (a + b) (omega arith) (omega (arith, a-few, b-few))

    opposite : meaning down ≡ neg_ℤ (pos (2 ^ 62 * (a + b)))
    opposite = exact-negated (rw lift-plain (lt_of_le_of_lt few-lift (lit< tt))) down-is ∙ ap neg_ℤ lift-plain

    added : meaning both ≡ meaning along +ℤ meaning across
    added =
        let room : r * a + s * b ≤ 18_000_000_000_000_000_000 * 2 ^ 31 = omega (arith, few-along, few-across) in
        exact-add (rw (along-plain, across-plain) (lt_of_le_of_lt room (lit< tt))) both-is

    added-plain : meaning both ≡ pos (r * a + s * b)
    added-plain = added ∙ (λ i. along-plain i +ℤ across-plain i)

    all-added : meaning all ≡ meaning both +ℤ meaning down
    all-added =
        let room : r * a + s * b + nat_abs (neg_ℤ (pos (2 ^ 62 * (a + b)))) ≤ 27_000_000_000_000_000_000 * 2 ^ 31 =
        rw (nat_abs-neg (pos (2 ^ 62 * (a + b)))) (omega (arith, few-along, few-across, few-lift)) in
        exact-add (rw (added-plain, opposite) (lt_of_le_of_lt room (lit< tt))) all-is

    sum : meaning all ≡ re *ℤ cosine -ℤ im *ℤ sine
    sum =
        all-added
        ∙ ap (λ z. z +ℤ meaning down) added
        ∙ lowered _ _ _ re im cosine sine (nat_abs cosine) (nat_abs sine)
        (along-plain ∙ ap (λ (m : ℕ). pos (r * m)) a-is ∙ r-is)
        (across-plain ∙ ap (λ (m : ℕ). pos (s * m)) b-is ∙ s-is)
        (opposite ∙ (λ i. neg_ℤ (pos (2 ^ 62 * (a-is i + b-is i)))))

pub returns : goal.returns
returns c =
    let w = c.args.w in
    let z = c.args.z in
    let p = c.requires in
    let re-back : to_z w64 (of_z w64 w.re) ≡ w.re = to_z-of_z (word_of w.re (omega (arith, p.0.0))) in
    let cosine-back : to_z w64 (of_z w64 z.cosine) ≡ z.cosine = to_z-of_z (word_of z.cosine (omega (arith, p.1))) in
    let sine-back : to_z w64 (of_z w64 z.sine) ≡ z.sine = to_z-of_z (word_of z.sine (omega (arith, p.2))) in
    let minus = less-back w.im p.0.1 in
    let a-is : c.unsigned_abs-c.result ≡ nat_abs z.cosine = c.unsigned_abs-c.ensures.value ∙ ap nat_abs cosine-back in
    let b-is : c.unsigned_abs-s.result ≡ nat_abs z.sine = c.unsigned_abs-s.ensures.value ∙ ap nat_abs sine-back in
    let r-is = (λ i. pos (c.raised.result * nat_abs (sym cosine-back i)))
    ∙ c.raised.ensures.value
    ∙ (λ i. re-back i *ℤ cosine-back i +ℤ pos (2 ^ 62 * nat_abs (cosine-back i))) in
    let s-is = (λ i. pos (c.raised-2.result * nat_abs (sym sine-back i)))
    ∙ c.raised-2.ensures.value
    ∙ (λ i. minus i *ℤ sine-back i +ℤ pos (2 ^ 62 * nat_abs (sine-back i))) in
    let all = sum w.re w.im z.cosine z.sine _ _ (omega (arith, a-is, p.1)) (omega (arith, b-is, p.2)) a-is b-is _ _ c.raised.ensures.small c.raised-2.ensures.small r-is s-is _ _ _ _ _ _
    c.wide-along.ensures c.wide-across.ensures c.wide-lift.ensures c.negated.ensures c.add.ensures c.add-2.ensures in
    record { value = all; small = rw all (turned-small (complex w) z.cosine z.sine p.0 p.1 p.2) }
