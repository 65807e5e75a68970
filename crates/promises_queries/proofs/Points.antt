-- What a coefficient call comes to, one case for each outcome with what holds there: `Answered`. Assumes nothing.
use mathlib.Core.Path.{◌≡◌, ◌∙◌}
use mathlib.Core.Bool.{true, false, cond}
use mathlib.Core.List.{List}
use Prim.Native.Nat.{ℕ}
use native.Mathlib.Omega.{arith}
use lib.Dec.{eqb}
use lib.IntN.{ℤ}
use lib.ListN.{length}
use borrow.Author.Tests.{eqb-true, eqb-false, eq-eqb, ne_eqb}
use Rattle.row.proofs.Used.{by-test}
use Rattle.grid.specs.declared.nodes.Node.{Node}
use Rattle.reader.specs.declared.record.Record.{Record}
use Rattle.reader.specs.Valid.{query_barred}
use Rattle.table.specs.View.{view_of}
use Rattle.load.specs.Corners.{Point, any_bad, coefficient}
use Rattle.load.specs.Locating.{Located}
use Rattle.load.specs.Coefficient.{of_points, coefficient_of}
use Rattle.load.specs.Answers.{Coefficient}
use Rattle.promises_queries.specs.Places.{Off}
use Rattle.promises_queries.proofs.Locations.{At, Lies, away, here, lies, lies-one}
use Rattle.promises_queries.proofs.Corners.{read}

module _ (r : Record) (cells : List ℤ) (a b : Node) where
  abbrev bar : ℕ
  bar = query_barred r (length cells)

  -- both points in their places
  pub record Both (p q : Point) : Type 0 where
    pub free : bar ≡ 0
    pub first : At r a.heading a p
    pub second : At r a.heading b q

  abbrev pub valued : Point → Point → Coefficient
  valued p q =
      let value = coefficient (view_of r.slots cells) p q in
      Coefficient.Value value.re value.im

  pub data Answered : Coefficient → Type 0 where
    barred : (bar ≡ 0 → ⊥) → Answered (Coefficient.Refused bar 0)
    first-away : {number : ℕ} → bar ≡ 0 → Off r a.heading a number → Answered (Coefficient.Refused number 1)
    second-away :
        {number : ℕ} {p : Point} → bar ≡ 0 → At r a.heading a p → Off r a.heading b number
        → Answered (Coefficient.Refused number 2)
    large-part : {p q : Point} → Both p q → any_bad (read r cells p q) ≡ true → Answered (Coefficient.Refused 15 0)
    given : {p q : Point} → Both p q → any_bad (read r cells p q) ≡ false → Answered (valued p q)

  from-points : bar ≡ 0 → {x y : Located} → Lies r a.heading a x → Lies r a.heading b y → Answered (of_points (view_of r.slots cells) x y)
  unfolding of_points
  from-points free (away o) m = first-away free o
  from-points free (here x) (away o) = second-away free x o
  from-points free (here {p} x) (here {p = q} y) =
      let two : Both p q = record { free = free; first = x; second = y } in
      by-test Answered (any_bad (read r cells p q)) _ _ (λ e. large-part two e) (λ e. given two e)

  pub answered : Answered (coefficient_of r cells a b)
  unfolding coefficient_of
  answered =
      by-test Answered (eqb bar 0) _ _
      (λ free. from-points (eqb-true bar 0 free) (lies r a.heading a) (lies r a.heading b))
      (λ some. barred (eqb-false bar 0 some))

  -- ---- the other way: what holds gives the answer

  pub at-bar : (bar ≡ 0 → ⊥) → coefficient_of r cells a b ≡ Coefficient.Refused bar 0
  unfolding coefficient_of
  at-bar h = rw (ne_eqb bar 0 h)

  at-points : bar ≡ 0 → {x y : Located} → Lies r a.heading a x → Lies r a.heading b y → coefficient_of r cells a b ≡ of_points (view_of r.slots cells) x y
  unfolding coefficient_of
  at-points free l m =
      rw (eq-eqb bar 0 free) (λ i. of_points (view_of r.slots cells) (lies-one (lies r a.heading a) l i) (lies-one (lies r a.heading b) m i))

  pub at_first : {number : ℕ} → bar ≡ 0 → Off r a.heading a number → coefficient_of r cells a b ≡ Coefficient.Refused number 1
  unfolding of_points
  at_first free o = at-points free (away o) (lies r a.heading b)

  pub at_second :
      {number : ℕ} {p : Point} → bar ≡ 0 → At r a.heading a p → Off r a.heading b number
      → coefficient_of r cells a b ≡ Coefficient.Refused number 2
  unfolding of_points
  at_second free x o = at-points free (here x) (away o)

  module _ {p q : Point} (two : Both p q) where
    at_both : coefficient_of r cells a b ≡ cond (any_bad (read r cells p q)) (Coefficient.Refused 15 0) (valued p q)
    unfolding of_points
    at_both = at-points two.free (here two.first) (here two.second)

    pub at-large-part : any_bad (read r cells p q) ≡ true → coefficient_of r cells a b ≡ Coefficient.Refused 15 0
    at-large-part e = at_both ∙ rw e

    pub at-given : any_bad (read r cells p q) ≡ false → coefficient_of r cells a b ≡ valued p q
    at-given e = at_both ∙ rw e

  -- ---- a coefficient that is given

  pub record Given (value : Coefficient) : Type 0 where
    pub p : Point
    pub q : Point
    pub two : Both p q
    pub sound : any_bad (read r cells p q) ≡ false
    pub is : valued p q ≡ value

  refused-value : {number line : ℕ} {re im : ℤ} → Coefficient.Refused number line ≡ Coefficient.Value re im → ⊥
  refused-value e = let clash : ◌≡◌ {A = ℕ} 0 1 = cc in omega arith

  given_by : {x : Coefficient} {re im : ℤ} → Answered x → x ≡ Coefficient.Value re im → Given (Coefficient.Value re im)
  given_by (barred h) e = absurd (refused-value e)
  given_by (first-away f o) e = absurd (refused-value e)
  given_by (second-away f x o) e = absurd (refused-value e)
  given_by (large-part t h) e = absurd (refused-value e)
  given_by (given {p} {q} t h) e = record { p = p; q = q; two = t; sound = h; is = e }

  pub coefficient-given : (re im : ℤ) → coefficient_of r cells a b ≡ Coefficient.Value re im → Given (Coefficient.Value re im)
  coefficient-given re im e = given_by answered e
