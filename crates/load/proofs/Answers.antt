-- A coefficient call's answers, each from what the code has found. Assumes nothing.
use mathlib.Core.Path.{◌≡◌, refl, sym, ap, ◌∙◌}
use mathlib.Core.Bool.{cond}
use mathlib.Core.List.{List}
use Prim.Native.Nat.{ℕ}
use lib.IntN.{ℤ}
use lib.ListN.{length}
use borrow.Author.Tests.{eq-eqb, ne_eqb}
use Rattle.grid.specs.declared.nodes.Node.{Node}
use Rattle.reader.specs.declared.record.Record.{Record}
use Rattle.reader.specs.Valid.{query_barred}
use Rattle.table.specs.View.{view_of}
use Rattle.load.specs.Corners.{any_bad}
use Rattle.load.specs.Locating.{Located, at, outside, located}
use Rattle.load.specs.own.Brackets.{bracketed, bracket_corners, bracket_coefficient}
use Rattle.load.specs.Coefficient.{of_points, coefficient_of}
use Rattle.load.specs.declared.locating.Bracket.{Bracket}
use Rattle.load.specs.own.Brackets.{Bracketed}
use Rattle.load.specs.Answers.{Coefficient}
use Rattle.load.proofs.Bilinear.{bracket-corners, bracket-coefficient}

-- from both brackets
abbrev pub value_of : List ℤ → Bracket → Bracket → Coefficient
value_of cells p q =
    cond (any_bad (bracket_corners cells p q))
    (Coefficient.Refused 15 0)
    (Coefficient.Value (bracket_coefficient cells p q).re (bracket_coefficient cells p q).im)

abbrev of_brackets : List ℤ → Bracketed → Bracketed → Coefficient
of_brackets cells (Bracketed.Refused n) y = Coefficient.Refused n 1
of_brackets cells (Bracketed.At p) (Bracketed.Refused n) = Coefficient.Refused n 2
of_brackets cells (Bracketed.At p) (Bracketed.At q) = value_of cells p q

of-brackets : (r : Record) (cells : List ℤ) (l m : Located) → of_points (view_of r.slots cells) l m ≡ of_brackets cells (bracketed r.slots l) (bracketed r.slots m)
unfolding of_points bracketed
of-brackets r cells (outside n) m = refl
of-brackets r cells (at p) (outside n) = refl
of-brackets r cells (at p) (at q) =
    let value = bracket-coefficient r.slots cells p q in
    λ i. cond (any_bad (bracket-corners r.slots cells p q i)) (Coefficient.Refused 15 0) (Coefficient.Value (value i).re (value i).im)

-- the answers: `number` is what bars the query, x and y are what comes of the two points
module _ (r : Record) (cells : List ℤ) (a b : Node) (number : ℕ) (asked : number ≡ query_barred r (length cells)) where
  pub barred : (number ≡ 0 → ⊥) → Coefficient.Refused number 0 ≡ coefficient_of r cells a b
  unfolding coefficient_of
  barred h = rw (← asked, ne_eqb number 0 h)

  module _ (free : number ≡ 0) (x : Bracketed) (first : x ≡ bracketed r.slots (located r a.heading a.tick a.heading)) where
    from-brackets : (y : Bracketed) → y ≡ bracketed r.slots (located r a.heading b.tick b.heading) → of_brackets cells x y ≡ coefficient_of r cells a b
    unfolding coefficient_of
    from-brackets y second =
        (λ i. of_brackets cells (first i) (second i))
        ∙ sym (of-brackets r cells _ _)
        ∙ rw (← asked, eq-eqb number 0 free)

    pub first-refused : (n : ℕ) → x ≡ Bracketed.Refused n → Coefficient.Refused n 1 ≡ coefficient_of r cells a b
    first-refused n e =
        let y = bracketed r.slots (located r a.heading b.tick b.heading) in
        ap (λ (z : Bracketed). of_brackets cells z y) (sym e) ∙ from-brackets y refl

    module _ (y : Bracketed) (second : y ≡ bracketed r.slots (located r a.heading b.tick b.heading)) (p : Bracket) (e : x ≡ Bracketed.At p) where
      pub second-refused : (n : ℕ) → y ≡ Bracketed.Refused n → Coefficient.Refused n 2 ≡ coefficient_of r cells a b
      second-refused n f = (λ i. of_brackets cells (sym e i) (sym f i)) ∙ from-brackets y second

      pub both_found : (q : Bracket) → y ≡ Bracketed.At q → value_of cells p q ≡ coefficient_of r cells a b
      both_found q f = (λ i. of_brackets cells (sym e i) (sym f i)) ∙ from-brackets y second
