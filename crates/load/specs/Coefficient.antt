-- A coefficient call: 1, 2, then 13 and 14 for the first point as line 1 and for the second as line 2, then 15.
use Rattle.std.specs.Prelude.{cond, List, ℕ, eqb, ℤ, pos, length}
use Rattle.whole.specs.Complex.{Complex}
use Rattle.grid.specs.declared.nodes.Node.{Node}
use Rattle.reader.specs.declared.record.Record.{Record}
use Rattle.reader.specs.Valid.{query_barred}
use Rattle.table.specs.View.{View, view_of}
use Rattle.load.specs.Corners.{corners, any_bad, coefficient}
use Rattle.load.specs.Locating.{Located, at, outside, located}
use Rattle.load.specs.Answers.{Coefficient}

unfoldable pub of_points : View → Located → Located → Coefficient
of_points v (outside n) q = Coefficient.Refused n 1
of_points v (at p) (outside n) = Coefficient.Refused n 2
of_points v (at p) (at q) =
    let value = coefficient v p q in
    cond (any_bad (corners v p q)) (Coefficient.Refused 15 0) (Coefficient.Value value.re value.im)

unfoldable pub coefficient_of : Record → List ℤ → Node → Node → Coefficient
coefficient_of r cells a b =
    let number = query_barred r (length cells) in
    cond (eqb number 0)
    (of_points (view_of r.slots cells) (located r a.heading a.tick a.heading) (located r a.heading b.tick b.heading))
    (Coefficient.Refused number 0)

-- document 01's number and values: a refused coefficient is (0, 0)
unfoldable pub number_of : Coefficient → ℕ
number_of (Coefficient.Value re im) = 0
number_of (Coefficient.Refused number line) = number

unfoldable pub value_of : Coefficient → Complex
value_of (Coefficient.Value re im) = record { re = re; im = im }
value_of (Coefficient.Refused number line) = record { re = pos 0; im = pos 0 }
