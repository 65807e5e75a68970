-- What bars the six, as the code asks it.
use Rattle.std.specs.Prelude.{Bool, true, not, ◌&&◌, List, [], ◌∷◌, ℕ, ◌+◌, eqb}
use Rattle.std.specs.Ordering.{int_eq}
use lib.Pointwise.{pointwise}
use Rattle.table.specs.declared.pairs.Order.{Order}
use Rattle.table.specs.Pairs.{order_of}
use Rattle.reader.specs.declared.record.Record.{Record}
use Rattle.hull.specs.declared.six.Component.{Component}
use Rattle.reader.specs.Valid.{valid_of}

-- 2
unfoldable pub not_accepted : Record → Bool
not_accepted r = not (valid_of r && eqb r.marks.stage 2)

-- 18, by the coverage and the order of the first, which are found once
abbrev pub same_order : Order → Order → Bool
same_order a b =
    pointwise eqb a.ticks b.ticks
    && (eqb a.frequencies b.frequencies && (pointwise int_eq a.headings b.headings && eqb a.held b.held))

unfoldable pub belongs_by : ℕ → Order → ℕ → Record → Bool
belongs_by coverage order place r =
    eqb r.choices.kind 0
    && (eqb r.choices.component place && (eqb r.choices.coverage coverage && same_order (order_of r.slots) order))

-- each at its place
unfoldable pub all_belong_by : ℕ → Order → ℕ → List Component → Bool
all_belong_by coverage order place [] = true
all_belong_by coverage order place (c ∷ cs) = belongs_by coverage order place c.table.now && all_belong_by coverage order (place + 1) cs
