-- `offending::quantity` meets its contract: the column's place among the seven is the quantity's. Assumes nothing.
use Rattle.std.proofs.Common.{◌≡◌, sym, ap, ◌∙◌, Some, List, [], ◌∷◌, ℕ, eqb, get_or, rules, tests}
use Rattle.std.proofs.lemmas.Iterator.{YieldsList-from_slice}
use Rattle.std.proofs.lemmas.Iterator.Search.{position_from_yields_List}
use Rattle.std.proofs.lemmas.Iterator.Adapters.{position_from-zero}
use Rattle.row.specs.own.Rows.{unasked}
use Rattle.row.specs.declared.layout.Layout.{Layout}
use Rattle.row.specs.declared.ranges.Quantity.{Quantity}
use Rattle.faults.specs.own.Offends.{quantity_at, place_of}
use Rattle.faults.proofs.offending.quantity.Goals as goal
use Rattle.faults.proofs.offending.quantity.Goals.{After-position}

-- the columns whose values count
abbrev counted : Layout → List ℕ
counted layout =
    layout.per1 ∷ layout.per2 ∷ layout.beta1 ∷ layout.beta2 ∷ layout.modulus ∷ layout.re ∷ layout.im ∷ []

placed : (c : After-position) → c.position.result ≡ place_of c.args.layout c.args.k
unfolding place_of
placed c =
    let test = λ (column : ℕ). eqb column c.args.k in
    position_from_yields_List test _ _ c.position.result c.position.ensures.ran (YieldsList-from_slice (counted c.args.layout) cc) (λ x b q p. search (rules, tests))
    ∙ position_from-zero test (counted c.args.layout)

pub returns-in_err-place : goal.returns-in_err-place
unfolding quantity_at
returns-in_err-place c =
    let none = sym (placed (goal.at.returns-in_err-place c).After-position) ∙ c.in_err-place.was in
    c.from_residual.ensures ∙ rw none

pub returns : goal.returns
unfolding quantity_at
returns c =
    let some = sym (placed (goal.at.returns c).After-position) ∙ c.in_ok-place.was in
    rw some (ap (λ (qs : List Quantity). Some (get_or qs c.in_ok-place.place unasked)) c.quantities.ensures)
