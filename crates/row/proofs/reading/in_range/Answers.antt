-- `reading::in_range` meets its contract: its loop holds one value after the other to its range, and the first out of range ends the row as it does in the
-- model. Assumes nothing.
use mathlib.Core.Path.{◌≡◌, refl, sym, subst, ◌∙◌, ap}
use mathlib.Core.Bool.{true, false}
use mathlib.Core.List.{List}
use Prim.Native.Nat.{ℕ, ◌<◌}
use native.Mathlib.Omega.{arith}
use borrow.Author.Rules.{rules}
use Rattle.std.proofs.Common.{Some, None}
use Rattle.std.proofs.lemmas.Grind.{common_steps}
use lib.Dec.{lit<}
use lib.IntN.{pos, nat_abs}
use lib.ListN.{get_or}
use mir.Syntax.{w32}
use mir.Val.{SFits}
use mir.Facts.{to_z-of_z}
use Rattle.field.specs.declared.decimal.Decimal.{Decimal}
use Rattle.field.specs.Units.{units, in_units, tick_of}
use Rattle.row.specs.declared.ranges.Quantity.{Quantity}
use Rattle.row.specs.Ranges.{period, measure}
use Rattle.row.specs.Heading.{heading_of}
use Rattle.row.specs.Told.{Row, told}
use Rattle.row.specs.LineRules.{Between}
use Rattle.row.specs.declared.values.Values.{Values}
use Rattle.row.specs.own.Values.{unread, all_below}
use Rattle.row.specs.own.Rows.{is_in, PeriodIn, quantities, decimals_in, unasked, is_in_at, judged, entry_in, ranged_row}
use Rattle.row.proofs.Measuring.{between_is, measured-in, measured-out}
use Rattle.row.proofs.Filling.{nothing_yet, one_more, all_of, not-all}
use Rattle.row.proofs.reading.in_range.Invariants.{Value}
use Rattle.row.proofs.reading.in_range.Goals as goal
use Rattle.row.proofs.reading.in_range.Goals.{After-in_units, After-loop-i}

pub loop-i-init : goal.loop-i-init
loop-i-init c = nothing_yet _ _ _ _ refl

-- what the range's test gives
ranged :
    (c : After-in_units)
    → c.in_units.result ≡ measure (get_or c.quantities-quantities.result c.loop-i.i unasked) (get_or c.counted-decimals.result c.loop-i.i unread)
ranged c =
    let q = get_or c.quantities-quantities.result c.loop-i.i unasked in
    let least : SFits w32 q.least = search rules in
    let most : SFits w32 q.most = search rules in
    c.in_units.ensures
    ∙ (λ i. in_units (get_or c.counted-decimals.result c.loop-i.i unread) q.places (to_z-of_z least i) (to_z-of_z most i))

-- the lists that the loop goes over are those of the model
as-model : (v : Values) {qs : List Quantity} {ds : List Decimal} (P : List Quantity → List Decimal → Type 0) → qs ≡ quantities → ds ≡ decimals_in v → P qs ds → P quantities (decimals_in v)
as-model v {qs} P q d p = subst (λ (l : List Quantity). P l (decimals_in v)) q (subst (P qs) d p)

-- behind the loop all values are in range
module _ (c : After-loop-i) where
  found : (k : ℕ) → k < 7 → Value quantities (decimals_in c.args.v) k (get_or c.loop-i.values k (pos 0))
  found k h =
      as-model c.args.v (λ qs ds. Value qs ds k (get_or c.loop-i.values k (pos 0))) c.quantities-quantities.ensures c.counted-decimals.ensures
      (c.loop-i.invariant.each k (omega arith))

  all_held : all_below 7 (is_in_at c.args.v) ≡ true
  all_held = all_of (is_in_at c.args.v) 7 (λ k h. (found k h).inside)

  period-held : (k : ℕ) → k < 7 → get_or quantities k unasked ≡ period → PeriodIn (get_or c.loop-i.values k (pos 0))
  period-held k h e =
      let f = found k h in
      let b = between_is (get_or quantities k unasked) (get_or (decimals_in c.args.v) k unread) f.inside in
      let r = subst (λ (q : Quantity). Between q.least q.most (units (get_or (decimals_in c.args.v) k unread) (get_or quantities k unasked).places)) e b in
      subst PeriodIn (sym f.value) r

pub returns-in_err-values : goal.returns-in_err-values
unfolding ranged_row
returns-in_err-values c =
    let none : c.in_units.result ≡ None = grind (arith, common_steps) in
    let refused : told c.from_residual.result ≡ Row.Refused 6 = grind (arith, common_steps) in
    let out : is_in_at c.args.v c.loop-i.i ≡ false =
    as-model c.args.v (λ qs ds. is_in (get_or qs c.loop-i.i unasked) (get_or ds c.loop-i.i unread) ≡ false) c.quantities-quantities.ensures c.counted-decimals.ensures
    (measured-out _ _ (sym (ranged (goal.at.returns-in_err-values c).After-in_units) ∙ none)) in
    rw (refused, not-all (is_in_at c.args.v) 7 c.loop-i.i c.loop-i-test.true out)

pub loop-i-preserved : goal.loop-i-preserved
loop-i-preserved c =
    let a = (goal.at.loop-i-preserved c).After-in_units in
    let some : c.in_units.result ≡ Some c.in_ok-values.field-0 = grind (arith, common_steps) in
    let z = to_z-of_z {w = w32} {z = c.in_ok-values.field-0} (search rules) in
    let m = measured-in _ _ (sym (ranged a) ∙ some) in
    one_more _ _ _ _ _ _ c.loop-i.invariant (omega arith) (record { inside = m.0; value = z ∙ m.1 })

pub entered-requires : goal.entered-requires
entered-requires c =
    let l = (goal.at.entered-requires c).After-loop-i in
    (period-held l 0 (lit< tt) refl, period-held l 1 (lit< tt) refl)

pub returns : goal.returns
unfolding ranged_row entry_in
returns c =
    let l = (goal.at.returns c).After-loop-i in
    let f : (k : ℕ) → k < 7 → get_or c.loop-i.values k (pos 0) ≡ units (get_or (decimals_in c.args.v) k unread) (get_or quantities k unasked).places =
    λ k h. (found l k h).value in
    let e = c.entered.ensures in
    let fits : SFits w32 (get_or c.loop-i.values 4 (pos 0)) = search rules in
    rw (all_held l)
    (c.judge.ensures
    ∙ (λ i. judged c.args.c (nat_abs ((to_z-of_z fits ∙ f 4 (lit< tt)) i)) record {
      tick1 = (e.tick1 ∙ ap (λ z. tick_of (nat_abs z)) (f 0 (lit< tt))) i;
      tick2 = (e.tick2 ∙ ap (λ z. tick_of (nat_abs z)) (f 1 (lit< tt))) i;
      heading1 = (e.heading1 ∙ ap heading_of (f 2 (lit< tt))) i;
      heading2 = (e.heading2 ∙ ap heading_of (f 3 (lit< tt))) i;
      re = (e.re ∙ f 5 (lit< tt)) i;
      im = (e.im ∙ f 6 (lit< tt)) i;
    }))
