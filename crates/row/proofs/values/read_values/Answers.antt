-- `values::read_values` meets its contract: its loop reads the decimals in the order in which the model takes them, and the first of a wrong form ends the row as
-- it does there. Assumes nothing.
use Rattle.std.proofs.Common.{◌≡◌, refl, sym, ◌∙◌, subst, Some, None, is_some, Bool, true, false, List, ℕ, ◌<◌, get_or, lit<, arith}
use Rattle.field.specs.declared.decimal.Decimal.{Decimal}
use Rattle.field.specs.Form.{field_of}
use Rattle.row.specs.declared.layout.Layout.{Layout}
use Rattle.row.specs.Layout.{column_of}
use Rattle.row.specs.own.Found.{first_nine}
use Rattle.row.specs.own.Values.{component_of, decimals_of, unread, decimal_of, all_below, read_at, values_at, values_of}
use Rattle.row.proofs.Filling.{nothing_yet, one_more, all_of, not-all}
use Rattle.row.proofs.values.read_values.Invariants.{Said, Read}
use Rattle.row.proofs.values.read_values.Goals as goal
use Rattle.row.proofs.values.read_values.Goals.{After-loop-i}

-- ---- the loop, as plain mathematics

-- what the model makes of them
module _ (layout : Layout) (fields : List (List ℕ)) where
  abbrev test : ℕ → Bool
  test k = is_some (read_at layout fields k)

  -- one of a wrong form
  wrong : (i : ℕ) → i < 8 → read_at layout fields i ≡ None → None ≡ values_of layout fields
  unfolding values_of
  wrong i h e = let out : test i ≡ false = rw e in rw (not-all test 8 i h out)

  module _ (numbers : List Decimal) (r : Read fields (decimals_of layout) numbers 8) where
    all_right : all_below 8 test ≡ true
    all_right = all_of test 8 (λ k h. rw (r.each k h))

    component-wrong : component_of (column_of fields layout.component) ≡ None → None ≡ values_of layout fields
    unfolding values_of
    component-wrong e = rw (all_right, e)

    said : (k : ℕ) → k < 8 → get_or numbers k unread ≡ decimal_of (read_at layout fields k)
    unfolding decimal_of
    said k h = rw (r.each k h)

    right :
        (n : ℕ) → component_of (column_of fields layout.component) ≡ Some n
        → Some record {
          component = n;
          per1 = get_or numbers 0 unread;
          per2 = get_or numbers 1 unread;
          beta1 = get_or numbers 2 unread;
          beta2 = get_or numbers 3 unread;
          modulus = get_or numbers 4 unread;
          re = get_or numbers 6 unread;
          im = get_or numbers 7 unread;
        }
        ≡ values_of layout fields
    unfolding values_of values_at
    right n e =
        rw (all_right, e)
        (λ i. Some record {
          component = n;
          per1 = said 0 (lit< tt) i;
          per2 = said 1 (lit< tt) i;
          beta1 = said 2 (lit< tt) i;
          beta2 = said 3 (lit< tt) i;
          modulus = said 4 (lit< tt) i;
          re = said 6 (lit< tt) i;
          im = said 7 (lit< tt) i;
        })

-- ---- the code

-- behind the loop all are read, by the layout
all_read : (c : After-loop-i) → Read (first_nine c.args.columns.now.line.now) (decimals_of c.args.layout) c.loop-i.numbers 8
all_read c =
    let fields = first_nine c.args.columns.now.line.now in
    let e : c.loop-i.i ≡ 8 = omega (arith, c.loop-i.invariant.few) in
    subst (λ (places : List ℕ). Read fields places c.loop-i.numbers 8) c.decimals-places.ensures (subst (Read fields c.decimals-places.result c.loop-i.numbers) e c.loop-i.invariant)

pub loop-i-init : goal.loop-i-init
loop-i-init c = nothing_yet _ _ _ _ refl

pub returns-in_err-numbers : goal.returns-in_err-numbers
returns-in_err-numbers c =
    let fields = first_nine c.args.columns.now.line.now in
    let none = sym c.decimal.ensures ∙ c.in_err-numbers.was in
    let read = subst (λ (places : List ℕ). field_of (column_of fields (get_or places c.loop-i.i 0)) ≡ None) c.decimals-places.ensures none in
    c.from_residual.ensures ∙ wrong _ _ c.loop-i.i c.loop-i-test.true read

pub loop-i-preserved : goal.loop-i-preserved
loop-i-preserved c =
    let fields = first_nine c.args.columns.now.line.now in
    one_more (Said fields c.decimals-places.result) unread 8 c.loop-i.numbers _ _ c.loop-i.invariant c.loop-i-test.true
    (sym c.decimal.ensures ∙ c.in_ok-numbers.was)

pub returns-in_err-component : goal.returns-in_err-component
returns-in_err-component c =
    c.from_residual-in_err-component.ensures
    ∙ component-wrong _ _ c.loop-i.numbers (all_read (goal.at.returns-in_err-component c).After-loop-i) (sym c.component.ensures ∙ c.in_err-component.was)

pub returns : goal.returns
returns c =
    right _ _ c.loop-i.numbers (all_read (goal.at.returns c).After-loop-i) _ (sym c.component.ensures ∙ c.in_ok-component.was)
